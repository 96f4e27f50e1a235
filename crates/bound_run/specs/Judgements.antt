-- What comes of judging the hits that a simulator claims.
use Rattle.std.specs.Prelude.{◌≡◌, ℕ, Bool, if◌then◌else◌, List, length, map, Some, None}
use Rattle.bound_io.specs.Devices.{Device}
use Rattle.cache_rules.specs.Stored.{Requests}
use Rattle.cache_model.specs.declared.objects.Objective.{Objective}
use Rattle.cache_model.specs.declared.objects.Objective.TheVariants.{Object as Hits, Bytes}
use Rattle.cache_model.specs.Claim.{terms_from}
use Rattle.cache_model.specs.Objects.{objects_of}
use Rattle.judge_laws.specs.Flags.{claimed}
use Rattle.hit_judge.specs.Possible.{IsPossibleFresh}
use Rattle.write_laws.specs.Claims.{least_written}
use Rattle.hit_judge.specs.declared.causes.Impossible.{Impossible}
use Rattle.hit_judge.specs.Causes.{first_cause}
use Rattle.hit_flags.specs.Claims.{AreRead}
use Rattle.hit_flags.specs.Flags.{flags_in}
use Rattle.trace_any.specs.declared.format.Format.{Format}
use Rattle.trace_any.specs.Readers.{Notes}
use Rattle.trace_any.specs.Readings.{full_limits, reading}
use Rattle.bound_report.specs.declared.judged.JudgedFacts.{JudgedFacts}
use Rattle.bound_report.specs.Judged.{judged_lines}
use Rattle.bound_report.specs.Rendering.{rendered}
use Rattle.bound_words.specs.declared.plans.JudgeSettings.{JudgeSettings}
use Rattle.run_counts.specs.Countings.{counting_from}

-- what flags claim by an objective, of the requests that count from the warm-up on
abbrev pub claimed_by : Objective → JudgeSettings → Requests → List Bool → ℕ
claimed_by objective asked trace flags = claimed (terms_from objective asked.capacity asked.warmup trace.fills) trace.objects flags

-- the least bytes that contents write which hit exactly at the flags, from the warm-up on
abbrev pub written_for : JudgeSettings → Requests → List Bool → ℕ
written_for asked trace flags = least_written asked.capacity asked.warmup trace.fills trace.objects flags

-- what the report of possible hits states
abbrev pub judged_facts : JudgeSettings → Requests → ℕ → List Bool → JudgedFacts
judged_facts asked trace dropped flags = record {
  requests = length trace.objects;
  objects = length (objects_of trace.objects);
  dropped = dropped;
  capacity = asked.capacity;
  claimed = record { hits = claimed_by Hits asked trace flags; bytes = claimed_by Bytes asked trace flags; written = written_for asked trace flags };
  written = if asked.writes then Some (written_for asked trace flags) else None;
}

-- the report of possible hits
abbrev pub judged_report : Format → JudgeSettings → Requests → Notes → List Bool → List ℕ
judged_report format asked trace notes flags = rendered (counting_from format asked.warmup trace notes.noted) (judged_lines (judged_facts asked trace notes.dropped flags))

-- all that the two sources had left is a trace and flags of its requests, which are possible, and this is their report
pub record IsJudged (format : Format) (asked : JudgeSettings) (trace hits : Device) (text : List ℕ) : Type 0 where
  pub requests : Requests
  pub notes : Notes
  pub flags : List Bool
  pub read : AreRead format trace hits requests notes flags
  pub possible : IsPossibleFresh asked.capacity requests.objects notes.noted.stale flags
  pub text_is : text ≡ judged_report format asked requests notes flags

-- all that the two sources had left is a trace and flags of its requests, which are not possible for this first cause
pub record IsImpossible (format : Format) (asked : JudgeSettings) (trace hits : Device) (cause : Impossible) (capacity : ℕ) : Type 0 where
  pub requests : Requests
  pub notes : Notes
  pub flags : List Bool
  pub read : AreRead format trace hits requests notes flags
  pub impossible : ¬ (IsPossibleFresh asked.capacity requests.objects notes.noted.stale flags)
  pub cause_is : first_cause asked.capacity requests.objects notes.noted.stale flags ≡ Some cause
  pub capacity_is : capacity ≡ asked.capacity

-- the bytes are a trace and the text a flag for each of its requests, and the flagged ones are possible hits
pub record ArePossible (format : Format) (asked : JudgeSettings) (bytes text : List ℕ) : Type 0 where
  pub flags : List Bool
  pub whole : (reading format full_limits bytes).refused ≡ None
  pub lines : flags_in text ≡ map (λ flag. Some flag) flags
  pub as_many : length flags ≡ length (reading format full_limits bytes).requests
  pub possible : IsPossibleFresh asked.capacity (reading format full_limits bytes).requests (reading format full_limits bytes).seen.noted.stale flags
