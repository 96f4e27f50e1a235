-- What a replay of a trace shows.
use Rattle.std.specs.Prelude.{◌≡◌, ℕ, ◌*◌, ◌/◌, ◌≤◌, Bool, true, false, ◌&&◌, if◌then◌else◌, List, [], length, map, slice_index_or, None, Some}
use Rattle.std.specs.declared.option.Option.{Option}
use Rattle.cache_rules.specs.Stored.{Requests}
use Rattle.cache_model.specs.declared.objects.Objective.{Objective}
use Rattle.cache_model.specs.declared.objects.Objective.TheVariants.{Object as Hits, Bytes}
use Rattle.cache_model.specs.declared.certificates.Header.{Header}
use Rattle.cache_model.specs.declared.certificates.Record.{Record}
use Rattle.cache_model.specs.Certificates.{IsValid}
use Rattle.cache_model.specs.Claim.{only_fills}
use Rattle.cache_model.specs.Objects.{numbers_of, objects_of}
use Rattle.policy_model.specs.declared.names.PolicyName.{PolicyName}
use Rattle.policy_model.specs.declared.names.PolicyName.TheVariants.{Belady}
use Rattle.policy_model.specs.Runs.{IsPlayed, policy_run}
use Rattle.policy_model.specs.States.{Member, State, start_of}
use Rattle.policy_laws.specs.Laws.{HaveOneSize}
use Rattle.belady_laws.specs.Best.{IsBest}
use Rattle.replay_core.specs.declared.counts.Replay.{Replay}
use Rattle.bit_list.specs.Bits.{bits_of}
use Rattle.hit_flags.specs.Laws.{flags_text}
use Rattle.replay_fresh.specs.FreshRuns.{IsFreshlyPlayed, fresh_run}
use Rattle.replay_hits.specs.Hits.{AreHits}
use Rattle.replay_hits.specs.FreshHits.{AreFreshHits}
use Rattle.bound_report.specs.declared.replays.ReplayFacts.{ReplayFacts}
use Rattle.bound_report.specs.Rendering.{rendered}
use Rattle.bound_report.specs.Replays.{replay_lines}
use Rattle.freshness.specs.declared.fresh.Freshness.{Freshness}
use Rattle.freshness.specs.Stale.{can_end}
use Rattle.freshness.specs.Seen.{Staleness}
use Rattle.trace_any.specs.declared.format.Format.{Format}
use Rattle.trace_any.specs.Readers.{Notes}
use Rattle.bound_words.specs.declared.plans.ReplaySettings.{ReplaySettings}
use Rattle.bound_run.specs.declared.replays.Leaving.{Leaving}
use Rattle.bound_run.specs.declared.replays.Answered.{Answered}
use Rattle.bound_run.specs.declared.replays.Answered.TheVariants.{Counts, Flags}
use Rattle.run_counts.specs.Countings.{counting_from}

-- what a replay earns by an objective
abbrev pub earned_by : Objective → ℕ → ℕ → ℕ
earned_by Hits hits bytes = hits
earned_by Bytes hits bytes = bytes

-- what is earned is within the upper bound of the header, and within its floor
pub record IsUnder (h : Header) (earned : ℕ) : Type 0 where
  pub upper : h.denominator * earned ≤ h.upper
  pub floor : earned ≤ h.upper / h.denominator

-- each certificate that is valid for the trace, of this capacity and no longer warm-up, bounds the hits, or the bytes, by its objective
abbrev pub IsWithinBounds : ℕ → ℕ → Requests → ℕ → ℕ → Type 0
IsWithinBounds capacity warmup trace hits bytes =
    (h : Header) (records : List Record) → IsValid trace.objects trace.fills h records → h.capacity ≡ capacity → h.warmup ≤ warmup
    → IsUnder h (earned_by h.objective hits bytes)

-- a policy begins as the rule of a name does: it was asked for nothing, has the room of the capacity, and takes the numbers of so many objects
pub record BeginsAs (name : PolicyName) (capacity objects numbers room : ℕ) (contents : List Member) (known_state : Option State) : Type 0 where
  pub takes_all : objects ≤ numbers
  pub room_is : room ≡ capacity
  pub empty : contents ≡ []
  pub state_is : known_state ≡ Some (start_of name capacity)

-- the counts are those of the rule's run, of the contents that it holds; no valid certificate is below them; and those of Belady's rule are the greatest scores if all that fits has one size and every request counts
pub record IsReplay (policy : PolicyName) (capacity warmup : ℕ) (trace : Requests) (replay : Replay) : Type 0 where
  pub hits : replay.hits ≡ (policy_run policy trace.objects capacity warmup trace.fills).hits
  pub bytes : replay.bytes ≡ (policy_run policy trace.objects capacity warmup trace.fills).bytes
  pub played : IsPlayed (Some (start_of policy capacity)) capacity warmup trace.fills trace.objects replay.hits replay.bytes replay.written
  pub bounded : IsWithinBounds capacity warmup trace replay.hits replay.bytes
  pub best : policy ≡ Belady → warmup ≡ 0 → trace.fills ≡ [] → HaveOneSize capacity trace.objects → IsBest capacity trace.objects replay.hits replay.bytes

-- the requests of a trace that are noted stale; each of them only fills
abbrev pub stale_flags : Requests → List Bool → List Bool
stale_flags trace stale = map (λ t. slice_index_or stale t false && only_fills trace.fills t) (numbers_of trace.objects)

-- the counts are those of the rule's run from which stale objects leave, and replaced ones if objects are replaced; they are of contents that hold nothing that left; no valid certificate is below them
pub record IsFreshReplay (policy : PolicyName) (capacity warmup : ℕ) (trace : Requests) (stale : List Bool) (replace : Bool) (replay : Replay) : Type 0 where
  pub hits : replay.hits ≡ (fresh_run policy trace.objects capacity warmup trace.fills stale replace).hits
  pub bytes : replay.bytes ≡ (fresh_run policy trace.objects capacity warmup trace.fills stale replace).bytes
  pub played : IsFreshlyPlayed (Some (start_of policy capacity)) capacity warmup trace.fills stale replace trace.objects replay.hits replay.bytes replay.written
  pub bounded : IsWithinBounds capacity warmup trace replay.hits replay.bytes

-- what leaves before requests, if a request can be stale: the flags of those that are, and whether objects are replaced
abbrev pub leaving_of : Freshness → Requests → Staleness → Option (List Bool × Bool)
leaving_of fresh trace noted = if can_end fresh then Some (stale_flags trace noted.stale, fresh.replace) else None

-- the same, as a replay is given it
abbrev pub leaves : Option Leaving → Option (List Bool × Bool)
leaves None = None
leaves (Some leaving) = Some (bits_of leaving.stale.now, leaving.replace)

-- the counts of a replay from which this leaves
abbrev pub AreCountsOf : Option (List Bool × Bool) → ReplaySettings → Requests → Replay → Type 0
AreCountsOf None r trace replay = IsReplay r.policy r.capacity r.warmup trace replay
AreCountsOf (Some (stale, replace)) r trace replay = IsFreshReplay r.policy r.capacity r.warmup trace stale replace replay

-- the flags are the hits of the contents that the rule holds, from which this leaves
abbrev pub AreHitsOf : Option (List Bool × Bool) → ReplaySettings → Requests → List Bool → Type 0
AreHitsOf None r trace flags = AreHits (Some (start_of r.policy r.capacity)) r.capacity trace.objects flags
AreHitsOf (Some (stale, replace)) r trace flags = AreFreshHits (Some (start_of r.policy r.capacity)) r.capacity trace.objects stale replace flags

-- a replay answers its counts, or a flag for each request, as it was asked to
abbrev pub IsAnswered : Option (List Bool × Bool) → ReplaySettings → Requests → Answered → Type 0
IsAnswered leaving r trace (Counts replay) = (r.flags ≡ false) × AreCountsOf leaving r trace replay
IsAnswered leaving r trace (Flags flags) = (r.flags ≡ true) × AreHitsOf leaving r trace (bits_of flags)

-- what the report of a replay states
abbrev pub replay_facts : ReplaySettings → Requests → ℕ → Replay → ReplayFacts
replay_facts r trace dropped replay =
    let objects = length (objects_of trace.objects) in
    let written = if r.writes then Some replay.written else None in
    record { requests = length trace.objects; objects = objects; dropped = dropped; policy = r.policy; capacity = r.capacity; replay = replay; written = written }

-- the text is the report of the replay that is asked for
pub record IsCountsText (format : Format) (r : ReplaySettings) (trace : Requests) (notes : Notes) (text : List ℕ) : Type 0 where
  pub replay : Replay
  pub is_replay : AreCountsOf (leaving_of format.fresh trace notes.noted) r trace replay
  pub text_is : text ≡ rendered (counting_from format r.warmup trace notes.noted) (replay_lines (replay_facts r trace notes.dropped replay))

-- the text is a line with a flag for each request, whether it is a hit
pub record IsFlagsText (fresh : Freshness) (r : ReplaySettings) (trace : Requests) (noted : Staleness) (text : List ℕ) : Type 0 where
  pub flags : List Bool
  pub hits : AreHitsOf (leaving_of fresh trace noted) r trace flags
  pub text_is : text ≡ flags_text flags

-- the text is the flags, or the report
abbrev pub PrintsReplay : Bool → Format → ReplaySettings → Requests → Notes → List ℕ → Type 0
PrintsReplay true format r trace notes text = IsFlagsText format.fresh r trace notes.noted text
PrintsReplay false format r trace notes text = IsCountsText format r trace notes text

-- the text is what the replay is asked to print
abbrev pub IsReplayText : Format → ReplaySettings → Requests → Notes → List ℕ → Type 0
IsReplayText format r trace notes text = PrintsReplay r.flags format r trace notes text
