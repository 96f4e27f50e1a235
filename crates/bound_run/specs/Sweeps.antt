-- What a sweep shows.
use Rattle.std.specs.Prelude.{◌≡◌, ℕ, List, [], length, None, Some}
use Rattle.std.specs.declared.option.Option.{Option}
use Rattle.bound_io.specs.Devices.{Device, HasFailed}
use Rattle.cache_rules.specs.Stored.{Requests}
use Rattle.cache_model.specs.Objects.{objects_of}
use Rattle.trace_any.specs.declared.fault.TraceFault.{TraceFault as FaultOfTrace}
use Rattle.trace_any.specs.declared.fault.TraceFault.TheVariants as trace
use Rattle.trace_any.specs.declared.format.Format.{Format}
use Rattle.trace_any.specs.Loads.{IsRead, pass_limits}
use Rattle.trace_any.specs.Readers.{Notes}
use Rattle.trace_any.specs.Readings.{reading}
use Rattle.trace_sweep.specs.declared.fault.SweepFault.TheVariants as sweep
use Rattle.trace_sweep.specs.Swept.{AreKnown, IsNotSwept}
use Rattle.policy_model.specs.declared.names.PolicyName.{PolicyName}
use Rattle.policy_sweep.specs.declared.running.PolicyReplay.{PolicyReplay}
use Rattle.policy_sweep.specs.Running.{Setting}
use Rattle.policy_sweep.specs.Replays.{AreReplays}
use Rattle.policy_stream.specs.Streams.{settings_of}
use Rattle.trace_sweep.specs.Online.{told_of}
use Rattle.trace_sweep.specs.Points.{AreSweepPoints, AreWithin}
use Rattle.trace_sweep.specs.declared.points.SweepPoint.{SweepPoint}
use Rattle.trace_sweep.specs.declared.sweeping.Swept.{Swept}
use Rattle.bound_report.specs.declared.rendering.Counting.{Counting}
use Rattle.bound_report.specs.declared.sweeps.SweepFacts.{SweepFacts}
use Rattle.bound_report.specs.Sweeps.{sweep_lines}
use Rattle.bound_report.specs.Rendering.{rendered}
use Rattle.bound_report.specs.declared.refusal.LimitName.TheVariants.{PassRequests, PassBytes, PassObjects}
use Rattle.bound_report.specs.declared.refusal.Refusal.{Refusal}
use Rattle.bound_report.specs.declared.refusal.Refusal.TheVariants as refusal
use Rattle.bound_words.specs.Policies.{policies_in}
use Rattle.bound_words.specs.declared.plans.SweepSettings.{SweepSettings}
use Rattle.run_counts.specs.Countings.{counting_from}

-- what the report of a sweep states
abbrev pub sweep_facts : SweepSettings → List ℕ → List PolicyName → Requests → ℕ → SweepFacts
sweep_facts asked capacities policies trace dropped = record {
  requests = length trace.objects;
  objects = length (objects_of trace.objects);
  dropped = dropped;
  capacities = length capacities;
  policies = length policies;
  delay = asked.delay;
}

-- what it states of what a sweep found
abbrev pub swept_facts : SweepSettings → ℕ → ℕ → Swept → SweepFacts
swept_facts asked capacities policies swept = record {
  requests = swept.requests;
  objects = swept.objects;
  dropped = swept.dropped;
  capacities = capacities;
  policies = policies;
  delay = asked.delay;
}

-- how the requests count that a sweep passed
abbrev pub counting_of_swept : Format → ℕ → Swept → Counting
counting_of_swept format warmup swept = record {
  warmup = warmup;
  counted = swept.counted;
  stale = record { idle = format.fresh.idle; ttl = format.fresh.ttl; late = swept.late; stale = swept.stale };
}

-- the policies of a list, if there is one
abbrev pub names_of : Option (List ℕ) → List PolicyName
names_of None = []
names_of (Some list) = policies_in list

-- the text tells bounds at these capacities of all that the source had left, which was read in one pass, and what each of these policies counts there, the run of its rule, which is within the bounds
pub record IsSweepText (format : Format) (asked : SweepSettings) (capacities : List ℕ) (policies : List PolicyName) (source : Device) (text : List ℕ) : Type 0 where
  pub trace : Requests
  pub notes : Notes
  pub read : IsRead pass_limits format source trace notes
  pub points : List SweepPoint
  pub are_points : AreSweepPoints asked.warmup asked.delay trace capacities points
  pub replays : List PolicyReplay
  pub are_replays : AreReplays (told_of format asked.warmup trace notes.noted) (settings_of policies capacities) replays
  pub within : AreWithin points replays
  pub known : AreKnown (settings_of policies capacities) trace.objects
  pub text_is : text ≡ rendered (counting_from format asked.warmup trace notes.noted) (sweep_lines (sweep_facts asked capacities policies trace notes.dropped) points replays)

-- why a trace is not swept: a bad line, a passed limit, a failed read, or no memory, which is said of a policy and its capacity if it lacks it
abbrev pub RefusesSweep : Format → List Setting → Device → Refusal → Type 0
RefusesSweep format settings source (refusal.BadLine line kind) = IsNotSwept format settings source (sweep.Trace (trace.BadLine line kind))
RefusesSweep format settings source (refusal.Limit PassRequests) = IsNotSwept format settings source (sweep.Trace trace.TooManyRequests)
RefusesSweep format settings source (refusal.Limit PassBytes) = IsNotSwept format settings source (sweep.Trace trace.InputTooLong)
RefusesSweep format settings source (refusal.Limit PassObjects) = IsNotSwept format settings source sweep.TooManyObjects
RefusesSweep format settings source refusal.TraceFault = HasFailed source
RefusesSweep format settings source (refusal.PolicyMemory policy capacity) = IsNotSwept format settings source (sweep.PolicyMemory policy capacity)
RefusesSweep format settings source refusal.NoMemory = Unit {0}
RefusesSweep format settings source other = ⊥

-- the bytes are known, and are a trace within the limits of one pass, whose objects policies of these settings know
abbrev pub IsGoodPass : Format → List Setting → Option (List ℕ) → Type 0
IsGoodPass format settings None = ⊥
IsGoodPass format settings (Some bytes) = ((reading format pass_limits bytes).refused ≡ None) × AreKnown settings (reading format pass_limits bytes).requests
