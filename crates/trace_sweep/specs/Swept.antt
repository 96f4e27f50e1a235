-- What a sweep over all that a source has left finds.
use Rattle.std.specs.Prelude.{◌≡◌, ◌≢◌, ℕ, ◌≤◌, true, List, [], Contains, length, count_by}
use Rattle.bound_io.specs.Devices.{Device}
use Rattle.bound_io.specs.Causes.{HasNewFault}
use Rattle.cache_model.specs.declared.objects.Object.{Object}
use Rattle.cache_model.specs.Claim.{counts_past}
use Rattle.cache_model.specs.Objects.{numbers_of, objects_of}
use Rattle.cache_rules.specs.Stored.{Requests}
use Rattle.freshness.specs.Stale.{can_end}
use Rattle.freshness.specs.Seen.{Staleness}
use Rattle.trace_any.specs.declared.fault.TraceFault.{TraceFault}
use Rattle.trace_any.specs.declared.fault.TraceFault.TheVariants.{ReadFault, NoMemory}
use Rattle.trace_any.specs.declared.format.Format.{Format}
use Rattle.trace_any.specs.Counts.{counted_in, is_stale, own_marks, stale_in}
use Rattle.trace_any.specs.FirstLines.{HasLostThrough}
use Rattle.trace_any.specs.Loads.{IsRead, IsRefusedWithin, pass_limits}
use Rattle.trace_any.specs.Readers.{Notes, Reader, LoadsAll, LeavesNone, HasSeenAll}
use Rattle.trace_any.specs.Readings.{has_marks}
use Rattle.sweep_bounds.specs.Sweep.{HasSeen, Sweep}
use Rattle.policy_model.specs.declared.names.PolicyName.{PolicyName}
use Rattle.policy_sweep.specs.Running.{Setting}
use Rattle.policy_sweep.specs.Replays.{AreReplays}
use Rattle.policy_stream.specs.declared.stream.PolicyStream.{PolicyStream}
use Rattle.policy_stream.specs.Streams.{HasBeenTold, HasBegun, most_objects, settings_of}
use Rattle.trace_sweep.specs.declared.fault.SweepFault.{SweepFault}
use Rattle.trace_sweep.specs.declared.fault.SweepFault.TheVariants as sweep
use Rattle.trace_sweep.specs.Faults.{HasTooMany}
use Rattle.trace_sweep.specs.Online.{told_of}
use Rattle.trace_sweep.specs.Points.{AreSweepPoints, AreWithin}
use Rattle.trace_sweep.specs.declared.sweeping.Swept.{Swept}
use Rattle.trace_sweep.specs.declared.tally.Tally.{Tally}

-- policies of these settings know the objects of the trace, if there are any
abbrev pub AreKnown : List Setting → List Object → Type 0
AreKnown settings trace = settings ≢ [] → length (objects_of trace) ≤ most_objects

-- all that the source had left was read in one pass, and its requests have these counts and bounds
pub record IsSwept (format : Format) (capacities : List ℕ) (policies : List PolicyName) (warmup delay : ℕ) (source : Device) (swept : Swept) : Type 0 where
  pub trace : Requests
  pub notes : Notes
  pub read : IsRead pass_limits format source trace notes
  pub requests : swept.requests ≡ length trace.objects
  pub objects : swept.objects ≡ length (objects_of trace.objects)
  pub dropped : swept.dropped ≡ notes.dropped
  pub counted : swept.counted ≡ counted_in format warmup trace notes.noted
  pub late : swept.late ≡ notes.noted.late
  pub stale : swept.stale ≡ stale_in format trace notes.noted
  pub points : AreSweepPoints warmup delay trace capacities swept.points.items
  pub replays : AreReplays (told_of format warmup trace notes.noted) (settings_of policies capacities) swept.replays.items
  pub within : AreWithin swept.points.items swept.replays.items
  pub known : AreKnown (settings_of policies capacities) trace.objects

-- what the source had left is refused so within the limits of one pass, and little was lost beyond what refuses it; or a read failed, or memory ran out
abbrev pub IsNotRead : Format → Device → TraceFault → Type 0
IsNotRead format source ReadFault = HasNewFault source.faults_before source.faults_after
IsNotRead format source NoMemory = Unit {0}
IsNotRead format source fault = IsRefusedWithin pass_limits format source fault × HasLostThrough format pass_limits source fault

-- why nothing is told of what the source had left: it is not read; or it has more objects than policies know, and some were asked for; or one of these lacks memory
abbrev pub IsNotSwept : Format → List Setting → Device → SweepFault → Type 0
IsNotSwept format settings source (sweep.Trace fault) = IsNotRead format source fault
IsNotSwept format settings source sweep.TooManyObjects = (settings ≢ []) × HasTooMany format source.before
IsNotSwept format settings source (sweep.PolicyMemory policy capacity) = Contains settings (record { name = policy; capacity = capacity })

-- this many requests count by their own marks from the warm-up on, if the form of the trace has marks, and are stale, if any can be
pub record IsTally (format : Format) (warmup : ℕ) (trace : Requests) (noted : Staleness) (tally : Tally) : Type 0 where
  pub counted : has_marks format.layout ≡ true → tally.counted ≡ count_by (counts_past warmup (own_marks format trace noted)) (numbers_of trace.objects)
  pub stale : can_end format.fresh ≡ true → tally.stale ≡ count_by (is_stale noted) (numbers_of trace.objects)

-- a sweep was told all that a stream had to give, and so were policies, and so many of the requests count and are stale
pub record HasSweptAll (warmup : ℕ) (old new : Reader) (source : Device) (sweep : Sweep) (before after : PolicyStream) (tally : Tally) : Type 0 where
  pub trace : Requests
  pub whole : LoadsAll old source.before trace new.dropped
  pub end : LeavesNone old new source
  pub seen_all : HasSeenAll old source.before new
  pub seen : HasSeen trace.objects trace.fills sweep
  pub tallied : IsTally old.format warmup trace new.seen.noted tally
  pub told : (settings : List Setting) → HasBegun settings before → HasBeenTold (told_of old.format warmup trace new.seen.noted) settings after
  pub known : (settings : List Setting) → HasBegun settings before → AreKnown settings trace.objects
