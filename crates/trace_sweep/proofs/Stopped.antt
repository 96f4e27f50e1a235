-- Why a sweep stops.
use Rattle.std.proofs.Common.{◌≡◌, ◌≢◌, ℕ, ◌<◌, ◌∙◌, sym, refl, ap, subst, inl, inr, ⊎_elim, arith, List, [], Contains, length, length-append, Option, Some, None, Result, Ok, Err, IfSome}
use Rattle.std.specs.Result.{IfErr, IsErrAnd}
use Rattle.bound_io.specs.Devices.{Device}
use Rattle.bound_io.specs.Reading.{ReadsSource}
use Rattle.cache_model.specs.declared.objects.Object.{Object}
use Rattle.cache_model.specs.Objects.{objects_of}
use Rattle.cache_rules.specs.Stored.{Requests}
use Rattle.trace_any.specs.declared.fault.TraceFault.{TraceFault}
use Rattle.trace_any.specs.declared.fault.TraceFault.TheVariants as trace
use Rattle.trace_any.specs.declared.format.Format.{Format}
use Rattle.trace_any.specs.FirstLines.{HasLostThrough}
use Rattle.trace_any.specs.Loads.{pass_limits}
use Rattle.trace_any.specs.Readers.{GoesOn, IsNotLoaded, IsStopped, Reader, RefusesTrace, bytes_after, fresh, known, to_come}
use Rattle.trace_any.specs.Readings.{Reading}
use Rattle.trace_any.proofs.Coming.{after_all}
use Rattle.trace_any.proofs.Loads.{from_start_within}
use Rattle.policy_sweep.specs.declared.fault.ReplayFault.{ReplayFault}
use Rattle.policy_sweep.specs.declared.fault.ReplayFault.TheVariants.{PolicyMemory, NoMemory}
use Rattle.policy_sweep.specs.Running.{Setting}
use Rattle.policy_sweep.specs.Replays.{NamesSetting}
use Rattle.policy_stream.specs.Streams.{most_objects}
use Rattle.policy_stream.proofs.Longer.{objects-longer}
use Rattle.trace_sweep.specs.declared.fault.SweepFault.{SweepFault}
use Rattle.trace_sweep.specs.declared.fault.SweepFault.TheVariants as sweep
use Rattle.trace_sweep.specs.Faults.{Stops, StopsPolicies, fault_of}
use Rattle.trace_sweep.specs.Swept.{IsNotRead, IsNotSwept}

-- what holds of a fault holds of an answer that is this fault
pub of_fault : {A : Type 0} (result : Result A SweepFault) (fault : SweepFault) (P : SweepFault → Type 0) → IsErrAnd result (λ e. e ≡ fault) → P fault → IfErr result P
of_fault (Ok x) fault P is holds = tt
of_fault (Err e) fault P is holds = subst P (sym is) holds

-- what a refused trace says of its source, a sweep says too
pub as_sweep : {A : Type 0} (source : Device) (fault : TraceFault) → ReadsSource {A = A} trace.ReadFault source (Err fault) → ReadsSource {A = A} (sweep.Trace trace.ReadFault) source (Err (sweep.Trace fault))
as_sweep source fault reads = record {
  source = reads.source;
  later = reads.later;
  none_failed = tt;
  else_none_failed = ⊎_elim (λ same. inl (ap (λ f. sweep.Trace f) same)) (λ none. inr none) reads.else_none_failed;
}

-- a reader that has given some requests
module _ (first second : Reader) (given : Requests) (before between : Option (List ℕ)) (goes : IfSome before (λ bytes. GoesOn (after_all given) first second bytes between)) where
  over : (fault : TraceFault) → IfSome between (λ bytes. (to_come second bytes).refused ≡ Some fault) → IfSome before (λ bytes. (to_come first bytes).refused ≡ Some fault)
  over fault why = at before goes
    where
      at : (left : Option (List ℕ)) → IfSome left (λ bytes. GoesOn (after_all given) first second bytes between) → IfSome left (λ bytes. (to_come first bytes).refused ≡ Some fault)
      at None one = tt
      at (Some bytes) one = ap (λ (s : Reading). s.refused) one.coming ∙ subst (λ o. IfSome o (λ b. (to_come second b).refused ≡ Some fault)) one.rest why

  -- gives no more, and so the trace is refused
  pub stops-trace : (new : Reader) (faults_before faults_after : ℕ) (fault : TraceFault) → IsStopped second new between faults_before faults_after fault → IsNotLoaded first before faults_before faults_after fault
  stops-trace new faults_before faults_after (trace.BadLine line kind) why = over (trace.BadLine line kind) (at between why)
    where
      at : (left : Option (List ℕ)) → IsStopped second new left faults_before faults_after (trace.BadLine line kind) → IfSome left (λ bytes. (to_come second bytes).refused ≡ Some (trace.BadLine line kind))
      at None is = tt
      at (Some bytes) is = is.stop
  stops-trace new faults_before faults_after trace.InputTooLong why = over trace.InputTooLong (at between why)
    where
      at : (left : Option (List ℕ)) → IsStopped second new left faults_before faults_after trace.InputTooLong → IfSome left (λ bytes. (to_come second bytes).refused ≡ Some trace.InputTooLong)
      at None is = tt
      at (Some bytes) is = is.stop
  stops-trace new faults_before faults_after trace.TooManyRequests why = over trace.TooManyRequests (at between why)
    where
      at : (left : Option (List ℕ)) → IsStopped second new left faults_before faults_after trace.TooManyRequests → IfSome left (λ bytes. (to_come second bytes).refused ≡ Some trace.TooManyRequests)
      at None is = tt
      at (Some bytes) is = is.stop
  stops-trace new faults_before faults_after trace.ReadFault why = why
  stops-trace new faults_before faults_after trace.NoMemory why = tt

  -- and these have more objects than policies know
  pub many-to-come : most_objects < length (objects_of given.objects) → IfSome before (λ bytes. most_objects < length (objects_of (to_come first bytes).requests))
  many-to-come many = at before goes
    where
      at : (left : Option (List ℕ)) → IfSome left (λ bytes. GoesOn (after_all given) first second bytes between) → IfSome left (λ bytes. most_objects < length (objects_of (to_come first bytes).requests))
      at None one = tt
      at (Some bytes) one =
          let longer = objects-longer given.objects (to_come second (bytes_after first second bytes)).requests in
          omega (arith, many, ap (λ (s : Reading). length (objects_of s.requests)) one.coming, ap length longer.1, length-append (objects_of given.objects) longer.0)

-- policies that don't go on stop the sweep
pub policies-stop : (first second : Reader) (source : Device) (settings : List Setting) (given : Requests) (between : Option (List ℕ)) (fault : SweepFault)
    → IfSome (known first source.before) (λ bytes. GoesOn (after_all given) first second bytes between) → HasLostThrough first.format first.limits source trace.NoMemory
    → StopsPolicies settings given.objects fault → Stops first source settings fault
policies-stop first second source settings given between (sweep.Trace fault) goes lost why =
    subst (λ f. RefusesTrace first source f × HasLostThrough first.format first.limits source f) (sym why) (tt, lost)
policies-stop first second source settings given between sweep.TooManyObjects goes lost why = (why.0, many-to-come first second given (known first source.before) between goes why.1)
policies-stop first second source settings given between (sweep.PolicyMemory policy capacity) goes lost why = why

-- nor do they go on if one of them lacks memory
pub stops-policies : (settings : List Setting) (trace : List Object) (fault : ReplayFault) → NamesSetting settings fault → StopsPolicies settings trace (fault_of fault)
stops-policies settings trace (PolicyMemory policy capacity) names = names
stops-policies settings trace NoMemory names = refl

-- nothing is told of a trace that is refused
not_read : (format : Format) (source : Device) (fault : TraceFault) → RefusesTrace (fresh format pass_limits) source fault → HasLostThrough format pass_limits source fault → IsNotRead format source fault
not_read format source (trace.BadLine line kind) why lost = (from_start_within pass_limits format (fresh format pass_limits) source.before (λ (r : Reading). r.refused ≡ Some (trace.BadLine line kind)) refl why, lost)
not_read format source trace.InputTooLong why lost = (from_start_within pass_limits format (fresh format pass_limits) source.before (λ (r : Reading). r.refused ≡ Some trace.InputTooLong) refl why, lost)
not_read format source trace.TooManyRequests why lost = (from_start_within pass_limits format (fresh format pass_limits) source.before (λ (r : Reading). r.refused ≡ Some trace.TooManyRequests) refl why, lost)
not_read format source trace.ReadFault why lost = why
not_read format source trace.NoMemory why lost = tt

-- nor if the sweep stops in the middle
pub not_swept : (format : Format) (settings : List Setting) (source : Device) (fault : SweepFault) → Stops (fresh format pass_limits) source settings fault → IsNotSwept format settings source fault
not_swept format settings source (sweep.Trace fault) why = not_read format source fault why.0 why.1
not_swept format settings source sweep.TooManyObjects why =
    (why.0, from_start_within pass_limits format (fresh format pass_limits) source.before (λ (r : Reading). most_objects < length (objects_of r.requests)) refl why.1)
not_swept format settings source (sweep.PolicyMemory policy capacity) why = why

-- nor if a policy lacks memory
pub not_replayed : (format : Format) (settings : List Setting) (source : Device) (fault : ReplayFault) → NamesSetting settings fault → IsNotSwept format settings source (fault_of fault)
not_replayed format settings source (PolicyMemory policy capacity) names = names
not_replayed format settings source NoMemory names = tt
