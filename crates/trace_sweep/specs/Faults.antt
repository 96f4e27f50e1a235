-- Why a sweep stops.
use Rattle.std.specs.Prelude.{◌≡◌, ◌≢◌, ℕ, ◌<◌, List, [], Contains, IfSome, length}
use Rattle.std.specs.declared.option.Option.{Option}
use Rattle.bound_io.specs.Devices.{Device}
use Rattle.cache_model.specs.declared.objects.Object.{Object}
use Rattle.cache_model.specs.Objects.{objects_of}
use Rattle.trace_any.specs.declared.fault.TraceFault.TheVariants.{NoMemory as OutOfMemory}
use Rattle.trace_any.specs.declared.format.Format.{Format}
use Rattle.trace_any.specs.FirstLines.{HasLostThrough}
use Rattle.trace_any.specs.Loads.{pass_limits}
use Rattle.trace_any.specs.Readers.{Reader, RefusesTrace, known, to_come}
use Rattle.trace_any.specs.Readings.{reading}
use Rattle.policy_sweep.specs.declared.fault.ReplayFault.{ReplayFault}
use Rattle.policy_sweep.specs.declared.fault.ReplayFault.TheVariants.{PolicyMemory, NoMemory}
use Rattle.policy_sweep.specs.Running.{Setting}
use Rattle.policy_stream.specs.Streams.{most_objects}
use Rattle.trace_sweep.specs.declared.fault.SweepFault.{SweepFault}
use Rattle.trace_sweep.specs.declared.fault.SweepFault.TheVariants as sweep

-- the fault of a sweep whose policies stop
abbrev pub fault_of : ReplayFault → SweepFault
fault_of (PolicyMemory policy capacity) = sweep.PolicyMemory policy capacity
fault_of NoMemory = sweep.Trace OutOfMemory

-- the requests of these bytes, as far as they are read in one pass, are for more different objects than policies know
abbrev pub HasTooMany : Format → Option (List ℕ) → Type 0
HasTooMany format before = IfSome before (λ bytes. most_objects < length (objects_of (reading format pass_limits bytes).requests))

-- the same of all that a reader has still to give
abbrev pub HasTooManyToCome : Reader → Option (List ℕ) → Type 0
HasTooManyToCome reader before = IfSome (known reader before) (λ bytes. most_objects < length (objects_of (to_come reader bytes).requests))

-- why policies of these settings don't go on, of a trace that they are told: there are some, and it has more objects than they know; or one of them lacks memory; or it ran out beside them
abbrev pub StopsPolicies : List Setting → List Object → SweepFault → Type 0
StopsPolicies settings trace (sweep.Trace fault) = fault ≡ OutOfMemory
StopsPolicies settings trace sweep.TooManyObjects = (settings ≢ []) × (most_objects < length (objects_of trace))
StopsPolicies settings trace (sweep.PolicyMemory policy capacity) = Contains settings (record { name = policy; capacity = capacity })

-- why a sweep stops in the middle, of all that a reader has to give and policies of these settings: the trace is refused so, or a read failed; there are policies, and more objects than they know; or one of them lacks memory
abbrev pub Stops : Reader → Device → List Setting → SweepFault → Type 0
Stops reader source settings (sweep.Trace fault) = RefusesTrace reader source fault × HasLostThrough reader.format reader.limits source fault
Stops reader source settings sweep.TooManyObjects = (settings ≢ []) × HasTooManyToCome reader source.before
Stops reader source settings (sweep.PolicyMemory policy capacity) = Contains settings (record { name = policy; capacity = capacity })
