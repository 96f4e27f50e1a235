-- Why a text in memory is refused that is read.
use Rattle.std.proofs.Common.{◌≡◌, ℕ, subst, List, Option, Some, IfSome}
use Rattle.bound_io.specs.Devices.{Device}
use Rattle.trace_any.specs.declared.fault.TraceFault.{TraceFault}
use Rattle.trace_any.specs.declared.fault.TraceFault.TheVariants.{BadLine, ReadFault, InputTooLong, TooManyRequests, NoMemory}
use Rattle.trace_any.specs.Readings.{full_limits, reading, webcache_form}
use Rattle.trace_any.specs.Readers.{Reader, RefusesTrace, fresh}
use Rattle.trace_any.proofs.Loads.{from_start}
use Rattle.library_uses.specs.Uses.{IsRefused}
use Rattle.library_uses.proofs.CheckLemmas.{none_new}

-- what stops the loading of a text is what its reading is refused for
stopped : (text : List ℕ) (r : Reader) (source : Device) (fault : TraceFault) → r ≡ fresh webcache_form full_limits → source.before ≡ Some text
    → RefusesTrace r source fault → (RefusesTrace r source fault → IfSome source.before (λ bytes. (reading webcache_form full_limits bytes).refused ≡ Some fault)) → (reading webcache_form full_limits text).refused ≡ Some fault
stopped text r source fault new before why refused = subst (λ (o : Option (List ℕ)). IfSome o (λ bytes. (reading webcache_form full_limits bytes).refused ≡ Some fault)) before (refused why)

pub refused_text : (text : List ℕ) (r : Reader) (source : Device) (fault : TraceFault) → r ≡ fresh webcache_form full_limits → source.before ≡ Some text → source.faults_after ≡ 0
    → RefusesTrace r source fault → IsRefused text fault
refused_text text r source (BadLine line kind) new before calm why = stopped text r source (BadLine line kind) new before why (from_start webcache_form r source.before (λ s. s.refused ≡ Some (BadLine line kind)) new)
refused_text text r source InputTooLong new before calm why = stopped text r source InputTooLong new before why (from_start webcache_form r source.before (λ s. s.refused ≡ Some InputTooLong) new)
refused_text text r source TooManyRequests new before calm why = stopped text r source TooManyRequests new before why (from_start webcache_form r source.before (λ s. s.refused ≡ Some TooManyRequests) new)
refused_text text r source ReadFault new before calm why = absurd (none_new source.faults_before source.faults_after calm why)
refused_text text r source NoMemory new before calm why = tt
