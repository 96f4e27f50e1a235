-- The curve of a trace, and two of its objects that differ in size.
use Rattle.std.specs.Prelude.{◌≡◌, ◌≢◌, ℕ, ◌-◌, ◌/◌, ◌==◌, ◌<◌, ◌≤◌, if◌then◌else◌, Bool, List, length, min, slice_index_or}
use Rattle.cache_model.specs.declared.objects.Object.{Object}
use Rattle.cache_model.specs.Claim.{request_at}
use Rattle.cache_model.specs.Objects.{objects_of}
use Rattle.policy_model.specs.declared.names.PolicyName.TheVariants.{Lru}
use Rattle.policy_model.specs.Runs.{policy_run}
use Rattle.policy_model.specs.Asks.{object_numbered}
use Rattle.stack_curve.specs.declared.pass.CurveFault.{CurveFault}
use Rattle.stack_curve.specs.declared.pass.CurveFault.TheVariants.{Unequal, NoMemory}
use Rattle.stack_curve.specs.Distances.{curve_hits}
use Rattle.stack_curve.specs.Laws.{HaveSize}

-- the size of the object of this number
abbrev pub size_at : List Object → ℕ → ℕ
size_at trace number = (object_numbered trace number).size

-- the size of the first request, and 0 of none
abbrev pub first_size : List Object → ℕ
first_size trace = (request_at trace 0).size

-- the least numbered object of another size, and its size
pub record IsFirstOther (trace : List Object) (size other : ℕ) : Type 0 where
  pub number : ℕ
  pub known : number < length (objects_of trace)
  pub other_is : other ≡ size_at trace number
  pub differs : other ≢ size
  pub before : (n : ℕ) → n < number → size_at trace n ≡ size

-- object 0 has the first size, and the least numbered object which differs the other
pub record IsClash (trace : List Object) (first other : ℕ) : Type 0 where
  pub first_is : first ≡ size_at trace 0
  pub other_is : IsFirstOther trace first other

-- a clash is of two sizes, and otherwise there is one size and memory ran out
abbrev pub IsCause : List Object → CurveFault → Type 0
IsCause trace (Unequal first other) = IsClash trace first other
IsCause trace NoMemory = HaveSize (first_size trace) trace

-- a curve: the size of all objects, and the hits at numbers of slots from 0 on; with more slots they are the last one's
pub record Points : Type 0 where
  pub size : ℕ
  pub hits : List ℕ

-- the hits at this many slots
abbrev pub hits_with : Points → ℕ → ℕ
hits_with points slots = slice_index_or points.hits (min slots (length points.hits - 1)) 0

-- the hits at this capacity, in bytes: those of as many slots as objects fit, and none if the size is 0
abbrev pub hits_within : Points → ℕ → ℕ
hits_within points capacity = if points.size == 0 then 0 else hits_with points (capacity / points.size)

-- the curve of a trace
pub record IsCurve (trace : List Object) (fills : List Bool) (points : Points) : Type 0 where
  pub size_is : points.size ≡ first_size trace
  pub hits_are : (slots : ℕ) → hits_with points slots ≡ curve_hits trace fills slots

-- its hits at every capacity are those of LRU
abbrev pub IsOfLru : List Object → List Bool → Points → Type 0
IsOfLru trace fills points = (capacity : ℕ) → 1 ≤ capacity → hits_within points capacity ≡ (policy_run Lru trace capacity 0 fills).hits
