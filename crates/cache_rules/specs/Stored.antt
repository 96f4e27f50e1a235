-- How a trace is stored: each request by the number of its object, beside the nearest requests of that object.
use Rattle.std.specs.Prelude.{◌≡◌, ℕ, ◌≤◌, ◌<◌, ◌^◌, Bool, if◌then◌else◌, List, [], ◌∷◌, ◌++◌, length, map, slice_index, slice_index_or, All, false, None, Some}
use Rattle.std.specs.declared.option.Option.{Option}
use Rattle.std.specs.Map.{keys_of, values_of}
use Rattle.cache_model.specs.declared.objects.Object.{Object}
use Rattle.cache_model.specs.Claim.{same_object, no_object}
use Rattle.cache_model.specs.Objects.{IsLatest}
use Rattle.cache_model.specs.Objects.{objects_of, IsFirst, IsLast, IsNext}

-- the objects of the requests of a trace, and of each request whether it only fills the cache; past the end of that list none does
pub record Requests : Type 0 where
  pub objects : List Object
  pub fills : List Bool

-- requests that all count, without a mark each
abbrev pub all_count : List Object → Requests
all_count objects = record { objects = objects; fills = [] }

-- a trace being made: the requests so far, and whether a mark is kept of each
pub record Making : Type 0 where
  pub requests : Requests
  pub marks : Bool

-- the mark of one more request, if marks are kept
abbrev pub mark_if : Bool → Bool → Option Bool
mark_if marks only_fills = if marks then Some only_fills else None

-- the marks with one more, if there is one
abbrev pub with_mark : List Bool → Option Bool → List Bool
with_mark fills None = fills
with_mark fills (Some only_fills) = fills ++ only_fills ∷ []

-- one more request, with its mark if there is one
abbrev pub with_request : Requests → Object → Option Bool → Requests
with_request r x mark = record { objects = r.objects ++ x ∷ []; fills = with_mark r.fills mark }

-- one more request, which may only fill
abbrev pub made_more : Making → Object → Bool → Making
made_more m x only_fills = record m { requests = with_request m.requests x (mark_if m.marks only_fills) }

-- what is stored where there is no request
abbrev pub no_request : ℕ
no_request = 4294967295

-- the object of this number
abbrev pub object_at : List Object → ℕ → Object
object_at objects number = slice_index_or objects number no_object

-- the requests of the objects of these numbers
abbrev pub trace_of : List Object → List ℕ → List Object
trace_of objects numbers = map (object_at objects) numbers

-- what is stored names the nearest earlier request of the object of request t, if any
pub record IsPrevious (trace : List Object) (t stored : ℕ) : Type 0 where
  pub none : stored ≡ no_request → IsFirst trace t
  pub some : stored < no_request → IsNext trace stored t

-- what is stored names the nearest later request of the object of request t, if any
pub record IsFollowing (trace : List Object) (t stored : ℕ) : Type 0 where
  pub none : stored ≡ no_request → IsLast trace t
  pub some : stored < no_request → IsNext trace t stored

-- the size of the object is in the range of sizes
abbrev pub IsSized : Object → Type 0
IsSized x = (1 ≤ x.size) × (x.size ≤ 2 ^ 48)

-- the lists store the trace, and each entry has an object and its latest request
pub record IsStored (trace : List Object) (entries : List (Object × ℕ)) (numbers previous following : List ℕ) : Type 0 where
  pub few : length trace ≤ 2 ^ 25
  pub requests : trace_of (keys_of entries) numbers ≡ trace
  pub objects : keys_of entries ≡ objects_of trace
  pub sizes : All IsSized (keys_of entries)
  pub apart : (m n : ℕ) → m < n → n < length (keys_of entries) → same_object (object_at (keys_of entries) m) (object_at (keys_of entries) n) ≡ false
  pub latest : (n : ℕ) → n < length (keys_of entries) → IsLatest trace (object_at (keys_of entries) n) (slice_index (values_of entries) n)
  pub known : (t : ℕ) → t < length numbers → slice_index numbers t < length (keys_of entries)
  pub previous_length : length previous ≡ length trace
  pub previous_is : (t : ℕ) → t < length trace → IsPrevious trace t (slice_index previous t)
  pub following_length : length following ≡ length trace
  pub following_is : (t : ℕ) → t < length trace → IsFollowing trace t (slice_index following t)
