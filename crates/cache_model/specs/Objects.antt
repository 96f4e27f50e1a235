-- The objects of a trace, and which requests are of one object.
use Rattle.std.specs.Prelude.{◌≡◌, ℕ, ◌<◌, Bool, false, IsTrue, not, List, length, map, take, filter}
use Rattle.std.specs.List.{list_any, range_with_len}
use Rattle.cache_model.specs.declared.objects.Object.{Object}
use Rattle.cache_model.specs.Claim.{same_object, request_at}

-- the numbers of the requests, from 0
abbrev pub numbers_of : List Object → List ℕ
numbers_of trace = range_with_len 0 (length trace)

-- b is the next request of the object of request a
pub record IsNext (trace : List Object) (a b : ℕ) : Type 0 where
  pub before : a < b
  pub within : b < length trace
  pub same : IsTrue (same_object (request_at trace a) (request_at trace b))
  pub others : (k : ℕ) → a < k → k < b → same_object (request_at trace a) (request_at trace k) ≡ false

-- no later request is of the object of request a
abbrev pub IsLast : List Object → ℕ → Type 0
IsLast trace a = (k : ℕ) → a < k → k < length trace → same_object (request_at trace a) (request_at trace k) ≡ false

-- no earlier request is of the object of request t
abbrev pub IsFirst : List Object → ℕ → Type 0
IsFirst trace t = (k : ℕ) → k < t → same_object (request_at trace t) (request_at trace k) ≡ false

-- whether no earlier request is of the object of request t
abbrev pub is_first : List Object → ℕ → Bool
is_first trace t = not (list_any (same_object (request_at trace t)) (take t trace))

-- the different objects, in order of first appearance
abbrev pub objects_of : List Object → List Object
objects_of trace = map (request_at trace) (filter (is_first trace) (numbers_of trace))

-- request a is the last of the trace that is of x
pub record IsLatest (trace : List Object) (x : Object) (a : ℕ) : Type 0 where
  pub within : a < length trace
  pub same : IsTrue (same_object x (request_at trace a))
  pub others : (k : ℕ) → a < k → k < length trace → same_object x (request_at trace k) ≡ false

-- no request of the trace is of x
abbrev pub IsNew : List Object → Object → Type 0
IsNew trace x = (k : ℕ) → k < length trace → same_object x (request_at trace k) ≡ false
