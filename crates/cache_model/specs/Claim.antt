-- What a bound claims: no contents that the rules allow score more. This page is all that the claim rests on.
use Rattle.std.specs.Prelude.{nat_le, ◌≡◌, ◌≢◌, ℕ, ◌+◌, ◌*◌, ◌/◌, ◌<◌, ◌≤◌, ◌⊎◌, Bool, false, not, ◌&&◌, ◌==◌, if◌then◌else◌, List, [], length, slice_get, slice_index_or, slice_range, Some, All, AllPairs, Contains, sum_by, map, filter}
use Rattle.std.specs.List.{list_any, range_with_len}
use Rattle.cache_model.specs.declared.objects.Object.{Object}
use Rattle.cache_model.specs.declared.objects.Objective.{Objective}
use Rattle.cache_model.specs.declared.objects.Objective.TheVariants.{Object as Hits, Bytes}
use Rattle.cache_model.specs.declared.terms.Terms.{Terms as Asked}
use Rattle.cache_model.specs.declared.certificates.Header.{Header}

-- two requests are of one object if all three numbers are equal
abbrev pub same_object : Object → Object → Bool
same_object x y = (x.volume == y.volume) && (x.id == y.id) && (x.size == y.size)

-- the sizes of the objects, summed
abbrev pub total_size : List Object → ℕ
total_size objects = sum_by (λ x. x.size) objects

-- whether the object is a member of the contents
abbrev pub holds : List Object → Object → Bool
holds contents x = list_any (same_object x) contents

-- the contents before request t
abbrev pub before_request : List (List Object) → ℕ → List Object
before_request contents t = slice_index_or contents t []

-- the rules allow these contents before each request and after the last: nothing comes in but what is asked for, and all fits the capacity
pub record IsAllowed (capacity : ℕ) (trace : List Object) (contents : List (List Object)) : Type 0 where
  pub one_more_than_requests : length contents ≡ length trace + 1
  pub empty_at_first : before_request contents 0 ≡ []
  pub only_requests_enter : (t : ℕ) → t < length trace → (x : Object) → Contains (before_request contents (t + 1)) x → Contains (before_request contents t) x ⊎ (slice_get trace t ≡ Some x)
  pub within_capacity : All (λ held. total_size held ≤ capacity) contents
  pub without_repeats : All (AllPairs (λ x y. x ≢ y)) contents

-- what a hit on the object earns
abbrev pub gain_of : Objective → Object → ℕ
gain_of Hits x = 1
gain_of Bytes x = x.size

-- what stands past the end of a trace
abbrev pub no_object : Object
no_object = record { volume = 0; id = 0; size = 0 }

-- the object of request t
abbrev pub request_at : List Object → ℕ → Object
request_at trace t = slice_index_or trace t no_object

-- what a bound is asked for: what a hit earns, the capacity, how many requests at first are the warm-up, and of each request whether it only fills the cache; past the end of that list none does
pub record Terms : Type 0 where
  pub objective : Objective
  pub capacity : ℕ
  pub warmup : ℕ
  pub fills : List Bool

-- whether request t only fills the cache
abbrev pub only_fills : List Bool → ℕ → Bool
only_fills fills t = slice_index_or fills t false

-- whether request t is past the warm-up, and doesn't only fill
abbrev pub counts_past : ℕ → List Bool → ℕ → Bool
counts_past warmup fills t = nat_le warmup t && not (only_fills fills t)

-- whether a hit at request t earns anything
abbrev pub counts : Terms → ℕ → Bool
counts terms t = counts_past terms.warmup terms.fills t

-- the gains of the requests that count and whose object is in the contents before them
abbrev pub score : Terms → List Object → List (List Object) → ℕ
score terms trace contents =
    sum_by (λ t. if counts terms t && holds (before_request contents t) (request_at trace t) then gain_of terms.objective (request_at trace t) else 0)
    (range_with_len 0 (length trace))

-- whether request t is kept
abbrev pub is_kept : List Bool → ℕ → Bool
is_kept keeps t = slice_index_or keeps t false

-- no request after a and before t is of the object of request a
abbrev pub is_latest : List Object → ℕ → ℕ → Bool
is_latest trace t a = not (list_any (same_object (request_at trace a)) (slice_range trace (a + 1) t))

-- request a is kept, and no request after it and before t is of its object
abbrev pub is_held : List Object → List Bool → ℕ → ℕ → Bool
is_held trace keeps t a = is_kept keeps a && is_latest trace t a

-- the objects whose latest request before t is kept
abbrev pub held_before : List Object → List Bool → ℕ → List Object
held_before trace keeps t = map (request_at trace) (filter (is_held trace keeps t) (range_with_len 0 t))

-- the contents that the keeps stand for
abbrev pub contents_of : List Object → List Bool → List (List Object)
contents_of trace keeps = map (held_before trace keeps) (range_with_len 0 (length trace + 1))

-- the terms of an objective, a capacity, a warm-up and the requests that only fill
abbrev pub terms_from : Objective → ℕ → ℕ → List Bool → Terms
terms_from objective capacity warmup fills = record { objective = objective; capacity = capacity; warmup = warmup; fills = fills }

-- what is asked for, of a trace with these marks
abbrev pub marked : Asked → List Bool → Terms
marked asked fills = terms_from asked.objective asked.capacity asked.warmup fills

-- the terms of a header, for a trace with these marks
abbrev pub terms_of : Header → List Bool → Terms
terms_of h fills = terms_from h.objective h.capacity h.warmup fills

-- no policy within the capacity scores more than the upper bound, nor than its floor
pub record BoundsEveryPolicy (trace : List Object) (fills : List Bool) (h : Header) : Type 0 where
  pub denominator_positive : 0 < h.denominator
  pub no_policy_scores_more : (contents : List (List Object)) → IsAllowed h.capacity trace contents
      → h.denominator * score (terms_of h fills) trace contents ≤ h.upper
  pub no_policy_passes_the_floor : (contents : List (List Object)) → IsAllowed h.capacity trace contents
      → score (terms_of h fills) trace contents ≤ h.upper / h.denominator
