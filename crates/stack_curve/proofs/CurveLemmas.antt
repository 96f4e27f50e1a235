-- The curve of the counts, its size and LRU.
use Rattle.std.proofs.Common.{◌≡◌, ℕ, ◌+◌, ◌-◌, ◌/◌, ◌<◌, ◌≤◌, ◌^◌, ◌∙◌, sym, refl, ap, subst, ⊎_elim, Bool, false, cond, eqb, List, [], ◌∷◌, length, get_or, min, arith, sum_by, Result, Ok, Err, IfErr}
use Rattle.std.proofs.lemmas.Bool.{cases_lt, eqb-true, false_from_ne_true}
use Rattle.std.proofs.lemmas.List.{take_all}
use Rattle.std.proofs.lemmas.List.Elements.{All-from_get_or}
use Rattle.std.proofs.lemmas.List.FromFn.{length-range_with_len}
use Rattle.std.proofs.lemmas.List.Sums.{count_by-le-length}
use Rattle.std.specs.Result.{IsErrAnd}
use Rattle.std.specs.List.{range_with_len}
use Rattle.cache_model.specs.declared.objects.Object.{Object}
use Rattle.cache_model.specs.Claim.{request_at, no_object}
use Rattle.cache_model.specs.Objects.{objects_of}
use Rattle.policy_model.specs.declared.names.PolicyName.TheVariants.{Lru}
use Rattle.policy_model.specs.Asks.{number_of}
use Rattle.policy_model.specs.Runs.{policy_run}
use Rattle.policy_laws.proofs.Asked.{number_of-object}
use Rattle.stack_curve.specs.Counts.{AreCounts, AreHits, sum_to}
use Rattle.stack_curve.specs.Curves.{Points, IsCurve, IsOfLru, first_size, hits_with, size_at}
use Rattle.stack_curve.specs.Distances.{curve_hits, counted_distance, is_within}
use Rattle.stack_curve.specs.Laws.{HaveSize}
use Rattle.stack_curve.proofs.CountLemmas.{curve-clipped}
use Rattle.stack_curve.proofs.LruCurve.{curve_is_of_lru}

-- object 0 is that of the first request
pub first-size : (trace : List Object) → size_at trace 0 ≡ first_size trace
first-size [] = refl
first-size (x ∷ xs) = refl

pub some-object : (trace : List Object) → 0 < length trace → 0 < length (objects_of trace)
some-object [] some = absurd (omega arith)
some-object (x ∷ xs) some = omega arith

-- sizes of objects are those of the requests
pub have-size : (trace : List Object) (size : ℕ) → ((n : ℕ) → n < length (objects_of trace) → size_at trace n ≡ size) → HaveSize size trace
have-size trace size alike =
    All-from_get_or (λ x. x.size ≡ size) trace no_object (λ t within.
    let known = number_of-object trace t within in
    ap (λ (y : Object). y.size) (sym known.1) ∙ alike (number_of trace (request_at trace t)) known.0)

module _ (trace : List Object) (fills : List Bool) where
  -- all counts are of requests
  pub counts-few : (counts : List ℕ) → length trace ≤ 2 ^ 25 → AreCounts trace fills (length trace) counts → sum_by (λ count. count) counts < 2 ^ 32
  counts-few counts few are =
      let long : length counts ≡ length (objects_of trace) + 1 = are.places in
      let last : ℕ = length (objects_of trace) in
      omega (
        arith,
        ap (sum_by (λ c. c)) (take_all (last + 1) counts (omega arith)),
        are.sums last (omega arith),
        count_by-le-length (λ u. is_within last (counted_distance trace fills u)) (range_with_len 0 (length trace)),
        length-range_with_len 0 (length trace),
      )

  -- the counts summed up are the hits
  pub are-hits : (counts hits : List ℕ) → AreCounts trace fills (length trace) counts → length hits ≡ length counts
      → ((k : ℕ) → k < length counts → get_or hits k 0 ≡ sum_to counts k) → AreHits trace fills hits
  are-hits counts hits are long summed = record {
    places = long ∙ are.places;
    each = λ k low. summed k (omega arith) ∙ are.sums k (omega arith);
  }

  -- the hits are those of the curve
  pub is-curve : (size : ℕ) (hits : List ℕ) → size ≡ first_size trace → AreHits trace fills hits → IsCurve trace fills (record { size = size; hits = hits })
  is-curve size hits size_is are = record {
    size_is = size_is;
    hits_are = λ slots.
        let places : length hits ≡ length (objects_of trace) + 1 = are.places in
        let clip : min slots (length hits - 1) ≡ min slots (length (objects_of trace)) = omega arith in
        ap (λ k. get_or hits k 0) clip
        ∙ are.each (min slots (length (objects_of trace))) (omega arith)
        ∙ curve-clipped trace fills slots;
  }

-- an error that is known
pub if-err : {R E : Type 0} (r : Result R E) (known : E) (P : E → Type 0) → IsErrAnd r (λ e. e ≡ known) → P known → IfErr r P
if-err (Ok v) known P is holds = tt
if-err (Err e) known P is holds = subst P (sym is) holds

nothing-hits : (trace : List Object) (fills : List Bool) (capacity : ℕ) → length trace ≡ 0 → 0 ≡ (policy_run Lru trace capacity 0 fills).hits
nothing-hits [] fills capacity none = refl
nothing-hits (x ∷ xs) fills capacity none = absurd (omega arith)

nothing-size : (trace : List Object) → length trace ≡ 0 → first_size trace ≡ 0
nothing-size [] none = refl
nothing-size (x ∷ xs) none = absurd (omega arith)

-- at one size it is LRU's
pub is-of-lru : (trace : List Object) (fills : List Bool) (points : Points) → IsCurve trace fills points → HaveSize (first_size trace) trace → (0 < length trace → 1 ≤ first_size trace) → IsOfLru trace fills points
is-of-lru trace fills points is sized positive capacity some =
    ⊎_elim
    (λ (requests : 0 < length trace).
    let one : 1 ≤ points.size = omega (arith, positive requests, is.size_is) in
    ap (λ b. cond b 0 (hits_with points (capacity / points.size))) (not_zero points.size one)
    ∙ is.hits_are (capacity / points.size)
    ∙ ap (λ s. curve_hits trace fills (capacity / s)) is.size_is
    ∙ sym (curve_is_of_lru trace fills (first_size trace) capacity (positive requests) some sized))
    (λ (none : length trace ≤ 0).
    let nothing : length trace ≡ 0 = omega arith in
    ap (λ s. cond (eqb s 0) 0 (hits_with points (capacity / s))) (is.size_is ∙ nothing-size trace nothing)
    ∙ nothing-hits trace fills capacity nothing)
    (cases_lt 0 (length trace))
  where
    not_zero : (s : ℕ) → 1 ≤ s → eqb s 0 ≡ false
    not_zero s low = false_from_ne_true (eqb s 0) (λ zero_size. let e : s ≡ 0 = eqb-true s 0 zero_size in omega arith)
