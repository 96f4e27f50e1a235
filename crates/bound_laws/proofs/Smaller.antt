-- The bound of prices at a smaller capacity.
use Rattle.std.proofs.Common.{◌≡◌, ℕ, zero, suc, ◌+◌, ◌-◌, ◌*◌, ◌/◌, ◌≤◌, refl, ap, Bool, true, false, ◌&&◌, not, cond, nat_lt, nat_le, List, [], ◌∷◌, length, arith, sum, sum_by, slice_range}
use Rattle.std.specs.List.{range_with_len, list_any}
use Rattle.std.proofs.Math.Nat.{div-mul-le_self, div-zero}
use Rattle.std.proofs.lemmas.Nat.{le-div}
use Rattle.std.proofs.lemmas.Bool.{and_parts, and_from, le-leb, leb-true}
use Rattle.std.proofs.lemmas.List.{length-map}
use Rattle.std.proofs.lemmas.List.Sums.{sum_by-cons}
use Rattle.cache_model.specs.declared.objects.Object.{Object}
use Rattle.cache_model.specs.declared.objects.Objective.{Objective}
use Rattle.cache_model.specs.declared.certificates.Record.{Record}
use Rattle.cache_model.specs.Claim.{Terms, counts, same_object, request_at, terms_from, terms_of}
use Rattle.cache_model.specs.Intervals.{eligible_intervals, surplus, interval_of}
use Rattle.cache_model.specs.Certificates.{prices_of}
use Rattle.cache_model.proofs.Pairs.{pair_surplus, surplus_by_pairs}
use Rattle.cache_model.proofs.Steps.{no_policy_scores_more_lem}
use Rattle.bound_laws.specs.Laws.{SmallerCapacitiesAreBounded, ValidBoundsSmallerCapacities}

-- rounded down, the smaller capacity has no more units
units-le : (smaller c u : ℕ) → smaller ≤ c → smaller / u ≤ c / u
units-le smaller c zero below = omega (arith, div-zero smaller, div-zero c)
units-le smaller c (suc u) below = le-div (smaller / suc u) c (suc u) (omega arith) (omega (arith, div-mul-le_self smaller (suc u)))

sum_by-mono : {X : Type 0} (f g : X → ℕ) (xs : List X) → ((x : X) → f x ≤ g x) → sum_by f xs ≤ sum_by g xs
sum_by-mono f g [] below = omega arith
sum_by-mono f g (x ∷ xs) below = omega (arith, sum_by-cons f x xs, sum_by-cons g x xs, below x, sum_by-mono f g xs below)

-- what is within the smaller capacity is within the greater
fits_still : (n a b : ℕ) → a ≤ b → nat_le n a ≡ true → nat_le n b ≡ true
fits_still n a b below fits = let low : n ≤ a = leb-true n a fits in le-leb n b (omega arith)

gated : (before after : Bool) (n a b amount : ℕ) → a ≤ b → cond (before && nat_le n a && after) amount 0 ≤ cond (before && nat_le n b && after) amount 0
gated before after n a b amount below = at (before && nat_le n a && after) refl
  where
    at : (t : Bool) → (before && nat_le n a && after) ≡ t → cond t amount 0 ≤ cond (before && nat_le n b && after) amount 0
    at true e =
        let outer = and_parts (before && nat_le n a) after e in
        let inner = and_parts before (nat_le n a) outer.0 in
        let still : (before && nat_le n b && after) ≡ true = and_from _ _ (and_from _ _ inner.0 (fits_still n a b below inner.1)) outer.1 in
        let same : cond (before && nat_le n b && after) amount 0 ≡ amount = ap (λ t. cond t amount 0) still in
        omega arith
    at false e = omega arith

-- fewer intervals are eligible at a smaller capacity
pair_surplus-le : (counted : ℕ → Bool) (o : Objective) (smaller c u d : ℕ) (trace : List Object) (prices : List ℕ) → smaller ≤ c → (a b : ℕ)
    → pair_surplus counted o smaller u d trace prices a b ≤ pair_surplus counted o c u d trace prices a b
pair_surplus-le counted o smaller c u d trace prices below a b =
    let x : Object = request_at trace a in
    gated (nat_lt a b && same_object x (request_at trace b) && not (list_any (same_object x) (slice_range trace (a + 1) b))) (counted b) x.size smaller c
    (surplus u d prices (interval_of o trace a b)) below

surpluses-le : (terms : Terms) (smaller u d : ℕ) (trace : List Object) (prices : List ℕ) → smaller ≤ terms.capacity
    → sum_by (surplus u d prices) (eligible_intervals (terms_from terms.objective smaller terms.warmup terms.fills) trace) ≤ sum_by (surplus u d prices) (eligible_intervals terms trace)
surpluses-le terms smaller u d trace prices below =
    let requests : List ℕ = range_with_len 0 (length trace) in
    omega (
      arith,
      surplus_by_pairs (terms_from terms.objective smaller terms.warmup terms.fills) u d trace prices,
      surplus_by_pairs terms u d trace prices,
      sum_by-mono (λ a. sum_by (pair_surplus (counts terms) terms.objective smaller u d trace prices a) requests) (λ a. sum_by (pair_surplus (counts terms) terms.objective terms.capacity u d trace prices a) requests) requests
          (λ a. sum_by-mono (pair_surplus (counts terms) terms.objective smaller u d trace prices a) (pair_surplus (counts terms) terms.objective terms.capacity u d trace prices a) requests
          (pair_surplus-le (counts terms) terms.objective smaller terms.capacity u d trace prices below a)),
    )

pub smaller_capacities_are_bounded : SmallerCapacitiesAreBounded
smaller_capacities_are_bounded terms smaller u d trace prices contents below allowed same =
    let units : ℕ = terms.capacity / u in
    let left : ℕ = smaller / u in
    let fewer : left ≤ units = units-le smaller terms.capacity u below in
    let split : units ≡ left + (units - left) = omega arith in
    omega (
      arith,
      ap (λ n. n * sum prices) split,
      no_policy_scores_more_lem (terms_from terms.objective smaller terms.warmup terms.fills) u d trace prices contents allowed same,
      surpluses-le terms smaller u d trace prices below,
    )

pub valid_bounds_smaller_capacities : ValidBoundsSmallerCapacities
valid_bounds_smaller_capacities trace fills h records smaller contents valid below allowed =
    let many : length (prices_of records) ≡ length trace = omega (arith, length-map records (λ (r : Record). r.price), valid.certificate.count, valid.requests) in
    omega (arith, valid.upper, smaller_capacities_are_bounded (terms_of h fills) smaller h.unit h.denominator trace (prices_of records) contents below allowed many)
