-- Allowed contents, step by step.
use Rattle.std.proofs.Common.{◌≡◌, ◌≢◌, ℕ, suc, zero, ◌+◌, ◌*◌, ◌/◌, ◌<◌, ◌≤◌, ◌∙◌, sym, refl, ap, subst, Bool, true, false, cond, ◌&&◌, List, [], ◌∷◌, length, arith, inl, inr, ◌⊎◌, Some, All, AllPairs, Contains, sum, sum_by, get_or, slice_get}
use Rattle.std.specs.List.{AllByRecursion, range_with_len}
use Rattle.std.proofs.Math.Nat.{div-mul-le_self, div-zero}
use Rattle.std.proofs.lemmas.Nat.{le-div}
use Rattle.std.proofs.lemmas.Bool.{le-leb, and_right, or_left, or_right}
use Rattle.std.proofs.lemmas.List.Folds.{list_any_at}
use Rattle.std.proofs.lemmas.List.Elements.{All-head, All-tail, recursion_from_All, Contains-get_or}
use Rattle.std.proofs.lemmas.List.Sums.{sum_by-cons, get_or-le-sum_by}
use Rattle.std.proofs.lemmas.Map.Made.{IsDistinct-from_AllPairs}
use Rattle.cache_model.specs.declared.objects.Object.{Object}
use Rattle.cache_model.specs.declared.objects.Objective.{Objective}
use Rattle.cache_model.specs.Claim.{Terms, counts, same_object, gain_of, total_size, holds, before_request, IsAllowed, score, request_at}
use Rattle.cache_model.specs.Intervals.{eligible_intervals, bound_of}
use Rattle.cache_model.proofs.Duality.{same_object-true, same_object-refl, Follows, after, earned, earned-le, worth, extra}
use Rattle.cache_model.proofs.Sums.{sum_by-nothing, sum_by-range}
use Rattle.cache_model.proofs.Pairs.{earns_of, counted_of, weight_of, surplus_by_pairs, surplus_by_recursion}

-- the weights of what fits are within the units
weights-mul-le : (u : ℕ) (xs : List Object) → sum_by (weight_of u) xs * u ≤ total_size xs
weights-mul-le u [] = omega arith
weights-mul-le u (x ∷ xs) =
    omega (arith, weights-mul-le u xs, div-mul-le_self x.size u, ap (λ n. n * u) (sum_by-cons (weight_of u) x xs), sum_by-cons (λ (y : Object). y.size) x xs)

pub weights-le : (u c : ℕ) (xs : List Object) → total_size xs ≤ c → sum_by (weight_of u) xs ≤ c / u
weights-le zero c xs h = omega (arith, sum_by-nothing (weight_of 0) xs (λ x. div-zero x.size))
weights-le (suc u) c xs h = le-div (sum_by (weight_of (suc u)) xs) c (suc u) (omega arith) (omega (arith, weights-mul-le (suc u) xs))

pub holds-from_Contains : (xs : List Object) (x : Object) → Contains xs x → holds xs x ≡ true
holds-from_Contains xs x (i, within, e) = list_any_at (same_object x) xs i x within (ap (same_object x) e ∙ same_object-refl x)

counted_if_fits : (o : Objective) (c d : ℕ) (x : Object) → x.size ≤ c → earns_of o d x ≤ counted_of o c d x
counted_if_fits o c d x h = let e : counted_of o c d x ≡ earns_of o d x = ap (λ t. cond t (d * gain_of o x) 0) (le-leb x.size c h) in omega arith

member_counted : (o : Objective) (c d : ℕ) (xs : List Object) → total_size xs ≤ c → AllByRecursion (λ x. earns_of o d x ≤ counted_of o c d x) xs
member_counted o c d xs fits =
    recursion_from_All (λ x. earns_of o d x ≤ counted_of o c d x) xs
    (λ i z within. counted_if_fits o c d (get_or xs i z) (omega (arith, get_or-le-sum_by (λ (y : Object). y.size) xs i z within)))

pub same_object-from : (x y : Object) → x ≡ y → same_object x y ≡ true
same_object-from x y e = ap (same_object x) (sym e) ∙ same_object-refl x

entered : (r : Object) (held : List Object) (x : Object) → Contains held x ⊎ (Some r ≡ Some x) → holds (r ∷ held) x ≡ true
entered r held x (inl m) = or_right (same_object x r) (holds held x) (holds-from_Contains held x m)
entered r held x (inr e) = let same : x ≡ r = cc in or_left (same_object x r) (holds held x) (same_object-from x r same)

pub Follows-from_steps : (o : Objective) (c u d : ℕ) (trace : List Object) (held : List Object) (nexts : List (List Object))
    → length nexts ≡ length trace
    → ((t : ℕ) → t < length trace → (x : Object) → Contains (before_request (held ∷ nexts) (t + 1)) x → Contains (before_request (held ∷ nexts) t) x ⊎ (slice_get trace t ≡ Some x))
    → All (λ xs. total_size xs ≤ c) nexts → All (AllPairs (λ x y. x ≢ y)) nexts
    → Follows (earns_of o d) (counted_of o c d) (weight_of u) (c / u) held trace nexts
Follows-from_steps o c u d [] held nexts same enter fits apart = tt
Follows-from_steps o c u d (r ∷ trace) held [] same enter fits apart = absurd (omega arith)
Follows-from_steps o c u d (r ∷ trace) held (next ∷ nexts) same enter fits apart =
    let within : total_size next ≤ c = All-head (λ xs. total_size xs ≤ c) next nexts fits in (
      record {
        apart = IsDistinct-from_AllPairs (λ a b. (same_object-true a b, same_object-from a b)) next (All-head (AllPairs (λ x y. x ≢ y)) next nexts apart);
        inside = recursion_from_All (λ x. holds (r ∷ held) x ≡ true) next (λ i z lt. entered r held (get_or next i z) (enter 0 (omega arith) (get_or next i z) (Contains-get_or next i z lt)));
        room = weights-le u c next within;
        counted = member_counted o c d next within;
      },
      Follows-from_steps o c u d trace next nexts (omega arith)
          (λ t lt x m. let e : suc (t + 1) ≡ suc t + 1 = omega arith in enter (suc t) (omega arith) x (subst (λ k. Contains (before_request (held ∷ next ∷ nexts) k) x) e m))
          (All-tail (λ xs. total_size xs ≤ c) next nexts fits) (All-tail (AllPairs (λ x y. x ≢ y)) next nexts apart),
    )

-- a score is what the requests earn
pub score-earned : (counted : ℕ → Bool) (earns : Object → ℕ) (trace : List Object) (contents : List (List Object))
    → sum_by (λ t. cond (counted t && holds (before_request contents t) (request_at trace t)) (earns (request_at trace t)) 0) (range_with_len 0 (length trace))
    ≡ earned counted earns trace contents
score-earned counted earns [] contents = refl
score-earned counted earns (r ∷ later) [] =
    sum_by-nothing _ (range_with_len 0 (length (r ∷ later)))
    (λ t. ap (λ b. cond b (earns (request_at (r ∷ later) t)) 0) (and_right (counted t) false refl))
score-earned counted earns (r ∷ later) (held ∷ nexts) =
    sum_by-range (λ t. cond (counted t && holds (before_request (held ∷ nexts) t) (request_at (r ∷ later) t)) (earns (request_at (r ∷ later) t)) 0) (length later)
    ∙ ap (λ n. cond (counted 0 && holds held r) (earns r) 0 + n) (score-earned (after counted) earns later nexts)

-- what is earned, over the denominator
earned-mul : (d : ℕ) (counted : ℕ → Bool) (earns : Object → ℕ) (trace : List Object) (contents : List (List Object))
    → d * earned counted earns trace contents ≡ earned counted (λ x. d * earns x) trace contents
earned-mul d counted earns [] contents = omega arith
earned-mul d counted earns (r ∷ later) [] = omega arith
earned-mul d counted earns (r ∷ later) (held ∷ nexts) = omega (arith, earned-mul d (after counted) earns later nexts, at (counted 0 && holds held r))
  where
    at : (t : Bool) → d * cond t (earns r) 0 ≡ cond t (d * earns r) 0
    at true = refl
    at false = omega arith

pub no_policy_scores_more_lem : (terms : Terms) (u d : ℕ) (trace : List Object) (prices : List ℕ) (contents : List (List Object))
    → IsAllowed terms.capacity trace contents → length prices ≡ length trace
    → d * score terms trace contents ≤ bound_of (eligible_intervals terms trace) u (terms.capacity / u) d prices
no_policy_scores_more_lem terms u d trace prices [] allowed same = absurd (omega arith)
no_policy_scores_more_lem terms u d trace prices (held ∷ nexts) allowed same =
    let o : Objective = terms.objective in
    let c : ℕ = terms.capacity in
    let counted : ℕ → Bool = counts terms in
    let g : Object → ℕ = counted_of o c d in
    let w : Object → ℕ = weight_of u in
    let fits : total_size held ≤ c = All-head (λ xs. total_size xs ≤ c) held nexts allowed.within_capacity in
    let play : Follows (earns_of o d) g w (c / u) held trace nexts =
    Follows-from_steps o c u d trace held nexts (omega arith) allowed.only_requests_enter
    (All-tail (λ xs. total_size xs ≤ c) held nexts allowed.within_capacity) (All-tail (AllPairs (λ x y. x ≢ y)) held nexts allowed.without_repeats) in
    let most : earned counted (earns_of o d) trace (held ∷ nexts) ≤ (c / u) * sum prices + extra counted g w trace prices + sum_by (worth counted g w trace prices) held =
    earned-le counted (earns_of o d) g w (c / u) trace prices held nexts same (member_counted o c d held fits) play in
    let nothing : sum_by (worth counted g w trace prices) held ≡ 0 = ap (λ xs. sum_by (worth counted g w trace prices) xs) allowed.empty_at_first in
    omega (
      arith,
      ap (λ n. d * n) (score-earned counted (gain_of o) trace (held ∷ nexts)),
      earned-mul d counted (gain_of o) trace (held ∷ nexts),
      surplus_by_pairs terms u d trace prices,
      surplus_by_recursion counted o c u d trace prices same,
    )
