-- The eligible interval that ends at a request, and sums over all intervals, end by end.
use Rattle.std.proofs.Common.{◌≡◌, ◌≢◌, ℕ, ◌+◌, ◌<◌, ◌≤◌, ◌∙◌, sym, ap, true, false, not, cond, nat_lt, nat_le, List, length, arith, ⊎_elim, map, filter, sum_by, slice_range}
use Rattle.std.specs.List.{list_any}
use Rattle.std.proofs.lemmas.Bool.{cases_lt, cases_Bool, both_ways, le-ltb, le-leb, and_left, and_right, and_from}
use Rattle.cache_model.specs.declared.objects.Object.{Object}
use Rattle.cache_model.specs.Claim.{counts, same_object, request_at, no_object}
use Rattle.cache_model.specs.Objects.{IsNext, numbers_of}
use Rattle.cache_model.specs.Intervals.{is_eligible, interval_of, eligible_from}
use Rattle.cache_model.proofs.Duality.{same_object-true}
use Rattle.cache_model.proofs.Eligible.{filter-range_one, list_any-range_true, is_next, is_next_yes}
use Rattle.cache_model.proofs.Sums.{sum_by-agree, sum_by-filter, sum_by-flat_map, sum_by-map}
use Rattle.interval_ends.specs.Ends.{eligible_to}
use Rattle.interval_ends.specs.Laws.{NextEndsAlone, SumsByEnds}
use Rattle.interval_ends.proofs.Tables.{sum_by-turn}

-- no other request has b as its next
is_next_other : (trace : List Object) (a b k : ℕ) → IsNext trace a b → k ≢ a → is_next trace k b ≡ false
is_next_other trace a b k n other =
    ⊎_elim
    (λ (low : k < b).
    ⊎_elim
    (again low)
    (λ (differs : same_object x y ≡ false). and_left _ _ (and_right (nat_lt k b) _ differs))
    (cases_Bool (same_object x y)))
    (λ (high : b ≤ k). and_left _ _ (and_left _ _ (le-ltb k b high)))
    (cases_lt k b)
  where
    x : Object
    x = request_at trace k

    y : Object
    y = request_at trace b

    z : Object
    z = request_at trace a

    again : k < b → same_object x y ≡ true → is_next trace k b ≡ false
    again low same =
        let xy : x ≡ y = same_object-true x y same in
        let zy : z ≡ y = same_object-true z y n.same in
        ⊎_elim
        (λ (late : a < k). absurd (both_ways (same_object z x) (n.others k late low) (ap (same_object z) xy ∙ n.same)))
        (λ (early : k ≤ a).
        let between : list_any (same_object x) (slice_range trace (k + 1) b) ≡ true
        = list_any-range_true (same_object x) trace no_object (k + 1) b a (omega arith) n.before (omega (arith, n.within))
        (ap (same_object x) zy ∙ same) in
        and_right _ _ (ap not between))
        (cases_lt a k)

pub next_ends_alone : NextEndsAlone
next_ends_alone terms trace a b n fits counted =
    ap (map (λ k. interval_of terms.objective trace k b))
    (filter-range_one (λ k. is_eligible terms trace k b) a 0 (length trace) (omega arith) (omega (arith, n.before, n.within))
    (and_from _ _ (and_from _ _ (is_next_yes trace a b n) (le-leb (request_at trace a).size terms.capacity fits)) counted)
    (λ k low high other.
    and_left _ (counts terms b)
    (and_left _ (nat_le (request_at trace k).size terms.capacity) (is_next_other trace a b k n other))))

pub sums_by_ends : SumsByEnds
sums_by_ends f terms trace =
    let requests : List ℕ = numbers_of trace in
    let pair : ℕ → ℕ → ℕ = λ a b. cond (is_eligible terms trace a b) (f (interval_of terms.objective trace a b)) 0 in
    sum_by-flat_map f (eligible_from terms trace) requests
    ∙ sum_by-agree (λ a. sum_by f (eligible_from terms trace a)) (λ a. sum_by (pair a) requests) requests
    (λ a. sum_by-map f (interval_of terms.objective trace a) (filter (is_eligible terms trace a) requests)
    ∙ sum_by-filter (λ b. f (interval_of terms.objective trace a b)) (is_eligible terms trace a) requests)
    ∙ sum_by-turn pair requests requests
    ∙ sum_by-agree (λ b. sum_by (λ a. pair a b) requests) (λ b. sum_by f (eligible_to terms trace b)) requests
    (λ b. sym (sum_by-map f (λ a. interval_of terms.objective trace a b) (filter (λ a. is_eligible terms trace a b) requests)
    ∙ sum_by-filter (λ a. f (interval_of terms.objective trace a b)) (λ a. is_eligible terms trace a b) requests))
