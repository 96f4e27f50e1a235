-- The sum over all pairs of requests, by recursion on the trace.
use Rattle.std.proofs.Common.{◌≡◌, ℕ, suc, ◌+◌, ◌-◌, ◌*◌, ◌/◌, ◌<◌, ◌≤◌, ◌∙◌, sym, refl, ap, Bool, true, false, not, ◌&&◌, ◌||◌, cond, nat_lt, nat_le, ltb, List, [], ◌∷◌, length, arith, ⊎_elim, sum, sum_by, filter, map, take, drop, slice_range}
use Rattle.std.specs.List.{range_with_len, list_any}
use Rattle.std.proofs.lemmas.Bool.{cases_lt, lt-ltb, le-ltb, and_left, and_right}
use Rattle.std.proofs.lemmas.List.Sums.{sum_by-cons}
use Rattle.cache_model.specs.declared.objects.Object.{Object}
use Rattle.cache_model.specs.declared.objects.Objective.{Objective}
use Rattle.cache_model.specs.Claim.{Terms, counts, same_object, gain_of, request_at}
use Rattle.cache_model.specs.Intervals.{is_eligible, interval_of, eligible_intervals, surplus}
use Rattle.cache_model.proofs.Duality.{same_object-true, same_object-refl, after, earns_now, worth, extra}
use Rattle.cache_model.proofs.Sums.{sum_by-map, sum_by-filter, sum_by-flat_map, sum_by-agree, sum_by-range, sum_by-nothing}

pub ltb-suc : (a b : ℕ) → ltb (suc a) (suc b) ≡ ltb a b
ltb-suc a b = ⊎_elim (λ (h : a < b). lt-ltb (suc a) (suc b) (omega arith) ∙ sym (lt-ltb a b h)) (λ (h : b ≤ a). le-ltb (suc a) (suc b) (omega arith) ∙ sym (le-ltb a b h)) (cases_lt a b)

pub slice_range-suc : {X : Type 0} (x : X) (xs : List X) (a b : ℕ) → slice_range (x ∷ xs) (suc a) (suc b) ≡ slice_range xs a b
slice_range-suc x xs a b = let e : suc b - suc a ≡ b - a = omega arith in ap (λ k. take k (drop a xs)) e

pub same_object-sym : (x y : Object) → same_object x y ≡ same_object y x
same_object-sym x y = at (same_object x y) (same_object y x) refl refl
  where
    at : (s t : Bool) → same_object x y ≡ s → same_object y x ≡ t → s ≡ t
    at true true e f = refl
    at false false e f = refl
    at true false e f = let xy : x ≡ y = same_object-true x y e in let own : same_object x x ≡ true = same_object-refl x in cc
    at false true e f = let yx : y ≡ x = same_object-true y x f in let own : same_object x x ≡ true = same_object-refl x in cc

-- what the pair (a, b) adds
abbrev pub pair_surplus : (ℕ → Bool) → Objective → ℕ → ℕ → ℕ → List Object → List ℕ → ℕ → ℕ → ℕ
pair_surplus counted o c u d trace prices a b =
    let x = request_at trace a in
    cond (nat_lt a b && same_object x (request_at trace b) && not (list_any (same_object x) (slice_range trace (a + 1) b)) && nat_le x.size c && counted b)
    (surplus u d prices (interval_of o trace a b)) 0

pub surplus_by_pairs : (terms : Terms) (u d : ℕ) (trace : List Object) (prices : List ℕ)
    → sum_by (surplus u d prices) (eligible_intervals terms trace)
    ≡ sum_by (λ a. sum_by (pair_surplus (counts terms) terms.objective terms.capacity u d trace prices a) (range_with_len 0 (length trace))) (range_with_len 0 (length trace))
surplus_by_pairs terms u d trace prices =
    let requests : List ℕ = range_with_len 0 (length trace) in
    sum_by-flat_map (surplus u d prices) (λ a. map (interval_of terms.objective trace a) (filter (is_eligible terms trace a) requests)) requests
    ∙ sum_by-agree _ _ requests (λ a. sum_by-map (surplus u d prices) (interval_of terms.objective trace a) (filter (is_eligible terms trace a) requests)
    ∙ sum_by-filter (λ b. surplus u d prices (interval_of terms.objective trace a b)) (is_eligible terms trace a) requests)

-- a pair of later requests
pair_surplus-suc : (counted : ℕ → Bool) (o : Objective) (c u d : ℕ) (r : Object) (trace : List Object) (q : ℕ) (prices : List ℕ) (a b : ℕ)
    → pair_surplus counted o c u d (r ∷ trace) (q ∷ prices) (suc a) (suc b) ≡ pair_surplus (after counted) o c u d trace prices a b
pair_surplus-suc counted o c u d r trace q prices a b =
    let x : Object = request_at trace a in
    let y : Object = request_at trace b in
    let F : Bool → List Object → Bool → List ℕ → ℕ = λ lt between counts ps.
    cond (lt && same_object x y && not (list_any (same_object x) between) && nat_le x.size c && counts) (d * gain_of o y - (x.size / u) * sum ps) 0 in
    let e : suc a + 1 ≡ suc (a + 1) = omega arith in
    let l : List Object = slice_range (r ∷ trace) (suc a + 1) (suc b) in
    let p : List ℕ = slice_range (q ∷ prices) (suc a) (suc b) in
    let counts : Bool = counted (suc b) in
    ap (λ t. F t l counts p) (ltb-suc a b)
    ∙ ap (λ s. F (ltb a b) s counts p) (ap (λ k. slice_range (r ∷ trace) k (suc b)) e ∙ slice_range-suc r trace (a + 1) b)
    ∙ ap (λ s. F (ltb a b) (slice_range trace (a + 1) b) counts s) (slice_range-suc q prices a b)

-- no pair ends at the first request
pair_surplus-zero : (counted : ℕ → Bool) (o : Objective) (c u d : ℕ) (trace : List Object) (prices : List ℕ) (a : ℕ) → pair_surplus counted o c u d trace prices a 0 ≡ 0
pair_surplus-zero counted o c u d trace prices a =
    let x : Object = request_at trace a in
    let y : Object = request_at trace 0 in
    ap (λ t. cond (t && same_object x y && not (list_any (same_object x) (slice_range trace (a + 1) 0)) && nat_le x.size c && counted 0) (surplus u d prices (interval_of o trace a 0)) 0)
    (le-ltb a 0 (omega arith))

-- a pair that begins at the first request, with s of prices paid before
abbrev first_surplus : (ℕ → Bool) → Objective → ℕ → ℕ → ℕ → Object → ℕ → List Object → List ℕ → ℕ → ℕ
first_surplus counted o c u d r s trace prices b =
    cond (same_object r (request_at trace b) && not (list_any (same_object r) (take b trace)) && nat_le r.size c && counted b)
    (d * gain_of o (request_at trace b) - (r.size / u) * (s + sum (take b prices))) 0

pair_surplus-first : (counted : ℕ → Bool) (o : Objective) (c u d : ℕ) (r : Object) (trace : List Object) (q : ℕ) (prices : List ℕ) (b : ℕ)
    → pair_surplus counted o c u d (r ∷ trace) (q ∷ prices) 0 (suc b) ≡ first_surplus (after counted) o c u d r q trace prices b
pair_surplus-first counted o c u d r trace q prices b =
    let y : Object = request_at trace b in
    let F : Bool → ℕ → Bool → ℕ → ℕ = λ lt k counts n.
    cond (lt && same_object r y && not (list_any (same_object r) (take k trace)) && nat_le r.size c && counts) (d * gain_of o y - (r.size / u) * n) 0 in
    let e : suc b - 1 ≡ b = omega arith in
    let e0 : suc b - 0 ≡ suc b = omega arith in
    let f : sum (slice_range (q ∷ prices) 0 (suc b)) ≡ q + sum (take b prices) =
    ap (λ k. sum (take k (q ∷ prices))) e0 ∙ sum_by-cons (λ (n : ℕ). n) q (take b prices) in
    let paid : ℕ = sum (slice_range (q ∷ prices) 0 (suc b)) in
    let counts : Bool = counted (suc b) in
    ap (λ t. F t (suc b - 1) counts paid) (lt-ltb 0 (suc b) (omega arith))
    ∙ ap (λ k. F true k counts paid) e
    ∙ ap (λ n. F true b counts n) f

abbrev pub earns_of : Objective → ℕ → Object → ℕ
earns_of o d x = d * gain_of o x

abbrev pub counted_of : Objective → ℕ → ℕ → Object → ℕ
counted_of o c d x = cond (nat_le x.size c) (d * gain_of o x) 0

abbrev pub weight_of : ℕ → Object → ℕ
weight_of u x = x.size / u

-- the first request of r ends the interval
ends_here : (counted : ℕ → Bool) (o : Objective) (c u d : ℕ) (r : Object) (s : ℕ) (y : Object) (trace : List Object) (q : ℕ) (prices : List ℕ) → same_object r y ≡ true
    → first_surplus counted o c u d r s (y ∷ trace) (q ∷ prices) 0 ≡ earns_now (counted 0) (counted_of o c d r) - weight_of u r * s
ends_here counted o c u d r s y trace q prices e =
    let gains : gain_of o y ≡ gain_of o r = ap (gain_of o) (sym (same_object-true r y e)) in
    ap (λ t. cond (t && true && nat_le r.size c && counted 0) (d * gain_of o y - weight_of u r * (s + 0)) 0) e
    ∙ ap (λ n. cond (nat_le r.size c && counted 0) (d * n - weight_of u r * (s + 0)) 0) gains
    ∙ at (nat_le r.size c) (counted 0)
  where
    at : (t now : Bool) → cond (t && now) (d * gain_of o r - weight_of u r * (s + 0)) 0 ≡ earns_now now (cond t (d * gain_of o r) 0) - weight_of u r * s
    at true true = omega arith
    at true false = omega arith
    at false true = omega arith
    at false false = omega arith

ended_before : (counted : ℕ → Bool) (o : Objective) (c u d : ℕ) (r : Object) (s : ℕ) (y : Object) (trace : List Object) (q : ℕ) (prices : List ℕ) (k : ℕ) → same_object r y ≡ true
    → first_surplus counted o c u d r s (y ∷ trace) (q ∷ prices) (suc k) ≡ 0
ended_before counted o c u d r s y trace q prices k e =
    let value : ℕ = d * gain_of o (request_at trace k) - weight_of u r * (s + sum (q ∷ take k prices)) in
    ap (λ t. cond (same_object r (request_at trace k) && not (t || list_any (same_object r) (take k trace)) && nat_le r.size c && counted (suc k)) value 0) e
    ∙ ap (λ t. cond t value 0) (and_left _ (counted (suc k)) (and_left _ (nat_le r.size c) (and_right (same_object r (request_at trace k)) false refl)))

goes_on : (counted : ℕ → Bool) (o : Objective) (c u d : ℕ) (r : Object) (s : ℕ) (y : Object) (trace : List Object) (q : ℕ) (prices : List ℕ) (k : ℕ) → same_object r y ≡ false
    → first_surplus counted o c u d r s (y ∷ trace) (q ∷ prices) (suc k) ≡ first_surplus (after counted) o c u d r (s + q) trace prices k
goes_on counted o c u d r s y trace q prices k e =
    let z : Object = request_at trace k in
    let F : Bool → Bool → ℕ → ℕ = λ t counts n.
    cond (same_object r z && not (t || list_any (same_object r) (take k trace)) && nat_le r.size c && counts) (d * gain_of o z - weight_of u r * n) 0 in
    let paid : s + sum (q ∷ take k prices) ≡ s + q + sum (take k prices) = omega (arith, sum_by-cons (λ (n : ℕ). n) q (take k prices)) in
    ap (λ t. F t (counted (suc k)) (s + sum (q ∷ take k prices))) e
    ∙ ap (F false (counted (suc k))) paid

first_surplus_sum : (counted : ℕ → Bool) (o : Objective) (c u d : ℕ) (r : Object) (s : ℕ) (trace : List Object) (prices : List ℕ) → length prices ≡ length trace
    → sum_by (first_surplus counted o c u d r s trace prices) (range_with_len 0 (length trace)) ≡ worth counted (counted_of o c d) (weight_of u) trace prices r - weight_of u r * s
first_surplus_sum counted o c u d r s [] prices same = omega arith
first_surplus_sum counted o c u d r s (y ∷ trace) [] same = absurd (omega arith)
first_surplus_sum counted o c u d r s (y ∷ trace) (q ∷ prices) same =
    sum_by-range (first_surplus counted o c u d r s (y ∷ trace) (q ∷ prices)) (length trace)
    ∙ at (same_object r y) refl (first_surplus_sum (after counted) o c u d r (s + q) trace prices (omega arith))
  where
    g : Object → ℕ
    g = counted_of o c d

    w : Object → ℕ
    w = weight_of u

    later : List ℕ
    later = range_with_len 0 (length trace)

    at : (t : Bool) → same_object r y ≡ t
        → sum_by (first_surplus (after counted) o c u d r (s + q) trace prices) later ≡ worth (after counted) g w trace prices r - w r * (s + q)
        → first_surplus counted o c u d r s (y ∷ trace) (q ∷ prices) 0 + sum_by (λ k. first_surplus counted o c u d r s (y ∷ trace) (q ∷ prices) (suc k)) later
        ≡ worth counted g w (y ∷ trace) (q ∷ prices) r - w r * s
    at true e rest =
        let turned : same_object y r ≡ true = same_object-sym y r ∙ e in
        let value : worth counted g w (y ∷ trace) (q ∷ prices) r ≡ earns_now (counted 0) (g r) = ap (λ t. cond t (earns_now (counted 0) (g r)) (worth (after counted) g w trace prices r - w r * q)) turned in
        omega (
          arith,
          ends_here counted o c u d r s y trace q prices e,
          sum_by-nothing (λ k. first_surplus counted o c u d r s (y ∷ trace) (q ∷ prices) (suc k)) later (λ k. ended_before counted o c u d r s y trace q prices k e),
        )
    at false e rest =
        let turned : same_object y r ≡ false = same_object-sym y r ∙ e in
        let value : worth counted g w (y ∷ trace) (q ∷ prices) r ≡ worth (after counted) g w trace prices r - w r * q =
        ap (λ t. cond t (earns_now (counted 0) (g r)) (worth (after counted) g w trace prices r - w r * q)) turned in
        let first : first_surplus counted o c u d r s (y ∷ trace) (q ∷ prices) 0 ≡ 0 =
        ap (λ t. cond (t && true && nat_le r.size c && counted 0) (d * gain_of o y - w r * (s + 0)) 0) e in
        omega (
          arith,
          sum_by-agree (λ k. first_surplus counted o c u d r s (y ∷ trace) (q ∷ prices) (suc k)) (first_surplus (after counted) o c u d r (s + q) trace prices) later
              (λ k. goes_on counted o c u d r s y trace q prices k e),
        )

-- the sum over all pairs is the recursion
pub surplus_by_recursion : (counted : ℕ → Bool) (o : Objective) (c u d : ℕ) (trace : List Object) (prices : List ℕ) → length prices ≡ length trace
    → sum_by (λ a. sum_by (pair_surplus counted o c u d trace prices a) (range_with_len 0 (length trace))) (range_with_len 0 (length trace))
    ≡ extra counted (counted_of o c d) (weight_of u) trace prices
surplus_by_recursion counted o c u d [] prices same = refl
surplus_by_recursion counted o c u d (r ∷ trace) [] same = absurd (omega arith)
surplus_by_recursion counted o c u d (r ∷ trace) (q ∷ prices) same =
    let n : ℕ = length trace in
    let whole : ℕ → ℕ → ℕ = pair_surplus counted o c u d (r ∷ trace) (q ∷ prices) in
    let of_start : ℕ → ℕ = λ a. sum_by (whole a) (range_with_len 0 (suc n)) in
    let first : of_start 0 ≡ worth (after counted) (counted_of o c d) (weight_of u) trace prices r - weight_of u r * q =
    sum_by-range (whole 0) n
    ∙ (omega (
      arith,
      pair_surplus-zero counted o c u d (r ∷ trace) (q ∷ prices) 0,
      sum_by-agree (λ b. whole 0 (suc b)) (first_surplus (after counted) o c u d r q trace prices) (range_with_len 0 n) (pair_surplus-first counted o c u d r trace q prices),
      first_surplus_sum (after counted) o c u d r q trace prices (omega arith),
    )) in
    let others : (a : ℕ) → of_start (suc a) ≡ sum_by (pair_surplus (after counted) o c u d trace prices a) (range_with_len 0 n) = λ a.
    sum_by-range (whole (suc a)) n
    ∙ (omega (
      arith,
      pair_surplus-zero counted o c u d (r ∷ trace) (q ∷ prices) (suc a),
      sum_by-agree (λ b. whole (suc a) (suc b)) (pair_surplus (after counted) o c u d trace prices a) (range_with_len 0 n) (pair_surplus-suc counted o c u d r trace q prices a),
    )) in
    sum_by-range of_start n
    ∙ omega (
      arith,
      first,
      sum_by-agree (λ a. of_start (suc a)) (λ a. sum_by (pair_surplus (after counted) o c u d trace prices a) (range_with_len 0 n)) (range_with_len 0 n) others,
      surplus_by_recursion (after counted) o c u d trace prices (omega arith),
    )
