-- If all sizes are equal, weights are at most 1, and full flows alone are worth what all flows are.
use Rattle.std.proofs.Common.{◌≡◌, ◌≢◌, ℕ, suc, ◌+◌, ◌*◌, ◌/◌, ◌<◌, ◌≤◌, ◌∙◌, sym, refl, ap, subst, Bool, true, ◌&&◌, ◌||◌, ◌==◌, cond, List, [], ◌∷◌, length, get_or, arith, ⊎_elim, All, sum_by, zip}
use Rattle.std.specs.Prelude.{AllPairs}
use Rattle.std.specs.List.{range_with_len, AllZip}
use Rattle.std.proofs.lemmas.Bool.{cases_eq, le-leb, or_left, eq-eqb, ne_eqb}
use Rattle.std.proofs.lemmas.List.Elements.{All-head, All-tail}
use Rattle.std.proofs.lemmas.List.Sums.{sum_by-cons}
use Rattle.std.proofs.lemmas.Nat.{div_below, div-mul-add}
use Prim.Native.Nat.{◌∣◌}
use Rattle.std.proofs.lemmas.Nat.Gcd.{dvd_antisymm, dvd_refl}
use Rattle.std.proofs.Math.Nat.{one-dvd, div-zero, div-one, mul-one, mul-zero, mul-add, mul-le-mul_left, le_of_mul-le-mul_left}
use Rattle.cache_model.specs.declared.objects.Object.{Object}
use Rattle.cache_model.specs.declared.intervals.Interval.{Interval}
use Rattle.cache_model.specs.Intervals.{eligible_intervals, bound_of}
use Rattle.cache_model.specs.Laws.{IsEligible}
use Rattle.cache_model.specs.Objects.{IsNext}
use Rattle.cache_model.specs.Claim.{Terms, IsAllowed, score, gain_of, holds, held_before, contents_of, is_kept, request_at}
use Rattle.cache_model.specs.Rounding.{IsRounded, fits_beside}
use Rattle.cache_model.specs.Schedules.{IsFractionalSchedule, flow_value}
use Rattle.cache_model.specs.Units.{IsUnit, HasWholeCosts, weight}
use Rattle.cache_model.proofs.Members.{All-eligible_intervals, intervals_are_eligible}
use Rattle.cache_model.proofs.Scores.{earned_at, holds-next, score-requests}
use Rattle.cache_model.proofs.Steps.{no_policy_scores_more_lem}
use Rattle.cache_model.proofs.Streams.{sum_by-range_one}
use Rattle.interval_maker.specs.Timelines.{no_interval}
use Rattle.interval_maker.proofs.Timelines.{same_next}
use Rattle.schedule_round.specs.Laws.{full_flags, IsBestSchedule}
use Rattle.schedule_round.proofs.Lists.{AllZip-weaker}

-- ---- weights

-- a number that all sizes are is the unit, or there is none
one_unit : (intervals : List Interval) (size unit : ℕ) → All (λ i. i.size ≡ size) intervals → IsUnit intervals unit → (k : ℕ) → k < length intervals → unit ≡ size
one_unit intervals size unit same is k low =
    dvd_antisymm
    (subst (λ n. unit ∣ n) (same k no_interval low) (is.divides k no_interval low))
    (is.greatest (λ none. let empty : length intervals ≡ 0 = ap length none in omega arith) size (λ j d in_list. subst (λ n. size ∣ n) (sym (same j d in_list)) (dvd_refl size)))

weight-le_one : (intervals : List Interval) (size unit : ℕ) → All (λ i. i.size ≡ size) intervals → IsUnit intervals unit → All (λ i. weight unit i ≤ 1) intervals
weight-le_one intervals size unit same is k d low =
    let of_size : weight unit (get_or intervals k d) ≡ size / size = ap (λ n. n / unit) (same k d low) ∙ ap (λ n. size / n) (one_unit intervals size unit same is k low) in
    ⊎_elim
    (λ (none : size ≡ 0). omega (arith, of_size, ap (λ n. size / n) none, div-zero size))
    (λ (some : size ≢ 0). omega (arith, of_size, div_below size size 2 (omega arith) (omega arith)))
    (cases_eq size 0)

pub equal_sizes_whole : (intervals : List Interval) (size unit denominator : ℕ) → 0 < size → All (λ i. i.size ≡ size) intervals → IsUnit intervals unit → HasWholeCosts intervals unit denominator
equal_sizes_whole intervals size unit denominator some same is k d low =
    let full : (1 * size + 0) / size ≡ 1 = div-mul-add 1 size 0 some in
    let whole : 1 * size + 0 ≡ size = omega arith in
    let one : weight unit (get_or intervals k d) ≡ 1 =
    ap (λ n. n / unit) (same k d low) ∙ ap (λ n. size / n) (one_unit intervals size unit same is k low) ∙ ap (λ n. n / size) (sym whole) ∙ full in
    subst (λ w. w ∣ denominator * (get_or intervals k d).gain) (sym one) (one-dvd (denominator * (get_or intervals k d).gain))

-- ---- what is kept and what is earned

-- sums that agree at each element
sum_by-agree : {X : Type 0} (f g : X → ℕ) (xs : List X) → All (λ x. f x ≡ g x) xs → sum_by f xs ≡ sum_by g xs
sum_by-agree f g [] same = refl
sum_by-agree f g (x ∷ xs) same =
    omega (arith, sum_by-cons f x xs, sum_by-cons g x xs, All-head (λ y. f y ≡ g y) x xs same, sum_by-agree f g xs (All-tail (λ y. f y ≡ g y) x xs same))

-- amounts at different numbers below n are within those of all numbers below n
sum_by-ends : (f : ℕ → ℕ) (n : ℕ) (items : List Interval) → AllPairs (λ i j. i.end ≢ j.end) items → All (λ i. i.end < n) items → sum_by (λ i. f i.end) items ≤ sum_by f (range_with_len 0 n)
sum_by-ends f n [] apart below = omega arith
sum_by-ends f n (i ∷ items) apart below =
    let g : ℕ → ℕ = λ t. cond (t == i.end) 0 (f t) in
    let here : i.end < n = All-head (λ j. j.end < n) i items below in
    let without : sum_by f (range_with_len 0 n) ≡ sum_by g (range_with_len 0 n) + f i.end =
    sum_by-range_one f g i.end (f i.end) 0 n (omega arith) (omega arith) (omega (arith, ap {B = ℕ} (λ b. cond b 0 (f i.end)) (eq-eqb i.end i.end refl))) (λ k _ _ other. sym (ap {B = ℕ} (λ b. cond b 0 (f k)) (ne_eqb k i.end other))) in
    let later : sum_by (λ (j : Interval). f j.end) items ≡ sum_by (λ (j : Interval). g j.end) items =
    sum_by-agree (λ (j : Interval). f j.end) (λ (j : Interval). g j.end) items
    (λ k d low. sym (ap {B = ℕ} (λ b. cond b 0 (f (get_or items k d).end)) (ne_eqb (get_or items k d).end i.end (λ same. apart 0 (suc k) d (omega arith) (omega arith) (sym same))))) in
    omega (
      arith,
      sum_by-cons (λ (j : Interval). f j.end) i items,
      without,
      later,
      sum_by-ends g n items (λ j k d low high. apart (suc j) (suc k) d (omega arith) (omega arith)) (All-tail (λ j. j.end < n) i items below),
    )

-- the gains of the intervals whose start is kept
abbrev pub kept_gain : List Bool → List Interval → ℕ
kept_gain keeps intervals = sum_by (λ i. cond (is_kept keeps i.start) i.gain 0) intervals

-- the contents of keeps score at least the gains of the intervals that are kept
pub kept_gain-le-score : (terms : Terms) (trace : List Object) (keeps : List Bool) → kept_gain keeps (eligible_intervals terms trace) ≤ score terms trace (contents_of trace keeps)
kept_gain-le-score terms trace keeps =
    omega (
      arith,
      score-requests terms trace keeps,
      sum_by-agree (λ (i : Interval). cond (is_kept keeps i.start) i.gain 0) (λ (i : Interval). earned_at terms trace keeps i.end) items earned,
      sum_by-ends (earned_at terms trace keeps) (length trace) items apart (λ k d low. (each k d low).next.within),
    )
  where
    items : List Interval
    items = eligible_intervals terms trace

    each : All (IsEligible terms trace) items
    each = All-eligible_intervals terms trace

    earned : All (λ (i : Interval). cond (is_kept keeps i.start) i.gain 0 ≡ earned_at terms trace keeps i.end) items
    earned k d low =
        let i : Interval = get_or items k d in
        let el : IsEligible terms trace i = each k d low in
        ap {B = ℕ} (λ g. cond (is_kept keeps i.start) g 0) (ap (λ (j : Interval). j.gain) el.numbers)
        ∙ ap {B = ℕ} (λ b. cond b (gain_of terms.objective (request_at trace i.end)) 0) (sym (holds-next trace i.end el.next.within keeps i.start el.next))
        ∙ sym (ap {B = ℕ} (λ b. cond (b && holds (held_before trace keeps i.end) (request_at trace i.end)) (gain_of terms.objective (request_at trace i.end)) 0) el.counts)

    apart : AllPairs (λ (i j : Interval). i.end ≢ j.end) items
    apart m n d before low same =
        let i : Interval = get_or items m d in
        let j : Interval = get_or items n d in
        let rising : i.start < j.start = (intervals_are_eligible terms trace).in_order m n d before low in
        let one : i.start ≡ j.start = same_next trace i.start j.start j.end (subst (IsNext trace i.start) same (each m d (omega arith)).next) (each n d low).next in
        omega arith

-- ---- flows

-- where weights are at most 1, flows are worth no more than the gains of what is kept, if that is all that is full
flow_value-le : (unit denominator : ℕ) (keeps : List Bool) (items : List Interval) (flows : List ℕ) → All (λ i. weight unit i ≤ 1) items → AllZip (λ i f. f ≤ weight unit i) items flows
    → AllZip (λ i flagged. flagged ≡ true → is_kept keeps i.start ≡ true) items (full_flags unit items flows) → flow_value items unit denominator flows ≤ denominator * kept_gain keeps items
flow_value-le unit denominator keeps [] flows light fits full = omega arith
flow_value-le unit denominator keeps (i ∷ items) [] light fits full = absurd fits
flow_value-le unit denominator keeps (i ∷ items) (f ∷ flows) light fits full =
    omega (
      arith,
      sum_by-cons (λ (p : Interval × ℕ). (denominator * p.0.gain / weight unit p.0) * p.1) (i, f) (zip items flows),
      ap (λ n. denominator * n) (sum_by-cons (λ (j : Interval). cond (is_kept keeps j.start) j.gain 0) i items),
      mul-add denominator (cond (is_kept keeps i.start) i.gain 0) (kept_gain keeps items),
      one,
      flow_value-le unit denominator keeps items flows (All-tail (λ j. weight unit j ≤ 1) i items light) fits.1 full.1,
    )
  where
    one : (denominator * i.gain / weight unit i) * f ≤ denominator * cond (is_kept keeps i.start) i.gain 0
    one =
        ⊎_elim
        (λ (none : f ≡ 0). omega (arith, ap (λ k. (denominator * i.gain / weight unit i) * k) none, mul-zero (denominator * i.gain / weight unit i)))
        (λ (some : f ≢ 0).
        let within : f ≤ weight unit i = fits.0 in
        let light_here : weight unit i ≤ 1 = All-head (λ j. weight unit j ≤ 1) i items light in
        let f_one : f ≡ 1 = omega arith in
        let w_one : weight unit i ≡ 1 = omega arith in
        let kept : is_kept keeps i.start ≡ true = full.0 (eq-eqb f (weight unit i) (f_one ∙ sym w_one)) in
        omega (
          arith,
          ap (λ k. (denominator * i.gain / weight unit i) * k) f_one,
          mul-one (denominator * i.gain / weight unit i),
          ap (λ w. denominator * i.gain / w) w_one,
          div-one (denominator * i.gain),
          ap {B = ℕ} (λ b. denominator * cond b i.gain 0) kept,
        ))
        (cases_eq f 0)

pub best_schedule : (terms : Terms) (trace : List Object) (size unit denominator : ℕ) (prices flows : List ℕ) (ahead : Interval → Interval → Bool) (keeps : List Bool)
    → All (λ i. i.size ≡ size) (eligible_intervals terms trace)
    → IsUnit (eligible_intervals terms trace) unit
    → length prices ≡ length trace
    → IsFractionalSchedule (eligible_intervals terms trace) unit (terms.capacity / unit) flows
    → bound_of (eligible_intervals terms trace) unit (terms.capacity / unit) denominator prices ≡ flow_value (eligible_intervals terms trace) unit denominator flows
    → IsRounded ahead (eligible_intervals terms trace) terms.capacity (length trace) (full_flags unit (eligible_intervals terms trace) flows) keeps
    → IsAllowed terms.capacity trace (contents_of trace keeps)
    → IsBestSchedule terms trace denominator (bound_of (eligible_intervals terms trace) unit (terms.capacity / unit) denominator prices) keeps
best_schedule terms trace size unit denominator prices flows ahead keeps same is priced scheduled equal rounded allowed = record {
  equal = met;
  best = λ some contents play. le_of_mul-le-mul_left (omega (arith, met, above contents play)) some;
}
  where
    -- weak duality
    above : (contents : List (List Object)) → IsAllowed terms.capacity trace contents → denominator * score terms trace contents ≤ bound_of (eligible_intervals terms trace) unit (terms.capacity / unit) denominator prices
    above contents play = no_policy_scores_more_lem terms unit denominator trace prices contents play priced

    -- what is full is kept
    full_kept : AllZip (λ (i : Interval) (flagged : Bool). flagged ≡ true → is_kept keeps i.start ≡ true) (eligible_intervals terms trace) (full_flags unit (eligible_intervals terms trace) flows)
    full_kept =
        AllZip-weaker
        (λ (i : Interval) (flagged : Bool). is_kept keeps i.start ≡ (flagged || fits_beside ahead (eligible_intervals terms trace) terms.capacity (full_flags unit (eligible_intervals terms trace) flows) keeps i))
        (λ (i : Interval) (flagged : Bool). flagged ≡ true → is_kept keeps i.start ≡ true)
        (λ i flagged same_as on. same_as ∙ or_left flagged _ on)
        (eligible_intervals terms trace) (full_flags unit (eligible_intervals terms trace) flows) rounded.taken

    met : bound_of (eligible_intervals terms trace) unit (terms.capacity / unit) denominator prices ≡ denominator * score terms trace (contents_of trace keeps)
    met =
        omega (
          arith,
          equal,
          above (contents_of trace keeps) allowed,
          flow_value-le unit denominator keeps (eligible_intervals terms trace) flows (weight-le_one (eligible_intervals terms trace) size unit same is) scheduled.within_weights full_kept,
          mul-le-mul_left denominator (kept_gain-le-score terms trace keeps),
        )
