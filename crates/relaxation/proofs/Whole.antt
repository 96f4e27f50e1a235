-- Denominators that round no cost, as intervals are added one by one.
use Rattle.std.proofs.Common.{⊎_elim, ◌≡◌, ℕ, ◌+◌, ◌*◌, ◌/◌, ◌%◌, ◌<◌, ◌≤◌, ◌↔◌, refl, sym, ap, subst, arith, true, false, List, [], ◌∷◌, ◌++◌, length, take, get_or, All}
use Rattle.std.specs.Prelude.{IsTrue, IsNone, Some}
use Rattle.std.specs.Int.{IsGcd}
use Rattle.std.specs.List.{list_all}
use Prim.Native.Nat.{◌∣◌}
use Rattle.std.proofs.lemmas.Bool.{eqb-true, eq-eqb, cases_lt, false≢true}
use Rattle.std.proofs.lemmas.List.{take_more, take-take, take_all}
use Rattle.std.proofs.lemmas.List.Elements.{All-nil, All-cons, All-head, All-tail, All-push, All-weaker, All-take}
use Rattle.std.proofs.lemmas.List.Sums.{AllPass-from_list_all, list_all-from_AllPass}
use Rattle.std.proofs.lemmas.Nat.Gcd.{dvd_trans, le_of_dvd, dvd_of_mod-eq-zero, mod-eq-zero_of_dvd}
use Rattle.std.proofs.Math.Nat.{mul-dvd-mul_right, one-dvd, div-mul_cancel}
use Rattle.bound_base.specs.Multiples.{IsLcm}
use Rattle.bound_base.proofs.Multiples.{All-prefix, All-last, gcd_of, lcm_of, IsLcm_positive}
use Rattle.cache_model.specs.declared.intervals.Interval.{Interval}
use Rattle.cache_model.specs.Units.{weight, HasWholeCosts, IsLeastWhole}
use Rattle.cache_model.proofs.Units.{weight-dvd_iff}
use Rattle.interval_maker.specs.Timelines.{Timeline, IsInterval, IsTimeline}
use Rattle.relaxation.specs.declared.denominators.DenominatorChoice.TheVariants.{Auto}
use Rattle.relaxation.specs.Denominators.{IsChosen, PassesMost, IsFirstPast, has_whole_cost, most}

-- the weights are above 0
abbrev pub HaveWeights : ℕ → List Interval → Type 0
HaveWeights unit intervals = All (λ i. 1 ≤ weight unit i) intervals

-- a denominator that rounds no cost rounds none at a multiple of it
whole_at_multiple : (xs : List Interval) (unit d e : ℕ) → d ∣ e → HasWholeCosts xs unit d → HasWholeCosts xs unit e
whole_at_multiple xs unit d e divides whole =
    All-weaker (λ i. weight unit i ∣ d * i.gain) (λ i. weight unit i ∣ e * i.gain) (λ i w. dvd_trans (weight unit i) w (mul-dvd-mul_right d divides i.gain)) xs whole

-- no interval rounds nothing over 1
pub least_none : (unit : ℕ) → IsLeastWhole [] unit 1
least_none unit = record { positive = omega arith; whole = All-nil (λ i. weight unit i ∣ 1 * i.gain); multiples = λ d _. one-dvd d }

-- with one more interval the least is the common multiple with its reduced weight
least_push : (xs : List Interval) (x : Interval) (unit m g n : ℕ) → 1 ≤ weight unit x → IsLeastWhole xs unit m → IsGcd (weight unit x) x.gain g → IsLcm m (weight unit x / g) n → 0 < n
    → IsLeastWhole (xs ++ x ∷ []) unit n
least_push xs x unit m g n some least gcd lcm positive =
    let at_n : (weight unit x ∣ n * x.gain) ↔ (weight unit x / g ∣ n) = weight-dvd_iff (weight unit x) x.gain g n (omega arith) gcd in
    record {
      positive = positive;
      whole = All-push (λ i. weight unit i ∣ n * i.gain) xs x (whole_at_multiple xs unit m n lcm.of_first least.whole) (at_n.1 lcm.of_second);
      multiples = λ d whole.
          lcm.least d (least.multiples d (All-prefix (λ i. weight unit i ∣ d * i.gain) xs (x ∷ []) whole))
          ((weight-dvd_iff (weight unit x) x.gain g d (omega arith) gcd).0 (All-last (λ i. weight unit i ∣ d * i.gain) xs x whole));
    }

-- and so in prefix
least_cons : (xs : List Interval) (x : Interval) (unit m g n : ℕ) → 1 ≤ weight unit x → IsLeastWhole xs unit m → IsGcd (weight unit x) x.gain g → IsLcm m (weight unit x / g) n → 0 < n
    → IsLeastWhole (x ∷ xs) unit n
least_cons xs x unit m g n some least gcd lcm positive =
    let at_n : (weight unit x ∣ n * x.gain) ↔ (weight unit x / g ∣ n) = weight-dvd_iff (weight unit x) x.gain g n (omega arith) gcd in
    record {
      positive = positive;
      whole = All-cons (λ i. weight unit i ∣ n * i.gain) x xs (at_n.1 lcm.of_second) (whole_at_multiple xs unit m n lcm.of_first least.whole);
      multiples = λ d whole.
          lcm.least d (least.multiples d (All-tail (λ i. weight unit i ∣ d * i.gain) x xs whole))
          ((weight-dvd_iff (weight unit x) x.gain g d (omega arith) gcd).0 (All-head (λ i. weight unit i ∣ d * i.gain) x xs whole));
    }

-- a weight over its greatest common divisor with the gain is above 0
pub reduced_positive : (w x g : ℕ) → 1 ≤ w → IsGcd w x g → 0 < w / g
reduced_positive w x g some gcd =
    let back : w / g * g ≡ w = div-mul_cancel g gcd.0 in
    ⊎_elim
    (λ (low : 0 < w / g). low)
    (λ (none : w / g ≤ 0).
    let product : w / g * g ≡ 0 * g = ap (λ n. n * g) (omega arith) in absurd (omega arith))
    (cases_lt 0 (w / g))

-- some denominator is the least
pub least_of : (xs : List Interval) (unit : ℕ) → HaveWeights unit xs → (least : ℕ) × IsLeastWhole xs unit least
least_of [] unit weights = (1, least_none unit)
least_of (x ∷ xs) unit weights =
    let Weighs : Interval → Type 0 = λ i. 1 ≤ weight unit i in
    let some : 1 ≤ weight unit x = All-head Weighs x xs weights in
    let later = least_of xs unit (All-tail Weighs x xs weights) in
    let gcd = gcd_of (weight unit x) x.gain in
    let reduced : 0 < weight unit x / gcd.0 = reduced_positive (weight unit x) x.gain gcd.0 some gcd.1 in
    let lcm = lcm_of later.0 (weight unit x / gcd.0) later.1.positive in
    (lcm.0, least_cons xs x unit later.0 gcd.0 lcm.0 some later.1 gcd.1 lcm.1 (IsLcm_positive later.0 (weight unit x / gcd.0) lcm.0 later.1.positive reduced lcm.1))

-- ---- a loop over the intervals, of which the first k are done

-- the least of the first k rounds nothing and is within the limit
pub record IsSoFar (intervals : List Interval) (unit k least : ℕ) : Type 0 where
  pub least_is : IsLeastWhole (take k intervals) unit least
  pub within : least ≤ most

pub so_far_none : (intervals : List Interval) (unit : ℕ) → IsSoFar intervals unit 0 1
so_far_none intervals unit = record { least_is = least_none unit; within = omega arith }

pub so_far_more : (intervals : List Interval) (unit k : ℕ) (d : Interval) (m g n : ℕ) → k < length intervals → HaveWeights unit intervals → IsSoFar intervals unit k m
    → IsGcd (weight unit (get_or intervals k d)) (get_or intervals k d).gain g → IsLcm m (weight unit (get_or intervals k d) / g) n → n ≤ most
    → IsSoFar intervals unit (k + 1) n
so_far_more intervals unit k d m g n in_range weights before gcd lcm small =
    let x : Interval = get_or intervals k d in
    let some : 1 ≤ weight unit x = weights k d in_range in
    let positive : 0 < n = IsLcm_positive m (weight unit x / g) n before.least_is.positive (reduced_positive (weight unit x) x.gain g some gcd) lcm in
    record {
      least_is = subst (λ xs. IsLeastWhole xs unit n) (sym (take_more intervals k d in_range)) (least_push (take k intervals) x unit m g n some before.least_is gcd lcm positive);
      within = small;
    }

-- fewer intervals have no greater least
least-le : (xs : List Interval) (unit k m n : ℕ) → IsLeastWhole (take k xs) unit m → IsLeastWhole xs unit n → m ≤ n
least-le xs unit k m n few all = le_of_dvd all.positive (few.multiples n (All-take (λ i. weight unit i ∣ n * i.gain) k xs all.whole))

-- where the first k pass the limit, all do
pub past_all : (xs : List Interval) (unit k : ℕ) → HaveWeights unit xs → PassesMost (take k xs) unit → PassesMost xs unit
past_all xs unit k weights past =
    let all = least_of xs unit weights in
    (all.0, all.1, omega (arith, past.2, least-le xs unit k past.0 all.0 past.1 all.1))

-- where the least is within the limit, no fewer pass it
pub none_past : (xs : List Interval) (unit m k : ℕ) → IsLeastWhole xs unit m → m ≤ most → PassesMost (take k xs) unit → ⊥
none_past xs unit m k least small past = omega (arith, past.2, least-le xs unit k past.0 m past.1 least)

-- the limit is passed with the interval k
pub first_past : (intervals : List Interval) (unit k : ℕ) (d : Interval) (m g : ℕ) → k < length intervals → HaveWeights unit intervals → IsSoFar intervals unit k m
    → IsGcd (weight unit (get_or intervals k d)) (get_or intervals k d).gain g
    → ((n : ℕ) → IsLcm m (weight unit (get_or intervals k d) / g) n → most < n)
    → IsFirstPast intervals unit (k + 1)
first_past intervals unit k d m g in_range weights before gcd passes =
    let x : Interval = get_or intervals k d in
    let some : 1 ≤ weight unit x = weights k d in_range in
    let lcm = lcm_of m (weight unit x / g) before.least_is.positive in
    let positive : 0 < lcm.0 = IsLcm_positive m (weight unit x / g) lcm.0 before.least_is.positive (reduced_positive (weight unit x) x.gain g some gcd) lcm.1 in
    record {
      within = omega arith;
      past = (
        lcm.0,
        subst (λ xs. IsLeastWhole xs unit lcm.0) (sym (take_more intervals k d in_range)) (least_push (take k intervals) x unit m g lcm.0 some before.least_is gcd lcm.1 positive),
        passes lcm.0 lcm.1,
      );
      none_before = λ j low past.
          none_past (take k intervals) unit m j before.least_is before.within (subst (λ xs. PassesMost xs unit) (sym (take-take j k intervals (omega arith))) past);
    }

-- all are done
pub so_far_all : (intervals : List Interval) (unit k m : ℕ) → length intervals ≤ k → IsSoFar intervals unit k m → IsLeastWhole intervals unit m × (m ≤ most)
so_far_all intervals unit k m past so_far = (subst (λ xs. IsLeastWhole xs unit m) (take_all k intervals past) so_far.least_is, so_far.within)

-- a multiple that is found is within the limit
pub found_within : (a b n limit : ℕ) → IsLcm a b n → ((m : ℕ) → IsLcm a b m → IsNone {T = ℕ} (Some n) ↔ (limit < m)) → n ≤ limit
found_within a b n limit lcm none_iff =
    ⊎_elim (λ (past : limit < n). absurd (false≢true (sym ((none_iff n lcm).1 past)))) (λ (low : n ≤ limit). low) (cases_lt limit n)

-- ---- the tests

-- the test of all intervals says that no cost is rounded
pub whole_iff : (xs : List Interval) (unit d : ℕ) → IsTrue (list_all (has_whole_cost unit d) xs) ↔ HasWholeCosts xs unit d
whole_iff xs unit d = (
  λ passes.
      All-weaker (λ i. has_whole_cost unit d i ≡ true) (λ i. weight unit i ∣ d * i.gain)
      (λ i pass. dvd_of_mod-eq-zero (weight unit i) (eqb-true (d * i.gain % weight unit i) 0 pass)) xs (AllPass-from_list_all (has_whole_cost unit d) xs passes),
  λ whole.
      list_all-from_AllPass (has_whole_cost unit d) xs
      (All-weaker (λ i. weight unit i ∣ d * i.gain) (λ i. has_whole_cost unit d i ≡ true)
      (λ i divides. eq-eqb (d * i.gain % weight unit i) 0 (mod-eq-zero_of_dvd (weight unit i) divides)) xs whole),
)

-- past the limit the greatest denominator rounds some cost
pub most_rounds : (xs : List Interval) (unit : ℕ) → PassesMost xs unit → HasWholeCosts xs unit most → ⊥
most_rounds xs unit past whole =
    let least-le-most : past.0 ≤ most = le_of_dvd {m = past.0} {n = most} (omega arith) (past.1.multiples most whole) in
    omega (arith, past.2)

-- an interval whose size the unit divides has a weight
pub weights_of : (xs : List Interval) (unit : ℕ) → 1 ≤ unit → All (λ i. 1 ≤ i.size) xs → All (λ i. unit ∣ i.size) xs → HaveWeights unit xs
weights_of xs unit positive sizes divides = λ k d lt.
    let size : 1 ≤ (get_or xs k d).size = sizes k d lt in
    let back : (get_or xs k d).size / unit * unit ≡ (get_or xs k d).size = div-mul_cancel unit (divides k d lt) in
    ⊎_elim
    (λ (low : 0 < (get_or xs k d).size / unit). omega arith)
    (λ (none : (get_or xs k d).size / unit ≤ 0).
    let product : (get_or xs k d).size / unit * unit ≡ 0 * unit = ap (λ n. n * unit) (omega arith) in absurd (omega arith))
    (cases_lt 0 ((get_or xs k d).size / unit))

-- so the intervals of a timeline have weights
pub timeline_weights : (line : Timeline) (unit : ℕ) → IsTimeline line → 1 ≤ unit → All (λ i. unit ∣ i.size) line.items → HaveWeights unit line.items
timeline_weights line unit is_line positive divides =
    weights_of line.items unit positive
    (All-weaker (IsInterval line.steps) (λ i. 1 ≤ i.size) (λ i fits. fits.size.0) line.items is_line.intervals) divides

-- the least is chosen, and rounds no cost
pub chosen_least : (xs : List Interval) (unit d : ℕ) → IsLeastWhole xs unit d → IsTrue true ↔ HasWholeCosts xs unit d
chosen_least xs unit d least = (λ _. least.whole, λ _. refl)

-- past the limit the greatest denominator is chosen
pub chosen_most : (xs : List Interval) (unit n : ℕ) → HaveWeights unit xs → IsFirstPast xs unit n → IsChosen Auto xs unit most
chosen_most xs unit n weights first =
    let past = past_all xs unit n weights first.past in
    (past.0, past.1, omega (arith, past.2))

-- and it rounds some cost
pub most_is_not_whole : (xs : List Interval) (unit n : ℕ) → HaveWeights unit xs → IsFirstPast xs unit n → IsTrue false ↔ HasWholeCosts xs unit most
most_is_not_whole xs unit n weights first = (λ no. absurd (false≢true no), λ whole. absurd (most_rounds xs unit (past_all xs unit n weights first.past) whole))

-- the least that is within the limit is not refused
pub within_not_past : {P : Type 0} (xs : List Interval) (unit d : ℕ) → IsLeastWhole xs unit d → d ≤ most → PassesMost xs unit → P
within_not_past xs unit d least small past = absurd (none_past xs unit d (length xs) least small (subst (λ ys. PassesMost ys unit) (sym (take_all (length xs) xs (omega arith))) past))
