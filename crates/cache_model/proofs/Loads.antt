-- The load of the intervals over a step is the sum over the latest request of each object.
use Rattle.std.proofs.Common.{◌≡◌, ℕ, ◌+◌, ◌-◌, ◌<◌, ◌≤◌, ◌∙◌, sym, refl, ap, subst, Bool, true, false, not, ◌==◌, cond, List, [], ◌∷◌, length, arith, ⊎_elim, Any, sum_by, zip, map, get_or, slice_range}
use Rattle.std.specs.List.{range_with_len, list_any}
use Rattle.std.proofs.lemmas.Bool.{cases_Bool, cases_lt, and_left, and_right, and_from, lt-ltb, le-ltb, le-leb, lt-leb, eqb-true}
use Rattle.std.proofs.lemmas.List.Folds.{Any-from_list_any}
use Rattle.std.proofs.lemmas.List.Sums.{sum_by-cons}
use Rattle.cache_model.specs.declared.objects.Object.{Object}
use Rattle.cache_model.specs.declared.intervals.Interval.{Interval}
use Rattle.cache_model.specs.Claim.{Terms, counts, same_object, request_at, no_object, is_latest}
use Rattle.cache_model.specs.Intervals.{interval_of, eligible_from, eligible_intervals}
use Rattle.cache_model.specs.Objects.{IsNext}
use Rattle.cache_model.specs.Schedules.{covers, load_at}
use Rattle.cache_model.specs.Keeps.{latest_sum}
use Rattle.cache_model.specs.Laws.{IsEligible}
use Rattle.cache_model.proofs.Sums.{sum_by-flat_map}
use Rattle.cache_model.proofs.Streams.{sum_by-range_agree}
use Rattle.cache_model.proofs.Eligible.{eligible_from_one, list_any-range_false, list_any-range_true}
use Rattle.cache_model.proofs.Members.{All-eligible_from, All-eligible_intervals}
use Rattle.cache_model.proofs.Rounding.{sum_by-none, sum_by-range_upto}

cond_zero : (b : Bool) (n : ℕ) → n ≡ 0 → cond b n 0 ≡ 0
cond_zero true n e = e
cond_zero false n e = refl

-- an amount for each interval, by a function
pub load_at-map : (h : Interval → ℕ) (t : ℕ) (intervals : List Interval) → load_at intervals (map h intervals) t ≡ sum_by (λ i. cond (covers t i) (h i) 0) intervals
load_at-map h t [] = refl
load_at-map h t (i ∷ intervals) =
    omega (arith, load_at-map h t intervals, sum_by-cons (λ (i, amount). cond (covers t i) amount 0) (i, h i) (zip intervals (map h intervals)), sum_by-cons (λ i. cond (covers t i) (h i) 0) i intervals)

module _ (terms : Terms) (trace : List Object) (g : ℕ → ℕ) (t : ℕ) where
  share : Interval → ℕ
  share i = cond (covers t i) (g i.start) 0

  own : ℕ → ℕ
  own a = cond (is_latest trace (t + 1) a) (g a) 0

  no_amount : (a : ℕ) → g a ≡ 0 → own a ≡ sum_by share (eligible_from terms trace a)
  unfolding share own
  no_amount a e =
      cond_zero (is_latest trace (t + 1) a) (g a) e
      ∙ sym (sum_by-none share (eligible_from terms trace a)
      (λ k d lt. let i : Interval = get_or (eligible_from terms trace a) k d in let from : i.start ≡ a = (All-eligible_from terms trace a k d lt).1 in
      cond_zero (covers t i) (g i.start) (ap g from ∙ e)))

  started : (a b : ℕ) → a ≤ t → t < length trace → IsNext trace a b → (request_at trace a).size ≤ terms.capacity → counts terms b ≡ true → own a ≡ sum_by share (eligible_from terms trace a)
  unfolding share own
  started a b low high n fits counted =
      let i : Interval = interval_of terms.objective trace a b in
      let of_start : eligible_from terms trace a ≡ i ∷ [] = eligible_from_one terms trace a b n fits counted in
      let one : sum_by share (eligible_from terms trace a) ≡ cond (covers t i) (g a) 0 = ap (sum_by share) of_start ∙ (omega (arith, sum_by-cons share i [])) in
      let p : Object → Bool = same_object (request_at trace a) in
      ⊎_elim
      (λ (before : t < b).
      let none : list_any p (slice_range trace (a + 1) (t + 1)) ≡ false =
      list_any-range_false p trace no_object (a + 1) (t + 1) (omega arith) (λ k l h. n.others k (omega arith) (omega arith)) in
      ap (λ s. cond (not s) (g a) 0) none ∙ sym (one ∙ ap (λ s. cond s (g a) 0) (and_from _ _ (le-leb a t low) (lt-ltb t b before))))
      (λ (after : b ≤ t).
      let again : list_any p (slice_range trace (a + 1) (t + 1)) ≡ true =
      list_any-range_true p trace no_object (a + 1) (t + 1) b (let l : a < b = n.before in omega arith) (omega arith) (omega arith) n.same in
      ap (λ s. cond (not s) (g a) 0) again ∙ sym (one ∙ ap (λ s. cond s (g a) 0) (and_right _ _ (le-ltb t b after))))
      (cases_lt t b)

  each_share : ((a : ℕ) → list_any (λ i. i.start == a) (eligible_intervals terms trace) ≡ false → g a ≡ 0)
      → t < length trace → (a : ℕ) → a ≤ t → own a ≡ sum_by share (eligible_from terms trace a)
  each_share only high a low =
      ⊎_elim
      (λ (starts : list_any (λ i. i.start == a) (eligible_intervals terms trace) ≡ true). found (Any-from_list_any (λ i. i.start == a) (eligible_intervals terms trace) starts))
      (λ (none : list_any (λ i. i.start == a) (eligible_intervals terms trace) ≡ false). no_amount a (only a none))
      (cases_Bool (list_any (λ i. i.start == a) (eligible_intervals terms trace)))
    where
      found : Any (λ i. (i.start == a) ≡ true) (eligible_intervals terms trace) → own a ≡ sum_by share (eligible_from terms trace a)
      found (k, i, lt, at, starts) =
          let el : IsEligible terms trace i = subst (IsEligible terms trace) at (All-eligible_intervals terms trace k i lt) in
          let here : i.start ≡ a = eqb-true i.start a starts in
          started a i.end low high (subst (λ j. IsNext trace j i.end) here el.next) (subst (λ j. (request_at trace j).size ≤ terms.capacity) here el.fits) el.counts

  later_share : (a : ℕ) → t + 1 ≤ a → sum_by share (eligible_from terms trace a) ≡ 0
  unfolding share
  later_share a late =
      sum_by-none share (eligible_from terms trace a)
      (λ k d lt. let i : Interval = get_or (eligible_from terms trace a) k d in let from : i.start ≡ a = (All-eligible_from terms trace a k d lt).1 in
      ap (λ s. cond s (g i.start) 0) (and_left _ _ (lt-leb i.start t (omega arith))))

  -- the flows over step t are those of the latest requests
  pub load-latest : ((a : ℕ) → list_any (λ i. i.start == a) (eligible_intervals terms trace) ≡ false → g a ≡ 0)
      → t < length trace → load_at (eligible_intervals terms trace) (map (λ i. g i.start) (eligible_intervals terms trace)) t ≡ latest_sum trace g (t + 1)
  unfolding share own
  load-latest only high =
      let of_start : ℕ → ℕ = λ a. sum_by share (eligible_from terms trace a) in
      let size : length trace ≡ (t + 1) + (length trace - (t + 1)) = omega arith in
      load_at-map (λ i. g i.start) t (eligible_intervals terms trace)
      ∙ sum_by-flat_map share (eligible_from terms trace) (range_with_len 0 (length trace))
      ∙ ap (λ n. sum_by of_start (range_with_len 0 n)) size
      ∙ sum_by-range_upto of_start (t + 1) (length trace - (t + 1)) later_share
      ∙ sym (sum_by-range_agree own of_start 0 (t + 1) (λ a low lt. each_share only high a (omega arith)))
