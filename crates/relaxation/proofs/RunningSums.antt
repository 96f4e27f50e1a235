-- The sums of prices up to each step, made step by step.
use Rattle.std.proofs.Common.{◌≡◌, ◌∙◌, ℕ, ◌+◌, ◌-◌, ◌*◌, ◌/◌, ◌<◌, ◌≤◌, sym, ap, refl, subst, arith, List, [], ◌∷◌, ◌++◌, length, take, drop, get_or, sum, slice_range, ⊎_elim}
use Rattle.std.proofs.lemmas.Bool.{cases_lt}
use Rattle.std.proofs.lemmas.List.{get_or_append_left, take_all, take-take, length-append, get_or_default}
use Rattle.std.proofs.lemmas.List.FromFn.{fill_by_all}
use Rattle.std.proofs.lemmas.Slice.{between_is}
use Rattle.std.proofs.lemmas.List.Sums.{sum_by_more, sum_by-take-le, sum_by-take-drop}
use Rattle.std.proofs.Math.Nat.{mul-le-mul_left, mul-div-le, lt-mul-div-succ}
use Rattle.std.proofs.Math.Seq.{get_or-append_seam}
use Rattle.std.proofs.lemmas.Nat.{le-div}
use Rattle.relaxation.specs.Prices.{AreSums, IsFirstPast, Priced, most_paid, rises_of}

-- the sums before each of the first k steps and after the last of them, and the newest of them, which is within the limit
pub record IsRunning (prices : List ℕ) (k limit sum_now : ℕ) (sums : List ℕ) : Type 0 where
  pub one_more : length sums ≡ k + 1
  pub each : (t : ℕ) → t ≤ k → get_or sums t 0 ≡ sum (take t prices)
  pub newest : sum_now ≡ sum (take k prices)
  pub within : sum_now ≤ limit

pub running_none : (prices : List ℕ) (limit : ℕ) (sums : List ℕ) → sums ≡ 0 ∷ [] → IsRunning prices 0 limit 0 sums
running_none prices limit sums e = subst (IsRunning prices 0 limit 0) (sym e) (record {
  one_more = refl;
  each = λ t low. let first : t ≡ 0 = omega arith in ap (λ n. get_or (0 ∷ []) n 0) first ∙ ap (λ n. sum (take n prices)) (sym first);
  newest = refl;
  within = omega arith;
})

pub running_more : (prices : List ℕ) (k limit before after : ℕ) (sums more : List ℕ) → k < length prices → IsRunning prices k limit before sums
    → after ≡ before + get_or prices k 0 → after ≤ limit → more ≡ sums ++ after ∷ [] → IsRunning prices (k + 1) limit after more
running_more prices k limit before after sums more in_range so_far grown small e =
    let total : after ≡ sum (take (k + 1) prices) = omega (arith, sum_by_more (λ (n : ℕ). n) prices k 0 in_range, so_far.newest) in
    subst (IsRunning prices (k + 1) limit after) (sym e) (record {
      one_more = omega (arith, so_far.one_more, length-append sums (after ∷ []));
      each = λ t low.
          ⊎_elim
          (λ (old : t < k + 1). get_or_append_left sums (after ∷ []) 0 t (omega (arith, so_far.one_more)) ∙ so_far.each t (omega arith))
          (λ (new : k + 1 ≤ t).
          let last : t ≡ length sums = omega (arith, so_far.one_more) in
          let at_last : t ≡ k + 1 = omega arith in
          ap (λ n. get_or (sums ++ after ∷ []) n 0) last ∙ get_or-append_seam sums after [] 0 ∙ total ∙ ap (λ n. sum (take n prices)) (sym at_last))
          (cases_lt t (k + 1));
      newest = total;
      within = small;
    })

-- the rises of such sums are the prices
pub rises_are_prices : (prices sums : List ℕ) → AreSums prices sums → rises_of sums ≡ prices
rises_are_prices prices sums are =
    sym (fill_by_all (λ t. get_or sums (t + 1) 0 - get_or sums t 0) prices (length sums - 1) 0 (omega (arith, are.one_more))
    (λ k low.
    let in_range : k < length prices = omega (arith, are.one_more) in
    omega (arith, are.each k (omega arith), are.each (k + 1) (omega arith), sum_by_more (λ (n : ℕ). n) prices k 0 in_range)))

-- once all prices are done
pub running_all : (prices : List ℕ) (k limit sum_now : ℕ) (sums : List ℕ) → k ≡ length prices → IsRunning prices k limit sum_now sums → AreSums prices sums
running_all prices k limit sum_now sums done so_far = record {
  one_more = omega (arith, so_far.one_more);
  each = λ t low. so_far.each t (omega arith);
}

-- a sum is within the units' share of the limit exactly if the units pay no more than it
pub paid_within : (units all : ℕ) → all ≤ most_paid / units → units * all ≤ most_paid
paid_within units all low = omega (arith, mul-le-mul_left units low, mul-div-le most_paid units)

pub paid_past : (units all : ℕ) → 1 ≤ units → most_paid / units < all → most_paid < units * all
paid_past units all some high =
    let above : most_paid / units + 1 ≤ all = omega arith in
    omega (arith, lt-mul-div-succ most_paid {b = units} (omega arith), mul-le-mul_left units above)

-- so does the sum of the first prices, if the units pay no more than the limit for all
pub first_within : (prices : List ℕ) (units k : ℕ) → 1 ≤ units → units * sum prices ≤ most_paid → sum (take k prices) ≤ most_paid / units
first_within prices units k some paid =
    le-div (sum (take k prices)) most_paid units (omega arith) (omega (arith, mul-le-mul_left units (sum_by-take-le (λ (n : ℕ). n) prices k)))

-- one more price of some that are all within the limit
pub running_within : (prices : List ℕ) (units k sum_now : ℕ) (sums more : List ℕ) → 1 ≤ units → units * sum prices ≤ most_paid → k < length prices
    → IsRunning prices k (most_paid / units) sum_now sums → more ≡ sums ++ (sum_now + get_or prices k 0) ∷ []
    → IsRunning prices (k + 1) (most_paid / units) (sum_now + get_or prices k 0) more
running_within prices units k sum_now sums more some paid in_range so_far e =
    running_more prices k (most_paid / units) sum_now (sum_now + get_or prices k 0) sums more in_range so_far refl
    (omega (arith, first_within prices units (k + 1) some paid, sum_by_more (λ (n : ℕ). n) prices k 0 in_range, so_far.newest)) e

-- the limit is passed at step k
pub running_past : (prices : List ℕ) (units k sum_now : ℕ) (sums : List ℕ) → 1 ≤ units → k < length prices → IsRunning prices k (most_paid / units) sum_now sums
    → most_paid / units < sum_now + get_or prices k 0 → IsFirstPast units prices k
running_past prices units k sum_now sums some in_range so_far past =
    let total : sum_now + get_or prices k 0 ≡ sum (take (k + 1) prices) = omega (arith, sum_by_more (λ (n : ℕ). n) prices k 0 in_range, so_far.newest) in
    record {
      within = in_range;
      past = subst (λ n. most_paid < units * n) total (paid_past units (sum_now + get_or prices k 0) some past);
      none_before = λ s low.
          let fewer : sum (take (s + 1) prices) ≤ sum (take k prices) =
          subst (λ xs. sum xs ≤ sum (take k prices)) (take-take (s + 1) k prices (omega arith)) (sum_by-take-le (λ (n : ℕ). n) (take k prices) (s + 1)) in
          paid_within units (sum (take (s + 1) prices)) (omega (arith, so_far.within, so_far.newest));
    }

-- the sum of the prices of some steps is the difference of two sums
pub sum_over : (prices sums : List ℕ) (start end : ℕ) → AreSums prices sums → start ≤ end → end ≤ length prices
    → get_or sums end 0 ≡ get_or sums start 0 + sum (slice_range prices start end)
sum_over prices sums start end are low high =
    let parts : sum (take start (take end prices)) + sum (drop start (take end prices)) ≡ sum (take end prices) = sum_by-take-drop (λ (n : ℕ). n) (take end prices) start in
    let first : take start (take end prices) ≡ take start prices = take-take start end prices low in
    let middle : drop start (take end prices) ≡ slice_range prices start end = sym (between_is prices start end) in
    omega (arith, are.each start (omega arith), are.each end high, parts, ap sum first, ap sum middle)

-- prices and the units that they are for
abbrev pub priced : ℕ → List ℕ → Priced
priced units prices = record { units = units; prices = prices }

-- what is made of all prices
pub sums_made : (prices : List ℕ) (units k sum_now : ℕ) (sums : List ℕ) → k ≡ length prices → IsRunning prices k (most_paid / units) sum_now sums
    → (AreSums (rises_of sums) sums × (units * sum (rises_of sums) ≤ most_paid)) × (priced units (rises_of sums) ≡ priced units prices) × (units * sum prices ≤ most_paid)
sums_made prices units k sum_now sums done so_far =
    let are : AreSums prices sums = running_all prices k (most_paid / units) sum_now sums done so_far in
    let same : rises_of sums ≡ prices = rises_are_prices prices sums are in
    let all : sum (take k prices) ≡ sum prices = ap sum (take_all k prices (omega arith)) in
    let paid : units * sum prices ≤ most_paid = paid_within units (sum prices) (omega (arith, so_far.within, so_far.newest)) in
    (subst (λ ps. AreSums ps sums × (units * sum ps ≤ most_paid)) (sym same) (are, paid), ap (priced units) same, paid)

-- where two sums are read, their difference is that of the prices between
pub sum_between : (prices sums : List ℕ) (start end high low : ℕ) → AreSums prices sums → start ≤ end → end ≤ length prices
    → high ≡ get_or sums end high → low ≡ get_or sums start low → high ≡ low + sum (slice_range prices start end)
sum_between prices sums start end high low are before within read_end read_start =
    let at_end : high ≡ get_or sums end 0 = read_end ∙ get_or_default sums end high 0 (omega (arith, are.one_more)) in
    let at_start : low ≡ get_or sums start 0 = read_start ∙ get_or_default sums start low 0 (omega (arith, are.one_more)) in
    omega (arith, sum_over prices sums start end are before within)
