-- The unit of intervals, found one interval after another.
use Rattle.std.proofs.Common.{◌≡◌, ◌≢◌, ◌∙◌, refl, ℕ, ◌+◌, ◌<◌, ◌≤◌, ◌^◌, subst, sym, arith, List, [], ◌∷◌, length, take, get_or, All}
use Rattle.std.specs.Int.{IsGcd}
use Prim.Native.Nat.{◌∣◌}
use Rattle.std.proofs.lemmas.List.{take_all, get_or-take, length-take-le}
use Rattle.std.proofs.lemmas.List.Elements.{All-more, All-head, All-nil, All-weaker}
use Rattle.std.proofs.lemmas.Nat.Gcd.{dvd_trans, le_of_dvd}
use Rattle.std.proofs.Math.Nat.{eq-zero_of_zero-dvd}
use Rattle.cache_model.specs.declared.intervals.Interval.{Interval}
use Rattle.cache_model.specs.Units.{IsUnit}
use Rattle.interval_maker.specs.Timelines.{Timeline, IsInterval, IsTimeline}
use Rattle.relaxation.specs.Divisors.{IsGreatest}

-- what holds of the elements up to one more holds of those before it
All-before : (P : Interval → Type 0) (xs : List Interval) (k : ℕ) → k < length xs → All P (take (k + 1) xs) → All P (take k xs)
All-before P xs k within all = λ j e lt.
    let shorter : length (take k xs) ≡ k = length-take-le k xs (omega arith) in
    let longer : length (take (k + 1) xs) ≡ k + 1 = length-take-le (k + 1) xs (omega arith) in
    let low : j < k = omega arith in
    subst P (get_or-take (k + 1) xs j e (omega arith) ∙ sym (get_or-take k xs j e low)) (all j e (omega arith))

-- and of the last of them
All-last : (P : Interval → Type 0) (xs : List Interval) (k : ℕ) (d : Interval) → k < length xs → All P (take (k + 1) xs) → P (get_or xs k d)
All-last P xs k d within all =
    let longer : length (take (k + 1) xs) ≡ k + 1 = length-take-le (k + 1) xs (omega arith) in
    subst P (get_or-take (k + 1) xs k d (omega arith)) (all k d (omega arith))

pub one_more_size : (xs : List Interval) (k : ℕ) (d : Interval) (u g : ℕ) → k < length xs → IsGreatest (take k xs) u → IsGcd u (get_or xs k d).size g → IsGreatest (take (k + 1) xs) g
one_more_size xs k d u g within so_far gcd = record {
  divides = All-more (λ (i : Interval). g ∣ i.size) xs k d within (λ j e lt. dvd_trans g gcd.0 (so_far.divides j e lt)) gcd.1;
  greatest = λ v all. gcd.2 v (so_far.greatest v (All-before (λ (i : Interval). v ∣ i.size) xs k within all)) (All-last (λ (i : Interval). v ∣ i.size) xs k d within all);
}

-- a greatest divisor of 0 is that of no size at all, whose unit is 1
pub unit_of_none : (xs : List Interval) (u : ℕ) → All (λ i. 1 ≤ i.size) xs → IsGreatest xs u → u ≡ 0 → IsUnit xs 1
unit_of_none [] u sizes found zero = record {
  one_if_none = λ _. refl;
  divides = All-nil (λ (i : Interval). 1 ∣ i.size);
  greatest = λ some. absurd (some refl);
}
unit_of_none (i ∷ xs) u sizes found zero =
    let divides : u ∣ i.size = All-head (λ (j : Interval). u ∣ j.size) i xs found.divides in
    let none : i.size ≡ 0 = eq-zero_of_zero-dvd (subst (λ n. n ∣ i.size) zero divides) in
    let size : 1 ≤ i.size = All-head (λ (j : Interval). 1 ≤ j.size) i xs sizes in
    absurd (omega arith)

pub unit_of_some : (xs : List Interval) (u : ℕ) → IsGreatest xs u → u ≢ 0 → IsUnit xs u
unit_of_some xs u found some = record {
  one_if_none = λ none. absurd (some (eq-zero_of_zero-dvd (found.greatest 0 (subst (All (λ i. 0 ∣ i.size)) (sym none) (All-nil (λ (i : Interval). 0 ∣ i.size))))));
  divides = found.divides;
  greatest = λ _. found.greatest;
}

-- a loop past the end has come through all
pub whole_greatest : (xs : List Interval) (k u : ℕ) → length xs ≤ k → IsGreatest (take k xs) u → IsGreatest xs u
whole_greatest xs k u past found = subst (λ ys. IsGreatest ys u) (take_all k xs past) found

-- the unit of a timeline, found so
pub unit_of_timeline_none : (line : Timeline) (u : ℕ) → IsTimeline line → IsGreatest line.items u → u ≡ 0 → IsUnit line.items 1
unit_of_timeline_none line u is_line found zero = unit_of_none line.items u (All-weaker (IsInterval line.steps) (λ i. 1 ≤ i.size) (λ i fits. fits.size.0) line.items is_line.intervals) found zero

-- a divisor of sizes is small
pub divisor_small : (line : Timeline) (u : ℕ) → IsTimeline line → IsGreatest line.items u → u ≢ 0 → u ≤ 2 ^ 48
divisor_small line u is_line found some = at line.items is_line.intervals found
  where
    at : (xs : List Interval) → All (IsInterval line.steps) xs → IsGreatest xs u → u ≤ 2 ^ 48
    at [] fits greatest = absurd (some (eq-zero_of_zero-dvd (greatest.greatest 0 (All-nil (λ (i : Interval). 0 ∣ i.size)))))
    at (i ∷ xs) fits greatest =
        let here : IsInterval line.steps i = All-head (IsInterval line.steps) i xs fits in
        let size : 1 ≤ i.size = here.size.0 in
        let least : u ≤ i.size = le_of_dvd {m = u} {n = i.size} (omega arith) (All-head (λ (j : Interval). u ∣ j.size) i xs greatest.divides) in
        omega (arith, here.size.1)
