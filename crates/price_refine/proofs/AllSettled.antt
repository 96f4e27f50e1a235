-- When all blocks of a width are settled.
use Rattle.std.proofs.Common.{◌≡◌, ◌∙◌, ℕ, ◌+◌, ◌*◌, ◌/◌, ◌^◌, ◌<◌, ◌≤◌, ap, sym, subst, refl, arith, List, length, get_or, replicate, sum, All, ⊎_elim}
use Rattle.std.proofs.Math.Nat.{lt-mul-div-succ, mul-le-mul_left}
use Rattle.std.proofs.lemmas.Bool.{cases_lt}
use Rattle.std.proofs.lemmas.List.{length-replicate}
use Rattle.std.proofs.lemmas.List.Sums.{sum_by-cons, sum_by-le}
use Rattle.std.proofs.lemmas.Nat.{mul-le}
use Rattle.cache_model.specs.declared.intervals.Interval.{Interval}
use Rattle.cache_model.specs.Intervals.{surplus}
use Rattle.interval_maker.specs.Timelines.{IsTimeline, Timeline}
use Prim.Native.Nat.{◌∣◌}
use Rattle.relaxation.proofs.Whole.{timeline_weights}
use Rattle.price_refine.specs.declared.block.Block.{Block}
use Rattle.price_refine.specs.Blocks.{AgreeOutside, AreSettled, block_end, block_start}
use Rattle.price_refine.specs.Parts.{AreCounted, IsSettled, bound_in}
use Rattle.price_refine.specs.Rounds.{AreNoWorse, IsRound, numbered_block, place_of}
use Rattle.price_refine.proofs.BlockPlaces.{agree_everywhere}
use Rattle.std.specs.Prelude.{suc, zero}

-- prices that agree outside of fewer steps
agree_wider : (a b c d : ℕ) (prices others : List ℕ) → c ≤ a → b ≤ d → AgreeOutside a b prices others → AgreeOutside c d prices others
agree_wider a b c d prices others low high agree = record {
  steps = agree.steps;
  before = λ t under. agree.before t (omega arith);
  after = λ t over. agree.after t (omega arith);
}

-- blocks past the last one have no step
late-start : (whole : Block) (width k : ℕ) → 1 ≤ width → whole.end / width + 2 ≤ k → whole.end ≤ block_start width k
late-start whole width k some late =
    let many : width * (whole.end / width + 2) ≤ width * k = mul-le-mul_left width late in
    omega (arith, many, lt-mul-div-succ whole.end {b = width} (omega arith))

-- all prices of a width, in what the block is counted in
abbrev pub AreAllSettled : Block → ℕ → List Interval → List ℕ → Type 0
AreAllSettled whole width items prices = AreSettled items whole.unit whole.units whole.denominator width prices

-- after a round in which the bound has not fallen
pub all_settled_round : (whole : Block) (width : ℕ) (items : List Interval) (old new : List ℕ) → 1 ≤ width → whole.end + 1 ≡ length new → IsRound whole width items old new 0 → AreAllSettled whole width items new
all_settled_round whole width items old new some last round k others agree =
    ⊎_elim
    (λ (early : k < whole.end / width + 2).
    let settled : IsSettled items (numbered_block whole width k) new = subst (IsSettled items (numbered_block whole width k)) (sym (round.stays refl)) (round.settled refl k early) in
    settled others (agree_wider (block_start width k) (block_end (length new) width k) (place_of whole width k) (place_of whole width (k + 1)) new others (omega arith) (omega arith) agree))
    (λ (late : whole.end / width + 2 ≤ k).
    let far = late-start whole width k some late in
    omega (arith, ap (bound_in whole items) (agree_everywhere (block_start width k) (block_end (length new) width k) new others (omega arith) agree)))
    (cases_lt k (whole.end / width + 2))

-- where all steps but the last are one settled block
pub all_settled_whole : (whole : Block) (width : ℕ) (items : List Interval) (new : List ℕ) → whole.first ≡ 0 → length new ≤ whole.end + 1 → IsSettled items whole new → AreAllSettled whole width items new
all_settled_whole whole width items new first last settled k others agree =
    settled others (agree_wider (block_start width k) (block_end (length new) width k) whole.first whole.end new others (omega arith) (omega arith) agree)

-- where there is no step but the last
pub all_settled_none : (whole : Block) (width : ℕ) (items : List Interval) (new : List ℕ) → length new ≤ 1 → AreAllSettled whole width items new
all_settled_none whole width items new short k others agree =
    omega (arith, ap (bound_in whole items) (agree_everywhere (block_start width k) (block_end (length new) width k) new others (omega arith) agree))

-- prices of 0 sum to 0
pub sum-zeros : (n : ℕ) → sum (replicate n 0) ≡ 0
sum-zeros zero = refl
sum-zeros (suc n) = omega (arith, sum_by-cons (λ (m : ℕ). m) 0 (replicate n 0), sum-zeros n)

-- no prices give a small bound
pub bound-zeros : (line : Timeline) (whole : Block) (prices : List ℕ) → IsTimeline line → whole.denominator ≤ 2 ^ 48 → sum prices ≡ 0 → bound_in whole line.items prices ≤ 2 ^ 121
bound-zeros line whole prices is small none =
    omega (
      arith,
      ap (λ n. whole.units * n) none,
      sum_by-le (surplus whole.unit whole.denominator prices) (2 ^ 96) line.items
          (λ k d within. omega (arith, mul-le whole.denominator (get_or line.items k d).gain (2 ^ 48) (2 ^ 48) small (is.intervals k d within).gain.1)),
      is.few_intervals,
      is.few_steps,
    )

-- prices that are no worse than others
pub worse_through : (whole : Block) (items : List Interval) (old now new : List ℕ) → AreNoWorse whole items old now → AreNoWorse whole items now new → AreNoWorse whole items old new
worse_through whole items old now new first second = record {
  each_step = second.each_step ∙ first.each_step;
  last = second.last ∙ first.last;
  bound = omega (arith, first.bound, second.bound);
}

-- the intervals of a timeline
pub counted_line : (line : Timeline) (unit : ℕ) → IsTimeline line → 1 ≤ unit → All (λ i. unit ∣ i.size) line.items → AreCounted line.steps unit line.items
counted_line line unit is some divides = record {
  few = omega (arith, is.few_intervals, is.few_steps);
  intervals = is.intervals;
  weights = timeline_weights line unit is some divides;
}

zeros-at : (n k : ℕ) → get_or {A = ℕ} (replicate n 0) k 0 ≡ 0
zeros-at zero k = refl
zeros-at (suc n) zero = refl
zeros-at (suc n) (suc k) = zeros-at n k

pub zeros-bound : (line : Timeline) (whole : Block) (n : ℕ) (new : List ℕ) → IsTimeline line → whole.denominator ≤ 2 ^ 48 → new ≡ replicate n 0 → bound_in whole line.items new ≤ 2 ^ 121
zeros-bound line whole n new is small none = bound-zeros line whole new is small (ap sum none ∙ sum-zeros n)

-- no prices are no worse than prices of no smaller bound
pub zeros-worse : (whole : Block) (items : List Interval) (old new : List ℕ) → new ≡ replicate (length old) 0 → get_or old whole.end 0 ≡ 0
    → bound_in whole items new ≤ bound_in whole items old → AreNoWorse whole items old new
zeros-worse whole items old new none last below = record {
  each_step = ap length none ∙ length-replicate (length old) 0;
  last = ap (λ (ps : List ℕ). get_or ps whole.end 0) none ∙ zeros-at (length old) whole.end ∙ sym last;
  bound = below;
}
