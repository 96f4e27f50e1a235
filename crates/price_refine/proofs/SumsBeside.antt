-- Sums of prices beside a block.
use Rattle.std.proofs.Common.{◌≡◌, ◌∙◌, ℕ, ◌+◌, ◌<◌, ◌≤◌, ap, sym, arith, List, length, get_or, set, take, sum, slice_range, length-set, get_or-set_same, get_or-set_other, ⊎_elim}
use Rattle.std.proofs.lemmas.Bool.{cases_lt}
use Rattle.std.proofs.lemmas.List.Sums.{sum_by_more, sum_by_more_le, sum_by-take-le}
use Rattle.cache_model.specs.declared.intervals.Interval.{Interval}
use Rattle.flow_model.proofs.Sums.{sum-slice_range}
use Rattle.relaxation.specs.Prices.{AreSums}
use Rattle.relaxation.proofs.RunningSums.{sum_over}
use Rattle.price_refine.specs.declared.block.Block.{Block}
use Rattle.price_refine.specs.Parts.{AreBetween, AreSumsBeside, price_outside}
use Rattle.price_refine.proofs.Slices.{sum_none}

-- through the place their differences are sums of prices too
pub before_place : (place end : ℕ) (prices sums : List ℕ) (s t : ℕ) → AreSumsBeside place end prices sums → s ≤ t → t ≤ place → t < length prices
    → get_or sums t 0 ≡ get_or sums s 0 + sum (slice_range prices s t)
before_place place end prices sums s t are order low within =
    omega (arith, are.before s (omega arith) (omega arith), are.before t low within, sum-slice_range prices s t order)

-- a difference of sums is the sum of the prices between
between_is : (prices sums : List ℕ) (from to difference : ℕ) → (from < to → get_or sums to 0 ≡ get_or sums from 0 + sum (slice_range prices from to))
    → AreBetween sums from to difference → difference ≡ sum (slice_range prices from to)
between_is prices sums from to difference rises are =
    ⊎_elim
    (λ (order : from < to). omega (arith, rises order, are.in_order order))
    (λ (none : to ≤ from). are.not_in_order none ∙ sym (sum_none prices from to none))
    (cases_lt from to)

-- the prices before the block and behind it that an interval covers
pub record IsOutside (block : Block) (i : Interval) (prices sums : List ℕ) : Type 0 where
  pub before : i.start < block.first → get_or sums block.first 0 ≡ get_or sums i.start 0 + sum (slice_range prices i.start block.first)
  pub behind : block.end < i.end → get_or sums i.end 0 ≡ get_or sums block.end 0 + sum (slice_range prices block.end i.end)

pub is_outside : (block : Block) (i : Interval) (prices sums : List ℕ) → AreSumsBeside block.first block.first prices sums → block.first < block.end → i.end < length prices → block.first < i.end
    → IsOutside block i prices sums
is_outside block i prices sums are order within met = record {
  before = λ low. before_place block.first block.first prices sums i.start block.first are (omega arith) (omega arith) (omega arith);
  behind = λ high. are.behind block.end i.end order (omega arith) within;
}

pub outside_is : (block : Block) (i : Interval) (prices sums : List ℕ) (before behind : ℕ) → IsOutside block i prices sums
    → AreBetween sums i.start block.first before → AreBetween sums block.end i.end behind → before + behind ≡ price_outside block prices i
outside_is block i prices sums before behind is first second =
    omega (arith, between_is prices sums i.start block.first before is.before first, between_is prices sums block.end i.end behind is.behind second)

-- a slice sums to no more than what stands before its end
slice-le : (prices : List ℕ) (s t : ℕ) → sum (slice_range prices s t) ≤ sum (take t prices)
slice-le prices s t =
    ⊎_elim
    (λ (order : s < t). omega (arith, sum-slice_range prices s t (omega arith)))
    (λ (none : t ≤ s). omega (arith, sum_none prices s t none))
    (cases_lt s t)

-- and no more than all prices, without those before its start
slice-below : (prices : List ℕ) (s t : ℕ) → sum (take s prices) + sum (slice_range prices s t) ≤ sum prices
slice-below prices s t =
    ⊎_elim
    (λ (order : s < t). omega (arith, sum-slice_range prices s t (omega arith), sum_by-take-le (λ (n : ℕ). n) prices t))
    (λ (none : t ≤ s). omega (arith, sum_none prices s t none, sum_by-take-le (λ (n : ℕ). n) prices s))
    (cases_lt s t)

pub slice-small : (prices : List ℕ) (s t : ℕ) → sum (slice_range prices s t) ≤ sum prices
slice-small prices s t = omega (arith, slice-below prices s t)

pub outside-small : (block : Block) (i : Interval) (prices : List ℕ) → block.first < block.end → price_outside block prices i ≤ sum prices
outside-small block i prices order =
    omega (arith, slice-le prices i.start block.first, sum-slice_range prices block.first block.end (omega arith), slice-below prices block.end i.end)

-- one more sum is made
pub sum_more : (place end : ℕ) (prices sums : List ℕ) (sum_now : ℕ) → AreSumsBeside place end prices sums → place < end → end < length prices
    → sum_now ≡ get_or sums place 0 + get_or prices place 0 → AreSumsBeside (place + 1) end prices (set sums (place + 1) sum_now)
sum_more place end prices sums sum_now are low within is = record {
  one_more = length-set sums (place + 1) sum_now ∙ are.one_more;
  before = λ t under inside.
      ⊎_elim
      (λ (old : t < place + 1). get_or-set_other sums (place + 1) t sum_now 0 (λ (e : t ≡ place + 1). omega arith) ∙ are.before t (omega arith) inside)
      (λ (new : place + 1 ≤ t).
      let at_last : t ≡ place + 1 = omega arith in
      ap (λ n. get_or (set sums (place + 1) sum_now) n 0) at_last
      ∙ get_or-set_same sums (place + 1) sum_now 0 (omega (arith, are.one_more))
      ∙ omega (arith, is, are.before place (omega arith) (omega arith), sum_by_more (λ (n : ℕ). n) prices place 0 (omega arith))
      ∙ ap (λ n. sum (take n prices)) (sym at_last))
      (cases_lt t (place + 1));
  behind = λ s t high order inside.
      get_or-set_other sums (place + 1) t sum_now 0 (λ (e : t ≡ place + 1). omega arith)
      ∙ are.behind s t high order inside
      ∙ ap (λ n. n + sum (slice_range prices s t)) (sym (get_or-set_other sums (place + 1) s sum_now 0 (λ (e : s ≡ place + 1). omega arith)));
}

-- which is no more than all prices
pub sum_more-small : (place end : ℕ) (prices sums : List ℕ) → AreSumsBeside place end prices sums → place < end → end < length prices
    → get_or sums place 0 + get_or prices place 0 ≤ sum prices
sum_more-small place end prices sums are low within =
    omega (arith, are.before place (omega arith) (omega arith), sum_by_more_le (λ (n : ℕ). n) prices place 0 (omega arith))

-- sums of all prices
pub beside_all : (place end : ℕ) (prices sums : List ℕ) → AreSums prices sums → AreSumsBeside place end prices sums
beside_all place end prices sums are = record {
  one_more = are.one_more;
  before = λ t low within. are.each t (omega arith);
  behind = λ s t high order within. sum_over prices sums s t are order (omega arith);
}

-- those through the last place but one are those through any place
pub beside_last : (last place end : ℕ) (prices sums : List ℕ) → AreSumsBeside last last prices sums → length prices ≤ last + 1 → AreSumsBeside place end prices sums
beside_last last place end prices sums are short = record {
  one_more = are.one_more;
  before = λ t low within. are.before t (omega arith) within;
  behind = λ s t high order within. before_place last last prices sums s t are order (omega arith) within;
}
