-- The blocks of a round, one after another, and the intervals that are open at each.
use Rattle.std.specs.Prelude.{◌≡◌, ℕ, ◌+◌, ◌/◌, ◌^◌, ◌<◌, ◌≤◌, nat_lt, min, List, AllPairs, filter, length, slice_index, take}
use Rattle.cache_model.specs.declared.intervals.Interval.{Interval}
use Rattle.price_refine.specs.declared.block.Block.{Block}
use Rattle.price_refine.specs.declared.gathering.Gathered.{Gathered}
use Rattle.price_refine.specs.declared.pricing.Pricing.{Pricing}
use Rattle.price_refine.specs.Blocks.{block_start}
use Rattle.price_refine.specs.Parts.{AreCounted, AreSumsBeside, IsBlock, IsSettled, bound_in}

-- where block k begins, or the end of all blocks if it has no step
abbrev pub place_of : Block → ℕ → ℕ → ℕ
place_of whole width k = min (block_start width k) whole.end

-- block k: its end is where the next one begins
abbrev pub numbered_block : Block → ℕ → ℕ → Block
numbered_block whole width k = record whole { first = place_of whole width k; end = place_of whole width (k + 1) }

-- those of the intervals met so far are kept, in order, that end after some place at or before this one
pub record AreOpen (place : ℕ) (items : List Interval) (gathered : Gathered) : Type 0 where
  pub since : ℕ
  pub earlier : since ≤ place
  pub kept : gathered.met.items ≡ filter (λ i. nat_lt since i.end) (take gathered.next items)

-- the blocks of a width can be settled: they are all steps but the last, the intervals are in order of start, the bound is small, and the sums are those of the prices
pub record CanSettle (whole : Block) (width : ℕ) (items : List Interval) (pricing : Pricing) : Type 0 where
  pub block : IsBlock (length pricing.prices.items) whole
  pub from_first : whole.first ≡ 0
  pub to_last : whole.end + 1 ≡ length pricing.prices.items
  pub some_width : 1 ≤ width
  pub counted : AreCounted (length pricing.prices.items) whole.unit items
  pub in_order : AllPairs (λ i j. i.start < j.start) items
  pub small_bound : bound_in whole items pricing.prices.items ≤ 2 ^ 126
  pub sums : AreSumsBeside whole.end whole.end pricing.prices.items pricing.sums.items

-- prices of as many steps, with the same last price and no greater bound
pub record AreNoWorse (whole : Block) (items : List Interval) (old new : List ℕ) : Type 0 where
  pub each_step : length new ≡ length old
  pub last : slice_index new whole.end ≡ slice_index old whole.end
  pub bound : bound_in whole items new ≤ bound_in whole items old

-- the bound is smaller by the fall; if it has not fallen the prices stay, and the first n blocks are settled for them
pub record HasSettled (whole : Block) (width : ℕ) (items : List Interval) (n : ℕ) (old new : List ℕ) (fall : ℕ) : Type 0 where
  pub falls : bound_in whole items new + fall ≡ bound_in whole items old
  pub stays : fall ≡ 0 → new ≡ old
  pub settled : fall ≡ 0 → (k : ℕ) → k < n → IsSettled items (numbered_block whole width k) old

-- the same of all blocks that have a step
abbrev pub IsRound : Block → ℕ → List Interval → List ℕ → List ℕ → ℕ → Type 0
IsRound whole width items old new fall = HasSettled whole width items (whole.end / width + 2) old new fall
