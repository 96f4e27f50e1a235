-- A block whose instance has least prices is settled.
use Rattle.std.proofs.Common.{◌≡◌, ◌∙◌, ℕ, ◌-◌, ◌<◌, ◌≤◌, refl, arith, List, length, drop, length-take, length-drop, All}
use Rattle.cache_model.specs.declared.intervals.Interval.{Interval}
use Rattle.flow_model.specs.Instances.{IsLeast, value_at}
use Rattle.price_refine.specs.declared.block.Block.{Block}
use Rattle.price_refine.specs.Blocks.{AgreeOutside}
use Rattle.price_refine.specs.Parts.{IsSettled, block_instance}
use Rattle.price_refine.proofs.Exchange.{IsSized, exchange, prices_of}

-- prices agree with themselves, and agreeing is passed on
pub agree_self : (first end : ℕ) (prices : List ℕ) → AgreeOutside first end prices prices
agree_self first end prices = record { steps = refl; before = λ t low. refl; after = λ t high. refl }

pub agree_through : (first end : ℕ) (prices others more : List ℕ) → AgreeOutside first end prices others → AgreeOutside first end others more → AgreeOutside first end prices more
agree_through first end prices others more agree then = record {
  steps = then.steps ∙ agree.steps;
  before = λ t low. then.before t low ∙ agree.before t low;
  after = λ t high. then.after t high ∙ agree.after t high;
}

long_slice : (block : Block) (prices : List ℕ) → block.end ≤ length prices → length (prices_of block prices) ≡ block.end - block.first
long_slice block prices within =
    length-take (block.end - block.first) (drop block.first prices) ∙ omega (arith, length-drop block.first prices)

-- prices whose value in the block is at most that of least prices there
pub settled : (items : List Interval) (block : Block) (base prices least : List ℕ) → block.first < block.end → block.end ≤ length base → All (IsSized block.unit) items
    → AgreeOutside block.first block.end base prices
    → IsLeast (block_instance block base items) least
    → value_at (block_instance block base items) (prices_of block prices) ≤ value_at (block_instance block base items) least
    → IsSettled items block prices
settled items block base prices least some within sized agree is_least low others agree_too =
    let agrees : AgreeOutside block.first block.end base others = agree_through block.first block.end base prices others agree agree_too in
    omega (
      arith,
      exchange block some base items prices others agree agrees within sized,
      is_least (prices_of block others) (long_slice block others (omega (arith, agrees.steps))),
      low,
    )
