-- Where the blocks of a round begin and end, and what is settled after each.
use Rattle.std.proofs.Common.{◌≡◌, ◌∙◌, ℕ, ◌+◌, ◌/◌, ◌<◌, ◌≤◌, ap, sym, subst, refl, arith, List, filter, take, ⊎_elim, length-take, below_more}
use Rattle.std.proofs.Math.Nat.{lt-mul-div-succ}
use Rattle.std.proofs.lemmas.Bool.{cases_lt}
use Rattle.std.proofs.lemmas.List.{ext_get_or}
use Rattle.std.proofs.lemmas.List.Elements.{All-filter, All-take}
use Rattle.std.proofs.lemmas.List.Sums.{count_by-le-length, length-filter}
use Rattle.cache_model.specs.declared.intervals.Interval.{Interval}
use Rattle.cache_model.specs.Units.{weight}
use Rattle.interval_maker.specs.Timelines.{IsInterval}
use Rattle.price_refine.specs.declared.block.Block.{Block}
use Rattle.price_refine.specs.declared.pricing.Pricing.{Pricing}
use Rattle.price_refine.specs.Blocks.{AgreeOutside}
use Rattle.price_refine.specs.Parts.{AreCounted, AreSumsBeside, IsBlock, IsSettled, IsSettling, bound_in}
use Rattle.price_refine.specs.Rounds.{AreNoWorse, CanSettle, HasSettled, numbered_block, place_of}
use Rattle.price_refine.proofs.Gatherings.{ends_after}
use Rattle.price_refine.proofs.Settled.{agree_self}

-- the first block begins at step 0
pub place_first : (whole : Block) (width : ℕ) → place_of whole width 0 ≡ 0
place_first whole width = omega arith

-- each begins where the one before it ends
pub place-order : (whole : Block) (width k : ℕ) → place_of whole width k ≤ place_of whole width (k + 1)
place-order whole width k = omega arith

pub place-le : (whole : Block) (width k : ℕ) → place_of whole width k ≤ whole.end
place-le whole width k = omega arith

-- the last one ends at the end of all
pub place_last : (whole : Block) (width : ℕ) → 1 ≤ width → place_of whole width (whole.end / width + 2) ≡ whole.end
place_last whole width some = omega (arith, lt-mul-div-succ whole.end {b = width} (omega arith))

-- prices that agree outside of no step
pub agree_everywhere : (first end : ℕ) (prices others : List ℕ) → end ≤ first → AgreeOutside first end prices others → others ≡ prices
agree_everywhere first end prices others none agree =
    ext_get_or 0 others prices agree.steps
    (λ t within.
    ⊎_elim
    (λ (low : t < first). agree.before t low)
    (λ (high : first ≤ t). agree.after t (omega arith))
    (cases_lt t first))

-- a block with no step is settled
pub settled_none : (block : Block) (items : List Interval) (prices : List ℕ) → block.end ≤ block.first → IsSettling items block prices prices 0
settled_none block items prices none = record {
  agree = agree_self block.first block.end prices;
  settled = λ others agree. omega (arith, ap (bound_in block items) (agree_everywhere block.first block.end prices others none agree));
  falls = omega arith;
  stays = λ zero. refl;
}

-- some of the intervals
pub counted_kept : (steps unit since next : ℕ) (items met : List Interval) → AreCounted steps unit items → met ≡ filter (ends_after since) (take next items) → AreCounted steps unit met
counted_kept steps unit since next items met counted kept =
    subst (AreCounted steps unit) (sym kept)
    (record {
      few = omega (arith, length-filter (ends_after since) (take next items), count_by-le-length (ends_after since) (take next items), length-take next items, counted.few);
      intervals = All-filter (ends_after since) (IsInterval steps) (take next items) (All-take (IsInterval steps) next items counted.intervals);
      weights = All-filter (ends_after since) (λ i. 1 ≤ weight unit i) (take next items) (All-take (λ i. 1 ≤ weight unit i) next items counted.weights);
    })

-- prices are no worse than themselves, nor after one more block
pub worse_none : (whole : Block) (items : List Interval) (prices : List ℕ) → AreNoWorse whole items prices prices
worse_none whole items prices = record { each_step = refl; last = refl; bound = omega arith }

pub worse_more : (whole block : Block) (items : List Interval) (old now new : List ℕ) (fall : ℕ) → AreNoWorse whole items old now → IsSettling items block now new fall → block.end ≤ whole.end
    → ((prices : List ℕ) → bound_in block items prices ≡ bound_in whole items prices) → AreNoWorse whole items old new
worse_more whole block items old now new fall before settling within same = record {
  each_step = settling.agree.steps ∙ before.each_step;
  last = settling.agree.after whole.end within ∙ before.last;
  bound = omega (arith, settling.falls, before.bound, same now, same new);
}

-- nothing is settled at first, and one more block after each
pub settled_first : (whole : Block) (width : ℕ) (items : List Interval) (prices : List ℕ) → HasSettled whole width items 0 prices prices 0
settled_first whole width items prices = record { falls = omega arith; stays = λ none. refl; settled = λ none k low. absurd (omega arith) }

pub settled_more : (whole : Block) (width n : ℕ) (items : List Interval) (old now new : List ℕ) (fall fallen : ℕ) → HasSettled whole width items n old now fall
    → IsSettling items (numbered_block whole width n) now new fallen → HasSettled whole width items (n + 1) old new (fall + fallen)
settled_more whole width n items old now new fall fallen before settling =
    let same : fall + fallen ≡ 0 → new ≡ old = λ none. settling.stays (omega (arith, none)) ∙ before.stays (omega (arith, none)) in
    record {
      falls = omega (arith, before.falls, settling.falls);
      stays = same;
      settled = λ none.
          let Settled : ℕ → Type 0 = λ k. IsSettled items (numbered_block whole width k) old in
          let here : Settled n = subst (IsSettled items (numbered_block whole width n)) (same none) settling.settled in
          below_more Settled n (before.settled (omega (arith, none))) here;
    }

-- prices that are no worse can be settled too, with their sums
pub still_ready : (whole : Block) (width : ℕ) (items : List Interval) (old new : Pricing) → CanSettle whole width items old → AreNoWorse whole items old.prices.items new.prices.items
    → AreSumsBeside whole.end whole.end new.prices.items new.sums.items → CanSettle whole width items new
still_ready whole width items old new ready no_worse are = record {
  block = subst (λ n. IsBlock n whole) (sym no_worse.each_step) ready.block;
  from_first = ready.from_first;
  to_last = ready.to_last ∙ sym no_worse.each_step;
  some_width = ready.some_width;
  counted = subst (λ n. AreCounted n whole.unit items) (sym no_worse.each_step) ready.counted;
  in_order = ready.in_order;
  small_bound = omega (arith, no_worse.bound, ready.small_bound);
  sums = are;
}
