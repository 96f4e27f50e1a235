-- Prices of a block that are replaced.
use Rattle.std.proofs.Common.{◌≡◌, ◌∙◌, ℕ, ◌+◌, ◌-◌, ◌<◌, ◌≤◌, ap, sym, arith, Bool, true, false, ⊎_elim, List, ◌++◌, length, get_or, take, drop, sum, length-append, length-drop}
use Rattle.std.proofs.lemmas.Bool.{cases_Bool}
use Rattle.std.proofs.lemmas.List.{get_or-take, get_or-drop, length-take-le}
use Rattle.std.proofs.lemmas.Slice.{take-put_mid_below, drop-put_mid}
use Rattle.flow_model.proofs.Sums.{sum-slice_range}
use borrow.Rule.Slice.PartMut.{put_mid}
use Rattle.price_refine.specs.declared.block.Block.{Block}
use Rattle.price_refine.specs.Blocks.{AgreeOutside}
use Rattle.price_refine.specs.Parts.{AreSumsBeside, IsChoice}
use Rattle.price_refine.proofs.Exchange.{prices_of, sum_split}
use Rattle.price_refine.proofs.Settled.{agree_self}
use Rattle.price_refine.proofs.Slices.{same_after, same_before}

-- prices with a new part
pub replaced : (xs ys : List ℕ) (a b : ℕ) → a ≤ b → b ≤ length xs → length ys ≡ b - a → AgreeOutside a b xs (put_mid a (b - a) xs ys)
replaced xs ys a b order within long =
    let new : List ℕ = put_mid a (b - a) xs ys in
    let after : drop b new ≡ drop b xs = drop-put_mid a (b - a) xs ys b (omega arith) (omega arith) long in
    let before : take a new ≡ take a xs = take-put_mid_below a (b - a) xs ys a (omega arith) (omega arith) in
    record {
      steps = omega (
        arith,
        length-append (take a xs) (ys ++ drop (b - a) (drop a xs)),
        length-append ys (drop (b - a) (drop a xs)),
        length-take-le a xs (omega arith),
        length-drop (b - a) (drop a xs),
        length-drop a xs,
      );
      before = λ t low. sym (get_or-take a new t 0 low) ∙ ap (λ (zs : List ℕ). get_or zs t 0) before ∙ get_or-take a xs t 0 low;
      after = λ t high.
          let e : b + (t - b) ≡ t = omega arith in
          ap (λ n. get_or new n 0) (sym e) ∙ sym (get_or-drop b new (t - b) 0) ∙ ap (λ (zs : List ℕ). get_or zs (t - b) 0) after ∙ get_or-drop b xs (t - b) 0
          ∙ ap (λ n. get_or xs n 0) e;
    }

-- the sums outside of the block stay right
pub beside_replaced : (block : Block) (old new sums : List ℕ) → AgreeOutside block.first block.end old new → block.first < block.end → AreSumsBeside block.first block.first old sums
    → AreSumsBeside block.first block.end new sums
beside_replaced block old new sums agree order are = record {
  one_more = are.one_more ∙ ap (λ n. n + 1) (sym agree.steps);
  before = λ t low within.
      are.before t low (omega (arith, agree.steps))
      ∙ omega (arith, sum-slice_range old 0 t (omega arith), sum-slice_range new 0 t (omega arith), ap sum (same_before block.first block.end 0 t old new agree low));
  behind = λ s t high before within.
      are.behind s t (omega arith) before (omega (arith, agree.steps))
      ∙ ap (λ n. get_or sums s 0 + n) (sym (ap sum (same_after block.first block.end s t old new agree (omega arith))));
}

-- the sum of all prices grows by no more than that of the new part
pub sum_replaced : (block : Block) (old new : List ℕ) → AgreeOutside block.first block.end old new → block.first < block.end → block.end ≤ length old
    → sum new ≤ sum old + sum (prices_of block new)
sum_replaced block old new agree order within =
    omega (arith, sum_split block order old new agree within, sum_split block order old old (agree_self block.first block.end old) within)

-- so does a choice of prices
pub choice-small : (block : Block) (old found new : List ℕ) (is_better : Bool) (most : ℕ) → IsChoice block old found is_better new → block.first < block.end → block.end ≤ length old
    → sum old ≤ most → sum new ≤ most + sum found
choice-small block old found new is_better most choice order within small =
    ⊎_elim
    (λ (better : is_better ≡ true). omega (arith, sum_replaced block old new choice.agree order within, ap sum (choice.taken better)))
    (λ (worse : is_better ≡ false). omega (arith, ap sum (choice.stays worse)))
    (cases_Bool is_better)
