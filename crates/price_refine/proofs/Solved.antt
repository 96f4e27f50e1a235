-- A block that was solved is settled.
use Rattle.std.proofs.Common.{◌≡◌, ℕ, ◌+◌, ◌-◌, ◌≤◌, ap, sym, subst, arith, true, false, List, filter, flat_map, length, All, ⊎_elim}
use Rattle.std.proofs.lemmas.Bool.{cases_Bool, ltb-true, ltb-false}
use Rattle.std.specs.Prelude.{nat_lt}
use Rattle.cache_model.specs.declared.intervals.Interval.{Interval}
use Rattle.flow_model.specs.Instances.{Instance, IsLeast, value_at}
use Rattle.price_refine.specs.declared.block.Block.{Block}
use Rattle.price_refine.specs.Parts.{AreCounted, IsBlock, IsChoice, IsSettling, arcs_of, block_instance, meets}
use Rattle.price_refine.proofs.Exchange.{IsSized, exchange, prices_of}
use Rattle.price_refine.proofs.Settled.{agree_self, settled}

-- intervals over the steps cover a step and have a weight
pub all_sized : (steps unit : ℕ) (items : List Interval) → AreCounted steps unit items → All (IsSized unit) items
all_sized steps unit items counted = λ k d within. record { order = (counted.intervals k d within).order; weight = counted.weights k d within }

-- the instance is the same for all intervals as for those that meet the block
pub same_instance : (block : Block) (prices : List ℕ) (all items : List Interval) → filter (meets block) all ≡ filter (meets block) items → block_instance block prices all ≡ block_instance block prices items
same_instance block prices all items same =
    ap (λ (met : List Interval). record { steps = block.end - block.first; units = block.units; arcs = flat_map (arcs_of block prices) met }) same

pub settling : (block : Block) (all items : List Interval) (old new found : List ℕ) (old_value new_value : ℕ) → IsBlock (length old) block → AreCounted (length old) block.unit all
    → filter (meets block) all ≡ filter (meets block) items
    → IsLeast (block_instance block old items) found
    → old_value ≡ value_at (block_instance block old items) (prices_of block old)
    → new_value ≡ value_at (block_instance block old items) found
    → IsChoice block old found (nat_lt new_value old_value) new
    → IsSettling all block old new (old_value - new_value)
settling block all items old new found old_value new_value is counted same least old_is new_is choice =
    let whole : block_instance block old all ≡ block_instance block old items = same_instance block old all items same in
    let value : List ℕ → ℕ = value_at (block_instance block old items) in
    let sized : All (IsSized block.unit) all = all_sized (length old) block.unit all counted in
    let lower : value (prices_of block new) + (old_value - new_value) ≡ value (prices_of block old) =
    ⊎_elim
    (λ (better : nat_lt new_value old_value ≡ true). omega (arith, old_is, new_is, ltb-true new_value old_value better, ap value (choice.taken better)))
    (λ (worse : nat_lt new_value old_value ≡ false).
    omega (arith, old_is, new_is, ltb-false new_value old_value worse, ap (λ (ps : List ℕ). value (prices_of block ps)) (choice.stays worse)))
    (cases_Bool (nat_lt new_value old_value)) in
    record {
      agree = choice.agree;
      settled = settled all block old new found is.order (omega (arith, is.within)) sized choice.agree
          (subst (λ (i : Instance). IsLeast i found) (sym whole) least)
          (subst (λ (i : Instance). value_at i (prices_of block new) ≤ value_at i found) (sym whole) (omega (arith, lower, old_is, new_is)));
      falls = omega (
        arith,
        exchange block is.order old all new old choice.agree (agree_self block.first block.end old) (omega (arith, is.within)) sized,
        subst (λ (i : Instance). value_at i (prices_of block new) + (old_value - new_value) ≡ value_at i (prices_of block old)) (sym whole) lower,
      );
      stays = λ none.
          ⊎_elim
          (λ (better : nat_lt new_value old_value ≡ true). absurd (omega (arith, none, ltb-true new_value old_value better)))
          (λ (worse : nat_lt new_value old_value ≡ false). choice.stays worse)
          (cases_Bool (nat_lt new_value old_value));
    }
