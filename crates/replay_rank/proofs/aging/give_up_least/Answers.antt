use Rattle.std.proofs.Common.{◌≡◌, ℕ, ◌+◌, ◌<◌, ◌∙◌, sym, refl, ap, subst, List, length, arith, Some, None, heap_items}
use Rattle.std.specs.declared.option.Option.{Option}
use Rattle.std.specs.BTreeMap.{is_at}
use Rattle.std.specs.Map.{lookup}
use Rattle.std.specs.Ordering.{nat_cmp}
use Rattle.policy_model.specs.States.{used}
use Rattle.policy_model.specs.Aging.{age_at, over_floor}
use Rattle.replay_rank.specs.declared.holdings.Held.{Held}
use Rattle.replay_rank.specs.declared.aging.Ranked.{Ranked}
use Rattle.replay_rank.specs.AgingEntries.{entries_of, rank_of, AreOrdered}
use Rattle.replay_rank.proofs.Items.{some_item, used-left, fewer-left, fewer_gone, fewer_again, item_gone, item_again, item_left}
use Rattle.replay_rank.proofs.LfuOrdered.{same_rank-refl, exact_use}
use Rattle.replay_rank.proofs.AgingOrdered.{by_rank, aging_removes}
use Rattle.replay_rank.proofs.aging.give_up_least.Goals as goal

pub returns-then-is_same-clause-stock : goal.returns-then-is_same-clause-stock
returns-then-is_same-clause-stock c = λ floor.
    let pairs : List (ℕ × Held Ranked) = c.loop-rank.holdings in
    let is : lookup (is_at (nat_cmp c.in-Some.field-0.0.1)) pairs ≡ Some c.in-Some-get.held = sym c.get.ensures.found ∙ c.in-Some-get.is in
    let own : ℕ × ℕ → (ℕ × ℕ) × ℕ = λ r. (r, c.in-Some.field-0.0.1) in
    let true_rank : (rank_of c.in-Some-get.held, c.in-Some.field-0.0.1) ≡ c.in-Some.field-0.0 = ap own (sym (exact_use c.in-Some.field-0.0.0 (rank_of c.in-Some-get.held) (sym c.is_same.ensures ∙ c.if-is_same.true))) in
    ap (λ ps. over_floor c.in-Some-get.held.kept.rank (entries_of ps)) c.remove.ensures
    ∙ aging_removes pairs (heap_items c.loop-rank.order) c.loop-rank.invariant.ordered c.in-Some.field-0.0.1 c.in-Some-get.held is c.in-Some.field-0 true_rank (c.in-Some.ensures.heap_order c.loop-rank.invariant.ordered.heap).1 floor
    ∙ ap (λ ps. age_at floor (entries_of ps)) c.loop-rank.invariant.same

pub returns-then-is_same-clause-fewer : goal.returns-then-is_same-clause-fewer
returns-then-is_same-clause-fewer c =
    let is : lookup (is_at (nat_cmp c.in-Some.field-0.0.1)) c.loop-rank.holdings ≡ Some c.in-Some-get.held = sym c.get.ensures.found ∙ c.in-Some-get.is in
    ap (λ ps. length ps + 1) c.remove.ensures
    ∙ fewer-left by_rank c.loop-rank.holdings c.in-Some.field-0.0.1 c.in-Some-get.held c.loop-rank.invariant.ordered.apart is
    ∙ ap length c.loop-rank.invariant.same

pub returns-then-is_same-clause-size : goal.returns-then-is_same-clause-size
returns-then-is_same-clause-size c =
    let is : lookup (is_at (nat_cmp c.in-Some.field-0.0.1)) c.loop-rank.holdings ≡ Some c.in-Some-get.held = sym c.get.ensures.found ∙ c.in-Some-get.is in
    ap (λ ps. used (entries_of ps) + c.in-Some-get.held.size) c.remove.ensures
    ∙ used-left by_rank c.loop-rank.holdings c.in-Some.field-0.0.1 c.in-Some-get.held c.loop-rank.invariant.ordered.apart is
    ∙ ap (λ ps. used (entries_of ps)) c.loop-rank.invariant.same

pub returns-then-is_same-clause-ordered : goal.returns-then-is_same-clause-ordered
returns-then-is_same-clause-ordered c =
    subst (λ ps. AreOrdered ps (heap_items c.pop.new.self)) (sym c.remove.ensures)
    (item_left by_rank c.loop-rank.holdings (heap_items c.loop-rank.order) c.loop-rank.invariant.ordered (heap_items c.pop.new.self) c.in-Some.field-0 c.in-Some.ensures.permutation
    (c.in-Some.ensures.heap_order c.loop-rank.invariant.ordered.heap).0)

pub loop-rank-smaller-in-Some-get : goal.loop-rank-smaller-in-Some-get
loop-rank-smaller-in-Some-get c =
    let is : lookup (is_at (nat_cmp c.in-Some.field-0.0.1)) c.loop-rank.holdings ≡ Some c.in-Some-get.held = sym c.get.ensures.found ∙ c.in-Some-get.is in
    fewer_again by_rank c.loop-rank.holdings (heap_items c.loop-rank.order) (heap_items c.pop.new.self) c.in-Some.field-0 c.in-Some.ensures.permutation c.in-Some-get.held is (sym c.is_same.ensures ∙ c.if-is_same.false) same_rank-refl
    (record { 0 = (rank_of c.in-Some-get.held, c.in-Some.field-0.0.1) }) refl (heap_items c.put_back.new.order) c.put_back.ensures.items

pub loop-rank-preserved-in-Some-get : goal.loop-rank-preserved-in-Some-get
loop-rank-preserved-in-Some-get c =
    let is : lookup (is_at (nat_cmp c.in-Some.field-0.0.1)) c.loop-rank.holdings ≡ Some c.in-Some-get.held = sym c.get.ensures.found ∙ c.in-Some-get.is in
    let heap = (c.in-Some.ensures.heap_order c.loop-rank.invariant.ordered.heap).0 in
    record {
      same = c.loop-rank.invariant.same;
      ordered = item_again by_rank c.loop-rank.holdings (heap_items c.loop-rank.order) c.loop-rank.invariant.ordered (heap_items c.pop.new.self) c.in-Some.field-0 c.in-Some.ensures.permutation heap c.in-Some-get.held is
          (record { 0 = (rank_of c.in-Some-get.held, c.in-Some.field-0.0.1) }) refl (heap_items c.put_back.new.order) c.put_back.ensures.items (c.put_back.ensures.heap heap);
    }

pub loop-rank-smaller : goal.loop-rank-smaller
loop-rank-smaller c = fewer_gone by_rank c.loop-rank.holdings (heap_items c.loop-rank.order) (heap_items c.pop.new.self) c.in-Some.field-0 c.in-Some.ensures.permutation

-- no object of this number is held
not_held : (o : Option (Held Ranked)) → ((h : Held Ranked) → o ≡ Some h → ⊥) → o ≡ None
not_held None none = refl
not_held (Some h) none = absurd (none h refl)

pub loop-rank-preserved : goal.loop-rank-preserved
loop-rank-preserved c = record {
  same = c.loop-rank.invariant.same;
  ordered = item_gone by_rank c.loop-rank.holdings (heap_items c.loop-rank.order) c.loop-rank.invariant.ordered (heap_items c.pop.new.self) c.in-Some.field-0 c.in-Some.ensures.permutation
      (c.in-Some.ensures.heap_order c.loop-rank.invariant.ordered.heap).0 (sym c.get.ensures.found ∙ not_held c.get.result c.in_default-get.not-Some);
}

-- the heap is not empty while bytes are used
pub unreachable-requires : goal.unreachable-requires
unreachable-requires c =
    let some : 0 < length (heap_items c.loop-rank.order) =
    some_item by_rank c.loop-rank.holdings (heap_items c.loop-rank.order) c.loop-rank.invariant.ordered.covered (subst (λ ps. 0 < used (entries_of ps)) (sym c.loop-rank.invariant.same) c.requires.some) in
    omega (arith, some, c.in_default.ensures.none, c.loop-rank.order.data.ok.0)
