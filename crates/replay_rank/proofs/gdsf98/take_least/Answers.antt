use Rattle.std.proofs.Common.{◌≡◌, ℕ, ◌+◌, ◌≤◌, ◌∙◌, sym, refl, ap, subst, List, length, Some, None, heap_items}
use Rattle.std.specs.declared.option.Option.{Option}
use Rattle.std.specs.BTreeMap.{is_at}
use Rattle.std.specs.Map.{lookup}
use Rattle.std.specs.Ordering.{nat_cmp}
use Rattle.policy_model.specs.Steps.{put_in}
use Rattle.policy_model.specs.Aging.{age_at, over_floor}
use Rattle.replay_rank.specs.declared.holdings.Held.{Held}
use Rattle.replay_rank.specs.declared.aging.Ranked.{Ranked}
use Rattle.replay_rank.specs.AgingEntries.{entry_of, entries_of, rank_of, AreOrdered}
use Rattle.replay_rank.specs.AdmittedEntries.{RanksAbove}
use Rattle.replay_rank.proofs.Pairs.{put-removed}
use Rattle.replay_rank.proofs.Items.{fewer-left, fewer_gone, fewer_again, item_gone, item_again, item_left}
use Rattle.replay_rank.proofs.LfuOrdered.{same_rank-refl, exact_use}
use Rattle.replay_rank.proofs.AgingOrdered.{by_rank, aging_removes}
use Rattle.replay_rank.proofs.AdmittedOrdered.{entries-above}
use Rattle.replay_rank.proofs.gdsf98.take_least.Goals as goal

pub returns-then-is_same-clause-taken : goal.returns-then-is_same-clause-taken
returns-then-is_same-clause-taken c =
    let object : ℕ = c.in-Some.field-0.0.1 in
    let pairs : List (ℕ × Held Ranked) = c.loop-rank.holdings in
    let is : lookup (is_at (nat_cmp object)) pairs ≡ Some c.in-Some-get.held = sym c.get.ensures.found ∙ c.in-Some-get.is in
    let rank_is : c.in-Some.field-0.0.0 ≡ rank_of c.in-Some-get.held = exact_use c.in-Some.field-0.0.0 (rank_of c.in-Some-get.held) (sym c.is_same.ensures ∙ c.if-is_same.true) in
    record {
      low = subst (λ (r : ℕ × ℕ). r.0 ≤ c.args.most) rank_is c.in-Some.ensures.low;
      some = c.in-Some-get.ensures.size;
      stock = λ floor.
          ap (λ ps. over_floor c.in-Some-get.held.kept.rank (entries_of ps)) c.remove.ensures
          ∙ aging_removes pairs (heap_items c.loop-rank.order) c.loop-rank.invariant.ordered object c.in-Some-get.held is c.in-Some.field-0 (ap (λ (r : ℕ × ℕ). (r, object)) (sym rank_is)) (c.in-Some.ensures.heap c.loop-rank.invariant.ordered.heap).1 floor
          ∙ ap (λ ps. age_at floor (entries_of ps)) c.loop-rank.invariant.same;
      again =
          ap (λ ps. put_in (entry_of (object, c.in-Some-get.held)) (entries_of ps)) c.remove.ensures
          ∙ put-removed by_rank.fill pairs object c.in-Some-get.held c.get.ensures.is_ordered is
          ∙ ap entries_of c.loop-rank.invariant.same;
      fewer =
          ap (λ ps. length ps + 1) c.remove.ensures
          ∙ fewer-left by_rank pairs object c.in-Some-get.held c.loop-rank.invariant.ordered.apart is
          ∙ ap length c.loop-rank.invariant.same;
    }

pub returns-then-is_same-clause-ordered : goal.returns-then-is_same-clause-ordered
returns-then-is_same-clause-ordered c =
    subst (λ ps. AreOrdered ps (heap_items c.pop_at_most.new.order)) (sym c.remove.ensures)
    (item_left by_rank c.loop-rank.holdings (heap_items c.loop-rank.order) c.loop-rank.invariant.ordered (heap_items c.pop_at_most.new.order) c.in-Some.field-0 c.in-Some.ensures.items
    (c.in-Some.ensures.heap c.loop-rank.invariant.ordered.heap).0)

pub loop-rank-smaller-in-Some-get : goal.loop-rank-smaller-in-Some-get
loop-rank-smaller-in-Some-get c =
    let is : lookup (is_at (nat_cmp c.in-Some.field-0.0.1)) c.loop-rank.holdings ≡ Some c.in-Some-get.held = sym c.get.ensures.found ∙ c.in-Some-get.is in
    fewer_again by_rank c.loop-rank.holdings (heap_items c.loop-rank.order) (heap_items c.pop_at_most.new.order) c.in-Some.field-0 c.in-Some.ensures.items c.in-Some-get.held is (sym c.is_same.ensures ∙ c.if-is_same.false) same_rank-refl
    (record { 0 = (rank_of c.in-Some-get.held, c.in-Some.field-0.0.1) }) refl (heap_items c.put_back.new.order) c.put_back.ensures.items

pub loop-rank-preserved-in-Some-get : goal.loop-rank-preserved-in-Some-get
loop-rank-preserved-in-Some-get c =
    let is : lookup (is_at (nat_cmp c.in-Some.field-0.0.1)) c.loop-rank.holdings ≡ Some c.in-Some-get.held = sym c.get.ensures.found ∙ c.in-Some-get.is in
    let heap = (c.in-Some.ensures.heap c.loop-rank.invariant.ordered.heap).0 in
    record {
      same = c.loop-rank.invariant.same;
      ordered = item_again by_rank c.loop-rank.holdings (heap_items c.loop-rank.order) c.loop-rank.invariant.ordered (heap_items c.pop_at_most.new.order) c.in-Some.field-0 c.in-Some.ensures.items heap c.in-Some-get.held is
          (record { 0 = (rank_of c.in-Some-get.held, c.in-Some.field-0.0.1) }) refl (heap_items c.put_back.new.order) c.put_back.ensures.items (c.put_back.ensures.heap heap);
    }

pub loop-rank-smaller : goal.loop-rank-smaller
loop-rank-smaller c = fewer_gone by_rank c.loop-rank.holdings (heap_items c.loop-rank.order) (heap_items c.pop_at_most.new.order) c.in-Some.field-0 c.in-Some.ensures.items

-- no object of this number is held
not_held : (o : Option (Held Ranked)) → ((h : Held Ranked) → o ≡ Some h → ⊥) → o ≡ None
not_held None none = refl
not_held (Some h) none = absurd (none h refl)

pub loop-rank-preserved : goal.loop-rank-preserved
loop-rank-preserved c = record {
  same = c.loop-rank.invariant.same;
  ordered = item_gone by_rank c.loop-rank.holdings (heap_items c.loop-rank.order) c.loop-rank.invariant.ordered (heap_items c.pop_at_most.new.order) c.in-Some.field-0 c.in-Some.ensures.items
      (c.in-Some.ensures.heap c.loop-rank.invariant.ordered.heap).0 (sym c.get.ensures.found ∙ not_held c.get.result c.in_default-get.not-Some);
}

pub returns-clause-above : goal.returns-clause-above
returns-clause-above c =
    subst (λ ps. RanksAbove c.args.most (entries_of ps)) c.loop-rank.invariant.same
    (entries-above c.loop-rank.holdings (heap_items c.loop-rank.order) c.loop-rank.invariant.ordered c.args.most c.in_default.ensures.above)
