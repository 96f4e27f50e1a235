use Rattle.std.proofs.Common.{◌≡◌, ℕ, ◌+◌, ◌<◌, ◌∙◌, sym, ap, subst, length, arith, Some, heap_items}
use Rattle.std.specs.BTreeMap.{is_at}
use Rattle.std.specs.Map.{lookup}
use Rattle.std.specs.Ordering.{nat_cmp}
use Rattle.std.proofs.lemmas.Bool.{ne_eqb}
use Rattle.policy_model.specs.States.{used}
use Rattle.policy_model.specs.Steps.{remove_foremost, is_farther}
use Rattle.replay_rank.specs.declared.holdings.Held.{Held}
use Rattle.replay_rank.specs.BeladyEntries.{entries_of, AreOrdered}
use Rattle.replay_rank.proofs.Items.{one_found, some_item, used-left, fewer-left}
use Rattle.replay_rank.proofs.BeladyOrdered.{by_next, belady_vain, belady_left, belady_removes}
use Rattle.replay_rank.proofs.belady.give_up_farthest.Goals as goal

-- the heap is not empty while bytes are used
pub unreachable-requires : goal.unreachable-requires
unreachable-requires c =
    let some : 0 < length (heap_items c.loop-next.order) =
    some_item by_next c.loop-next.holdings (heap_items c.loop-next.order) c.loop-next.invariant.ordered.stand.covered (subst (λ ps. 0 < used (entries_of ps)) (sym c.loop-next.invariant.same) c.requires.some) in
    omega (arith, some, c.in_default.ensures.none, c.loop-next.order.data.ok.0)

pub returns-then-held-next-clause-entries : goal.returns-then-held-next-clause-entries
returns-then-held-next-clause-entries c =
    let is : lookup (is_at (nat_cmp c.in-Some.object)) c.loop-next.holdings ≡ Some c.in-Some-get.held = sym c.get.ensures.found ∙ c.in-Some-get.is in
    let own : ℕ → ℕ × ℕ = λ n. (n, c.in-Some.object) in
    ap entries_of c.remove.ensures
    ∙ belady_removes c.loop-next.holdings (heap_items c.loop-next.order) c.loop-next.invariant.ordered c.in-Some.object c.in-Some-get.held is (c.in-Some.next, c.in-Some.object) (ap own c.if-held-next.true)
    (c.in-Some.ensures.heap_order c.loop-next.invariant.ordered.stand.heap).1
    ∙ ap (λ ps. remove_foremost is_farther (entries_of ps)) c.loop-next.invariant.same

pub returns-then-held-next-clause-fewer : goal.returns-then-held-next-clause-fewer
returns-then-held-next-clause-fewer c =
    let is : lookup (is_at (nat_cmp c.in-Some.object)) c.loop-next.holdings ≡ Some c.in-Some-get.held = sym c.get.ensures.found ∙ c.in-Some-get.is in
    ap (λ ps. length ps + 1) c.remove.ensures
    ∙ fewer-left by_next c.loop-next.holdings c.in-Some.object c.in-Some-get.held c.loop-next.invariant.ordered.stand.apart is
    ∙ ap length c.loop-next.invariant.same

pub returns-then-held-next-clause-size : goal.returns-then-held-next-clause-size
returns-then-held-next-clause-size c =
    let is : lookup (is_at (nat_cmp c.in-Some.object)) c.loop-next.holdings ≡ Some c.in-Some-get.held = sym c.get.ensures.found ∙ c.in-Some-get.is in
    ap (λ ps. used (entries_of ps) + c.in-Some-get.held.size) c.remove.ensures
    ∙ used-left by_next c.loop-next.holdings c.in-Some.object c.in-Some-get.held c.loop-next.invariant.ordered.stand.apart is
    ∙ ap (λ ps. used (entries_of ps)) c.loop-next.invariant.same

pub returns-then-held-next-clause-ordered : goal.returns-then-held-next-clause-ordered
returns-then-held-next-clause-ordered c =
    subst (λ ps. AreOrdered ps (heap_items c.pop.new.self)) (sym c.remove.ensures)
    (belady_left c.loop-next.holdings (heap_items c.loop-next.order) c.loop-next.invariant.ordered (heap_items c.pop.new.self) (c.in-Some.next, c.in-Some.object) c.in-Some.ensures.permutation
    (c.in-Some.ensures.heap_order c.loop-next.invariant.ordered.stand.heap).0)

pub loop-next-preserved-else-held-next : goal.loop-next-preserved-else-held-next
loop-next-preserved-else-held-next c =
    let is : lookup (is_at (nat_cmp c.in-Some.object)) c.loop-next.holdings ≡ Some c.in-Some-get.held = sym c.get.ensures.found ∙ c.in-Some-get.is in
    record {
      same = c.loop-next.invariant.same;
      ordered = belady_vain c.loop-next.holdings (heap_items c.loop-next.order) c.loop-next.invariant.ordered (heap_items c.pop.new.self) (c.in-Some.next, c.in-Some.object) c.in-Some.ensures.permutation
          (c.in-Some.ensures.heap_order c.loop-next.invariant.ordered.stand.heap).0 (λ g e. ne_eqb c.in-Some.next g.kept (λ one. c.if-held-next.false (ap (λ (h : Held ℕ). h.kept) (one_found (lookup (is_at (nat_cmp c.in-Some.object)) c.loop-next.holdings) c.in-Some-get.held g is e) ∙ sym one)));
    }

pub loop-next-preserved : goal.loop-next-preserved
loop-next-preserved c = record {
  same = c.loop-next.invariant.same;
  ordered = belady_vain c.loop-next.holdings (heap_items c.loop-next.order) c.loop-next.invariant.ordered (heap_items c.pop.new.self) (c.in-Some.next, c.in-Some.object) c.in-Some.ensures.permutation
      (c.in-Some.ensures.heap_order c.loop-next.invariant.ordered.stand.heap).0 (λ g e. absurd (c.in_default-get.not-Some g (c.get.ensures.found ∙ e)));
}
