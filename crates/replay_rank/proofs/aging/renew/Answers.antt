use Rattle.std.proofs.Common.{◌∙◌, sym, refl, ap, subst, heap_items}
use Rattle.std.specs.BTreeMap.{insert_entry}
use Rattle.std.specs.Ordering.{nat_cmp}
use Rattle.replay_rank.specs.AgingEntries.{entries_of, rank_of, AreOrdered}
use Rattle.replay_rank.proofs.AgingOrdered.{aging_entries, aging_raised, aging_lowered}
use Rattle.replay_rank.proofs.aging.renew.Goals as goal
use Rattle.replay_rank.proofs.aging.renew.Goals.{then-not-is_at_most+in_ok-push, else-not-is_at_most}

pub returns-clause-entries : goal.returns-clause-entries
returns-clause-entries c = λ by made.
    ap entries_of c.renew.ensures.renewed
    ∙ aging_entries c.args.holdings.now (heap_items c.args.order.now) c.requires.ordered c.args.object c.args.former c.requires.held c.args.now c.renew.ensures.was_ordered by made

pub returns-clause-ordered : goal.returns-clause-ordered
returns-clause-ordered c =
    subst (λ ps. AreOrdered ps (heap_items c.if-not-is_at_most.order)) (sym c.renew.ensures.renewed)
    (elim c.if-not-is_at_most.branch [
      | then-not-is_at_most+in_ok-push w ↦ subst (λ order. AreOrdered (insert_entry nat_cmp c.args.holdings.now c.args.object c.args.now) (heap_items order)) (sym w.order-is)
          (aging_lowered c.args.holdings.now (heap_items c.args.order.now) c.requires.ordered c.args.object c.args.former c.requires.held c.args.now c.renew.ensures.was_ordered
          (record { 0 = (rank_of c.args.now, c.args.object) }) refl (heap_items w.push.new.self) w.in_ok-push.ensures.permutation (w.in_ok-push.ensures.heap_order c.requires.ordered.heap))
      | else-not-is_at_most w ↦ subst (λ order. AreOrdered (insert_entry nat_cmp c.args.holdings.now c.args.object c.args.now) (heap_items order)) (sym w.order-is)
          (aging_raised c.args.holdings.now (heap_items c.args.order.now) c.requires.ordered c.args.object c.args.former c.requires.held c.args.now c.renew.ensures.was_ordered
          (sym c.is_at_most.ensures ∙ w.if-not-is_at_most.false))
    ])
