use Rattle.std.proofs.Common.{◌∙◌, sym, refl, ap, subst, heap_items}
use Rattle.replay_rank.specs.AgingEntries.{entries_of, rank_of, AreOrdered}
use Rattle.replay_rank.proofs.Pairs.{entries-put}
use Rattle.replay_rank.proofs.Items.{item_put, item_more}
use Rattle.replay_rank.proofs.AgingOrdered.{by_rank}
use Rattle.replay_rank.proofs.aging.put.Goals as goal

pub returns-clause-entries : goal.returns-clause-entries
returns-clause-entries c = ap entries_of c.in_ok-put.ensures.put ∙ entries-put by_rank.fill c.args.holdings.now c.args.object c.args.held c.requires.absent

pub returns-clause-ordered : goal.returns-clause-ordered
returns-clause-ordered c =
    subst (λ ps. AreOrdered ps (heap_items c.push.new.self)) (sym c.in_ok-put.ensures.put)
    (item_put by_rank c.args.holdings.now (heap_items c.args.order.now) c.requires.ordered (record { 0 = (rank_of c.args.held, c.args.object) }) (heap_items c.push.new.self) c.in_ok-push.ensures.permutation
    (c.in_ok-push.ensures.heap_order c.requires.ordered.heap) c.args.object c.args.held refl c.requires.absent)

pub returns-in_err-put-clause-ordered : goal.returns-in_err-put-clause-ordered
returns-in_err-put-clause-ordered c =
    subst (λ ps. AreOrdered ps (heap_items c.push.new.self)) (sym c.in_err-put.ensures.stays)
    (item_more by_rank c.args.holdings.now (heap_items c.args.order.now) c.requires.ordered (record { 0 = (rank_of c.args.held, c.args.object) }) (heap_items c.push.new.self) c.in_ok-push.ensures.permutation
    (c.in_ok-push.ensures.heap_order c.requires.ordered.heap))
