use Rattle.std.proofs.Common.{◌<◌, ◌≤◌, ◌+◌, ℕ, List, ap, sym, subst, arith, length, set}
use Rattle.flow_parts.specs.Queues.{IsQueue, IsQueueBut}
use Rattle.flow_solver.specs.Searches.{FoundToLast, Enters}
use Rattle.flow_solver.proofs.Stacks.{queue_enters, stack_enters}
use Rattle.flow_solver.proofs.search.Search.enqueue.Goals as goal

pub returns-clause-enters : goal.returns-clause-enters
returns-clause-enters c =
    let own = c.self.inside in
    let after : FoundToLast = record { distances = own.distances.items; parents = own.parents.items; waiting = c.withdraw.new.self; stack = set own.stack.items own.depth c.args.node; depth = own.depth + 1 } in
    let within : own.depth < length own.stack.items = omega (arith, c.if-self-len.false, c.len.ensures) in
    subst (λ (before : FoundToLast). Enters before after c.args.node) c.self.view_is
    (stack_enters own.distances.items own.parents.items own.queue c.withdraw.new.self own.stack.items own.depth c.args.node within c.withdraw.ensures.withdraws)

pub offer-requires-clause-queue : goal.offer-requires-clause-queue
offer-requires-clause-queue c =
    let own = c.self.inside in
    let queue : IsQueueBut own.queue own.distances.items c.args.node = subst (λ (f : FoundToLast). IsQueueBut f.waiting f.distances c.args.node) (sym c.self.view_is) c.requires.queue in
    subst (λ (ds : List ℕ). IsQueueBut own.queue ds c.args.node) (sym c.deref.ensures.value) queue

pub offer-requires-clause-node : goal.offer-requires-clause-node
offer-requires-clause-node c =
    let own = c.self.inside in
    let queue : IsQueueBut own.queue own.distances.items c.args.node = subst (λ (f : FoundToLast). IsQueueBut f.waiting f.distances c.args.node) (sym c.self.view_is) c.requires.queue in
    omega (arith, c.requires.node, queue.each_distance, ap (λ (f : FoundToLast). length f.distances) c.self.view_is)

pub returns-then-not-next-clause-enters : goal.returns-then-not-next-clause-enters
returns-then-not-next-clause-enters c =
    let own = c.self.inside in
    let after : FoundToLast = record { distances = own.distances.items; parents = own.parents.items; waiting = c.offer.new.self; stack = own.stack.items; depth = own.depth } in
    let fits : own.depth ≤ length own.stack.items = omega (arith, c.requires.fits, ap (λ (f : FoundToLast). f.depth) c.self.view_is, ap (λ (f : FoundToLast). length f.stack) c.self.view_is) in
    subst (λ (before : FoundToLast). Enters before after c.args.node) c.self.view_is
    (queue_enters own.distances.items own.parents.items own.queue c.offer.new.self own.stack.items own.depth c.args.node fits c.offer.ensures.joins)

pub returns-then-not-next-clause-queue : goal.returns-then-not-next-clause-queue
returns-then-not-next-clause-queue c = subst (λ (ds : List ℕ). IsQueue c.offer.new.self ds) c.deref.ensures.value c.offer.ensures.queue

pub withdraw-requires-clause-queue : goal.withdraw-requires-clause-queue
withdraw-requires-clause-queue c =
    let own = c.self.inside in
    let queue : IsQueueBut own.queue own.distances.items c.args.node = subst (λ (f : FoundToLast). IsQueueBut f.waiting f.distances c.args.node) (sym c.self.view_is) c.requires.queue in
    subst (λ (ds : List ℕ). IsQueueBut own.queue ds c.args.node) (sym c.deref-2.ensures.value) queue

pub withdraw-requires-clause-node : goal.withdraw-requires-clause-node
withdraw-requires-clause-node c =
    let own = c.self.inside in
    let queue : IsQueueBut own.queue own.distances.items c.args.node = subst (λ (f : FoundToLast). IsQueueBut f.waiting f.distances c.args.node) (sym c.self.view_is) c.requires.queue in
    omega (arith, c.requires.node, queue.each_distance, ap (λ (f : FoundToLast). length f.distances) c.self.view_is)

pub returns-clause-queue : goal.returns-clause-queue
returns-clause-queue c = subst (λ (ds : List ℕ). IsQueue c.withdraw.new.self ds) c.deref-2.ensures.value c.withdraw.ensures.queue
