use Rattle.std.proofs.Common.{◌≡◌, ℕ, ◌+◌, ◌-◌, ◌<◌, ◌∙◌, ap, subst, arith, get_or, set, sym, length, length-set}
use Rattle.flow_model.specs.Instances.{Instance}
use Rattle.flow_model.specs.Networks.{head, gain, residual}
use Rattle.flow_parts.specs.Queues.{IsQueueBut}
use Rattle.flow_parts.proofs.QueueSteps.{queue_lowered}
use Rattle.flow_parts.specs.Searches.{at_tail}
use Rattle.flow_solver.specs.Searches.{FoundToLast, Enters}
use Rattle.flow_solver.proofs.Distances.{NearsToLast-refl, nears_more}
use Rattle.flow_solver.proofs.search.Search.relax.Goals as goal
use Rattle.flow_solver.proofs.search.Search.relax.Goals.{then-near-limit-via-then-near-limit, then-near-limit-via-else-near-limit+then-near-distance, then-along-limit-via-then-along-limit, then-along-limit-via-else-along-limit+then-along-distance}

pub returns-clause-nears : goal.returns-clause-nears
returns-clause-nears c =
    let n = c.args.network.now in
    let e = c.args.edge in
    let old : FoundToLast = c.args.self.now in
    let low : FoundToLast = c.lower.new.self in
    let new : FoundToLast = c.enqueue.new.self in
    let h = c.ends-ends.result in
    let is = c.ends-ends.ensures in
    let along : ℕ = c.distance-near.result + (h.loss + c.potential.result) - (h.gain + c.potential-2.result) in
    let room : 0 < residual n.instance n.flows e = omega (arith, c.residual.ensures.residual) in
    let value : along + (gain n.instance.arcs e + get_or n.potentials (head n.instance.arcs e) 0) ≡ at_tail n.instance.arcs n.potentials old.distances e =
    omega (
      arith,
      c.distance-near.ensures,
      is.gain,
      is.loss,
      c.potential.ensures.potential,
      c.potential-2.ensures.potential,
      c.requires.ready.valid e c.requires.edge room,
      ap (λ k. get_or n.potentials k 0) is.head,
      ap (λ k. get_or n.potentials k 0) is.tail,
      ap (λ k. get_or old.distances k 0) is.tail,
    ) in
    let nearer : along < get_or old.distances (head n.instance.arcs e) 0 = omega (arith, ap (λ k. get_or old.distances k 0) is.head) in
    nears_more n old low new e along c.requires.ready c.requires.search c.requires.edge room value nearer
    (c.lower.ensures ∙ ap (λ (k : ℕ). record old { distances = set old.distances k along; parents = set old.parents k e }) is.head)
    (subst (λ (k : ℕ). Enters low new k) is.head c.enqueue.ensures.enters) c.enqueue.ensures.queue

pub enqueue-requires-clause-queue : goal.enqueue-requires-clause-queue
enqueue-requires-clause-queue c =
    let old : FoundToLast = c.args.self.now in
    let h = c.ends-ends.result in
    let along : ℕ = c.distance-near.result + (h.loss + c.potential.result) - (h.gain + c.potential-2.result) in
    let low = queue_lowered old.waiting old.distances h.head along c.requires.search.queue (omega (arith, c.requires.search.each_distance, c.ends-ends.ensures.within)) (λ waits. omega arith) in
    subst (λ (f : FoundToLast). IsQueueBut f.waiting f.distances h.head) (sym c.lower.ensures) low

pub residual-requires : goal.residual-requires
residual-requires c = c.requires.edge

pub returns-then-residual-eq0-clause-nears : goal.returns-then-residual-eq0-clause-nears
returns-then-residual-eq0-clause-nears c = NearsToLast-refl c.args.network.now c.args.self.now c.requires.search

pub returns-then-residual-eq0-clause-settled : goal.returns-then-residual-eq0-clause-settled
returns-then-residual-eq0-clause-settled c = λ has. absurd (omega (arith, has, c.residual.ensures.residual, c.if-residual-eq0.true))

pub ends-ends-requires : goal.ends-ends-requires
ends-ends-requires c = c.requires.edge

pub distance-limit-requires : goal.distance-limit-requires
distance-limit-requires c = omega (arith, c.steps.ensures, ap (λ (i : Instance). i.steps) c.instance.ensures.instance, c.requires.search.each_distance)

pub distance-near-requires : goal.distance-near-requires
distance-near-requires c = omega (arith, c.ends-ends.ensures.within.0, c.requires.search.each_distance)

pub distance-requires : goal.distance-requires
distance-requires c = omega (arith, c.ends-ends.ensures.within.1, c.requires.search.each_distance)

pub returns-then-near-limit-clause-nears : goal.returns-then-near-limit-clause-nears
returns-then-near-limit-clause-nears c = NearsToLast-refl c.args.network.now c.args.self.now c.requires.search

pub potential-requires : goal.potential-requires
potential-requires c = c.ends-ends.ensures.within.0

pub overflow_add-behind : goal.overflow_add-behind
overflow_add-behind c = omega (arith, c.ends-ends.ensures.small.1, c.potential.ensures.small)

pub potential-requires-2 : goal.potential-requires-2
potential-requires-2 c = c.ends-ends.ensures.within.1

pub overflow_add-along : goal.overflow_add-along
overflow_add-along c = omega (arith, c.ends-ends.ensures.small.0, c.potential-2.ensures.small)

pub distance-requires-else-along-limit : goal.distance-requires-else-along-limit
distance-requires-else-along-limit c = omega (arith, c.ends-ends.ensures.within.1, c.requires.search.each_distance)

pub returns-then-along-limit-clause-nears : goal.returns-then-along-limit-clause-nears
returns-then-along-limit-clause-nears c = NearsToLast-refl c.args.network.now c.args.self.now c.requires.search

pub lower-requires-clause-parents : goal.lower-requires-clause-parents
lower-requires-clause-parents c = omega (arith, c.requires.search.each_distance, c.requires.search.each_parent)

pub lower-requires-clause-node : goal.lower-requires-clause-node
lower-requires-clause-node c = omega (arith, c.ends-ends.ensures.within.1, c.requires.search.each_distance)

pub enqueue-requires-clause-node : goal.enqueue-requires-clause-node
enqueue-requires-clause-node c =
    let h = c.ends-ends.result in
    let old : FoundToLast = c.args.self.now in
    omega (arith, c.ends-ends.ensures.within.1, c.requires.search.each_distance, ap (λ (f : FoundToLast). length f.distances) c.lower.ensures, length-set old.distances h.head (c.distance-near.result + (h.loss + c.potential.result) - (h.gain + c.potential-2.result)))

pub enqueue-requires-clause-small : goal.enqueue-requires-clause-small
enqueue-requires-clause-small c = omega (arith, c.requires.search.small_stack, ap (λ (f : FoundToLast). length f.stack) c.lower.ensures)

pub enqueue-requires-clause-fits : goal.enqueue-requires-clause-fits
enqueue-requires-clause-fits c = omega (arith, c.requires.search.stack_fits, ap (λ (f : FoundToLast). f.depth) c.lower.ensures, ap (λ (f : FoundToLast). length f.stack) c.lower.ensures)

pub returns-then-near-limit-clause-settled : goal.returns-then-near-limit-clause-settled
returns-then-near-limit-clause-settled c = λ has.
    let n = c.args.network.now in
    let d = c.args.self.now.distances in
    let is = c.ends-ends.ensures in
    let last : c.steps.result ≡ n.instance.steps = c.steps.ensures ∙ ap (λ (i : Instance). i.steps) c.instance.ensures.instance in
    elim c.then-near-limit.branch [
      | then-near-limit-via-then-near-limit w ↦ omega (arith, w.if-near-limit.true, c.distance-limit.ensures, ap (λ k. get_or d k 0) last, c.distance-near.ensures, c.requires.ready.valid c.args.edge c.requires.edge has, ap (λ k. get_or d k 0) is.tail)
      | then-near-limit-via-else-near-limit+then-near-distance w ↦ omega (arith, w.if-near-distance.true, w.distance.ensures, ap (λ k. get_or d k 0) is.head, c.distance-near.ensures, c.requires.ready.valid c.args.edge c.requires.edge has, ap (λ k. get_or d k 0) is.tail)
    ]

pub returns-then-along-limit-clause-settled : goal.returns-then-along-limit-clause-settled
returns-then-along-limit-clause-settled c = λ has.
    let n = c.args.network.now in
    let d = c.args.self.now.distances in
    let is = c.ends-ends.ensures in
    let last : c.steps.result ≡ n.instance.steps = c.steps.ensures ∙ ap (λ (i : Instance). i.steps) c.instance.ensures.instance in
    elim c.then-along-limit.branch [
      | then-along-limit-via-then-along-limit w ↦ omega (arith, w.if-along-limit.true, c.distance-limit.ensures, ap (λ k. get_or d k 0) last, c.distance-near.ensures, c.requires.ready.valid c.args.edge c.requires.edge has, ap (λ k. get_or d k 0) is.tail, c.potential.ensures.potential, c.potential-2.ensures.potential, is.gain, is.loss, ap (λ k. get_or n.potentials k 0) is.head, ap (λ k. get_or n.potentials k 0) is.tail)
      | then-along-limit-via-else-along-limit+then-along-distance w ↦ omega (arith, w.if-along-distance.true, w.distance-else-along-limit.ensures, ap (λ k. get_or d k 0) is.head, c.distance-near.ensures, c.requires.ready.valid c.args.edge c.requires.edge has, ap (λ k. get_or d k 0) is.tail, c.potential.ensures.potential, c.potential-2.ensures.potential, is.gain, is.loss, ap (λ k. get_or n.potentials k 0) is.head, ap (λ k. get_or n.potentials k 0) is.tail)
    ]
