use Rattle.std.proofs.Common.{◌≡◌, List, ℕ, ◌+◌, ◌-◌, ◌<◌, ◌∙◌, ap, subst, arith, get_or, set, sym}
use Rattle.flow_model.specs.Networks.{head, gain, residual}
use Rattle.flow_parts.specs.Queues.{Waiting, IsQueueBut, Joins}
use Rattle.flow_parts.specs.Searches.{at_tail}
use Rattle.flow_sparse.specs.Searches.{Found, IsAimed}
use Rattle.flow_parts.proofs.QueueSteps.{queue_lowered}
use Rattle.flow_sparse.proofs.Distances.{nears_more}
use Rattle.flow_sparse.proofs.search.Search.relax.Goals as goal

pub returns-clause-nears : goal.returns-clause-nears
returns-clause-nears c =
    let n = c.args.network.now in
    let e = c.args.edge in
    let old : Found = c.args.self.now in
    let low : Found = c.lower.new.self in
    let mid : Found = c.aim.new.self in
    let new : Found = c.enqueue.new.self in
    let h = c.ends-ends.result in
    let is = c.ends-ends.ensures in
    let along : ℕ = c.distance-near.result + (h.loss + c.potential.result) - (h.gain + c.potential-2.result) in
    let room : 0 < residual n.instance n.flows e = omega (arith, c.residual.ensures, c.if-residual-eq0.false) in
    let target : ℕ = head n.instance.arcs e in
    let value : along + (gain n.instance.arcs e + get_or n.potentials target 0) ≡ at_tail n.instance.arcs n.potentials old.distances e =
    omega (
      arith,
      c.distance-near.ensures,
      is.gain,
      is.loss,
      c.potential.ensures,
      c.potential-2.ensures,
      c.requires.ready.valid e c.requires.edge room,
      ap (λ k. get_or n.potentials k 0) is.head,
      ap (λ k. get_or n.potentials k 0) is.tail,
      ap (λ k. get_or old.distances k 0) is.tail,
    ) in
    let nearer : along < get_or old.distances target 0 = omega (arith, c.if-along-distance.false, c.distance-else-along-limit.ensures, ap (λ k. get_or old.distances k 0) is.head) in
    let below : along < old.limit = omega (arith, c.if-along-limit.false, c.limit.ensures) in
    let distances : new.distances ≡ set old.distances target along =
    ap (λ (f : Found). f.distances) c.enqueue.ensures.rest ∙ ap (λ (f : Found). f.distances) c.aim.ensures.rest ∙ ap (λ (f : Found). f.distances) c.lower.ensures ∙ ap (λ (k : ℕ). set old.distances k along) is.head in
    let parents : new.parents ≡ set old.parents target e =
    ap (λ (f : Found). f.parents) c.enqueue.ensures.rest ∙ ap (λ (f : Found). f.parents) c.aim.ensures.rest ∙ ap (λ (f : Found). f.parents) c.lower.ensures ∙ ap (λ (k : ℕ). set old.parents k e) is.head in
    let waiting : mid.waiting ≡ old.waiting = ap (λ (f : Found). f.waiting) c.aim.ensures.rest ∙ ap (λ (f : Found). f.waiting) c.lower.ensures in
    let aimed : IsAimed n old.limit old.goal new.distances target new.limit new.goal =
    subst (λ (f : Found). IsAimed n old.limit old.goal f.distances target f.limit f.goal) (sym c.enqueue.ensures.rest)
    (subst (λ (f : Found). IsAimed n f.limit f.goal mid.distances target mid.limit mid.goal) c.lower.ensures
    (subst (λ (k : ℕ). IsAimed n low.limit low.goal mid.distances k mid.limit mid.goal) is.head c.aim.ensures.aimed)) in
    let joins : Joins old.waiting new.waiting target = subst (λ (k : ℕ). Joins old.waiting new.waiting k) is.head (subst (λ (w : Waiting). Joins w new.waiting h.head) waiting c.enqueue.ensures.joins) in
    nears_more n c.args.from old new e along c.requires.ready c.requires.search c.requires.edge room value nearer below distances parents aimed joins c.enqueue.ensures.queue

pub enqueue-requires-clause-queue : goal.enqueue-requires-clause-queue
enqueue-requires-clause-queue c =
    let old : Found = c.args.self.now in
    let mid : Found = c.aim.new.self in
    let h = c.ends-ends.result in
    let along : ℕ = c.distance-near.result + (h.loss + c.potential.result) - (h.gain + c.potential-2.result) in
    let waiting : mid.waiting ≡ old.waiting = ap (λ (f : Found). f.waiting) c.aim.ensures.rest ∙ ap (λ (f : Found). f.waiting) c.lower.ensures in
    let distances : mid.distances ≡ set old.distances h.head along = ap (λ (f : Found). f.distances) c.aim.ensures.rest ∙ ap (λ (f : Found). f.distances) c.lower.ensures in
    let low = queue_lowered old.waiting old.distances h.head along c.requires.search.queue (omega (arith, c.requires.search.tree.each_distance, c.ends-ends.ensures.within))
    (λ waits. omega (arith, c.if-along-distance.false, c.distance-else-along-limit.ensures)) in
    subst (λ (w : Waiting). IsQueueBut w mid.distances h.head) (sym waiting) (subst (λ (ds : List ℕ). IsQueueBut old.waiting ds h.head) (sym distances) low)
