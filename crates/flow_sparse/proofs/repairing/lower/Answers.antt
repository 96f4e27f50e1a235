use Rattle.std.proofs.Common.{◌≡◌, ◌≢◌, ℕ, ◌+◌, ◌-◌, ◌<◌, ◌≤◌, ◌∙◌, length, ap, sym, set, arith, ⊎_elim, length-set, slice_index}
use Rattle.std.proofs.lemmas.Bool.{cases_eq}
use Rattle.flow_model.proofs.Lists.{set_at}
use Rattle.flow_parts.specs.Searches.{lowered}
use Rattle.flow_sparse.specs.Ranges.{Ranges}
use Rattle.flow_sparse.specs.States.{State, IsReached}
use Rattle.flow_sparse.specs.Searches.{Found}
use Rattle.flow_sparse.proofs.Distances.{reached}
use Rattle.flow_sparse.proofs.Lowered.{enough}
use Rattle.flow_sparse.proofs.repairing.lower.Goals as goal

pub potential-requires : goal.potential-requires
potential-requires c = omega (arith, c.loop-node.invariant.each, c.loop-node-test.true, c.steps-node-end.ensures, c.requires.ready.fits.each_node)

pub distance-near-requires : goal.distance-near-requires
distance-near-requires c = omega (arith, c.loop-node-test.true, c.steps-node-end.ensures, c.requires.search.tree.each_distance)

pub set_potential-requires : goal.set_potential-requires
set_potential-requires c = omega (arith, c.loop-node.invariant.each, c.loop-node-test.true, c.steps-node-end.ensures, c.requires.ready.fits.each_node)

pub overflow_sub-potential : goal.overflow_sub-potential
overflow_sub-potential c =
    let s : State = c.args.network.now in
    let found : Found = c.args.search.now in
    let node = c.loop-node.node in
    let within : node ≤ s.instance.steps = omega (arith, c.loop-node-test.true, c.steps-node-end.ensures) in
    let is : IsReached s c.args.from found.distances found.limit = reached s c.args.from found c.requires.search c.requires.settled in
    omega (
      arith,
      enough s c.args.from found.limit found.distances c.requires.ready c.requires.high is c.requires.deficit node within,
      c.potential.ensures,
      c.distance-near.ensures,
      c.limit-limit.ensures,
      c.loop-node.invariant.later node (omega arith),
      c.if-near-limit.false,
    )

pub add_fall-requires-clause-node : goal.add_fall-requires-clause-node
add_fall-requires-clause-node c = omega (arith, c.loop-node-test.true, c.steps-node-end.ensures, c.loop-node.invariant.each_fall, c.requires.lists.each_fall)

pub add_fall-requires-clause-small : goal.add_fall-requires-clause-small
add_fall-requires-clause-small c =
    let node = c.loop-node.node in
    let within : node ≤ c.args.network.now.instance.steps = omega (arith, c.loop-node-test.true, c.steps-node-end.ensures) in
    omega (arith, c.loop-node.invariant.kept node within, c.requires.lists.small node within, c.potential.ensures)

pub loop-node-preserved : goal.loop-node-preserved
loop-node-preserved c =
    let s : State = c.args.network.now in
    let found : Found = c.args.search.now in
    let now : State = c.loop-node.network in
    let lists : Ranges = c.loop-node.lists in
    let node = c.loop-node.node in
    let inv = c.loop-node.invariant in
    let is = c.set_potential.ensures in
    let fall : ℕ = c.limit-limit.result - c.distance-near.result in
    let value : ℕ = c.potential.result - fall in
    let potentials : c.set_potential.new.self.potentials ≡ set now.potentials node value = ap (λ (x : State). x.potentials) is in
    let falls : c.add_fall.new.self.falls ≡ set lists.falls node (slice_index lists.falls node + fall) = ap (λ (x : Ranges). x.falls) c.add_fall.ensures in
    let within : node ≤ s.instance.steps = omega (arith, c.loop-node-test.true, c.steps-node-end.ensures) in
    let inside : node < length now.potentials = omega (arith, inv.each, within, c.requires.ready.fits.each_node) in
    let reach : IsReached s c.args.from found.distances found.limit = reached s c.args.from found c.requires.search c.requires.settled in
    let low : fall ≤ c.potential.result =
    omega (
      arith,
      enough s c.args.from found.limit found.distances c.requires.ready c.requires.high reach c.requires.deficit node within,
      c.potential.ensures,
      c.distance-near.ensures,
      c.limit-limit.ensures,
      inv.later node (omega arith),
      c.if-near-limit.false,
    ) in
    let listed : node < length lists.falls = omega (arith, within, inv.each_fall, c.requires.lists.each_fall) in
    record {
      lists = c.add_fall.ensures ∙ ap (λ (x : Ranges). record x { falls = set lists.falls node (slice_index lists.falls node + fall) }) inv.lists ∙ ap (λ ds. record c.args.lists.now { falls = ds }) (sym falls);
      each_fall = omega (arith, ap length falls, length-set lists.falls node (slice_index lists.falls node + fall), inv.each_fall);
      kept = λ k h.
          let at = set_at now.potentials node k value inside in
          let fell = set_at lists.falls node k (slice_index lists.falls node + fall) listed in
          let here = ap (λ ps. slice_index ps k) potentials in
          let there = ap (λ ds. slice_index ds k) falls in
          ⊎_elim
          (λ (e : k ≡ node). omega (arith, here, there, at.0 e, fell.0 e, c.potential.ensures, low, inv.kept node within, ap (slice_index s.potentials) e, ap (slice_index c.args.lists.now.falls) e))
          (λ (n : k ≢ node). omega (arith, here, there, at.1 n, fell.1 n, inv.kept k h))
          (cases_eq k node);
      rest = is ∙ ap (λ (x : State). record x { potentials = set now.potentials node value }) inv.rest ∙ ap (λ ps. record s { potentials = ps }) (sym potentials);
      each = omega (arith, ap length potentials, length-set now.potentials node value, inv.each);
      done = λ k h.
          let at = set_at now.potentials node k value inside in
          let here = ap (λ ps. slice_index ps k) potentials in
          ⊎_elim
          (λ (e : k ≡ node).
          omega (
            arith,
            here,
            at.0 e,
            c.potential.ensures,
            c.distance-near.ensures,
            c.limit-limit.ensures,
            c.if-near-limit.false,
            inv.later node (omega arith),
            ap (lowered s.potentials found.distances found.limit) e,
          ))
          (λ (n : k ≢ node). here ∙ at.1 n ∙ inv.done k (omega arith))
          (cases_eq k node);
      later = λ k h. ap (λ ps. slice_index ps k) potentials ∙ (set_at now.potentials node k value inside).1 (λ e. omega (arith, h, e)) ∙ inv.later k (omega arith);
    }
