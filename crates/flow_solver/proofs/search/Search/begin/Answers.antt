use Rattle.std.proofs.Common.{◌≡◌, ◌≢◌, ℕ, ◌∙◌, ◌++◌, List, length, take, drop, set, ap, subst, arith, length-set, get_or-set_same, get_or-set_other, ◌+◌}
use Rattle.flow_model.proofs.Lists.{written}
use Rattle.flow_parts.specs.Queues.{IsQueue}
use Rattle.flow_parts.proofs.Trees.{first_tree}
use Rattle.flow_solver.specs.Searches.{FoundToLast, above_first}
use Rattle.flow_solver.proofs.search.Search.begin.Goals as goal

pub returns-clause-far : goal.returns-clause-far
returns-clause-far c =
    let old = c.self.inside.distances in
    let all = c.loop-distance.distance-items in
    let same : length all ≡ length old.items = omega (arith, c.loop-distance.auto.distance-items, ap length c.deref_mut-distance-items.ensures.value) in
    let whole : take old.len (all ++ drop (length all) old.items) ≡ all = written old.items all old.len same old.ok.0 in
    rw whole (λ node some within.
    let other : node ≢ 0 = omega arith in
    omega (
      arith,
      get_or-set_other all 0 node 0 0 other,
      c.loop-distance.invariant node (omega (arith, same, c.requires.room.distances, ap (λ (f : FoundToLast). length f.distances) c.self.view_is, c.loop-distance-test.false, c.loop-distance.auto.distance-items)),
      c.potential-far.ensures.potential,
    ))

pub returns-clause-search : goal.returns-clause-search
returns-clause-search c =
    let n = c.args.network.now in
    let old = c.self.inside.distances in
    let all = c.loop-distance.distance-items in
    let same : length all ≡ length old.items = omega (arith, c.loop-distance.auto.distance-items, ap length c.deref_mut-distance-items.ensures.value) in
    let whole : take old.len (all ++ drop (length all) old.items) ≡ all = written old.items all old.len same old.ok.0 in
    let queue : IsQueue c.offer.new.self (set all 0 0) = subst (λ (ds : List ℕ). IsQueue c.offer.new.self ds) (c.deref.ensures.value ∙ ap (λ ds. set ds 0 0) whole) c.offer.ensures.queue in
    let nodes : length all ≡ n.instance.steps + 1 = omega (arith, same, c.requires.room.distances, ap (λ (f : FoundToLast). length f.distances) c.self.view_is) in
    rw whole (record {
      tree = first_tree n.instance n.flows n.potentials 0 (above_first n) (set all 0 0) c.self.inside.parents.items (omega (arith, length-set all 0 0, nodes)) (omega (arith, c.requires.room.parents, ap (λ (f : FoundToLast). length f.parents) c.self.view_is)) (omega arith)
          (get_or-set_same all 0 0 0 (omega (arith, nodes)))
          (λ node other within.
          omega (arith, get_or-set_other all 0 node 0 0 other, c.loop-distance.invariant node (omega (arith, nodes, same, c.loop-distance-test.false, c.loop-distance.auto.distance-items)), c.potential-far.ensures.potential));
      each_distance = omega (arith, length-set all 0 0, nodes);
      each_parent = omega (arith, c.requires.room.parents, ap (λ (f : FoundToLast). length f.parents) c.self.view_is);
      queue = queue;
      small_stack = omega (arith, c.requires.room.stack, ap (λ (f : FoundToLast). length f.stack) c.self.view_is);
      stack_fits = omega arith;
      stacked = λ p h. absurd (omega arith);
    })

pub potential-far-requires : goal.potential-far-requires
potential-far-requires c = omega arith

pub overflow_add-far : goal.overflow_add-far
overflow_add-far c = omega (arith, c.potential-far.ensures.small)

pub clear-requires-clause-lengths : goal.clear-requires-clause-lengths
clear-requires-clause-lengths c = omega (arith, c.requires.room.nodes, c.requires.room.places, ap (λ (f : FoundToLast). length f.waiting.nodes) c.self.view_is, ap (λ (f : FoundToLast). length f.waiting.places) c.self.view_is)

pub clear-requires-clause-few : goal.clear-requires-clause-few
clear-requires-clause-few c = omega (arith, c.requires.room.places, c.requires.ready.fits.in_range.few_steps, ap (λ (f : FoundToLast). length f.waiting.places) c.self.view_is)

pub offer-requires-clause-node : goal.offer-requires-clause-node
offer-requires-clause-node c = omega (arith, c.clear.ensures.places, c.requires.room.places, ap (λ (f : FoundToLast). length f.waiting.places) c.self.view_is)

pub returns-clause-waits : goal.returns-clause-waits
returns-clause-waits c = c.offer.ensures.joins.joined
