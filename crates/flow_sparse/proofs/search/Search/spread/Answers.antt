use Rattle.std.proofs.Common.{◌∙◌, refl, ap, subst, arith, sum, length}
use Rattle.flow_parts.specs.Queues.{Waiting, Waits}
use Rattle.flow_sparse.specs.Searches.{Found}
use Rattle.flow_sparse.proofs.Distances.{next_settled, search_taken, none_after}
use Rattle.flow_sparse.proofs.search.Search.spread.Goals as goal

pub relax_from-requires-clause-search : goal.relax_from-requires-clause-search
relax_from-requires-clause-search c =
    let take = c.in-Some.ensures in
    search_taken c.args.network.now c.args.from c.loop-node.self c.take_nearest.new.self c.loop-node.invariant.search take.rest take.queue take.some.quits.only

pub relax_from-requires-clause-node : goal.relax_from-requires-clause-node
relax_from-requires-clause-node c = c.loop-node.invariant.search.waits c.in-Some.node c.in-Some.ensures.some.waited

pub loop-node-preserved : goal.loop-node-preserved
loop-node-preserved c =
    let take = c.in-Some.ensures in
    record {
      search = c.relax_from.ensures.nears.search;
      settled = next_settled c.args.network.now c.args.from c.loop-node.self c.take_nearest.new.self c.relax_from.new.self c.in-Some.node c.loop-node.invariant.settled take.rest take.some c.relax_from.ensures.nears c.relax_from.ensures.settled;
      each_distance = c.relax_from.ensures.nears.each_distance ∙ ap (λ (f : Found). length f.distances) take.rest ∙ c.loop-node.invariant.each_distance;
      each_parent = c.relax_from.ensures.nears.each_parent ∙ ap (λ (f : Found). length f.parents) take.rest ∙ c.loop-node.invariant.each_parent;
    }

pub loop-node-smaller : goal.loop-node-smaller
loop-node-smaller c =
    let take = c.in-Some.ensures in
    omega (arith, c.relax_from.ensures.nears.falls, take.some.quits.count, ap (λ (f : Found). sum f.distances) take.rest)

pub returns-clause-search : goal.returns-clause-search
returns-clause-search c =
    let take = c.in_default.ensures in
    search_taken c.args.network.now c.args.from c.loop-node.self c.take_nearest.new.self c.loop-node.invariant.search take.rest take.queue (λ v h. subst (λ (w : Waiting). Waits w v) take.same h)

pub returns-clause-settled : goal.returns-clause-settled
returns-clause-settled c =
    none_after c.args.network.now c.loop-node.self c.take_nearest.new.self c.requires.ready c.loop-node.invariant.settled c.in_default.ensures.rest c.loop-node.invariant.search.queue (c.in_default.ensures.none.0 refl)
