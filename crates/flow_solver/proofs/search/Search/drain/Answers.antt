use Rattle.std.proofs.Common.{◌≡◌, ◌∙◌, refl, sym, ap, subst, sum, arith}
use Rattle.flow_solver.specs.Searches.{FoundToLast, AreSettledToLast}
use Rattle.flow_solver.proofs.Distances.{next_settled, rests_after_pop, search_popped}
use Rattle.flow_solver.proofs.search.Search.drain.Goals as goal

pub loop-node-preserved : goal.loop-node-preserved
loop-node-preserved c =
    let n = c.args.network.now in
    let old : FoundToLast = c.loop-node.self in
    let taken : FoundToLast = c.pop.new.self in
    let new : FoundToLast = c.relax_from.new.self in
    let pop = c.in-Some.ensures in
    let nears = c.relax_from.ensures.nears in
    record {
      search = nears.search;
      settled = next_settled n old taken new c.in-Some.node c.loop-node.invariant.settled (ap (λ (f : FoundToLast). f.distances) pop.rest)
          (λ v other rests. rests_after_pop old taken c.in-Some.node v pop.rest pop.some.0 pop.some.1 other rests) nears c.relax_from.ensures.settled;
      falls = omega (arith, c.loop-node.invariant.falls, nears.falls, pop.some.0, ap (λ (f : FoundToLast). sum f.distances) pop.rest, ap (λ (f : FoundToLast). f.waiting.count) pop.rest);
    }

pub loop-node-init : goal.loop-node-init
loop-node-init c = record { search = c.requires.search; settled = c.requires.settled; falls = omega arith }

pub pop-requires : goal.pop-requires
pop-requires c = c.loop-node.invariant.search.stack_fits

pub relax_from-requires-clause-ready : goal.relax_from-requires-clause-ready
relax_from-requires-clause-ready c = c.requires.ready

pub relax_from-requires-clause-search : goal.relax_from-requires-clause-search
relax_from-requires-clause-search c = search_popped c.args.network.now c.loop-node.self c.pop.new.self c.loop-node.invariant.search c.in-Some.ensures.rest (omega (arith, c.in-Some.ensures.some.0))

pub relax_from-requires-clause-edges : goal.relax_from-requires-clause-edges
relax_from-requires-clause-edges c = c.requires.edges

pub relax_from-requires-clause-node : goal.relax_from-requires-clause-node
relax_from-requires-clause-node c = omega (arith, c.in-Some.ensures.some.0, c.in-Some.ensures.some.1, c.loop-node.invariant.search.stacked c.pop.new.self.depth (omega (arith, c.in-Some.ensures.some.0)))

pub loop-node-smaller : goal.loop-node-smaller
loop-node-smaller c =
    let pop = c.in-Some.ensures in
    omega (arith, c.relax_from.ensures.nears.falls, pop.some.0, ap (λ (f : FoundToLast). sum f.distances) pop.rest, ap (λ (f : FoundToLast). f.waiting.count) pop.rest)

pub returns-clause-search : goal.returns-clause-search
returns-clause-search c = search_popped c.args.network.now c.loop-node.self c.pop.new.self c.loop-node.invariant.search c.in_default.ensures.rest (omega (arith, c.in_default.ensures.same))

pub returns-clause-settled : goal.returns-clause-settled
returns-clause-settled c =
    let n = c.args.network.now in
    let old : FoundToLast = c.loop-node.self in
    let same : c.pop.new.self ≡ old = c.in_default.ensures.rest ∙ ap (λ d. record old { depth = d }) c.in_default.ensures.same in
    subst (λ (f : FoundToLast). AreSettledToLast n f) (sym same) c.loop-node.invariant.settled

pub returns-clause-depth : goal.returns-clause-depth
returns-clause-depth c = c.in_default.ensures.same ∙ c.in_default.ensures.none.0 refl

pub returns-clause-falls : goal.returns-clause-falls
returns-clause-falls c =
    let pop = c.in_default.ensures in
    omega (arith, c.loop-node.invariant.falls, pop.same, ap (λ (f : FoundToLast). sum f.distances) pop.rest, ap (λ (f : FoundToLast). f.waiting.count) pop.rest)
