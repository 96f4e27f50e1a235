use Rattle.std.proofs.Common.{ℕ, ◌≡◌, ◌∙◌, ap, subst, arith, ◌-◌, ◌<◌, slice_index}
use Rattle.flow_model.specs.declared.edges.Edge.{Edge}
use Rattle.flow_model.specs.Instances.{Instance}
use Rattle.flow_model.specs.Networks.{tail}
use Rattle.flow_model.specs.declared.edges.Edge.TheVariants.{InnerBack}
use Rattle.flow_model.specs.declared.edges.Edge.TheVariants.{Inner}
use Rattle.flow_solver.specs.Searches.{IsSettledToLast, WaitsNowhere}
use Rattle.flow_solver.proofs.Distances.{NearsToLast-refl, NearsToLast-trans}
use Rattle.flow_parts.proofs.EdgeLists.{each_edge_from}
use Rattle.flow_solver.proofs.search.Search.relax_from.Goals as goal

pub returns-clause-settled : goal.returns-clause-settled
returns-clause-settled c = λ rests e is at.
    let n = c.args.network.now in
    let node = c.args.node in
    let last = c.relax_outer.new.self in
    let later = c.relax_outer.ensures.nears in
    let before : WaitsNowhere c.relax_on.new.self node = later.rests node rests in
    each_edge_from n.instance node (IsSettledToLast n last.distances)
    (c.relax_outer.ensures.settled rests)
    (λ within. later.stays (Inner node) within rests (c.relax_on.ensures.settled within))
    (λ some.
    let back : Edge = InnerBack (node - 1) in
    let is_back : node - 1 < n.instance.steps = omega arith in
    let own : node ≡ tail n.instance.arcs back = omega arith in
    later.stays back is_back (subst (λ (v : ℕ). WaitsNowhere last v) own rests)
    (c.relax_on.ensures.nears.stays back is_back (subst (λ (v : ℕ). WaitsNowhere c.relax_on.new.self v) own before) (c.relax_back.ensures.settled some)))
    e is at

pub distance-requires : goal.distance-requires
distance-requires c = omega (arith, c.requires.node, c.requires.search.each_distance)

pub distance-requires-2 : goal.distance-requires-2
distance-requires-2 c = omega (arith, c.steps.ensures, ap (λ (i : Instance). i.steps) c.instance.ensures.instance, c.requires.search.each_distance)

pub returns-then-distance-clause-nears : goal.returns-then-distance-clause-nears
returns-then-distance-clause-nears c = NearsToLast-refl c.args.network.now c.args.self.now c.requires.search

pub returns-then-distance-clause-settled : goal.returns-then-distance-clause-settled
returns-then-distance-clause-settled c = λ rests e is at has.
    let d = c.args.self.now.distances in
    let last : c.steps.result ≡ c.args.network.now.instance.steps = c.steps.ensures ∙ ap (λ (i : Instance). i.steps) c.instance.ensures.instance in
    omega (arith, c.if-distance.true, c.distance.ensures, c.distance-2.ensures, ap (slice_index d) last, ap (slice_index d) at, c.requires.ready.valid e is has)

pub relax_back-requires-clause-ready : goal.relax_back-requires-clause-ready
relax_back-requires-clause-ready c = c.requires.ready

pub relax_back-requires-clause-search : goal.relax_back-requires-clause-search
relax_back-requires-clause-search c = c.requires.search

pub relax_back-requires-clause-node : goal.relax_back-requires-clause-node
relax_back-requires-clause-node c = c.requires.node

pub relax_on-requires-clause-ready : goal.relax_on-requires-clause-ready
relax_on-requires-clause-ready c = c.requires.ready

pub relax_on-requires-clause-search : goal.relax_on-requires-clause-search
relax_on-requires-clause-search c = c.relax_back.ensures.nears.search

pub relax_outer-requires-clause-ready : goal.relax_outer-requires-clause-ready
relax_outer-requires-clause-ready c = c.requires.ready

pub relax_outer-requires-clause-search : goal.relax_outer-requires-clause-search
relax_outer-requires-clause-search c = c.relax_on.ensures.nears.search

pub relax_outer-requires-clause-edges : goal.relax_outer-requires-clause-edges
relax_outer-requires-clause-edges c = c.requires.edges

pub relax_outer-requires-clause-node : goal.relax_outer-requires-clause-node
relax_outer-requires-clause-node c = c.requires.node

pub returns-clause-nears : goal.returns-clause-nears
returns-clause-nears c =
    let n = c.args.network.now in
    let first = NearsToLast-trans n c.args.self.now c.relax_back.new.self c.relax_on.new.self c.relax_back.ensures.nears c.relax_on.ensures.nears in
    NearsToLast-trans n c.args.self.now c.relax_on.new.self c.relax_outer.new.self first c.relax_outer.ensures.nears
