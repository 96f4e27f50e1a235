use Rattle.std.proofs.Common.{◌≡◌, ◌≢◌, ℕ, ◌-◌, ◌<◌, ◌≤◌, ◌∙◌, ◌∷◌, List, All, length, drop, set, ap, sym, subst, arith, length-drop, length-set}
use Rattle.std.proofs.lemmas.List.Elements.{All-head, All-tail}
use Rattle.flow_model.specs.declared.edges.Edge.{Edge}
use Rattle.flow_model.specs.Networks.{tail, residual}
use Rattle.flow_model.specs.Pushes.{edge_at}
use Rattle.flow_parts.proofs.EdgeLists.{ends_within}
use Rattle.flow_parts.proofs.Routes.{route_grows, route_is_short, written_ahead}
use Rattle.flow_solver.proofs.Routes.{IsRouteToLast, route_ends}
use Rattle.flow_solver.proofs.route.trace.Goals as goal

pub overflow_sub-start : goal.overflow_sub-start
overflow_sub-start c =
    omega (
      arith,
      route_is_short c.loop-node.invariant.route (omega (arith, c.loop-node-test.true)),
      length-drop c.loop-node.start c.loop-node.path,
      c.loop-node.auto.path,
      c.requires.path_room,
    )

pub loop-node-smaller : goal.loop-node-smaller
loop-node-smaller c =
    omega (
      arith,
      route_is_short c.loop-node.invariant.route (omega (arith, c.loop-node-test.true)),
      length-drop c.loop-node.start c.loop-node.path,
      c.loop-node.auto.path,
      c.requires.path_room,
    )

pub loop-node-preserved : goal.loop-node-preserved
loop-node-preserved c =
    let n = c.args.network.now in
    let found = c.args.search.now in
    let node = c.loop-node.node in
    let s = c.loop-node.start in
    let path = c.loop-node.path in
    let inv = c.loop-node.invariant in
    let other : node ≢ 0 = omega (arith, c.loop-node-test.true) in
    let e : Edge = edge_at found.parents node in
    let least = c.min-amount.result in
    let own = c.parent-edge.ensures in
    let some : 0 < s = omega (
      arith,
      route_is_short inv.route other,
      length-drop s path,
      c.loop-node.auto.path,
      c.requires.path_room,
    ) in
    let whole : drop (s - 1) (set path (s - 1) c.parent-edge.result) ≡ e ∷ drop s path = written_ahead path s c.parent-edge.result e some inv.within own in
    let from : c.ends-node.result.tail ≡ tail n.instance.arcs e = c.ends-node.ensures.tail ∙ ap (tail n.instance.arcs) own in
    let room_is : c.residual.result ≡ residual n.instance n.flows e = c.residual.ensures.residual ∙ ap (residual n.instance n.flows) own in
    let tight_room = (inv.route.back.tight_parents.1 node other inv.route.within inv.route.near).tight.room in
    let route : IsRouteToLast n found (tail n.instance.arcs e) (e ∷ drop s path) least =
    route_grows least (ends_within n.instance c.requires.fits.in_range) inv.route other
    (omega (arith, c.min-amount.ensures, room_is, tight_room, inv.route.some)) (omega (arith, c.min-amount.ensures)) (omega (arith, c.min-amount.ensures, room_is)) in
    record {
      route = subst (λ (k : ℕ). IsRouteToLast n found k (drop (s - 1) (set path (s - 1) c.parent-edge.result)) least) (sym from) (subst (λ (es : List Edge). IsRouteToLast n found (tail n.instance.arcs e) es least) (sym whole) route);
      within = omega (arith, inv.within, ap length whole, length-set path (s - 1) c.parent-edge.result);
      units = omega (arith, inv.units, c.min-amount.ensures);
      most = λ more fit under.
          let fits : All (λ f. more ≤ residual n.instance n.flows f) (e ∷ drop s path) = subst (λ (es : List Edge). All (λ f. more ≤ residual n.instance n.flows f) es) whole fit in
          omega (
            arith,
            c.min-amount.ensures,
            room_is,
            All-head (λ f. more ≤ residual n.instance n.flows f) e (drop s path) fits,
            inv.most more (All-tail (λ f. more ≤ residual n.instance n.flows f) e (drop s path) fits) under,
          );
    }

pub returns-clause-can : goal.returns-clause-can
returns-clause-can c =
    route_ends c.args.network.now c.args.search.now c.loop-node.node (drop c.loop-node.start c.loop-node.path) c.loop-node.amount c.loop-node.invariant.route (omega (arith, c.loop-node-test.false))

pub returns-clause-most : goal.returns-clause-most
returns-clause-most c = λ more can under. c.loop-node.invariant.most more can.room under
