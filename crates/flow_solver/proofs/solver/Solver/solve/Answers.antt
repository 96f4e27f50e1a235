use Rattle.std.proofs.Common.{◌≡◌, ◌+◌, ◌-◌, ◌*◌, ◌++◌, drop, length, ap, refl, sym, subst, arith, ◌∙◌}
use Rattle.std.proofs.lemmas.List.{length-append, length-take-le}
use Rattle.flow_model.specs.Instances.{Instance, IsSolution}
use Rattle.flow_model.proofs.Lists.{written}
use Rattle.flow_parts.specs.OuterEdges.{AreListed}
use Rattle.flow_solver.specs.Searches.{HasSearchRoom}
use Rattle.flow_solver.proofs.LastRound.{solved}
use Rattle.flow_solver.proofs.solver.Solver.solve.Goals as goal

pub returns : goal.returns
returns c =
    let s = c.loop-network.network in
    let inv = c.loop-network.invariant in
    let room = c.into_distances-prices.result.items in
    let old = c.pop.new.self in
    let prices = c.write_prices.new.prices in
    let room_len : length room ≡ s.instance.steps + 1 = ap length c.into_distances-prices.ensures ∙ inv.room.distances in
    let old_len : length old.items ≡ s.instance.steps = omega (arith, ap length c.pop.ensures.rest, length-take-le (c.into_distances-prices.result.len - 1) room (omega (arith, c.into_distances-prices.result.ok.0)), room_len, c.into_distances-prices.result.ok.0) in
    let prices_len : length prices ≡ length old.items = omega (arith, c.write_prices.auto.prices, ap length c.deref_mut-2.ensures.value) in
    let whole = written old.items prices old.len prices_len old.ok.0 in
    let all : s.pushed ≡ s.instance.units = omega (arith, c.left.ensures.left, c.loop-network-test.false) in
    let answer : IsSolution s.instance prices s.flows.outer = solved s prices inv.ready all (omega (arith, prices_len, old_len)) c.write_prices.ensures in
    let of_self : s.instance ≡ c.args.self = inv.same ∙ c.self.view_is in
    rw (c.new.ensures, whole, c.into_flows.ensures) (subst (λ (i : Instance). IsSolution i prices s.flows.outer) of_self answer)

pub loop-network-init : goal.loop-network-init
loop-network-init c =
    let at = c.self.invariant in
    record { ready = at.ready; same = refl; edges = at.edges; room = at.room; marks = at.marks; path = at.path_room }

pub augment-requires-clause-ready : goal.augment-requires-clause-ready
augment-requires-clause-ready c = c.loop-network.invariant.ready

pub augment-requires-clause-edges : goal.augment-requires-clause-edges
augment-requires-clause-edges c = c.loop-network.invariant.edges

pub augment-requires-clause-room : goal.augment-requires-clause-room
augment-requires-clause-room c = c.loop-network.invariant.room

pub augment-requires-clause-marks : goal.augment-requires-clause-marks
augment-requires-clause-marks c = c.loop-network.invariant.marks

pub augment-requires-clause-path_room : goal.augment-requires-clause-path_room
augment-requires-clause-path_room c = ap length c.deref_mut.ensures.value ∙ c.loop-network.invariant.path

pub loop-network-preserved : goal.loop-network-preserved
loop-network-preserved c =
    let inv = c.loop-network.invariant in
    let path = c.loop-network.path in
    let new = c.augment.new.path in
    let same = c.augment.ensures.advances.same in
    let rest = drop (length new) path.items in
    let len : length new ≡ length path.items = omega (arith, c.augment.auto.path, ap length c.deref_mut.ensures.value) in
    record {
      ready = c.augment.ensures.advances.ready;
      same = same ∙ inv.same;
      edges = subst (λ (i : Instance). AreListed i c.self.inside.edges (2 * length i.arcs)) (sym same) inv.edges;
      room = subst (λ (i : Instance). HasSearchRoom i.steps c.augment.new.search) (sym same) c.augment.ensures.room;
      marks = omega (arith, c.augment.ensures.marks, inv.marks, ap (λ (i : Instance). i.steps) same);
      path = omega (arith, length-take-le path.len (new ++ rest) (omega (arith, length-append new rest, len, path.ok.0)), path.ok.0, inv.path, ap (λ (i : Instance). i.steps) same);
    }

pub write_prices-requires-clause-ready : goal.write_prices-requires-clause-ready
write_prices-requires-clause-ready c = c.loop-network.invariant.ready

pub write_prices-requires-clause-each_step : goal.write_prices-requires-clause-each_step
write_prices-requires-clause-each_step c =
    let room = c.into_distances-prices.result.items in
    let fits = c.into_distances-prices.result.ok.0 in
    omega (
      arith,
      ap length c.deref_mut-2.ensures.value,
      ap length c.pop.ensures.rest,
      length-take-le (c.into_distances-prices.result.len - 1) room (omega (arith, fits)),
      ap length c.into_distances-prices.ensures,
      c.loop-network.invariant.room.distances,
      fits,
    )
