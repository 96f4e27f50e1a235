use Rattle.std.proofs.Common.{ap, sym, subst, arith}
use Rattle.std.proofs.lemmas.List.{get_or_read}
use Rattle.flow_model.specs.Instances.{arc_at}
use Rattle.flow_model.specs.Networks.{IsEdge}
use Rattle.flow_model.proofs.Equal.{zip_at}
use Rattle.flow_network.specs.States.{State}
use Rattle.flow_network.proofs.network.Network.residual.Goals as goal

pub index-requires-in-Outer : goal.index-requires-in-Outer
index-requires-in-Outer c =
    let n = c.self.inside in
    let weights = zip_at n.instance.now.arcs n.outer.items c.self.invariant.balanced.within_weights in
    let own = subst (λ (s : State). IsEdge s.instance c.args.edge) (sym c.self.view_is) c.requires in
    omega (arith, rw c.in-Outer.is at own, weights.0, n.outer.ok.0)

pub overflow_sub-result : goal.overflow_sub-result
overflow_sub-result c =
    let n = c.self.inside in
    let weights = zip_at n.instance.now.arcs n.outer.items c.self.invariant.balanced.within_weights in
    let own = subst (λ (s : State). IsEdge s.instance c.args.edge) (sym c.self.view_is) c.requires in
    let within = rw c.in-Outer.is at own in
    let i = c.in-Outer.arc in
    let flow = get_or_read n.outer.items i c.index-in-Outer.result.now (omega (arith, within, weights.0)) c.index-in-Outer.ensures 0 in
    omega (arith, weights.1 i within, flow, ap (λ xs. (arc_at xs i).weight) c.arcs.ensures.arcs)

pub index-requires-in-OuterBack : goal.index-requires-in-OuterBack
index-requires-in-OuterBack c =
    let n = c.self.inside in
    let weights = zip_at n.instance.now.arcs n.outer.items c.self.invariant.balanced.within_weights in
    let own = subst (λ (s : State). IsEdge s.instance c.args.edge) (sym c.self.view_is) c.requires in
    omega (arith, rw c.in-OuterBack.is at own, weights.0, n.outer.ok.0)

pub returns-in-Outer-clause-residual : goal.returns-in-Outer-clause-residual
returns-in-Outer-clause-residual c =
    let n = c.self.inside in
    let weights = zip_at n.instance.now.arcs n.outer.items c.self.invariant.balanced.within_weights in
    let own = subst (λ (s : State). IsEdge s.instance c.args.edge) (sym c.self.view_is) c.requires in
    let within = rw c.in-Outer.is at own in
    let i = c.in-Outer.arc in
    let flow = get_or_read n.outer.items i c.index-in-Outer.result.now (omega (arith, within, weights.0)) c.index-in-Outer.ensures 0 in
    rw (c.in-Outer.is, ← c.self.view_is) (omega (arith, flow, ap (λ xs. (arc_at xs i).weight) c.arcs.ensures.arcs))

pub returns-in-OuterBack-clause-residual : goal.returns-in-OuterBack-clause-residual
returns-in-OuterBack-clause-residual c =
    let n = c.self.inside in
    let weights = zip_at n.instance.now.arcs n.outer.items c.self.invariant.balanced.within_weights in
    let own = subst (λ (s : State). IsEdge s.instance c.args.edge) (sym c.self.view_is) c.requires in
    let within = rw c.in-OuterBack.is at own in
    rw (c.in-OuterBack.is, ← c.self.view_is) (get_or_read n.outer.items c.in-OuterBack.arc c.index-in-OuterBack.result.now (omega (arith, within, weights.0)) c.index-in-OuterBack.ensures 0)
