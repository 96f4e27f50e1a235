use Rattle.std.proofs.Common.{◌≡◌, ◌≢◌, ◌∙◌, ℕ, ◌+◌, ap, sym, length, arith}
use Rattle.flow_model.specs.declared.edges.Edge.{Edge}
use Rattle.flow_model.specs.Networks.{tail, head, residual}
use Rattle.flow_parts.specs.OuterEdges.{edge_of}
use Rattle.flow_sparse.specs.States.{State}
use Rattle.flow_sparse.proofs.Loops.{list_of-number, list_of-loop, list_of-shut, list_of-kept}
use Rattle.flow_sparse.proofs.network.Network.list_of.Goals as goal

pub returns-then-ends-clause-list : goal.returns-then-ends-clause-list
returns-then-ends-clause-list c =
    let s : State = c.args.self.now in
    let own : c.outer_edge-edge.result ≡ edge_of (length s.instance.arcs) c.args.number = c.outer_edge-edge.ensures ∙ ap (λ (n : ℕ). edge_of n c.args.number) c.arc_count.ensures in
    let same = sym (c.ends-ends.ensures.tail ∙ ap (tail s.instance.arcs) own) ∙ c.if-ends.true ∙ c.ends-ends.ensures.head ∙ ap (head s.instance.arcs) own in
    ap (λ (n : ℕ). n + 1) c.steps-past.ensures ∙ sym (list_of-number s c.args.number ∙ list_of-loop s (edge_of (length s.instance.arcs) c.args.number) same)

pub returns-then-residual-eq0-clause-list : goal.returns-then-residual-eq0-clause-list
returns-then-residual-eq0-clause-list c =
    let s : State = c.args.self.now in
    let own : c.outer_edge-edge.result ≡ edge_of (length s.instance.arcs) c.args.number = c.outer_edge-edge.ensures ∙ ap (λ (n : ℕ). edge_of n c.args.number) c.arc_count.ensures in
    let none = sym (c.residual.ensures ∙ ap (residual s.instance s.flows) own) ∙ c.if-residual-eq0.true in
    ap (λ (n : ℕ). n + 1) c.steps-past.ensures ∙ sym (list_of-number s c.args.number ∙ list_of-shut s (edge_of (length s.instance.arcs) c.args.number) none)

pub returns-clause-list : goal.returns-clause-list
returns-clause-list c =
    let s : State = c.args.self.now in
    let e : Edge = edge_of (length s.instance.arcs) c.args.number in
    let own : c.outer_edge-edge.result ≡ e = c.outer_edge-edge.ensures ∙ ap (λ (n : ℕ). edge_of n c.args.number) c.arc_count.ensures in
    let tail_is = c.ends-ends.ensures.tail ∙ ap (tail s.instance.arcs) own in
    let head_is = c.ends-ends.ensures.head ∙ ap (head s.instance.arcs) own in
    let some : residual s.instance s.flows e ≢ 0 = λ none. omega (arith, none, c.residual.ensures, ap (residual s.instance s.flows) own, c.if-residual-eq0.false) in
    tail_is ∙ sym (list_of-number s c.args.number ∙ list_of-kept s e (λ same. c.if-ends.false (tail_is ∙ same ∙ sym head_is)) some)
