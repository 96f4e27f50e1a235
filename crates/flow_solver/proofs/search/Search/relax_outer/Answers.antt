use Rattle.std.proofs.Common.{◌≡◌, ℕ, ◌-◌, ◌*◌, ◌<◌, ◌≤◌, ◌∙◌, sym, ap, subst, arith, ⊎_elim, length}
use Rattle.std.proofs.lemmas.Bool.{cases_eq, cases_lt}
use Rattle.flow_model.specs.declared.edges.Edge.{Edge}
use Rattle.flow_model.specs.Instances.{Instance}
use Rattle.flow_model.specs.Networks.{IsEdge}
use Rattle.flow_parts.specs.OuterEdges.{edge_of, tail_of}
use Rattle.flow_solver.specs.Searches.{IsSettledToLast, WaitsNowhere}
use Rattle.flow_solver.proofs.Distances.{NearsToLast-trans}
use Rattle.flow_parts.proofs.EdgeLists.{is_edge_of}
use Rattle.flow_solver.proofs.search.Search.relax_outer.Goals as goal

pub relax-requires-clause-edge : goal.relax-requires-clause-edge
relax-requires-clause-edge c =
    let instance : Instance = c.args.network.now.instance in
    let count : ℕ = length instance.arcs in
    let number : ℕ = c.loop-left.left - 1 in
    let own : c.outer_edge.result ≡ edge_of count number = c.outer_edge.ensures ∙ ap (λ (n : ℕ). edge_of n number) (ap length c.arcs.ensures.arcs ∙ ap (λ (i : Instance). length i.arcs) c.instance.ensures.instance) in
    subst (λ (e : Edge). IsEdge instance e) (sym own) (is_edge_of instance number (omega (arith, c.loop-left.invariant.within, c.loop-left-test.true)))

pub returns-clause-settled : goal.returns-clause-settled
returns-clause-settled c = λ rests k high at. c.loop-left.invariant.settled rests k (omega (arith, c.loop-left-test.false)) high at

pub loop-left-preserved : goal.loop-left-preserved
loop-left-preserved c =
    let n = c.args.network.now in
    let arcs = n.instance.arcs in
    let lists = c.requires.edges in
    let before = c.loop-left.self in
    let after = c.relax.new.self in
    let inv = c.loop-left.invariant in
    let number : ℕ = c.loop-left.left - 1 in
    let within : number < 2 * length arcs = omega (arith, inv.within, c.loop-left-test.true) in
    let count : ℕ = length arcs in
    let own : c.outer_edge.result ≡ edge_of count number = c.outer_edge.ensures ∙ ap (λ (n : ℕ). edge_of n number) (ap length c.arcs.ensures.arcs ∙ ap (λ (i : Instance). length i.arcs) c.instance.ensures.instance) in
    let here : tail_of arcs number ≡ c.args.node = inv.here c.loop-left-test.true in
    let next = c.after-left.ensures in
    record {
      nears = NearsToLast-trans n c.args.self.now before after inv.nears c.relax.ensures.nears;
      within = omega (arith, next, lists.next_low number within);
      here = λ some. ap (λ k. tail_of arcs (k - 1)) next ∙ lists.next_here number within (omega (arith, next, some)) ∙ here;
      settled = λ rests k low high at.
          ⊎_elim
          (λ (e : k ≡ number). subst (λ (f : Edge). IsSettledToLast n after.distances f) (own ∙ ap (edge_of count) (sym e)) c.relax.ensures.settled)
          (λ (other : k ≡ number → ⊥).
          ⊎_elim
          (λ (h : k < number). absurd (lists.none_between number k within (omega (arith, next, low)) h (at ∙ sym here)))
          (λ (h : number ≤ k). c.relax.ensures.nears.stays (edge_of count k) (is_edge_of n.instance k high) (subst (λ (v : ℕ). WaitsNowhere after v) (sym at) rests) (inv.settled (c.relax.ensures.nears.rests c.args.node rests) k (omega arith) high at))
          (cases_lt k number))
          (cases_eq k number);
    }

pub first-left-requires : goal.first-left-requires
first-left-requires c = omega (arith, c.requires.edges.each_node, c.requires.node)

pub overflow_sub-number : goal.overflow_sub-number
overflow_sub-number c = omega (arith, c.loop-left-test.true)

pub relax-requires-clause-ready : goal.relax-requires-clause-ready
relax-requires-clause-ready c = c.requires.ready

pub relax-requires-clause-search : goal.relax-requires-clause-search
relax-requires-clause-search c = c.loop-left.invariant.nears.search

pub after-left-requires : goal.after-left-requires
after-left-requires c = omega (arith, c.requires.edges.each_edge, c.loop-left.invariant.within, c.loop-left-test.true)

pub loop-left-smaller : goal.loop-left-smaller
loop-left-smaller c = omega (arith, c.after-left.ensures, c.requires.edges.next_low (c.loop-left.left - 1) (omega (arith, c.loop-left.invariant.within, c.loop-left-test.true)), c.loop-left-test.true)

pub returns-clause-nears : goal.returns-clause-nears
returns-clause-nears c = c.loop-left.invariant.nears
