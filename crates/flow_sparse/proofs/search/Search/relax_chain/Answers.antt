use Rattle.std.proofs.Common.{◌≡◌, ◌≢◌, ℕ, ◌-◌, ◌<◌, ◌≤◌, ◌∙◌, sym, ap, subst, arith, ⊎_elim, length}
use Rattle.std.proofs.lemmas.Bool.{cases_eq, cases_lt}
use Rattle.flow_model.specs.declared.edges.Edge.{Edge}
use Rattle.flow_parts.specs.OuterEdges.{edge_of, tail_of}
use Rattle.flow_parts.proofs.EdgeLists.{is_edge_of}
use Rattle.flow_sparse.specs.declared.edges.WokenEdge.{WokenEdge}
use Rattle.flow_sparse.specs.Ranges.{woken_at, woken_tail}
use Rattle.flow_sparse.specs.Searches.{Rests, IsSettledBy}
use Rattle.flow_sparse.proofs.Distances.{Nears-refl, Nears-trans}
use Rattle.flow_sparse.proofs.search.Search.relax_chain.Goals as goal

pub loop-left-init : goal.loop-left-init
loop-left-init c =
    let n = c.args.network.now in
    let chained = c.requires.lists.chained in
    let last = c.last-left.ensures in
    record {
      low = omega (arith, last, chained.last_low c.args.node);
      here = λ some. ap (λ (j : ℕ). woken_tail n.instance c.args.lists.now.woken (j - 1)) last ∙ chained.last_here c.args.node c.requires.node (omega (arith, some, last));
      nears = Nears-refl n c.args.from c.args.self.now c.requires.search;
      settled = λ rests i after inside here. absurd (chained.none_after c.args.node i c.requires.node (omega (arith, after, last)) inside here);
    }

pub loop-left-preserved : goal.loop-left-preserved
loop-left-preserved c =
    let n = c.args.network.now in
    let lists = c.args.lists.now in
    let chained = c.requires.lists.chained in
    let inv = c.loop-left.invariant in
    let after = c.relax_woken.new.self in
    let at : ℕ = c.loop-left.left - 1 in
    let some : 0 < c.loop-left.left = omega (arith, c.loop-left-test.true) in
    let inside : at < length lists.woken = omega (arith, some, inv.low) in
    let edge : c.woken-edge.result ≡ woken_at lists.woken at = c.woken-edge.ensures in
    let before : c.woken-edge.result.before ≡ (woken_at lists.woken at).before = ap (λ (w : WokenEdge). w.before) edge in
    let own : woken_tail n.instance lists.woken at ≡ c.args.node = inv.here some in
    let is = c.relax_woken.ensures in
    record {
      low = omega (arith, before, chained.before_low at inside, inside);
      here = λ more.
          ap (λ (j : ℕ). woken_tail n.instance lists.woken (j - 1)) before ∙ chained.before_here at inside (omega (arith, more, before)) ∙ own;
      nears = Nears-trans n c.args.from c.args.self.now c.loop-left.self after inv.nears is.nears;
      settled = λ rests i low high tail.
          let number : ℕ = (woken_at lists.woken i).number in
          let f : Edge = edge_of (length n.instance.arcs) number in
          ⊎_elim
          (λ (e : i ≡ at).
          subst (λ (k : ℕ). IsSettledBy n after (edge_of (length n.instance.arcs) k)) (ap (λ (w : WokenEdge). w.number) edge ∙ ap (λ (j : ℕ). (woken_at lists.woken j).number) (sym e)) is.settled)
          (λ (a : i ≢ at).
          ⊎_elim
          (λ (less : i < at). absurd (chained.none_between at i inside (omega (arith, low, before)) less (tail ∙ sym own)))
          (λ (more : at ≤ i).
          is.nears.stays f (is_edge_of n.instance number (chained.are_edges i high)) (subst (λ (v : ℕ). Rests after v) (sym tail) rests)
          (inv.settled (is.nears.rests c.args.node rests) i (omega (arith, more, a, some)) high tail))
          (cases_lt i at))
          (cases_eq i at);
    }

pub loop-left-smaller : goal.loop-left-smaller
loop-left-smaller c =
    let lists = c.args.lists.now in
    let at : ℕ = c.loop-left.left - 1 in
    let some : 0 < c.loop-left.left = omega (arith, c.loop-left-test.true) in
    omega (arith, ap (λ (w : WokenEdge). w.before) c.woken-edge.ensures, c.requires.lists.chained.before_low at (omega (arith, some, c.loop-left.invariant.low)), some)

pub returns-clause-settled : goal.returns-clause-settled
returns-clause-settled c = λ rests k tail was.
    let n = c.args.network.now in
    let lists = c.args.lists.now in
    let here : woken_tail n.instance lists.woken was.0 ≡ c.args.node = ap (tail_of n.instance.arcs) was.2 ∙ tail in
    subst (λ (j : ℕ). IsSettledBy n c.loop-left.self (edge_of (length n.instance.arcs) j)) was.2
    (c.loop-left.invariant.settled rests was.0 (omega (arith, c.loop-left-test.false)) was.1 here)

pub returns-clause-nears : goal.returns-clause-nears
returns-clause-nears c = c.loop-left.invariant.nears
