use Rattle.std.proofs.Common.{◌≡◌, ◌≢◌, ℕ, ◌+◌, ◌*◌, ◌<◌, ◌≤◌, ◌∙◌, sym, ap, subst, arith, ⊎_elim, length}
use Rattle.std.proofs.lemmas.Bool.{cases_eq, cases_lt}
use Rattle.flow_model.specs.declared.edges.Edge.{Edge}
use Rattle.flow_parts.specs.OuterEdges.{edge_of}
use Rattle.flow_parts.proofs.EdgeLists.{is_edge_of}
use Rattle.flow_sparse.specs.declared.edges.ListedEdge.{ListedEdge}
use Rattle.flow_sparse.specs.Ranges.{listed_at}
use Rattle.flow_sparse.specs.Searches.{Nears, Rests, IsSettledBy}
use Rattle.flow_sparse.proofs.Distances.{Nears-refl, Nears-trans}
use Rattle.flow_sparse.proofs.Entries.{has_head, settled_passed}
use Rattle.flow_sparse.proofs.search.Search.relax_listed.Goals as goal

pub next_place-place-requires-clause-rising : goal.next_place-place-requires-clause-rising
next_place-place-requires-clause-rising c = λ p q low between high.
    c.requires.lists.rising c.args.node c.requires.node p q (omega (arith, low, c.first.ensures)) between (omega (arith, high, c.first-past.ensures))

pub next_place-place-requires-clause-heads : goal.next_place-place-requires-clause-heads
next_place-place-requires-clause-heads c = λ p high.
    has_head c.args.network.now c.args.from c.args.lists.now c.args.self.now p c.requires.lists c.requires.search
    (omega (arith, high, c.first-past.ensures, c.requires.lists.within c.args.node c.requires.node))

pub next_place-place-requires-in-loop-place-clause-rising : goal.next_place-place-requires-in-loop-place-clause-rising
next_place-place-requires-in-loop-place-clause-rising c = λ p q low between high.
    c.requires.lists.rising c.args.node c.requires.node p q (omega (arith, low, c.loop-place.invariant.low)) between (omega (arith, high, c.first-past.ensures))

pub next_place-place-requires-in-loop-place-clause-heads : goal.next_place-place-requires-in-loop-place-clause-heads
next_place-place-requires-in-loop-place-clause-heads c = λ p high.
    has_head c.args.network.now c.args.from c.args.lists.now c.relax.new.self p c.requires.lists c.relax.ensures.nears.search
    (omega (arith, high, c.first-past.ensures, c.requires.lists.within c.args.node c.requires.node))

pub loop-place-init : goal.loop-place-init
loop-place-init c =
    let n = c.args.network.now in
    let lists = c.args.lists.now in
    let passed = c.next_place-place.ensures in
    record {
      low = omega (arith, passed.range, c.first.ensures);
      high = omega (arith, passed.range);
      nears = Nears-refl n c.args.from c.args.self.now c.requires.search;
      settled = λ rests p k low high tail entry.
          settled_passed n lists c.args.self.now c.args.node c.distance-near.result c.fall-fell.result c.first.result c.next_place-place.result c.requires.ready c.requires.lists
          (sym c.distance-near.ensures) (sym c.fall-fell.ensures) passed.passed p k (omega (arith, low, c.first.ensures)) high
          (omega (arith, high, passed.range, c.first-past.ensures, c.requires.lists.within c.args.node c.requires.node)) tail entry;
    }

pub loop-place-preserved : goal.loop-place-preserved
loop-place-preserved c =
    let n = c.args.network.now in
    let lists = c.args.lists.now in
    let count : ℕ = length n.instance.arcs in
    let inv = c.loop-place.invariant in
    let after = c.relax.new.self in
    let is = c.relax.ensures in
    let edge : ListedEdge = c.edge.result in
    let passed = c.next_place-place-in-loop-place.ensures in
    let nears : Nears n c.args.from c.args.self.now after = Nears-trans n c.args.from c.args.self.now c.loop-place.self after inv.nears is.nears in
    record {
      low = omega (arith, inv.low, passed.range);
      high = omega (arith, passed.range);
      nears = nears;
      settled = λ rests p k low high tail entry.
          let inside : p < length lists.edges = omega (arith, high, passed.range, c.first-past.ensures, c.requires.lists.within c.args.node c.requires.node) in
          let is_edge : k < 2 * count = omega (arith, entry.number_is, (c.requires.lists.sound p inside).is_edge) in
          ⊎_elim
          (λ (before : p < c.loop-place.place).
          is.nears.stays (edge_of count k) (is_edge_of n.instance k is_edge) (subst (λ (v : ℕ). Rests after v) (sym tail) rests)
          (inv.settled (is.nears.rests c.args.node rests) p k low before tail entry))
          (λ (from : c.loop-place.place ≤ p).
          ⊎_elim
          (λ (here : p ≡ c.loop-place.place).
          let same : listed_at lists.edges p ≡ edge = ap (listed_at lists.edges) here ∙ sym c.edge.ensures in
          let number : edge.number ≡ k = ap (λ (x : ListedEdge). x.number) (sym same) ∙ entry.number_is in
          let own : c.outer_edge.result ≡ edge_of count edge.number = c.outer_edge.ensures ∙ ap (λ (m : ℕ). edge_of m edge.number) c.arc_count.ensures in
          subst (λ (j : ℕ). IsSettledBy n after (edge_of count j)) number (subst (λ (e : Edge). IsSettledBy n after e) own is.settled))
          (λ (apart : p ≢ c.loop-place.place).
          settled_passed n lists after c.args.node c.distance-near.result c.fall-fell.result (c.loop-place.place + 1) c.next_place-place-in-loop-place.result c.requires.ready c.requires.lists
          (nears.same c.args.node rests ∙ sym c.distance-near.ensures) (sym c.fall-fell.ensures) passed.passed p k (omega (arith, from, apart)) high inside tail entry)
          (cases_eq p c.loop-place.place))
          (cases_lt p c.loop-place.place);
    }
