use Rattle.std.proofs.Common.{◌≡◌, ℕ, ◌<◌, sym, subst, length, ⊎_elim}
use Rattle.std.proofs.lemmas.Bool.{cases_eq}
use Rattle.flow_model.specs.declared.edges.Edge.{Edge}
use Rattle.flow_model.specs.declared.edges.Edge.TheVariants.{Inner}
use Rattle.flow_model.specs.Networks.{head, residual}
use Rattle.flow_parts.specs.OuterEdges.{edge_of, tail_of}
use Rattle.flow_parts.proofs.EdgeLists.{each_edge_from, is_edge_of}
use Rattle.flow_sparse.specs.Ranges.{IsPlacedAt, WasWoken}
use Rattle.flow_sparse.specs.Searches.{Rests, IsSettledBy, listed_potential}
use Rattle.flow_sparse.proofs.Distances.{Nears-trans}
use Rattle.flow_sparse.proofs.Loops.{loop_settled}
use Rattle.flow_sparse.proofs.search.Search.relax_from.Goals as goal

pub returns-clause-settled : goal.returns-clause-settled
returns-clause-settled c = λ rests e is at.
    let n = c.args.network.now in
    let lists = c.args.lists.now in
    let node = c.args.node in
    let last = c.relax_back.new.self in
    let listed = c.relax_listed.new.self in
    let later = c.relax_back.ensures.nears in
    let before : Rests listed node = later.rests node rests in
    let chained : Rests c.relax_chain.new.self node = c.relax_listed.ensures.nears.rests node before in
    let tail_rests : (k : ℕ) → tail_of n.instance.arcs k ≡ node → Rests last (tail_of n.instance.arcs k) = λ k here. subst (λ (v : ℕ). Rests last v) (sym here) rests in
    let tail_before : (k : ℕ) → tail_of n.instance.arcs k ≡ node → Rests listed (tail_of n.instance.arcs k) = λ k here. subst (λ (v : ℕ). Rests listed v) (sym here) before in
    each_edge_from n.instance node (IsSettledBy n last)
    (λ k high here.
    let f : Edge = edge_of (length n.instance.arcs) k in
    ⊎_elim
    (λ (same : tail_of n.instance.arcs k ≡ head n.instance.arcs f). loop_settled n last.distances last.limit f c.requires.ready (is_edge_of n.instance k high) same)
    (λ (apart : tail_of n.instance.arcs k ≡ head n.instance.arcs f → ⊥).
    λ (room : 0 < residual n.instance n.flows f).
    ⊎_elim
    (λ (placed : IsPlacedAt n.instance lists.first lists.edges (listed_potential n lists) (tail_of n.instance.arcs k) k).
    later.stays f (is_edge_of n.instance k high) (tail_rests k here)
    (c.relax_listed.ensures.settled before k here (subst (λ (v : ℕ). IsPlacedAt n.instance lists.first lists.edges (listed_potential n lists) v k) here placed)) room)
    (λ (woken : WasWoken lists.woken k).
    later.stays f (is_edge_of n.instance k high) (tail_rests k here)
    (c.relax_listed.ensures.nears.stays f (is_edge_of n.instance k high) (tail_before k here) (c.relax_chain.ensures.settled chained k here woken)) room)
    (c.requires.lists.listed k high apart room))
    (cases_eq (tail_of n.instance.arcs k) (head n.instance.arcs f)))
    (λ within. later.stays (Inner node) within rests
    (c.relax_listed.ensures.nears.stays (Inner node) within before (c.relax_chain.ensures.nears.stays (Inner node) within chained (c.relax_on.ensures.settled within))))
    (λ some. c.relax_back.ensures.settled some)
    e is at

pub returns-clause-nears : goal.returns-clause-nears
returns-clause-nears c =
    let n = c.args.network.now in
    let on = c.relax_on.new.self in
    let chained = c.relax_chain.new.self in
    let listed = c.relax_listed.new.self in
    Nears-trans n c.args.from c.args.self.now on c.relax_back.new.self c.relax_on.ensures.nears
    (Nears-trans n c.args.from on chained c.relax_back.new.self c.relax_chain.ensures.nears (Nears-trans n c.args.from chained listed c.relax_back.new.self c.relax_listed.ensures.nears c.relax_back.ensures.nears))
