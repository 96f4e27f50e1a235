use Rattle.std.proofs.Common.{◌≡◌, ◌∙◌, ℕ, ◌+◌, ◌*◌, ◌<◌, ◌≤◌, ap, sym, subst, List, ◌++◌, take, drop, length, replicate, arith, slice_index, slice_index_or}
use Rattle.std.proofs.lemmas.List.{get_or_read, length-replicate}
use Rattle.flow_sparse.specs.declared.edges.ListedEdge.{ListedEdge}
use Rattle.flow_sparse.specs.declared.edges.WokenEdge.{WokenEdge}
use Rattle.flow_sparse.specs.Listings.{places_before}
use Rattle.flow_sparse.specs.Ranges.{AreRising, IsPlacedAt, IsSound, listed_at}
use Rattle.flow_sparse.specs.Searches.{IsListed, list_of}
use Rattle.flow_sparse.specs.States.{State}
use Rattle.flow_sparse.proofs.Listed.{listed, order, placed, within, written_twice, zeros_all}
use Rattle.flow_sparse.proofs.Rested.{written_all}
use Rattle.flow_sparse.proofs.lists.EdgeLists.new.Goals as goal
use Rattle.flow_sparse.proofs.lists.EdgeLists.new.Goals.{After-deref_mut-4}

-- what stands in slots that were written whole, and then again
abbrev twice_written : {X : Type 0} → ℕ → List X → List X → List X → List X
twice_written n slots once twice = take n (twice ++ drop (length twice) (take n (once ++ drop (length once) slots)))

-- the first places and the edges, where they are sorted
record Written (c : After-deref_mut-4) : Type 0 where
  first_is : twice_written c.in_ok-first.first.len c.in_ok-first.first.items c.find_ends.new.first c.fill.new.first ≡ c.fill.new.first
  first_given : c.deref.result.now ≡ c.fill.new.first
  first_size : length c.fill.new.first ≡ c.steps.result + 2
  past : slice_index c.fill.new.first (c.args.network.now.instance.steps + 1) ≡ places_before c.args.network.now (c.args.network.now.instance.steps + 1)
  places_size : c.in_ok-edges.edges.len ≡ length c.in_ok-edges.edges.items
  filled_are : c.deref_mut-4.result.now ≡ c.fill.new.edges
  filled_size : length c.fill.new.edges ≡ length c.in_ok-edges.edges.items
  total : length c.in_ok-edges.edges.items ≡ places_before c.args.network.now (c.args.network.now.instance.steps + 1)

written : (c : After-deref_mut-4) → Written c
written c =
    let s : State = c.args.network.now in
    let slots : List ℕ = c.in_ok-first.first.items in
    let size : ℕ = c.in_ok-first.first.len in
    let slots_size : size ≡ length slots = omega (arith, c.in_ok-first.first.ok.0) in
    let ends : List ℕ = c.find_ends.new.first in
    let first : List ℕ = c.fill.new.first in
    let ends_size : length ends ≡ length slots = omega (arith, c.find_ends.ensures.each, ap length c.deref_mut.ensures.value) in
    let ends_are : c.deref_mut-2.result.now ≡ ends = c.deref_mut-2.ensures.value ∙ written_all slots ends size ends_size slots_size in
    let first_size : length first ≡ length slots = omega (arith, c.fill.ensures.each, ap length ends_are, ends_size) in
    let first_is = written_twice slots ends first size ends_size first_size slots_size in
    let places : List ListedEdge = c.in_ok-edges.edges.items in
    let room : ℕ = c.in_ok-edges.edges.len in
    let places_size : room ≡ length places = omega (arith, c.in_ok-edges.edges.ok.0) in
    let filled : List ListedEdge = c.fill.new.edges in
    let filled_size : length filled ≡ length places = omega (arith, c.fill.ensures.each_edge, ap length c.deref_mut-3.ensures.value) in
    let long : length ends ≡ c.steps.result + 2 = omega (arith, ends_size, slots_size, c.in_ok-first.ensures.len) in
    let ends_read : c.index.result.now ≡ slice_index ends (c.steps.result + 1) = get_or_read ends (c.steps.result + 1) c.index.result.now (omega (arith, long))
    (subst (λ (fs : List ℕ). c.index.result.now ≡ slice_index_or fs (c.steps.result + 1) c.index.result.now) (written_all slots ends size ends_size slots_size) c.index.ensures) 0 in
    record {
      first_is = first_is;
      first_given = c.deref.ensures.value ∙ first_is;
      first_size = omega (arith, first_size, ends_size, long);
      past = c.fill.ensures.past ∙ ap (λ fs. slice_index fs (s.instance.steps + 1)) ends_are ∙ c.find_ends.ensures.past;
      places_size = places_size;
      filled_are = c.deref_mut-4.ensures.value ∙ written_all places filled room filled_size places_size;
      filled_size = filled_size;
      total = omega (arith, places_size, c.in_ok-edges.ensures.len, ends_read, ap (λ (n : ℕ). slice_index ends (n + 1)) c.steps.ensures, c.find_ends.ensures.past);
    }

pub sort_lists-requires-clause-order : goal.sort_lists-requires-clause-order
sort_lists-requires-clause-order c =
    let s : State = c.args.network.now in
    let w = written (goal.at.sort_lists-requires-clause-order c).After-deref_mut-4 in
    subst (λ (fs : List ℕ). (node : ℕ) → node ≤ s.instance.steps → slice_index fs node ≤ slice_index fs (node + 1)) (sym w.first_given) (order s c.fill.new.first c.fill.ensures.starts w.past)

pub sort_lists-requires-clause-within : goal.sort_lists-requires-clause-within
sort_lists-requires-clause-within c = λ node h.
    let w = written (goal.at.sort_lists-requires-clause-within c).After-deref_mut-4 in
    omega (
      arith,
      ap (λ fs. slice_index fs (node + 1)) w.first_given,
      ap length w.filled_are,
      within c.args.network.now c.fill.new.first c.fill.ensures.starts w.past node h,
      w.filled_size,
      w.total,
    )

pub sort_lists-requires-clause-sound : goal.sort_lists-requires-clause-sound
sort_lists-requires-clause-sound c = λ p h.
    let w = written (goal.at.sort_lists-requires-clause-sound c).After-deref_mut-4 in
    subst (λ (es : List ListedEdge). IsSound c.args.network.now.instance (listed_at es p)) (sym w.filled_are) (c.fill.ensures.sound p (omega (arith, h, ap length w.filled_are, c.fill.ensures.each_edge)))

pub sort_lists-requires-clause-placed : goal.sort_lists-requires-clause-placed
sort_lists-requires-clause-placed c = λ k h low.
    let s : State = c.args.network.now in
    let w = written (goal.at.sort_lists-requires-clause-placed c).After-deref_mut-4 in
    subst (λ (fs : List ℕ). IsPlacedAt s.instance fs c.deref_mut-4.result.now (slice_index s.potentials) (list_of s k) k) (sym w.first_given)
    (subst (λ (es : List ListedEdge). IsPlacedAt s.instance c.fill.new.first es (slice_index s.potentials) (list_of s k) k) (sym w.filled_are)
    (placed s c.fill.new.first c.fill.ensures.starts w.past c.fill.new.edges k h low (c.fill.ensures.placed k h low)))

pub returns : goal.returns
returns c =
    let s : State = c.args.network.now in
    let w = written (goal.at.returns c).After-deref_mut-4 in
    let first : List ℕ = c.fill.new.first in
    let edges : List ListedEdge = c.sort_lists.new.edges in
    let sorted_size : length edges ≡ length c.in_ok-edges.edges.items = omega (arith, c.sort_lists.auto.edges, ap length w.filled_are, w.filled_size) in
    let edges_are = written_twice c.in_ok-edges.edges.items c.fill.new.edges edges c.in_ok-edges.edges.len w.filled_size sorted_size w.places_size in
    let last : c.in_ok-last.last.items ≡ replicate (c.steps.result + 1) 0 = c.in_ok-last.ensures.items_if_clones_equal (λ y same. same) in
    let falls : c.in_ok-falls.falls.items ≡ replicate (c.steps.result + 1) 0 = c.in_ok-falls.ensures.items_if_clones_equal (λ y same. same) in
    let first_list : List ℕ = twice_written c.in_ok-first.first.len c.in_ok-first.first.items c.find_ends.new.first first in
    let edge_list : List ListedEdge = twice_written c.in_ok-edges.edges.len c.in_ok-edges.edges.items c.fill.new.edges edges in
    subst (λ (fs : List ℕ). IsListed s (record { first = fs; edges = edge_list; falls = c.in_ok-falls.falls.items; last = c.in_ok-last.last.items; woken = c.new.result.items })) (sym w.first_is)
    (subst (λ (es : List ListedEdge). IsListed s (record { first = first; edges = es; falls = c.in_ok-falls.falls.items; last = c.in_ok-last.last.items; woken = c.new.result.items })) (sym edges_are)
    (subst (λ (ws : List WokenEdge). IsListed s (record { first = first; edges = edges; falls = c.in_ok-falls.falls.items; last = c.in_ok-last.last.items; woken = ws })) (sym c.new.ensures.items)
    (listed s first c.fill.ensures.starts w.past edges c.in_ok-falls.falls.items c.in_ok-last.last.items c.requires.ready c.requires.high
    (omega (arith, w.first_size, c.steps.ensures))
    (omega (arith, sorted_size, w.total))
    (λ p h. c.sort_lists.ensures.sound p (omega (arith, h, c.sort_lists.auto.edges)))
    (subst (λ (fs : List ℕ). (node : ℕ) → node ≤ s.instance.steps → AreRising edges (slice_index fs node) (slice_index fs (node + 1))) w.first_given c.sort_lists.ensures.rising)
    (subst (λ (fs : List ℕ). (k : ℕ) → k < 2 * length s.instance.arcs → list_of s k ≤ s.instance.steps → IsPlacedAt s.instance fs edges (slice_index s.potentials) (list_of s k) k) w.first_given c.sort_lists.ensures.placed)
    (omega (arith, ap length falls, length-replicate {A = ℕ}, c.steps.ensures))
    (λ v. ap (λ xs. slice_index xs v) falls ∙ zeros_all (c.steps.result + 1) v)
    (omega (arith, ap length last, length-replicate {A = ℕ}, c.steps.ensures))
    (λ v. ap (λ xs. slice_index xs v) last ∙ zeros_all (c.steps.result + 1) v))))
