-- The outer edges that lead out of each node, as lists.
use Rattle.std.specs.Prelude.{◌≡◌, ◌≢◌, ℕ, ◌+◌, ◌-◌, ◌<◌, ◌≤◌, nat_lt, if◌then◌else◌, List, length, slice_index, slice_set}
use Rattle.flow_model.specs.declared.arcs.OuterArc.{OuterArc}
use Rattle.flow_model.specs.declared.edges.Edge.{Edge}
use Rattle.flow_model.specs.declared.edges.Edge.TheVariants.{Outer, OuterBack}
use Rattle.flow_model.specs.Instances.{Instance}
use Rattle.flow_model.specs.Networks.{tail}

-- the edge of that number, if there are this many arcs: first come the arcs, and then their back edges
abbrev pub edge_of : ℕ → ℕ → Edge
edge_of arcs number = if nat_lt number arcs then Outer number else OuterBack (number - arcs)

-- the node that the edge of that number leads out of
abbrev pub tail_of : List OuterArc → ℕ → ℕ
tail_of arcs number = tail arcs (edge_of (length arcs) number)

-- for each node the number of the first edge in its list, and for each edge that of the next one, each from 1; or 0 if
-- there is none
pub record Lists : Type 0 where
  pub first : List ℕ
  pub next : List ℕ

-- the edge of that number at the beginning of the list of the node
abbrev pub one_more : Lists → ℕ → ℕ → Lists
one_more lists number node = record { first = slice_set lists.first node (number + 1); next = slice_set lists.next number (slice_index lists.first node) }

-- the list of each node has those of the first `count` edges that lead out of it, the greater numbers first
pub record AreListed (instance : Instance) (lists : Lists) (count : ℕ) : Type 0 where
  pub each_node : length lists.first ≡ instance.steps + 1
  pub each_edge : count ≤ length lists.next
  pub first_low : (node : ℕ) → slice_index lists.first node ≤ count
  pub first_here : (node : ℕ) → node ≤ instance.steps → 0 < slice_index lists.first node → tail_of instance.arcs (slice_index lists.first node - 1) ≡ node
  pub none_before : (node : ℕ) (k : ℕ) → node ≤ instance.steps → slice_index lists.first node ≤ k → k < count → tail_of instance.arcs k ≢ node
  pub next_low : (k : ℕ) → k < count → slice_index lists.next k ≤ k
  pub next_here : (k : ℕ) → k < count → 0 < slice_index lists.next k → tail_of instance.arcs (slice_index lists.next k - 1) ≡ tail_of instance.arcs k
  pub none_between : (k : ℕ) (j : ℕ) → k < count → slice_index lists.next k ≤ j → j < k → tail_of instance.arcs j ≢ tail_of instance.arcs k
