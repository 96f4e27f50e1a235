-- The residual network of flows on the arcs and beside them, and its potentials.
use Rattle.std.specs.Prelude.{◌≡◌, ℕ, ◌+◌, ◌-◌, ◌<◌, ◌≤◌, List, length, slice_index}
use Rattle.std.specs.List.{AllZip}
use Rattle.flow_model.specs.declared.arcs.OuterArc.{OuterArc}
use Rattle.flow_model.specs.declared.edges.Edge.{Edge}
use Rattle.flow_model.specs.declared.edges.Edge.TheVariants.{Inner, InnerBack, Outer, OuterBack}
use Rattle.flow_model.specs.Instances.{Instance, arc_at, load_at}

-- the flow of each arc, and the flow over each step beside the arcs
pub record Flows : Type 0 where
  pub outer : List ℕ
  pub inner : List ℕ

-- the edge is one of the instance's
abbrev pub IsEdge : Instance → Edge → Type 0
IsEdge instance (Inner t) = t < instance.steps
IsEdge instance (InnerBack t) = t < instance.steps
IsEdge instance (Outer i) = i < length instance.arcs
IsEdge instance (OuterBack i) = i < length instance.arcs

-- the node that the edge leads from
abbrev pub tail : List OuterArc → Edge → ℕ
tail arcs (Inner t) = t
tail arcs (InnerBack t) = t + 1
tail arcs (Outer i) = (arc_at arcs i).start
tail arcs (OuterBack i) = (arc_at arcs i).end

-- the node that the edge leads to
abbrev pub head : List OuterArc → Edge → ℕ
head arcs (Inner t) = t + 1
head arcs (InnerBack t) = t
head arcs (Outer i) = (arc_at arcs i).end
head arcs (OuterBack i) = (arc_at arcs i).start

-- what a unit along the edge earns
abbrev pub gain : List OuterArc → Edge → ℕ
gain arcs (Outer i) = (arc_at arcs i).cost
gain arcs (Inner t) = 0
gain arcs (InnerBack t) = 0
gain arcs (OuterBack i) = 0

-- what a unit along the edge gives up
abbrev pub loss : List OuterArc → Edge → ℕ
loss arcs (OuterBack i) = (arc_at arcs i).cost
loss arcs (Inner t) = 0
loss arcs (InnerBack t) = 0
loss arcs (Outer i) = 0

-- how many units more the edge can take
abbrev pub residual : Instance → Flows → Edge → ℕ
residual instance flows (Inner t) = instance.units
residual instance flows (InnerBack t) = slice_index flows.inner t
residual instance flows (Outer i) = (arc_at instance.arcs i).weight - slice_index flows.outer i
residual instance flows (OuterBack i) = slice_index flows.outer i

-- this many units were pushed from the first node to the last: over each step, beside the arcs and along them
pub record IsBalanced (instance : Instance) (flows : Flows) (pushed : ℕ) : Type 0 where
  pub within_weights : AllZip (λ arc flow. flow ≤ arc.weight) instance.arcs flows.outer
  pub each_step : length flows.inner ≡ instance.steps
  pub balance : (t : ℕ) → t < instance.steps → slice_index flows.inner t + load_at instance.arcs flows.outer t ≡ pushed

-- if the edge has room, its reduced cost is not positive: its cost, with the potential of its head less that of its tail
abbrev pub IsRelaxed : Instance → Flows → (ℕ → ℕ) → Edge → Type 0
IsRelaxed instance flows potential e =
    0 < residual instance flows e
    → gain instance.arcs e + potential (head instance.arcs e) ≤ loss instance.arcs e + potential (tail instance.arcs e)

-- no edge with room has a positive reduced cost
abbrev pub IsPotential : Instance → Flows → (ℕ → ℕ) → Type 0
IsPotential instance flows potential = (e : Edge) → IsEdge instance e → IsRelaxed instance flows potential e

-- the edge has room, and its reduced cost is 0
pub record IsTight (instance : Instance) (flows : Flows) (potential : ℕ → ℕ) (e : Edge) : Type 0 where
  pub is_edge : IsEdge instance e
  pub room : 0 < residual instance flows e
  pub tight : gain instance.arcs e + potential (head instance.arcs e) ≡ loss instance.arcs e + potential (tail instance.arcs e)

-- the price of a step is the fall of the potential over it
abbrev pub ArePrices : (ℕ → ℕ) → List ℕ → Type 0
ArePrices potential prices = (t : ℕ) → t < length prices → slice_index prices t + potential (t + 1) ≡ potential t
