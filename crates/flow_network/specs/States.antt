-- What a network stands for.
use Rattle.std.specs.Prelude.{◌≡◌, ℕ, ◌+◌, ◌^◌, ◌≤◌, ◌<◌, List, length, All, slice_index, replicate}
use Rattle.flow_model.specs.declared.arcs.OuterArc.{OuterArc}
use Rattle.flow_model.specs.declared.edges.Edge.{Edge}
use Rattle.flow_model.specs.declared.edges.Edge.TheVariants.{Inner, InnerBack, Outer, OuterBack}
use Rattle.flow_model.specs.Instances.{Instance, IsInstance}
use Rattle.flow_model.specs.Networks.{Flows, IsBalanced}

-- an instance, its flows, how many units were pushed from the first node to the last, and a potential of each node
pub record State : Type 0 where
  pub instance : Instance
  pub flows : Flows
  pub pushed : ℕ
  pub potentials : List ℕ

-- over each step the flows sum to the units that were pushed, no flow passes its weight, and no potential 2 ^ 122
pub record IsState (state : State) : Type 0 where
  pub in_range : IsInstance state.instance
  pub balanced : IsBalanced state.instance state.flows state.pushed
  pub within_units : state.pushed ≤ state.instance.units
  pub each_node : length state.potentials ≡ state.instance.steps + 1
  pub small : All (λ potential. potential ≤ 2 ^ 122) state.potentials

-- no flow on any arc, nor beside them
abbrev pub no_flows : Instance → Flows
no_flows instance = record { outer = replicate (length instance.arcs) 0; inner = replicate instance.steps 0 }

-- the state that has these parts
abbrev pub state_of : Instance → List ℕ → List ℕ → ℕ → List ℕ → State
state_of instance outer inner pushed potentials = record { instance = instance; flows = record { outer = outer; inner = inner }; pushed = pushed; potentials = potentials }

-- nothing was pushed, and each potential is 0
abbrev pub unused : Instance → State
unused instance = record { instance = instance; flows = no_flows instance; pushed = 0; potentials = replicate (instance.steps + 1) 0 }

-- a push of the amount over the edge keeps to the lists and to 64 bits
abbrev pub HasRoomFor : ℕ → Flows → Edge → Type 0
HasRoomFor amount flows (Inner t) = (t < length flows.inner) × (slice_index flows.inner t + amount < 2 ^ 64)
HasRoomFor amount flows (InnerBack t) = (t < length flows.inner) × (amount ≤ slice_index flows.inner t)
HasRoomFor amount flows (Outer i) = (i < length flows.outer) × (slice_index flows.outer i + amount < 2 ^ 64)
HasRoomFor amount flows (OuterBack i) = (i < length flows.outer) × (amount ≤ slice_index flows.outer i)

-- the edge is along one of these arcs, or beside them over a step whose number is not the greatest that 32 bits hold
abbrev pub FitsArcs : List OuterArc → Edge → Type 0
FitsArcs arcs (Inner t) = t + 1 < 2 ^ 32
FitsArcs arcs (InnerBack t) = t + 1 < 2 ^ 32
FitsArcs arcs (Outer i) = i < length arcs
FitsArcs arcs (OuterBack i) = i < length arcs
