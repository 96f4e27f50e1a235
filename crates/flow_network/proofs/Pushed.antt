-- The state after a push.
use Rattle.std.proofs.Common.{◌≡◌, ℕ, ◌+◌, ◌≤◌, ◌++◌, List, length, take, drop, sym, subst, arith}
use Rattle.flow_model.specs.declared.edges.Edge.{Edge}
use Rattle.flow_model.specs.declared.edges.Edge.TheVariants.{Inner, InnerBack, Outer, OuterBack}
use Rattle.flow_model.specs.Instances.{no_arc}
use Rattle.flow_model.specs.Networks.{Flows, IsEdge, residual}
use Rattle.flow_model.specs.Pushes.{CanPush, push_path}
use Rattle.flow_model.proofs.Equal.{zip_at}
use Rattle.flow_model.proofs.Lists.{written}
use Rattle.flow_model.proofs.Pushes.{HasLengths, push_path-balanced}
use Rattle.flow_network.specs.States.{State, IsState, HasRoomFor}

pub state_lengths : (s : State) → IsState s → HasLengths s.instance s.flows
state_lengths s is = record { inner = is.balanced.each_step; outer = (zip_at s.instance.arcs s.flows.outer is.balanced.within_weights).0 }

-- the flow of a step is at most what was pushed
pub room_for : (s : State) (amount : ℕ) (e : Edge) → IsState s → s.pushed + amount ≤ s.instance.units → IsEdge s.instance e → amount ≤ residual s.instance s.flows e → HasRoomFor amount s.flows e
room_for s amount (Inner t) is units is_edge room = (omega (arith, is.balanced.each_step), omega (arith, is.balanced.balance t is_edge, is.in_range.few_units))
room_for s amount (InnerBack t) is units is_edge room = (omega (arith, is.balanced.each_step), room)
room_for s amount (Outer i) is units is_edge room =
    let weights = zip_at s.instance.arcs s.flows.outer is.balanced.within_weights in
    (omega (arith, weights.0), omega (arith, weights.1 i is_edge, (is.in_range.arcs_fit i no_arc is_edge).small_weight, is.in_range.few_units))
room_for s amount (OuterBack i) is units is_edge room =
    let weights = zip_at s.instance.arcs s.flows.outer is.balanced.within_weights in
    (omega (arith, weights.0), room)

pub state_after : (s : State) (path : List Edge) (amount : ℕ) → IsState s → CanPush s.instance s.flows path amount → s.pushed + amount ≤ s.instance.units
    → IsState (record s { flows = push_path amount s.flows path; pushed = s.pushed + amount })
state_after s path amount is can units =
    record {
      in_range = is.in_range;
      balanced = push_path-balanced s.instance s.flows path amount s.pushed is.in_range.arcs_fit is.balanced can;
      within_units = units;
      each_node = is.each_node;
      small = is.small;
    }

-- the state where both lists of flows were written as slices
pub state_written : (s : State) (path : List Edge) (amount : ℕ) (outer inner : List ℕ) (outer_len inner_len : ℕ) → IsState s → CanPush s.instance s.flows path amount → s.pushed + amount ≤ s.instance.units
    → ◌≡◌ {A = Flows} (record { outer = outer; inner = inner }) (push_path amount s.flows path)
    → length outer ≡ length s.flows.outer → length inner ≡ length s.flows.inner → outer_len ≡ length s.flows.outer → inner_len ≡ length s.flows.inner
    → IsState (record {
      instance = s.instance;
      flows = record { outer = take outer_len (outer ++ drop (length outer) s.flows.outer); inner = take inner_len (inner ++ drop (length inner) s.flows.inner) };
      pushed = s.pushed + amount;
      potentials = s.potentials;
    })
state_written s path amount outer inner outer_len inner_len is can units from same_outer same_inner of_outer of_inner =
    rw (written s.flows.outer outer outer_len same_outer of_outer, written s.flows.inner inner inner_len same_inner of_inner)
    (subst (λ (f : Flows). IsState (record s { flows = f; pushed = s.pushed + amount })) (sym from) (state_after s path amount is can units))
