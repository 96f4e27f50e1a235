-- Paths onward: one edge more, one edge less, and a push along one.
use Rattle.std.proofs.Common.{◌≡◌, ℕ, ◌+◌, ◌<◌, ◌≤◌, ◌∙◌, sym, refl, subst, List, [], ◌∷◌, ◌++◌, length, length-append, arith, All, slice_index}
use Rattle.std.proofs.lemmas.List.{get_or_append_left}
use Rattle.std.proofs.lemmas.List.Elements.{All-append, All-cons, All-head, All-nil, All-tail}
use Rattle.flow_model.specs.declared.arcs.OuterArc.{OuterArc}
use Rattle.flow_model.specs.declared.edges.Edge.{Edge}
use Rattle.flow_model.specs.Networks.{tail, head, residual, IsTight}
use Rattle.flow_model.specs.Pushes.{Leads, CanPush}
use Rattle.flow_network.specs.States.{State}
use Rattle.flow_solver.specs.Onward.{IsOnward, LeadsOn}
use Rattle.flow_parts.proofs.Paths.{later_is_simple}

leads_on : (arcs : List OuterArc) (path : List Edge) (from mid : ℕ) (e : Edge) → Leads arcs from path mid → tail arcs e ≡ mid → Leads arcs from (path ++ e ∷ []) (head arcs e)
leads_on arcs [] from mid e leads at = (at ∙ sym leads, refl)
leads_on arcs (f ∷ path) from mid e leads at = (leads.0, leads_on arcs path (head arcs f) mid e leads.1 at)

leads_prefix : (arcs : List OuterArc) (path : List Edge) (from to : ℕ) (e : Edge) → Leads arcs from (path ++ e ∷ []) to → Leads arcs from path (tail arcs e)
leads_prefix arcs [] from to e leads = sym leads.0
leads_prefix arcs (f ∷ path) from to e leads = (leads.0, leads_prefix arcs path (head arcs f) to e leads.1)

-- each edge leads to a later node
abbrev AreLater : List OuterArc → List Edge → Type 0
AreLater arcs path = All (λ e. tail arcs e < head arcs e) path

-- each edge leads at least one node further
longer : (arcs : List OuterArc) (path : List Edge) (from to : ℕ) → Leads arcs from path to → AreLater arcs path → from + length path ≤ to
longer arcs [] from to leads later = omega (arith, leads)
longer arcs (e ∷ path) from to leads later =
    omega (arith, leads.0, All-head (λ f. tail arcs f < head arcs f) e path later, longer arcs path (head arcs e) to leads.1 (All-tail (λ f. tail arcs f < head arcs f) e path later))

-- a path has no more edges than the number of the node that it leads to
pub onward_is_short : (state : State) (node : ℕ) (path : List Edge) → IsOnward state node path → length path ≤ node
onward_is_short state node path onward = omega (arith, longer state.instance.arcs path 0 node onward.leads onward.later)

All-one : {X : Type 0} (P : X → Type 0) (x : X) → P x → All P (x ∷ [])
All-one P x holds = All-cons P x [] holds (All-nil P)

-- one edge more
pub onward_grows : (state : State) (node : ℕ) (path : List Edge) (e : Edge) → IsOnward state node path → LeadsOn state node e → IsOnward state (head state.instance.arcs e) (path ++ e ∷ [])
onward_grows state node path e onward on =
    let arcs = state.instance.arcs in
    record {
      leads = leads_on arcs path 0 node e onward.leads on.from;
      tight = All-append (IsTight state.instance state.flows (slice_index state.potentials)) path (e ∷ []) onward.tight (All-one (IsTight state.instance state.flows (slice_index state.potentials)) e on.tight);
      later = All-append (λ f. tail arcs f < head arcs f) path (e ∷ []) onward.later (All-one (λ f. tail arcs f < head arcs f) e on.later);
    }

All-prefix : {X : Type 0} (P : X → Type 0) (xs : List X) (x : X) → All P (xs ++ x ∷ []) → All P xs
All-prefix P xs x all = λ k d h. subst P (get_or_append_left xs (x ∷ []) d k h) (all k d (omega (arith, h, length-append xs (x ∷ []))))

-- one edge less
pub onward_shrinks : (state : State) (node : ℕ) (path : List Edge) (e : Edge) → IsOnward state node (path ++ e ∷ []) → IsOnward state (tail state.instance.arcs e) path
onward_shrinks state node path e onward =
    let arcs = state.instance.arcs in
    record {
      leads = leads_prefix arcs path 0 node e onward.leads;
      tight = All-prefix (IsTight state.instance state.flows (slice_index state.potentials)) path e onward.tight;
      later = All-prefix (λ f. tail arcs f < head arcs f) path e onward.later;
    }

-- a path onward to the last node takes what each of its edges has room for
pub onward_can_push : (state : State) (path : List Edge) (amount : ℕ) → IsOnward state state.instance.steps path → All (λ e. amount ≤ residual state.instance state.flows e) path → CanPush state.instance state.flows path amount
onward_can_push state path amount onward room =
    record {
      leads = onward.leads;
      edges = λ k d h. (onward.tight k d h).is_edge;
      room = room;
      simple = later_is_simple state.instance.arcs (λ node. node) path 0 state.instance.steps onward.leads onward.later;
    }
