-- Routes: the part of a path that was traced back so far.
use Rattle.std.proofs.Common.{◌≡◌, ◌≢◌, ◌∙◌, ℕ, ◌+◌, ◌-◌, ◌<◌, ◌≤◌, sym, refl, ap, subst, List, ◌∷◌, length, drop, set, arith, All, slice_index}
use Rattle.std.proofs.lemmas.List.{drop-set}
use Rattle.std.proofs.lemmas.List.Elements.{All-cons, All-weaker}
use Rattle.flow_model.specs.declared.edges.Edge.{Edge}
use Rattle.flow_model.specs.Instances.{Instance}
use Rattle.flow_model.specs.Networks.{Flows, tail, residual, IsTight}
use Rattle.flow_model.specs.Pushes.{Leads, IsSimple, edge_at}
use Rattle.flow_parts.specs.Searches.{LeadsBack}
use Rattle.flow_parts.proofs.EdgeLists.{HasEnds}
use Rattle.flow_parts.proofs.Paths.{IsLater, IsInside, later_is_simple, path_is_short}

-- tight edges lead from a node within the limit to one, each with room for the amount
pub record IsRoute (instance : Instance) (flows : Flows) (potential : ℕ → ℕ) (from to limit : ℕ) (distances : List ℕ) (parents : List Edge) (node : ℕ) (path : List Edge) (amount : ℕ) : Type 0 where
  pub back : LeadsBack instance flows potential from limit distances parents
  pub within : node ≤ instance.steps
  pub near : slice_index distances node ≤ limit
  pub leads : Leads instance.arcs node path to
  pub tight : All (IsTight instance flows potential) path
  pub inside : All (IsInside instance.arcs from instance.steps) path
  pub later : All (IsLater instance.arcs back.tight_parents.0) path
  pub some : 0 < amount
  pub room : All (λ e. amount ≤ residual instance flows e) path

-- one edge more, for the amount that it has room for too
pub route_grows : {instance : Instance} {flows : Flows} {potential : ℕ → ℕ} {from to limit : ℕ} {distances : List ℕ} {parents : List Edge} {node : ℕ} {path : List Edge} {amount : ℕ} (least : ℕ)
    → HasEnds instance → IsRoute instance flows potential from to limit distances parents node path amount → node ≢ from
    → 0 < least → least ≤ amount → least ≤ residual instance flows (edge_at parents node)
    → IsRoute instance flows potential from to limit distances parents (tail instance.arcs (edge_at parents node)) (edge_at parents node ∷ path) least
route_grows {instance} {flows} {potential} {from} {to} {limit} {distances} {parents} {node} {path} {amount} least ends route inside some less room =
    let e : Edge = edge_at parents node in
    let tight_parent = route.back.tight_parents.1 node inside route.within route.near in
    record {
      back = route.back;
      within = (ends e tight_parent.tight.is_edge).0;
      near = tight_parent.near;
      leads = (refl, subst (λ (k : ℕ). Leads instance.arcs k path to) (sym tight_parent.leads) route.leads);
      tight = All-cons (IsTight instance flows potential) e path tight_parent.tight route.tight;
      inside = All-cons (IsInside instance.arcs from instance.steps) e path (record { some = λ same. inside (sym tight_parent.leads ∙ same); within = omega (arith, tight_parent.leads, route.within) }) route.inside;
      later = All-cons (IsLater instance.arcs route.back.tight_parents.0) e path (omega (arith, tight_parent.earlier, ap route.back.tight_parents.0 tight_parent.leads)) route.later;
      some = some;
      room = All-cons (λ f. least ≤ residual instance flows f) e path room
          (All-weaker (λ f. amount ≤ residual instance flows f) (λ f. least ≤ residual instance flows f) (λ f h. omega (arith, h, less)) path route.room);
    }

-- there is room for one edge more
pub route_is_short : {instance : Instance} {flows : Flows} {potential : ℕ → ℕ} {from to limit : ℕ} {distances : List ℕ} {parents : List Edge} {node : ℕ} {path : List Edge} {amount : ℕ}
    → IsRoute instance flows potential from to limit distances parents node path amount → node ≢ from → length path < instance.steps
route_is_short {instance} {flows} {potential} {from} {to} {limit} {distances} {parents} {node} {path} {amount} route other =
    path_is_short instance.arcs route.back.tight_parents.0 from instance.steps path node to route.leads route.later route.inside other route.within route.back.from_within

-- no edge of the route stands twice nor beside its back edge
pub route_is_simple : {instance : Instance} {flows : Flows} {potential : ℕ → ℕ} {from to limit : ℕ} {distances : List ℕ} {parents : List Edge} {node : ℕ} {path : List Edge} {amount : ℕ}
    → IsRoute instance flows potential from to limit distances parents node path amount → IsSimple path
route_is_simple {instance} {flows} {potential} {from} {to} {limit} {distances} {parents} {node} {path} {amount} route =
    later_is_simple instance.arcs route.back.tight_parents.0 path node to route.leads route.later

-- an edge that is written ahead of the path is its first
pub written_ahead : (path : List Edge) (start : ℕ) (given e : Edge) → 0 < start → start ≤ length path → given ≡ e → drop (start - 1) (set path (start - 1) given) ≡ e ∷ drop start path
written_ahead path start given e some within own =
    let next : (start - 1) + 1 ≡ start = omega arith in
    drop-set path (start - 1) given (omega (arith, within)) ∙ ap (λ k. given ∷ drop k path) next ∙ ap (λ (f : Edge). f ∷ drop start path) own
