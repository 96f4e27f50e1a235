use Rattle.std.proofs.Common.{ℕ, ◌+◌, ◌≤◌, All, length, drop}
use Rattle.flow_model.specs.Networks.{residual}
use Rattle.flow_solver.proofs.Routes.{IsRouteToLast}
use Rattle.flow_solver.proofs.route.trace.Given as goal

abbrev pub invariant-loop-node : goal.invariant-loop-node
invariant-loop-node l =
    record {
      route : IsRouteToLast l.network l.search l.node (drop l.start l.path) l.amount;
      within : l.start ≤ length l.path;
      units : l.network.pushed + l.amount ≤ l.network.instance.units;
      most : (more : ℕ) → All (λ e. more ≤ residual l.network.instance l.network.flows e) (drop l.start l.path) → l.network.pushed + more ≤ l.network.instance.units → more ≤ l.amount;
    }

abbrev pub decreases-loop-node : goal.decreases-loop-node
decreases-loop-node l = l.start
