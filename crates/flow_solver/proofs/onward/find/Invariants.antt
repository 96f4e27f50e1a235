use Rattle.std.proofs.Common.{◌≡◌, ◌+◌, ◌≤◌, length, take}
use Rattle.flow_solver.specs.Onward.{IsOnward}
use Rattle.flow_solver.proofs.onward.find.Given as goal

abbrev pub invariant-loop : goal.invariant-loop
invariant-loop l =
    record {
      marks : length l.dead ≡ l.network.instance.steps + 1;
      within : l.node ≤ l.network.instance.steps;
      fits : l.len ≤ length l.path;
      onward : IsOnward l.network l.node (take l.len l.path);
    }
