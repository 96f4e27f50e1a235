use Rattle.std.proofs.Common.{◌≡◌, ◌≤◌, ◌<◌, ◌^◌, ℕ}
use Rattle.std.specs.Prelude.{None}
use Rattle.relaxation.specs.Faults.{fault_at}
use Rattle.relaxation.proofs.Loads.{carried}
use Rattle.relaxation.proofs.flows.check_flows.Given as goal

abbrev pub invariant-loop-step : goal.invariant-loop-step
invariant-loop-step l = record {
  load : l.load ≡ carried l.intervals.items l.flows l.step;
  low : l.load ≤ 2 ^ 64;
  none_before : (s : ℕ) → s < l.step → fault_at l.intervals.items l.unit l.units l.flows s ≡ None;
}
