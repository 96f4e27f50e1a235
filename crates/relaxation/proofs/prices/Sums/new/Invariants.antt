use Rattle.std.proofs.Common.{◌+◌, ◌-◌, ◌≤◌, length}
use Rattle.std.specs.Vec.{vec_len, vec_capacity}
use Rattle.relaxation.proofs.RunningSums.{IsRunning}
use Rattle.relaxation.proofs.prices.Sums.new.Given as goal

abbrev pub invariant-loop-step : goal.invariant-loop-step
invariant-loop-step l = record {
  running : IsRunning l.prices l.step l.limit l.sum l.sums.items;
  room : vec_len l.sums + (length l.prices - l.step) ≤ vec_capacity l.sums;
}
