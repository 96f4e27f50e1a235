use Rattle.std.proofs.Common.{◌+◌, ◌-◌, ◌/◌, ◌≤◌, length}
use Rattle.std.specs.Vec.{vec_len, vec_capacity}
use Rattle.relaxation.specs.Prices.{most_paid}
use Rattle.relaxation.proofs.RunningSums.{IsRunning}
use Rattle.relaxation.proofs.prices.Sums.within_limit.Given as goal

abbrev pub invariant-loop-price : goal.invariant-loop-price
invariant-loop-price l = record {
  running : IsRunning l.prices l.price-index (most_paid / l.units) l.sum l.sums.items;
  room : vec_len l.sums + (length l.prices - l.price-index) ≤ vec_capacity l.sums;
}
