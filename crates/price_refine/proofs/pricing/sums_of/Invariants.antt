use Rattle.std.proofs.Common.{◌+◌, ◌-◌, ◌^◌, ◌≤◌, length}
use Rattle.std.specs.Vec.{vec_len, vec_capacity}
use Rattle.relaxation.proofs.RunningSums.{IsRunning}
use Rattle.price_refine.proofs.pricing.sums_of.Given as goal

abbrev pub invariant-loop-price : goal.invariant-loop-price
invariant-loop-price l = record {
  running : IsRunning l.prices l.price-index (2 ^ 126) l.sum l.sums.items;
  room : vec_len l.sums + (length l.prices - l.price-index) ≤ vec_capacity l.sums;
}
