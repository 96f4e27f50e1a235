use Rattle.std.proofs.Common.{◌≡◌, ◌-◌, ◌<◌, ◌+◌, length}
use Rattle.flow_sparse.proofs.blocks.first_prices.Given as goal

abbrev pub invariant-loop-width : goal.invariant-loop-width
invariant-loop-width l =
    record {
      some : 0 < l.width;
      each : length l.sums.items ≡ l.steps + 1;
      each_price : length l.prices.items ≡ l.steps;
    }

abbrev pub decreases-loop-width : goal.decreases-loop-width
decreases-loop-width l = l.steps - l.width
