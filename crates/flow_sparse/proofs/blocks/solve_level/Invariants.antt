use Rattle.std.proofs.Common.{◌≡◌, ◌*◌, ◌-◌, length}
use Rattle.flow_sparse.proofs.blocks.solve_level.Given as goal

abbrev pub invariant-loop-alloc : goal.invariant-loop-alloc
invariant-loop-alloc l =
    record {
      whole : l.windows.whole ≡ l.instance;
      width : l.windows.width ≡ l.width;
      first : l.first ≡ l.width * l.windows.number;
      each : length l.sums ≡ length l.initial.sums;
      each_price : length l.prices ≡ length l.initial.prices;
    }

abbrev pub decreases-loop-alloc : goal.decreases-loop-alloc
decreases-loop-alloc l = l.instance.steps - l.first
