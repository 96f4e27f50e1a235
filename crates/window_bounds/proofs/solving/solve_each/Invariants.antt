use Rattle.std.proofs.Common.{◌≡◌, ◌-◌, ◌*◌}
use Rattle.window_bounds.proofs.Rounds.{AreSolved}
use Rattle.window_bounds.proofs.solving.solve_each.Given as goal

abbrev pub invariant-loop-alloc : goal.invariant-loop-alloc
invariant-loop-alloc l = record {
  whole : l.windows.cut.whole ≡ l.whole;
  width : l.windows.cut.width ≡ l.width;
  solved : AreSolved l.whole l.width l.windows.cut.number l.prices.items l.windows.flows;
}

abbrev pub decreases-loop-alloc : goal.decreases-loop-alloc
decreases-loop-alloc l = l.whole.steps - l.width * l.windows.cut.number
