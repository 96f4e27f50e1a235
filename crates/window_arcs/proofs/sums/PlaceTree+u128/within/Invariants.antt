use Rattle.std.proofs.Common.{◌-◌, ◌≡◌}
use Rattle.window_arcs.proofs.SearchLemmas.{IsSearched}
use Rattle.window_arcs.proofs.sums.PlaceTree+u128.within.Given as goal

-- the levels so far are searched
abbrev pub invariant-down : goal.invariant-down
invariant-down l =
    record {
      leaves : l.leaves ≡ l.self-inside.leaves;
      searched : IsSearched l.leaves l.self-inside.sums.items l.limit l.start l.node l.sum;
    }

abbrev pub decreases-down : goal.decreases-down
decreases-down l = l.leaves - l.start
