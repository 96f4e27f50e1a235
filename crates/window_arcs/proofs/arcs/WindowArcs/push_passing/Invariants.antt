use Rattle.std.proofs.Common.{◌≡◌, ◌-◌, ◌≤◌, ◌++◌, length, min}
use Rattle.window_arcs.specs.Passing.{passing_numbers}
use Rattle.window_arcs.proofs.CurrentLemmas.{IsNext}
use Rattle.window_arcs.proofs.arcs.WindowArcs.push_passing.Given as goal

-- the passing arcs before the rank are appended
abbrev pub invariant-loop-rank : goal.invariant-loop-rank
invariant-loop-rank l = record {
  low : l.ranks.first ≤ l.rank;
  within : l.rank ≤ length l.fn.self.order;
  found : IsNext l.fn.self.cut l.fn.self.order l.rank;
  items : l.numbers.items ≡ l.initial.numbers.items ++ passing_numbers l.fn.self.cut l.fn.self.order l.ranks.first (min l.rank l.ranks.end);
}

abbrev pub decreases-loop-rank : goal.decreases-loop-rank
decreases-loop-rank l = l.ranks.end - l.rank
