use Rattle.std.proofs.Common.{◌≡◌, ◌≤◌}
use Rattle.ttl_sums.proofs.tests.bound_of.Given as goal

-- each request gained at most 1
abbrev pub invariant-loop-number : goal.invariant-loop-number
invariant-loop-number g l = record { units : l.worths.units ≡ 2; clock : l.worths.clock ≤ l.last; gains : l.worths.gains ≤ l.number-index }
