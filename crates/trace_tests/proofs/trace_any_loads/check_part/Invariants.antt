use Rattle.std.proofs.Common.{◌≤◌, ◌^◌}
use Rattle.trace_tests.proofs.trace_any_loads.check_part.Given as goal

-- the limits of the reader are those that it began with
abbrev pub invariant-loop-want : goal.invariant-loop-want
invariant-loop-want g l = l.reader.limits.requests ≤ 2 ^ 25
