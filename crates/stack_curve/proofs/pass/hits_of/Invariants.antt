use Rattle.stack_curve.specs.Counts.{AreCounts, marks_at}
use Rattle.std.proofs.Common.{◌≡◌}
use Rattle.stack_curve.proofs.pass.hits_of.Given as goal

abbrev pub invariant-loop-t : goal.invariant-loop-t
invariant-loop-t l = record { marked : l.marks ≡ marks_at l.trace.objects l.t; counted : AreCounts l.trace.objects l.trace.fills l.t l.counts.items }
