use Rattle.std.proofs.Common.{◌≡◌, ℕ, ◌<◌}
use Rattle.stack_curve.specs.Curves.{size_at}
use Rattle.stack_curve.proofs.pass.other_size.Given as goal

abbrev pub invariant-loop-number : goal.invariant-loop-number
invariant-loop-number l = (n : ℕ) → n < l.number → size_at l.trace.objects n ≡ l.size
