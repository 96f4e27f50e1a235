use Rattle.std.proofs.Common.{◌≡◌, take}
use Rattle.byte_curve.specs.Sizes.{greatest_size}
use Rattle.byte_curve.proofs.pass.greatest_size.Given as goal

-- it is the greatest so far
abbrev pub invariant-loop-t : goal.invariant-loop-t
invariant-loop-t l = l.greatest ≡ greatest_size (take l.t l.trace.objects)
