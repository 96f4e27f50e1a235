use Rattle.std.proofs.Common.{arith}
use Rattle.cache_rules.proofs.scoring.moved.Goals as goal
use Rattle.cache_rules.proofs.scoring.moved.Goals.{then-leaves, else-leaves}

pub returns-then-enters : goal.returns-then-enters
returns-then-enters c =
    elim c.if-leaves.branch [
      | then-leaves w ↦ rw (c.if-enters.true, w.if-leaves.true) (omega (arith, w.load-is, c.requires.held w.if-leaves.true))
      | else-leaves w ↦ rw (c.if-enters.true, w.if-leaves.false) (omega (arith, w.load-is))
    ]

pub returns-else-enters : goal.returns-else-enters
returns-else-enters c =
    elim c.if-leaves.branch [
      | then-leaves w ↦ rw (c.if-enters.false, w.if-leaves.true) (omega (arith, w.load-is, c.requires.held w.if-leaves.true))
      | else-leaves w ↦ rw (c.if-enters.false, w.if-leaves.false) (omega (arith, w.load-is))
    ]
