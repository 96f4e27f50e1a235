use Rattle.std.proofs.Common.{inl, inr, arith}
use Rattle.std.proofs.lemmas.Bool.{leb-true, le-leb}
use Rattle.bound_base.proofs.ratio.Ratio.at_most.Goals as goal

pub returns-clause-limit : goal.returns-clause-limit
returns-clause-limit c = (
  λ wrong. cc,
  λ over.
      elim over [
        | inl this ↦ absurd (omega (arith, this, c.in_ok-this.ensures.0))
        | inr that ↦ absurd (omega (arith, that, c.in_ok-that.ensures.0))
      ],
)

pub returns-clause-answer : goal.returns-clause-answer
returns-clause-answer c = (
  λ yes. omega (arith, leb-true c.in_ok-this.this c.in_ok-that.that yes, c.in_ok-this.ensures.1, c.in_ok-that.ensures.1),
  λ fits. le-leb c.in_ok-this.this c.in_ok-that.that (omega (arith, fits, c.in_ok-this.ensures.1, c.in_ok-that.ensures.1)),
)
