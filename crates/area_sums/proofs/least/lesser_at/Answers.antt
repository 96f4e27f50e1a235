use Rattle.std.proofs.Common.{inl, inr, ap, arith}
use Rattle.area_sums.proofs.ShortLemmas.{short_pos}
use Rattle.area_sums.proofs.least.lesser_at.Goals as goal

pub lesser-requires-clause-other_edge : goal.lesser-requires-clause-other_edge
lesser-requires-clause-other_edge c = omega (arith, c.short_at-edge.ensures, short_pos c.args.class (omega (arith, c.if-class-le1.false)))

pub returns-clause-edge : goal.returns-clause-edge
returns-clause-edge c =
    elim c.lesser.ensures.either [
      | inl e ↦ omega (arith, ap (λ b. b.edge) e, c.requires.edge)
      | inr e ↦ omega (arith, ap (λ b. b.edge) e, c.short_at-edge.ensures, short_pos c.args.class (omega (arith, c.if-class-le1.false)))
    ]
