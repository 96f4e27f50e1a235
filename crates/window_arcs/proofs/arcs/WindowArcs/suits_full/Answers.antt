use Rattle.std.proofs.Common.{◌-◌, arith}
use Rattle.std.proofs.lemmas.Bool.{leb-true, le-leb}
use Rattle.window_arcs.proofs.arcs.WindowArcs.suits_full.Goals as goal

pub returns-else-ranks-eq0 : goal.returns-else-ranks-eq0
returns-else-ranks-eq0 c = (
  λ fits r low. omega (arith, leb-true c.args.price c.share_at.result fits, c.share_at.ensures.before r (omega (arith, low))),
  λ all. le-leb c.args.price c.share_at.result (omega (arith, c.share_at.ensures.share, all (c.args.ranks.first - 1) (omega (arith, c.if-ranks-eq0.false)))),
)
