use Rattle.std.proofs.Common.{arith}
use Rattle.std.proofs.lemmas.Bool.{leb-true, le-leb}
use Rattle.window_arcs.proofs.arcs.WindowArcs.suits_empty.Goals as goal

pub returns-else-ranks-places : goal.returns-else-ranks-places
returns-else-ranks-places c = (
  λ fits r from within. omega (arith, leb-true c.share_at.result c.args.price fits, c.share_at.ensures.after r from within),
  λ all. le-leb c.share_at.result c.args.price (omega (arith, c.share_at.ensures.share, all c.args.ranks.end (omega arith) (omega (arith, c.requires.within, c.if-ranks-places.false, c.places.ensures)))),
)
