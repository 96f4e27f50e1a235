use Rattle.capacity_curve.proofs.PointLemmas.{is-point}
use Rattle.capacity_curve.proofs.making.point_by_replay.Goals as goal

pub returns-clause-point : goal.returns-clause-point
returns-clause-point c =
    is-point c.args.asked.now c.args.trace.now (record { capacity = c.args.capacity; hits = c.in_ok-replay.replay.hits; bytes = c.in_ok-replay.replay.bytes; upper = c.in_ok-upper.upper })
    c.requires.denominator.0 c.in_ok-replay.ensures.hits c.in_ok-replay.ensures.bytes c.in_ok-upper.ensures
