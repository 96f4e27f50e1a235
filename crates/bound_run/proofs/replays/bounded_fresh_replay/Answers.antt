use Rattle.bound_run.proofs.Replayed.{bounded}
use Rattle.bound_run.proofs.replays.bounded_fresh_replay.Goals as goal

pub returns-clause-bounded : goal.returns-clause-bounded
returns-clause-bounded g c = bounded (g.P.Policy.room c.args.policy.now) _ c.args.trace.now c.replay_fresh.result c.replay_fresh.ensures.played
