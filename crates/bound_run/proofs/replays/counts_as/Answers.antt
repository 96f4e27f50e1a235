use Rattle.bound_run.proofs.Replayed.{replayed}
use Rattle.bound_run.proofs.replays.counts_as.Goals as goal

pub returns : goal.returns
returns g c =
    let begins = rw (c.in_ok-policy.was, ← c.r.view_is) at c.requires in
    rw (← c.r.view_is)
    (replayed _ _ _ c.args.trace.now c.bounded_replay.result _ _ begins.room_is begins.state_is c.bounded_replay.ensures.scores c.bounded_replay.ensures.written c.bounded_replay.ensures.run)
