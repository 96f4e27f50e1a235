use Rattle.bound_run.proofs.Replayed.{fresh_replayed}
use Rattle.bound_run.proofs.replays.fresh_counts_as.Goals as goal

pub returns : goal.returns
returns g c =
    let begins = rw (c.in_ok-policy.was, ← c.r.view_is) at c.requires.begins in
    rw (← c.r.view_is)
    (fresh_replayed _ _ _ c.args.trace.now _ _ c.bounded_fresh_replay.result _ _ begins.room_is begins.state_is c.bounded_fresh_replay.ensures.scores c.bounded_fresh_replay.ensures.written c.bounded_fresh_replay.ensures.run)
