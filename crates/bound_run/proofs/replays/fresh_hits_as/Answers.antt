use Rattle.bound_run.proofs.Replayed.{fresh_hits_are}
use Rattle.bound_run.proofs.replays.fresh_hits_as.Goals as goal

pub returns : goal.returns
returns g c =
    let begins = rw c.in_ok-policy.was at c.requires.begins in
    fresh_hits_are _ _ c.args.trace.now _ _ c.fresh_hits.result _ _ begins.room_is begins.state_is c.fresh_hits.ensures.hits
