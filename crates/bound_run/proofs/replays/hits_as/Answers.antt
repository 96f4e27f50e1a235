use Rattle.bound_run.proofs.Replayed.{hits_are}
use Rattle.bound_run.proofs.replays.hits_as.Goals as goal

pub returns : goal.returns
returns g c =
    let begins = rw c.in_ok-policy.was at c.requires in
    hits_are _ _ c.args.trace.now c.replay_hits.result _ _ begins.room_is begins.state_is c.replay_hits.ensures.hits
