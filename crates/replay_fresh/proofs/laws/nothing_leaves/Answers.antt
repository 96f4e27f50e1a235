use Rattle.replay_fresh.proofs.Nothing.{run-none, contents-none}
use Rattle.replay_fresh.proofs.laws.nothing_leaves.Goals as goal

pub returns : goal.returns
returns c = record { run = run-none; contents = contents-none }
