use Rattle.replay_tinylfu.proofs.CountLemmas.{shift-most}
use Rattle.replay_tinylfu.proofs.counts.faded.Goals as goal

pub returns : goal.returns
returns c = shift-most c.args.count c.args.halvings c.min.result c.requires c.min.ensures
