use Rattle.schedule_round.proofs.EqualSizes.{equal_sizes_whole}
use Rattle.schedule_round.proofs.laws.equal_sizes_are_whole.Goals as goal

pub returns : goal.returns
returns c = equal_sizes_whole
