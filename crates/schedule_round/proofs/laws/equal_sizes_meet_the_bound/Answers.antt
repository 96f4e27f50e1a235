use Rattle.schedule_round.proofs.EqualSizes.{best_schedule}
use Rattle.schedule_round.proofs.laws.equal_sizes_meet_the_bound.Goals as goal

pub returns : goal.returns
returns c = best_schedule
