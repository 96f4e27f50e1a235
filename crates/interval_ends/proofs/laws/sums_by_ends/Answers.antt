use Rattle.interval_ends.proofs.Ends.{sums_by_ends as proof}
use Rattle.interval_ends.proofs.laws.sums_by_ends.Goals as goal

pub returns : goal.returns
returns c = proof
