use Rattle.interval_ends.proofs.Ends.{next_ends_alone as proof}
use Rattle.interval_ends.proofs.laws.next_ends_alone.Goals as goal

pub returns : goal.returns
returns c = proof
