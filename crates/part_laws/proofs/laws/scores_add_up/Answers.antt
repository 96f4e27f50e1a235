use Rattle.part_laws.proofs.Adding.{scores_add_up as proof}
use Rattle.part_laws.proofs.laws.scores_add_up.Goals as goal

pub returns : goal.returns
returns c = proof
