use Rattle.part_laws.proofs.Cutting.{cut_is_bounded as proof}
use Rattle.part_laws.proofs.laws.cut_is_bounded.Goals as goal

pub returns : goal.returns
returns c = proof
