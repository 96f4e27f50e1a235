use Rattle.cache_model.proofs.Members.{intervals_are_eligible as proof}
use Rattle.cache_model.proofs.laws.intervals_are_eligible.Goals as goal

pub returns : goal.returns
returns c = proof
