use Rattle.bound_laws.proofs.Fetching.{fetches_are_bounded as proof}
use Rattle.bound_laws.proofs.laws.fetches_are_bounded.Goals as goal

pub returns : goal.returns
returns c = proof
