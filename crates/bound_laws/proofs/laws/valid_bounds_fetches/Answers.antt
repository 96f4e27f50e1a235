use Rattle.bound_laws.proofs.Fetching.{valid_bounds_fetches as proof}
use Rattle.bound_laws.proofs.laws.valid_bounds_fetches.Goals as goal

pub returns : goal.returns
returns c = proof
