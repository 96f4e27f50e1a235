use Rattle.ttl_walk.proofs.Walking.{walks}
use Rattle.ttl_walk.proofs.laws.walks_over_requests.Goals as goal

pub returns : goal.returns
returns c terms unit denominator trace times prices ttl n x = walks terms unit denominator trace times prices ttl x n
