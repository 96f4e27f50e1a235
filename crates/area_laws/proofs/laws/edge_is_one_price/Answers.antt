use Rattle.area_laws.proofs.Edges.{edge_is_one_price as proof}
use Rattle.area_laws.proofs.laws.edge_is_one_price.Goals as goal

pub returns : goal.returns
returns c = proof
