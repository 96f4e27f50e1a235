use Rattle.area_laws.proofs.Edges.{edge_in_hits as proof}
use Rattle.area_laws.proofs.laws.edge_in_hits.Goals as goal

pub returns : goal.returns
returns c = proof
