use Rattle.area_laws.proofs.Edges.{edge_in_bytes as proof}
use Rattle.area_laws.proofs.laws.edge_in_bytes.Goals as goal

pub returns : goal.returns
returns c = proof
