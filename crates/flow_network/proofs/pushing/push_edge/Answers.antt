use Rattle.std.proofs.Common.{refl}
use Rattle.flow_network.proofs.pushing.push_edge.Goals as goal

pub returns-in-OuterBack : goal.returns-in-OuterBack
returns-in-OuterBack c = rw c.in-OuterBack.is refl
