use Rattle.std.proofs.Common.{refl}
use Rattle.flow_network.proofs.ends.ends_of.Goals as goal

pub returns-in-OuterBack-clause-loss : goal.returns-in-OuterBack-clause-loss
returns-in-OuterBack-clause-loss c = rw c.in-OuterBack.is refl
