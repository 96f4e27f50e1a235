use Rattle.flow_network.proofs.network.Network.reduced.Goals as goal

pub ends-ends-requires : goal.ends-ends-requires
ends-ends-requires c = c.requires
