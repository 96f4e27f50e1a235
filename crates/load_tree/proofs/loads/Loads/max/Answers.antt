use Rattle.std.proofs.Common.{ap, length, arith}
use Rattle.load_tree.proofs.Joining.{length-loads_of}
use Rattle.load_tree.proofs.loads.Loads.max.Goals as goal

pub max-requires-clause-within : goal.max-requires-clause-within
max-requires-clause-within c = omega (arith, ap length c.self.view_is, length-loads_of c.self.inside.height c.self.inside.nodes.items c.self.inside.loads.items, ap length c.deref-2.ensures.value, c.requires.within)
