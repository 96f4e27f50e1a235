use Rattle.std.proofs.Common.{ap, length, drop, arith}
use Rattle.std.proofs.lemmas.List.{take_at}
use Rattle.load_tree.specs.Trees.{loads_of}
use Rattle.load_tree.proofs.Adding.{small_after}
use Rattle.load_tree.proofs.Fresh.{well_of}
use Rattle.load_tree.proofs.Joining.{length-loads_of}
use Rattle.load_tree.proofs.loads.Loads.add.Goals as goal

pub add-requires-clause-within : goal.add-requires-clause-within
add-requires-clause-within c = omega (arith, ap length c.self.view_is, length-loads_of c.self.inside.height c.self.inside.nodes.items c.self.inside.loads.items, ap length c.deref_mut-2.ensures.value, c.requires.within)

pub invariant_of-self : goal.invariant_of-self
invariant_of-self c =
    let height = c.self.inside.height in
    let added = rw (c.deref_mut.ensures.value, c.deref_mut-2.ensures.value, c.from.ensures) at c.add.ensures.added in
    well_of height c.add.new.nodes _ c.add.new.loads _
    (take_at c.add.new.nodes (drop (length c.add.new.nodes) c.self.inside.nodes.items) c.self.inside.nodes.len (omega (arith, c.add.auto.nodes, c.deref_mut.ensures.len)))
    (take_at c.add.new.loads (drop (length c.add.new.loads) c.self.inside.loads.items) c.self.inside.loads.len (omega (arith, c.add.auto.loads, c.deref_mut-2.ensures.len))) (
      omega (arith, c.add.auto.loads, ap length c.deref_mut-2.ensures.value, c.self.invariant.0),
      c.add.ensures.tree,
      small_after (loads_of height c.self.inside.nodes.items c.self.inside.loads.items) (loads_of height c.add.new.nodes c.add.new.loads) c.args.from c.args.to c.args.amount c.self.invariant.2 (rw (← c.self.view_is) at c.requires.room) added,
    )
