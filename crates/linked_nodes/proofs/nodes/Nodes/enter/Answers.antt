use Rattle.std.proofs.Common.{◌+◌, ◌<◌, ap, refl, subst, arith, length}
use Rattle.linked_nodes.specs.Nodes.{Noded, Enters}
use Rattle.linked_nodes.specs.Slotted.{nodes_by}
use Rattle.linked_nodes.proofs.ShownLemmas.{entered, length-nodes}
use Rattle.linked_nodes.proofs.nodes.Nodes.enter.Goals as goal

pub returns-clause-entered : goal.returns-clause-entered
returns-clause-entered c =
    let objects = c.self.inside.objects in
    let items = c.self.inside.slots.items in
    let low : c.args.object < objects + 3 = omega (arith, c.requires.known, ap (λ (n : Noded). length n.list) c.self.view_is, length-nodes objects items c.self.invariant.each) in
    subst (λ (n : Noded). Enters n.list (nodes_by objects c.put.new.self.items) c.args.object c.args.size) c.self.view_is
    (rw c.put.ensures.items
    (entered objects items c.self.invariant.each c.args.object low c.slot_of-slot.result c.slot_of-slot.ensures (record { before = c.slot_of-slot.result; after = c.slot_of-slot.result; size = c.args.size }) c.self.inside.slots.none c.args.size refl))
