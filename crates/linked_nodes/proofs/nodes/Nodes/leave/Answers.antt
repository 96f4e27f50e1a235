use Rattle.std.proofs.Common.{◌+◌, ◌<◌, ◌∙◌, ap, sym, subst, arith, length}
use Rattle.sparse_list.specs.Slots.{slot_at}
use Rattle.linked_nodes.specs.Nodes.{Noded, IsThere, Leaves}
use Rattle.linked_nodes.specs.Slotted.{nodes_by}
use Rattle.linked_nodes.proofs.ShownLemmas.{left, length-nodes, there-slot}
use Rattle.linked_nodes.proofs.nodes.Nodes.leave.Goals as goal

pub remove-requires : goal.remove-requires
remove-requires c =
    let objects = c.self.inside.objects in
    let items = c.self.inside.slots.items in
    let low : c.args.object < objects + 3 = omega (arith, c.requires.known, ap (λ (n : Noded). length n.list) c.self.view_is, length-nodes objects items c.self.invariant.each) in
    record {
      there = λ none.
          there-slot objects c.self.inside.slots c.self.invariant c.args.object (subst (λ (n : Noded). IsThere n.list c.args.object) (sym c.self.view_is) c.requires.there)
          (ap (slot_at c.self.inside.slots) (sym c.slot_of.ensures) ∙ none);
    }

pub returns-clause-left : goal.returns-clause-left
returns-clause-left c =
    let objects = c.self.inside.objects in
    let items = c.self.inside.slots.items in
    let low : c.args.object < objects + 3 = omega (arith, c.requires.known, ap (λ (n : Noded). length n.list) c.self.view_is, length-nodes objects items c.self.invariant.each) in
    subst (λ (n : Noded). Leaves n.list (nodes_by objects c.remove.new.self.items) c.args.object) c.self.view_is
    (rw c.remove.ensures.items
    (left objects items c.self.invariant.each c.args.object low c.slot_of.result c.slot_of.ensures c.self.inside.slots.none c.self.inside.slots.none))
