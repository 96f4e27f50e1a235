use Rattle.std.proofs.Common.{◌≡◌, ◌+◌, ◌≢◌, ◌∙◌, ap, sym, subst, arith, length, slice_index_or}
use Rattle.sparse_list.specs.Slots.{Slots, slot_at}
use Rattle.linked_nodes.specs.declared.nodes.Node.{Node}
use Rattle.linked_nodes.specs.Nodes.{Noded, IsThere, Joins}
use Rattle.linked_nodes.specs.Slotted.{nodes_by}
use Rattle.linked_nodes.proofs.NumberLemmas.{slot-within}
use Rattle.linked_nodes.proofs.ShownLemmas.{joined-by, length-nodes, still-there, there-slot}
use Rattle.linked_nodes.proofs.nodes.Nodes.join.Goals as goal

pub change-requires : goal.change-requires
change-requires c = record {
  there = λ none.
      there-slot c.self.inside.objects c.self.inside.slots c.self.invariant c.args.before (subst (λ (n : Noded). IsThere n.list c.args.before) (sym c.self.view_is) c.requires.before)
      (ap (slot_at c.self.inside.slots) (sym c.slot_of-first.ensures) ∙ none);
}

pub change-requires-2 : goal.change-requires-2
change-requires-2 c =
    let objects = c.self.inside.objects in
    let slots = c.self.inside.slots in
    let long : length c.args.self.now.list ≡ objects + 3 = sym (ap (λ (n : Noded). length n.list) c.self.view_is) ∙ length-nodes objects slots.items c.self.invariant.each in
    let value : Node = record { before = c.get-node.result.before; after = c.slot_of-second.result; size = c.get-node.result.size } in
    let some : slot_at slots c.slot_of-second.result ≢ slots.none =
    λ none. there-slot objects slots c.self.invariant c.args.after (subst (λ (n : Noded). IsThere n.list c.args.after) (sym c.self.view_is) c.requires.after)
    (ap (slot_at slots) (sym c.slot_of-second.ensures) ∙ none) in
    record {
      there = subst (λ (s : Slots Node). slot_at s c.slot_of-second.result ≢ s.none) (sym c.change.ensures)
          (still-there objects slots c.self.invariant c.slot_of-first.result c.slot_of-second.result value
          (omega (arith, c.slot_of-first.ensures, slot-within objects c.args.before (omega (arith, c.requires.before.0, long)), c.self.invariant.each))
          (omega (arith, c.slot_of-second.ensures, slot-within objects c.args.after (omega (arith, c.requires.after.0, long))))
          some);
    }

pub returns-clause-joined : goal.returns-clause-joined
returns-clause-joined c =
    let objects = c.self.inside.objects in
    let slots = c.self.inside.slots in
    let long : length c.args.self.now.list ≡ objects + 3 = sym (ap (λ (n : Noded). length n.list) c.self.view_is) ∙ length-nodes objects slots.items c.self.invariant.each in
    subst (λ (n : Noded). Joins n.list (nodes_by objects c.change-2.new.self.items) c.args.before c.args.after) c.self.view_is
    (joined-by objects slots.items c.self.invariant.each c.args.before c.args.after (omega (arith, c.requires.before.0, long)) (omega (arith, c.requires.after.0, long)) slots.none c.slot_of-first.result c.slot_of-second.result
    c.slot_of-first.ensures c.slot_of-second.ensures c.get-node.result c.get-node-2.result c.change.new.self.items c.change-2.new.self.items c.get-node.ensures
    (ap (λ (s : Slots Node). s.items) c.change.ensures)
    (c.get-node-2.ensures ∙ ap (λ (s : Slots Node). slice_index_or c.change.new.self.items c.slot_of-second.result s.none) c.change.ensures)
    (ap (λ (s : Slots Node). s.items) c.change-2.ensures))
