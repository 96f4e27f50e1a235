use Rattle.std.proofs.Common.{ℕ, ◌+◌, ◌<◌, ◌∙◌, ap, sym, arith, length}
use Rattle.sparse_list.specs.Slots.{slot_at}
use Rattle.linked_nodes.specs.declared.nodes.Node.{Node}
use Rattle.linked_nodes.specs.Nodes.{Noded, node_at}
use Rattle.linked_nodes.specs.Slotted.{number_at, shown}
use Rattle.linked_nodes.proofs.ShownLemmas.{length-nodes, shown-at}
use Rattle.linked_nodes.proofs.nodes.Nodes.get.Goals as goal

pub returns : goal.returns
returns c =
    let within : c.args.k < c.self.inside.objects + 3 =
    omega (arith, c.requires.known, ap (λ (n : Noded). length n.list) c.self.view_is, length-nodes c.self.inside.objects c.self.inside.slots.items c.self.invariant.each) in
    let of : Node → ℕ → ℕ → Node = λ n b a. record { before = b; after = a; size = n.size } in
    ap (λ b. of c.get-node.result b c.number_at-2.result) c.number_at.ensures ∙ ap (λ a. of c.get-node.result (number_at c.self.inside.objects c.get-node.result.before) a) c.number_at-2.ensures
    ∙ ap (shown c.self.inside.objects) (c.get-node.ensures ∙ ap (slot_at c.self.inside.slots) c.slot_of.ensures)
    ∙ sym (shown-at c.self.inside.objects c.self.inside.slots.items c.self.invariant.each c.args.k within c.self.inside.slots.none)
    ∙ ap (λ (n : Noded). node_at n.list c.args.k) c.self.view_is
