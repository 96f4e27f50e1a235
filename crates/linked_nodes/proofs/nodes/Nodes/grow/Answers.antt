use Rattle.std.proofs.Common.{◌≡◌, ℕ, ◌+◌, ◌-◌, ◌<◌, ◌≤◌, ◌++◌, ◌∙◌, ap, sym, subst, arith, List, length, replicate, slice_index_or, length-append}
use Rattle.std.proofs.lemmas.List.{get_or_append_left, length-replicate}
use Rattle.linked_nodes.specs.declared.nodes.Node.{Node}
use Rattle.linked_nodes.specs.Nodes.{Noded, Grows}
use Rattle.linked_nodes.specs.Slotted.{nodes_by}
use Rattle.linked_nodes.proofs.ShownLemmas.{grown, length-nodes}
use Rattle.linked_nodes.proofs.nodes.Nodes.grow.Goals as goal

pub returns-clause-grown : goal.returns-clause-grown
returns-clause-grown c =
    let objects = c.self.inside.objects in
    let items : List Node = c.self.inside.slots.items in
    let more : ℕ = c.args.objects in
    let longer : List Node = c.reserve.new.self.items in
    let extra : ℕ = more + 2 + 1 - length items in
    let is : longer ≡ items ++ replicate extra c.self.inside.slots.none = c.in_ok-reserve.ensures.reached in
    let each : length items ≡ objects + 3 = c.self.invariant.each in
    let wider : objects ≤ more = omega (arith, c.requires.more, ap (λ (n : Noded). length n.list) c.self.view_is, length-nodes objects items each) in
    let longer_each : length longer ≡ more + 3 = omega (arith, ap length is, length-append items (replicate extra c.self.inside.slots.none), length-replicate extra c.self.inside.slots.none, each, wider) in
    let same : (i : ℕ) → i < length items → slice_index_or longer i c.self.inside.slots.none ≡ slice_index_or items i c.self.inside.slots.none =
    λ i low. ap (λ xs. slice_index_or xs i c.self.inside.slots.none) is ∙ get_or_append_left items (replicate extra c.self.inside.slots.none) c.self.inside.slots.none i low in
    let from : length c.args.self.now.list - 3 ≡ objects = omega (arith, ap (λ (n : Noded). length n.list) c.self.view_is, length-nodes objects items each) in
    subst (λ (n : Noded). Grows n.list (nodes_by more longer) (length c.args.self.now.list - 3) more) c.self.view_is
    (subst (λ o. Grows (nodes_by objects items) (nodes_by more longer) o more) (sym from)
    (grown objects more items each wider longer longer_each c.self.inside.slots.none same))
