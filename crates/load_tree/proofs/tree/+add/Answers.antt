use Rattle.std.proofs.Common.{◌-◌, ◌/◌, ◌∙◌, ap, sym, refl, length, arith}
use Rattle.std.specs.Prelude.{max}
use Rattle.load_tree.specs.Trees.{root}
use Rattle.load_tree.proofs.Joining
use Rattle.load_tree.proofs.Adding
use Rattle.load_tree.proofs.Halves
use Rattle.load_tree.proofs.tree.+add.Goals as goal

pub overflow_add-nodes : goal.overflow_add-nodes
overflow_add-nodes t c = omega (arith, Adding.added-le c.args.height c.args.nodes.now c.args.loads.now 0 (omega arith), c.requires.room 0 (omega arith) (omega arith))

pub add_each-requires-clause-room : goal.add_each-requires-clause-room
add_each-requires-clause-room t c = Joining.leaf_room c.args.height c.args.nodes.now c.args.loads.now c.if-height-eq0.true c.args.from c.args.to c.args.amount c.requires.within c.requires.room

pub overflow_add-most : goal.overflow_add-most
overflow_add-most t c = omega (arith, Adding.leaf_small c.args.height c.args.nodes.now c.args.loads.now c.add_each.new.loads c.requires.tree c.if-height-eq0.true c.args.from c.args.to c.args.amount c.requires.within c.add_each.ensures c.most_of.result c.most_of.ensures (omega arith) c.requires.small c.requires.room)

pub add-left-requires : goal.add-left-requires
add-left-requires t c =
    let ready = Halves.left_ready c.args.height c.args.nodes.now c.args.loads.now c.if-height-eq0.false c.requires.tree c.args.from c.args.to c.args.amount c.min.result c.min-else-height-eq0.result (c.args.from - length c.args.loads.now / 2) (c.args.to - length c.args.loads.now / 2)
    c.min.ensures c.min-else-height-eq0.ensures refl refl c.requires.small c.requires.room in
    (omega arith, ready)

pub add-right-requires : goal.add-right-requires
add-right-requires t c =
    let ready = Halves.right_ready c.args.height c.args.nodes.now c.args.loads.now c.if-height-eq0.false c.requires.tree c.args.from c.args.to c.args.amount c.min.result c.min-else-height-eq0.result c.saturating_sub.result c.saturating_sub-else-height-eq0.result
    c.min.ensures c.min-else-height-eq0.ensures c.saturating_sub.ensures c.saturating_sub-else-height-eq0.ensures c.add-left.new.nodes c.add-left.new.loads c.add-left.ensures.tree c.add-left.ensures.added c.requires.small c.requires.room c.requires.within in
    (omega arith, ready)

pub overflow_add-most-else-height-eq0 : goal.overflow_add-most-else-height-eq0
overflow_add-most-else-height-eq0 t c = omega (
  arith,
  Halves.fork_small c.args.height c.args.nodes.now c.args.loads.now c.if-height-eq0.false c.requires.tree c.args.from c.args.to c.args.amount c.min.result c.min-else-height-eq0.result c.saturating_sub.result c.saturating_sub-else-height-eq0.result
      c.min.ensures c.min-else-height-eq0.ensures c.saturating_sub.ensures c.saturating_sub-else-height-eq0.ensures c.add-left.new.nodes c.add-left.new.loads c.add-left.ensures.tree c.add-left.ensures.added
      c.add-right.new.nodes c.add-right.new.loads c.add-right.ensures.tree c.add-right.ensures.added c.max.result (c.max.ensures ∙ ap (λ n. max n c.add-right.result) c.add-left.ensures.most ∙ ap (max (root c.add-left.new.nodes).most) c.add-right.ensures.most) c.if-from-to.false c.requires.within c.requires.small c.requires.room,
)

pub bounds-nodes-0-else-height-eq0 : goal.bounds-nodes-0-else-height-eq0
bounds-nodes-0-else-height-eq0 t c = Halves.last_some c.args.height c.args.nodes.now c.args.loads.now c.if-height-eq0.false c.requires.tree c.args.from c.args.to c.args.amount c.min.result c.min-else-height-eq0.result c.saturating_sub.result c.saturating_sub-else-height-eq0.result
    c.min.ensures c.min-else-height-eq0.ensures c.saturating_sub.ensures c.saturating_sub-else-height-eq0.ensures c.add-left.new.nodes c.add-left.new.loads c.add-left.ensures.tree c.add-left.ensures.added
    c.add-right.new.nodes c.add-right.new.loads c.add-right.ensures.tree c.add-right.ensures.added

pub returns-then-to-loads-clause-tree : goal.returns-then-to-loads-clause-tree
returns-then-to-loads-clause-tree t c = Adding.whole_tree c.args.height c.args.nodes.now c.args.loads.now c.requires.tree c.args.amount (omega arith)

pub returns-then-to-loads-clause-added : goal.returns-then-to-loads-clause-added
returns-then-to-loads-clause-added t c = Adding.whole_added c.args.height c.args.nodes.now c.args.loads.now c.requires.tree c.args.amount c.args.from c.args.to c.if-from-eq0.true c.if-to-loads.true

pub returns-then-height-eq0-clause-tree : goal.returns-then-height-eq0-clause-tree
returns-then-height-eq0-clause-tree t c = Adding.leaf_tree c.args.height c.args.nodes.now c.args.loads.now c.add_each.new.loads c.requires.tree c.if-height-eq0.true c.args.from c.args.to c.args.amount c.requires.within c.add_each.ensures c.most_of.result c.most_of.ensures (omega arith)

pub returns-then-height-eq0-clause-added : goal.returns-then-height-eq0-clause-added
returns-then-height-eq0-clause-added t c = Adding.leaf_added c.args.height c.args.nodes.now c.args.loads.now c.add_each.new.loads c.requires.tree c.if-height-eq0.true c.args.from c.args.to c.args.amount c.requires.within c.add_each.ensures c.most_of.result c.most_of.ensures (omega arith)

pub returns-else-height-eq0-clause-tree : goal.returns-else-height-eq0-clause-tree
returns-else-height-eq0-clause-tree t c = Halves.fork_tree c.args.height c.args.nodes.now c.args.loads.now c.if-height-eq0.false c.requires.tree c.args.from c.args.to c.args.amount c.min.result c.min-else-height-eq0.result c.saturating_sub.result c.saturating_sub-else-height-eq0.result
    c.min.ensures c.min-else-height-eq0.ensures c.saturating_sub.ensures c.saturating_sub-else-height-eq0.ensures c.add-left.new.nodes c.add-left.new.loads c.add-left.ensures.tree c.add-left.ensures.added
    c.add-right.new.nodes c.add-right.new.loads c.add-right.ensures.tree c.add-right.ensures.added c.max.result (c.max.ensures ∙ ap (λ n. max n c.add-right.result) c.add-left.ensures.most ∙ ap (max (root c.add-left.new.nodes).most) c.add-right.ensures.most) c.if-from-to.false c.requires.within

pub returns-else-height-eq0-clause-added : goal.returns-else-height-eq0-clause-added
returns-else-height-eq0-clause-added t c = Halves.fork_added c.args.height c.args.nodes.now c.args.loads.now c.if-height-eq0.false c.requires.tree c.args.from c.args.to c.args.amount c.min.result c.min-else-height-eq0.result c.saturating_sub.result c.saturating_sub-else-height-eq0.result
    c.min.ensures c.min-else-height-eq0.ensures c.saturating_sub.ensures c.saturating_sub-else-height-eq0.ensures c.add-left.new.nodes c.add-left.new.loads c.add-left.ensures.tree c.add-left.ensures.added
    c.add-right.new.nodes c.add-right.new.loads c.add-right.ensures.tree c.add-right.ensures.added c.max.result (c.max.ensures ∙ ap (λ n. max n c.add-right.result) c.add-left.ensures.most ∙ ap (max (root c.add-left.new.nodes).most) c.add-right.ensures.most) c.if-from-to.false c.requires.within

pub returns-then-to-loads-clause-most : goal.returns-then-to-loads-clause-most
returns-then-to-loads-clause-most t c = sym (Adding.whole_most c.args.height c.args.nodes.now c.args.loads.now c.requires.tree c.args.amount)
