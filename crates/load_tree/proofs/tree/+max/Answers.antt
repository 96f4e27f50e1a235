use Rattle.std.proofs.Common.{arith}
use Rattle.load_tree.specs.Trees.{loads_of}
use Rattle.load_tree.proofs.Joining.{fork_from_tree, fork_greatest, leaf_greatest, root_most, most_from_greatest, small_greatest, small_lower, small_upper, length-loads_of, length-lower, length-upper}
use Rattle.load_tree.proofs.tree.+max.Goals as goal

pub overflow_add-result : goal.overflow_add-result
overflow_add-result t c =
    omega (
      arith,
      small_greatest (loads_of c.args.height c.args.nodes.now c.args.loads.now) c.args.from c.args.to _ c.requires.small (omega (arith, length-loads_of c.args.height c.args.nodes.now c.args.loads.now, c.requires.within))
          (leaf_greatest c.args.height c.args.nodes.now c.args.loads.now c.args.from c.args.to c.most_of.result c.if-height-eq0.true c.if-from-to.false c.requires.within c.most_of.ensures),
    )

pub max-left-requires : goal.max-left-requires
max-left-requires t c = (
  omega arith,
  (
    (fork_from_tree c.args.height c.args.nodes.now c.args.loads.now c.if-height-eq0.false c.requires.tree).first,
    (
      small_lower c.args.height c.args.nodes.now c.args.loads.now c.if-height-eq0.false c.requires.small,
      omega (arith, length-lower c.args.loads.now, c.min-else-height-eq0.ensures),
    ),
  ),
)

pub max-right-requires : goal.max-right-requires
max-right-requires t c = (
  omega arith,
  (
    (fork_from_tree c.args.height c.args.nodes.now c.args.loads.now c.if-height-eq0.false c.requires.tree).second,
    (
      small_upper c.args.height c.args.nodes.now c.args.loads.now c.if-height-eq0.false c.requires.small,
      omega (arith, length-upper c.args.loads.now, c.saturating_sub-else-height-eq0.ensures, c.requires.within),
    ),
  ),
)

pub overflow_add-result-else-height-eq0 : goal.overflow_add-result-else-height-eq0
overflow_add-result-else-height-eq0 t c =
    omega (
      arith,
      small_greatest (loads_of c.args.height c.args.nodes.now c.args.loads.now) c.args.from c.args.to _ c.requires.small (omega (arith, length-loads_of c.args.height c.args.nodes.now c.args.loads.now, c.requires.within))
          (fork_greatest c.args.height c.args.nodes.now c.args.loads.now c.if-height-eq0.false c.args.from c.args.to c.max-left.result c.max-right.result c.min.result c.min-else-height-eq0.result c.saturating_sub.result c.saturating_sub-else-height-eq0.result c.max.result c.if-from-to.false c.requires.within
          c.min.ensures c.min-else-height-eq0.ensures c.saturating_sub.ensures c.saturating_sub-else-height-eq0.ensures c.max.ensures c.max-left.ensures c.max-right.ensures),
    )

pub returns-then-to-loads : goal.returns-then-to-loads
returns-then-to-loads t c = root_most c.args.height c.args.nodes.now c.args.loads.now c.args.from c.args.to c.requires.tree c.if-from-eq0.true c.if-to-loads.true

pub returns-then-height-eq0 : goal.returns-then-height-eq0
returns-then-height-eq0 t c =
    most_from_greatest (loads_of c.args.height c.args.nodes.now c.args.loads.now) c.args.from c.args.to _
    (leaf_greatest c.args.height c.args.nodes.now c.args.loads.now c.args.from c.args.to c.most_of.result c.if-height-eq0.true c.if-from-to.false c.requires.within c.most_of.ensures)

pub returns-else-height-eq0 : goal.returns-else-height-eq0
returns-else-height-eq0 t c =
    most_from_greatest (loads_of c.args.height c.args.nodes.now c.args.loads.now) c.args.from c.args.to _
    (fork_greatest c.args.height c.args.nodes.now c.args.loads.now c.if-height-eq0.false c.args.from c.args.to c.max-left.result c.max-right.result c.min.result c.min-else-height-eq0.result c.saturating_sub.result c.saturating_sub-else-height-eq0.result c.max.result c.if-from-to.false c.requires.within
    c.min.ensures c.min-else-height-eq0.ensures c.saturating_sub.ensures c.saturating_sub-else-height-eq0.ensures c.max.ensures c.max-left.ensures c.max-right.ensures)
