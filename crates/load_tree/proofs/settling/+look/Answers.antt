use Rattle.std.proofs.Common.{◌/◌, arith}
use Rattle.load_tree.proofs.Levelled.{below, levels_within}
use Rattle.load_tree.proofs.Answering.{answer_below, small_above, load_by}
use Rattle.load_tree.proofs.settling.+look.Goals as goal

pub next-requires-clause-short : goal.next-requires-clause-short
next-requires-clause-short t c = omega (arith, levels_within c.args.level.height c.args.level.start c.args.level.count c.args.values.now c.requires.levels)

pub look-requires : goal.look-requires
look-requires t c =
    let is_below = below c.args.level.height c.args.level.start c.args.level.count c.next.result.height c.next.result.start c.next.result.count c.args.values.now c.next.ensures.height c.next.ensures.start c.next.ensures.count c.requires.levels in (
      omega (arith, c.next.ensures.height),
      (is_below.levels, (omega arith, (omega (arith, c.next.ensures.count), λ g low. small_above _ _ _ _ _ _ _ is_below c.args.query.low c.args.query.high c.requires.order c.requires.within _ c.requires.small g (omega (arith, c.next.ensures.count))))),
    )

pub most_of_group-left_most-requires-clause-within : goal.most_of_group-left_most-requires-clause-within
most_of_group-left_most-requires-clause-within t c = levels_within c.args.level.height c.args.level.start c.args.level.count c.args.values.now c.requires.levels

pub most_of_other-right_most-requires-clause-within : goal.most_of_other-right_most-requires-clause-within
most_of_other-right_most-requires-clause-within t c = levels_within c.args.level.height c.args.level.start c.args.level.count c.args.values.now c.requires.levels

pub judge-requires-in-Open-clause-places : goal.judge-requires-in-Open-clause-places
judge-requires-in-Open-clause-places t c = levels_within c.args.level.height c.args.level.start c.args.level.count c.args.values.now c.requires.levels

pub overflow_sub-low_added : goal.overflow_sub-low_added
overflow_sub-low_added t c =
    let is_below = below c.args.level.height c.args.level.start c.args.level.count c.next.result.height c.next.result.start c.next.result.count c.args.values.now c.next.ensures.height c.next.ensures.start c.next.ensures.count c.requires.levels in
    omega (arith, c.most_of_group-left_most.ensures, c.in-Open.ensures.0, is_below.most_load (c.args.query.low / 16) (omega arith))

pub overflow_sub-high_added : goal.overflow_sub-high_added
overflow_sub-high_added t c =
    let is_below = below c.args.level.height c.args.level.start c.args.level.count c.next.result.height c.next.result.start c.next.result.count c.args.values.now c.next.ensures.height c.next.ensures.start c.next.ensures.count c.requires.levels in
    omega (arith, c.most_of_other-right_most.ensures, c.in-Open.ensures.1, is_below.most_load (c.args.query.high / 16) (omega arith))

pub judge-requires-in-Open-clause-left : goal.judge-requires-in-Open-clause-left
judge-requires-in-Open-clause-left t c = λ place in_group short.
    let is_below = below c.args.level.height c.args.level.start c.args.level.count c.next.result.height c.next.result.start c.next.result.count c.args.values.now c.next.ensures.height c.next.ensures.start c.next.ensures.count c.requires.levels in
    rw c.most_of_group-left_most.ensures (load_by _ _ _ _ _ _ _ is_below c.args.query.low c.args.query.high c.requires.order c.requires.within (c.args.query.low / 16) c.in-Open.low c.in-Open.ensures.0 place in_group short)

pub judge-requires-in-Open-clause-right : goal.judge-requires-in-Open-clause-right
judge-requires-in-Open-clause-right t c = λ place in_group short.
    let is_below = below c.args.level.height c.args.level.start c.args.level.count c.next.result.height c.next.result.start c.next.result.count c.args.values.now c.next.ensures.height c.next.ensures.start c.next.ensures.count c.requires.levels in
    rw c.most_of_other-right_most.ensures (load_by _ _ _ _ _ _ _ is_below c.args.query.low c.args.query.high c.requires.order c.requires.within (c.args.query.high / 16) c.in-Open.high c.in-Open.ensures.1 place in_group short)

pub judge-requires-in-Open-clause-inner : goal.judge-requires-in-Open-clause-inner
judge-requires-in-Open-clause-inner t c = λ place first last.
    let is_below = below c.args.level.height c.args.level.start c.args.level.count c.next.result.height c.next.result.start c.next.result.count c.args.values.now c.next.ensures.height c.next.ensures.start c.next.ensures.count c.requires.levels in
    omega (arith, is_below.at_most place (omega arith), c.in-Open.ensures.2 (place / 16) first last)

pub returns-in_default : goal.returns-in_default
returns-in_default t c =
    let is_below = below c.args.level.height c.args.level.start c.args.level.count c.next.result.height c.next.result.start c.next.result.count c.args.values.now c.next.ensures.height c.next.ensures.start c.next.ensures.count c.requires.levels in
    answer_below _ _ _ _ _ _ _ is_below c.args.query.low c.args.query.high c.requires.order c.requires.within c.args.query.room c.look.result c.in_default.not-Open c.look.ensures
