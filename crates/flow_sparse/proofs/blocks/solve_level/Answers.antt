use Rattle.std.proofs.Common.{◌≤◌, ap, arith, length}
use Rattle.std.proofs.lemmas.List.Sums.{length-filter, count_by-le-length}
use Rattle.std.proofs.lemmas.List.FromFn.{length-range_with_len}
use Rattle.std.specs.List.{range_with_len}
use Rattle.flow_model.specs.Instances.{Instance, arc_at}
use Rattle.flow_model.specs.Windows.{meets}
use Rattle.flow_windows.specs.Cuts.{Cut, numbers_of}
use Rattle.flow_sparse.proofs.blocks.solve_level.Goals as goal

-- no more arcs meet a window than there are
numbers_few : (cut : Cut) → length (numbers_of cut) ≤ length cut.whole.arcs
numbers_few cut =
    omega (
      arith,
      length-filter (λ i. meets cut.width cut.number (arc_at cut.whole.arcs i)) (range_with_len 0 (length cut.whole.arcs)),
      count_by-le-length (λ i. meets cut.width cut.number (arc_at cut.whole.arcs i)) (range_with_len 0 (length cut.whole.arcs)),
      length-range_with_len 0 (length cut.whole.arcs),
    )

pub solve_block-requires-clause-few : goal.solve_block-requires-clause-few
solve_block-requires-clause-few c =
    omega (arith, ap length c.numbers.ensures, numbers_few c.loop-alloc.windows, ap (λ (i : Instance). length i.arcs) c.loop-alloc.invariant.whole)

pub overflow_add-first : goal.overflow_add-first
overflow_add-first c =
    let before = c.loop-alloc.invariant in
    let has_step = rw (before.whole, before.width) at (c.has_step.ensures.0 c.loop-alloc-test.true) in
    omega (arith, has_step, before.first, c.requires.width, c.requires.fits.few_steps)

pub overflow_add-first-in-loop-alloc : goal.overflow_add-first-in-loop-alloc
overflow_add-first-in-loop-alloc c =
    let before = c.loop-alloc.invariant in
    let has_step = rw (before.whole, before.width) at (c.has_step.ensures.0 c.loop-alloc-test.true) in
    omega (arith, has_step, before.first, c.requires.width, c.requires.fits.few_steps)
