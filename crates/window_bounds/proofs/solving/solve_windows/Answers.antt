use Rattle.std.proofs.Common.{◌<◌, ◌≤◌, arith}
use Rattle.window_bounds.proofs.Results.{whole_solutions, schedule_of, above_of, paid_of, last_of}
use Rattle.window_bounds.proofs.solving.solve_windows.Goals as goal
use Rattle.window_bounds.proofs.solving.solve_windows.Goals.{then-steps-width+in_ok-solution, else-steps-width+in_ok-solution-2}

pub returns-clause-windows : goal.returns-clause-windows
returns-clause-windows c =
    let whole = c.args.whole.now in
    let width = c.args.width in
    elim c.if-steps-width.branch [
      | then-steps-width+in_ok-solution w ↦
          let wide : whole.steps ≤ width = omega arith in
          let some : 0 < width = omega (arith, c.requires) in
          rw w.solution-is (whole_solutions whole width w.in_ok-solution.solution.prices w.in_ok-solution.solution.flows c.arcs.ensures.in_range some wide w.in_ok-solution.ensures)
      | else-steps-width+in_ok-solution-2 w ↦ rw w.solution-is w.in_ok-solution-2.ensures
    ]

pub returns-clause-schedule : goal.returns-clause-schedule
returns-clause-schedule c =
    let some : 0 < c.args.width = omega (arith, c.requires) in
    schedule_of c.args.whole.now c.args.width c.if-steps-width.solution.prices c.if-steps-width.solution.flows c.arcs.ensures.in_range some (returns-clause-windows c)

pub returns-clause-above : goal.returns-clause-above
returns-clause-above c =
    let some : 0 < c.args.width = omega (arith, c.requires) in
    above_of c.args.whole.now c.args.width c.if-steps-width.solution.prices c.if-steps-width.solution.flows c.arcs.ensures.in_range some (returns-clause-windows c)

pub returns-clause-paid : goal.returns-clause-paid
returns-clause-paid c =
    let some : 0 < c.args.width = omega (arith, c.requires) in
    paid_of c.args.whole.now c.args.width c.if-steps-width.solution.prices c.if-steps-width.solution.flows c.arcs.ensures.in_range some (returns-clause-windows c)

pub returns-clause-last : goal.returns-clause-last
returns-clause-last c =
    let some : 0 < c.args.width = omega (arith, c.requires) in
    last_of c.args.whole.now c.args.width c.if-steps-width.solution.prices c.if-steps-width.solution.flows c.arcs.ensures.in_range some (returns-clause-windows c)

pub returns-clause-one_window : goal.returns-clause-one_window
returns-clause-one_window c = λ wide.
    elim c.if-steps-width.branch [
      | then-steps-width+in_ok-solution w ↦ rw w.solution-is w.in_ok-solution.ensures
      | else-steps-width+in_ok-solution-2 w ↦ absurd (omega (arith, wide))
    ]
