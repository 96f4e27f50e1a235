use Rattle.std.proofs.Common.{◌≡◌, ◌∙◌, ◌+◌, ◌*◌, ◌<◌, ◌≤◌, ap, sym, arith, ◌++◌, ⊎_elim}
use Rattle.std.proofs.lemmas.Bool.{cases_lt, false≢true}
use Rattle.flow_windows.specs.Cuts.{Cut}
use Rattle.window_bounds.proofs.Rounds.{AreSolved, solved_none, solved_more}
use Rattle.window_bounds.proofs.Results.{solutions_of}
use Rattle.window_bounds.proofs.solving.solve_each.Goals as goal

pub loop-alloc-init : goal.loop-alloc-init
loop-alloc-init c =
    record {
      whole = ap (λ (cut : Cut). cut.whole) c.in_ok-windows.ensures.cut;
      width = ap (λ (cut : Cut). cut.width) c.in_ok-windows.ensures.cut;
      solved = solved_none c.args.whole.now c.args.width c.in_ok-windows.windows.cut.number c.in_ok-prices.prices.items c.in_ok-windows.windows.flows (ap (λ (cut : Cut). cut.number) c.in_ok-windows.ensures.cut) c.in_ok-prices.ensures.items
          c.in_ok-windows.ensures.flows;
    }

pub loop-alloc-preserved : goal.loop-alloc-preserved
loop-alloc-preserved c =
    let whole = c.args.whole.now in
    let width = c.args.width in
    let n = c.loop-alloc.windows.cut.number in
    let before = c.loop-alloc.invariant in
    let prices = c.loop-alloc.prices.items in
    let flows = c.loop-alloc.windows.flows in
    let next = rw (before.whole, before.width) at c.in_ok-guess.ensures.next in
    let new = c.solve_window.new.windows.flows in
    let has_step = rw (before.whole, before.width) at (c.has_step.ensures.0 c.loop-alloc-test.true) in
    let number : c.advance.new.self.cut.number ≡ n + 1 = ap (λ (cut : Cut). cut.number) c.in_ok-advance.ensures.cut ∙ ap (λ (cut : Cut). cut.number + 1) c.in_ok-guess.ensures.cut in
    let more : AreSolved whole width (n + 1) (prices ++ next.found) new = solved_more whole width n prices flows next.found next.parts new has_step before.solved next.solution c.in_ok-guess.ensures.each_arc next.fallen in
    record {
      whole = ap (λ (cut : Cut). cut.whole) c.in_ok-advance.ensures.cut ∙ ap (λ (cut : Cut). cut.whole) c.in_ok-guess.ensures.cut ∙ before.whole;
      width = ap (λ (cut : Cut). cut.width) c.in_ok-advance.ensures.cut ∙ ap (λ (cut : Cut). cut.width) c.in_ok-guess.ensures.cut ∙ before.width;
      solved = rw (number, next.extended, c.in_ok-advance.ensures.flows) more;
    }

pub returns : goal.returns
returns c =
    let before = c.loop-alloc.invariant in
    let n = c.loop-alloc.windows.cut.number in
    let done = rw (before.whole, before.width) at c.has_step.ensures in
    let past : c.args.whole.now.steps ≤ c.args.width * n =
    ⊎_elim (λ (more : c.args.width * n < c.args.whole.now.steps). absurd (false≢true (sym c.loop-alloc-test.false ∙ done.1 more)))
    (λ (all : c.args.whole.now.steps ≤ c.args.width * n). all)
    (cases_lt (c.args.width * n) c.args.whole.now.steps) in
    let some : 0 < c.args.width = omega (arith, c.requires.some) in
    rw (c.new-2.ensures, c.into_flows.ensures) (solutions_of c.args.whole.now c.args.width c.loop-alloc.prices.items c.loop-alloc.windows.flows c.arcs-arcs.ensures.in_range some n past before.solved)
