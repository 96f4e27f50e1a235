use Rattle.std.proofs.Common.{◌∙◌, ℕ, List, ◌++◌, ap, length, sym}
use Rattle.window_arcs.specs.Current.{Current}
use Rattle.window_bounds.proofs.KeptFlows.{many, next_solution}
use Rattle.window_bounds.proofs.solving.solve_window.Goals as goal

pub returns-clause-next : goal.returns-clause-next
returns-clause-next c =
    let v : Current = c.args.windows.now in
    let found = c.in_ok-found.found in
    next_solution v found.ranks found.kept.items found.solution.prices found.solution.flows c.in_ok-found.ensures c.lower.ensures.in_range c.lower.new.self.flows c.empty.new.self.flows
    (rw (c.deref.ensures.value, c.flows.ensures) at c.lower.ensures.flows)
    (rw (c.lower.ensures.cut, c.lower.ensures.order) at c.empty.ensures.flows)
    c.args.prices.now.items c.extend_from_slice.new.self.items (c.in_ok-extend_from_slice.ensures.items ∙ ap (λ (xs : List ℕ). c.args.prices.now.items ++ xs) c.prices.ensures)

pub lower-requires-clause-each_part : goal.lower-requires-clause-each_part
lower-requires-clause-each_part c =
    let found = c.in_ok-found.found in
    ap length c.flows.ensures ∙ many c.args.windows.now found.ranks found.kept.items found.solution.prices found.solution.flows c.in_ok-found.ensures ∙ ap length (sym c.deref.ensures.value)

pub returns-clause-each_arc : goal.returns-clause-each_arc
returns-clause-each_arc c = c.empty.ensures.flows.each_arc ∙ c.lower.ensures.flows.each_arc
