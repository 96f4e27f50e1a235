use Rattle.std.proofs.Common.{ap, arith, length}
use Rattle.window_arcs.specs.Current.{Current}
use Rattle.window_arcs.proofs.CurrentLemmas.{order_length}
use Rattle.window_arcs.proofs.arcs.WindowArcs.places.Goals as goal

pub overflow_cast-result : goal.overflow_cast-result
overflow_cast-result c =
    omega (arith, c.len.ensures, c.self.inside.order.numbers.ok.0, order_length c.self.inside.width c.self.inside.whole.now.arcs c.self.inside.order.numbers.items c.self.inside.order.ranks.items c.self.invariant.ordered, c.self.invariant.in_range.few_arcs)

pub returns : goal.returns
returns c = omega (arith, c.len.ensures, c.self.inside.order.numbers.ok.0, ap (λ (v : Current). length v.order) c.self.view_is)
