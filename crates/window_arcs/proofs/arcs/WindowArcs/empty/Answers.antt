use Rattle.std.proofs.Common.{◌<◌, ℕ, List, ap, subst, arith, get_or, length}
use Rattle.std.proofs.lemmas.List.{get_or_default}
use Rattle.flow_model.proofs.Lists.{written}
use Rattle.flow_windows.specs.Cuts.{Cut, cut_of}
use Rattle.window_arcs.specs.Current.{AreEmptied, AreEmptiedLive, Current, empty_numbers}
use Rattle.window_arcs.specs.Passing.{passing_numbers}
use Rattle.window_arcs.proofs.CurrentLemmas.{order_length, order_low}
use Rattle.window_arcs.proofs.FlowLemmas.{current_empties, emptied_le}
use Rattle.window_arcs.proofs.arcs.WindowArcs.empty.Goals as goal

pub empty_live-requires-clause-few : goal.empty_live-requires-clause-few
empty_live-requires-clause-few c =
    omega (arith, ap length c.deref.ensures.value, order_length c.self.inside.width c.self.inside.whole.now.arcs c.self.inside.order.numbers.items c.self.inside.order.ranks.items c.self.invariant.ordered, c.self.invariant.in_range.few_arcs)

pub empty_live-requires-clause-within : goal.empty_live-requires-clause-within
empty_live-requires-clause-within c = λ k d within.
    let inside = c.self.inside in
    let order : List ℕ = inside.order.numbers.items in
    let low : k < length order = omega (arith, within, ap length c.deref.ensures.value) in
    omega (
      arith,
      order_low inside.width inside.whole.now.arcs order inside.order.ranks.items c.self.invariant.ordered k low,
      ap (λ (xs : List ℕ). get_or xs k d) c.deref.ensures.value,
      get_or_default order k d 0 low,
      ap length c.deref_mut.ensures.value,
      c.self.invariant.each_arc,
    )

pub invariant_of-self : goal.invariant_of-self
invariant_of-self c =
    let inside = c.self.inside in
    let cut : Cut = cut_of inside.whole.now inside.width inside.number in
    let order : List ℕ = inside.order.numbers.items in
    let old : List ℕ = inside.flows.items in
    let new : List ℕ = c.empty_live.new.flows in
    let done : AreEmptiedLive cut order c.args.ranks.end old c.empty_live.new.live new =
    rw (c.deref_mut.ensures.value, c.deref.ensures.value) at c.empty_live.ensures cut c.self.invariant.lives in
    rw (written old new inside.flows.len done.emptied.each_arc inside.flows.ok.0)
    (current_empties cut order inside.order.ranks.items inside.starts inside.ends inside.passing inside.live old c.empty_live.new.live new c.self.invariant done.emptied.each_arc (emptied_le (passing_numbers cut order c.args.ranks.end (length order)) old new done.emptied) done.lives)

pub returns-clause-flows : goal.returns-clause-flows
returns-clause-flows c =
    let inside = c.self.inside in
    let cut : Cut = cut_of inside.whole.now inside.width inside.number in
    let order : List ℕ = inside.order.numbers.items in
    let old : List ℕ = inside.flows.items in
    let new : List ℕ = c.empty_live.new.flows in
    let done : AreEmptiedLive cut order c.args.ranks.end old c.empty_live.new.live new =
    rw (c.deref_mut.ensures.value, c.deref.ensures.value) at c.empty_live.ensures cut c.self.invariant.lives in
    rw (written old new inside.flows.len done.emptied.each_arc inside.flows.ok.0)
    (subst (λ (w : Current). AreEmptied (empty_numbers w c.args.ranks) w.flows new) c.self.view_is done.emptied)
