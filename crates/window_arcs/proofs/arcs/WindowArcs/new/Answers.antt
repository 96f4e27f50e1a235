use Rattle.std.proofs.Common.{◌≡◌, ◌∙◌, ℕ, ◌/◌, ap, refl, sym, subst, arith, List, map}
use Rattle.flow_model.specs.declared.arcs.OuterArc.{OuterArc}
use Rattle.flow_model.specs.Windows.{last_window}
use Rattle.flow_windows.specs.Cuts.{Cut, cut_of}
use Rattle.window_arcs.specs.Current.{ArePut, passing_mark, passing_weight}
use Rattle.window_arcs.specs.Places.{numbers_at}
use Rattle.window_arcs.proofs.AdvanceLemmas.{AreFirst, current_first, first_ones, first_windows_low, last_windows_low}
use Rattle.window_arcs.proofs.OrderLemmas.{numbers_few}
use Rattle.window_arcs.proofs.arcs.WindowArcs.new.Goals as goal

pub overflow_cast-places : goal.overflow_cast-places
overflow_cast-places c =
    let numbers = c.in_ok-order.order.numbers in
    omega (arith, c.len-places.ensures, numbers.ok.0, numbers_few c.args.width c.args.whole.now.arcs numbers.items c.in_ok-order.ensures.all, c.arcs-arcs.ensures.in_range.few_arcs)

pub new-requires-3 : goal.new-requires-3
new-requires-3 c =
    let numbers = c.in_ok-order.order.numbers in
    omega (arith, c.len-places.ensures, numbers.ok.0, numbers_few c.args.width c.args.whole.now.arcs numbers.items c.in_ok-order.ensures.all, c.arcs-arcs.ensures.in_range.few_arcs)

pub new-requires-4 : goal.new-requires-4
new-requires-4 c =
    let numbers = c.in_ok-order.order.numbers in
    omega (arith, c.len-places.ensures, numbers.ok.0, numbers_few c.args.width c.args.whole.now.arcs numbers.items c.in_ok-order.ensures.all, c.arcs-arcs.ensures.in_range.few_arcs)

pub new-requires-clause-within : goal.new-requires-clause-within
new-requires-clause-within c =
    first_windows_low c.args.width c.args.whole.now.steps c.steps.result c.args.whole.now.arcs c.arcs-arcs.result.now c.in_ok-first_windows.field-0.items c.requires.some c.arcs-arcs.ensures.in_range.arcs_fit c.arcs-arcs.ensures.arcs c.in_ok-first_windows.ensures c.steps.ensures

pub new-requires-2-clause-within : goal.new-requires-2-clause-within
new-requires-2-clause-within c =
    last_windows_low c.args.width c.args.whole.now.steps c.steps.result c.args.whole.now.arcs c.arcs-arcs.result.now c.in_ok-last_windows.field-0.items c.requires.some c.arcs-arcs.ensures.in_range.arcs_fit c.arcs-arcs.ensures.arcs c.in_ok-last_windows.ensures c.steps.ensures

pub put_passing-requires-clause-within : goal.put_passing-requires-clause-within
put_passing-requires-clause-within c =
    let starting : c.in_ok-starts.starts ≡ map (λ (arc : OuterArc). arc.start / c.args.width) c.args.whole.now.arcs =
    c.in_ok-starts.ensures ∙ c.in_ok-first_windows.ensures ∙ ap (map (λ (arc : OuterArc). arc.start / c.args.width)) c.arcs-arcs.ensures.arcs in
    let changed : AreFirst c.args.width c.args.whole.now.arcs c.deref.result.now =
    first_ones c.args.width c.args.whole.now.arcs c.in_ok-starts.starts c.new-changed.result.items c.push_numbers.new.numbers.items c.deref.result.now c.requires.some starting c.new-changed.ensures.items c.in_ok-push_numbers.ensures c.deref.ensures.value in
    changed.within

pub invariant_of-result-5 : goal.invariant_of-result-5
invariant_of-result-5 c =
    let cut : Cut = cut_of c.args.whole.now c.args.width 0 in
    let order = c.in_ok-order.order.numbers.items in
    let starting : c.in_ok-starts.starts ≡ map (λ (arc : OuterArc). arc.start / cut.width) cut.whole.arcs =
    c.in_ok-starts.ensures ∙ c.in_ok-first_windows.ensures ∙ ap (map (λ (arc : OuterArc). arc.start / cut.width)) c.arcs-arcs.ensures.arcs in
    let ending : c.in_ok-ends.ends ≡ map (last_window cut.width) cut.whole.arcs = c.in_ok-ends.ensures ∙ c.in_ok-last_windows.ensures ∙ ap (map (last_window cut.width)) c.arcs-arcs.ensures.arcs in
    let full : c.in_ok-weights_of.field-0.items ≡ map (λ (arc : OuterArc). arc.weight) cut.whole.arcs = c.in_ok-weights_of.ensures ∙ ap (map (λ (arc : OuterArc). arc.weight)) c.arcs-arcs.ensures.arcs in
    let changed : AreFirst cut.width cut.whole.arcs c.deref.result.now =
    first_ones cut.width cut.whole.arcs c.in_ok-starts.starts c.new-changed.result.items c.push_numbers.new.numbers.items c.deref.result.now c.requires.some starting c.new-changed.ensures.items c.in_ok-push_numbers.ensures c.deref.ensures.value in
    let passing : List ℕ = numbers_at c.passing-2.inside.places c.passing-2.inside.leaves (map (λ n. n) c.passing-2.inside.sums.items) in
    let live : List ℕ = numbers_at c.live-2.inside.places c.live-2.inside.leaves (map (λ n. n) c.live-2.inside.sums.items) in
    let put : ArePut (passing_weight cut) order c.deref.result.now c.in_ok-passing.passing passing = subst (ArePut (passing_weight cut) order c.deref.result.now c.in_ok-passing.passing) (sym c.passing-2.view_is) c.put_passing.ensures.weights in
    let put_live : ArePut (passing_mark cut) order c.deref.result.now c.in_ok-live.live live = subst (ArePut (passing_mark cut) order c.deref.result.now c.in_ok-live.live) (sym c.live-2.view_is) c.put_passing.ensures.lives in
    current_first cut order c.in_ok-order.order.ranks.items c.starts.inside.keys.items c.ends.inside.keys.items c.in_ok-passing.passing c.in_ok-live.live passing live c.in_ok-weights_of.field-0.items c.deref.result.now c.len-places.result
    refl c.requires.some c.requires.narrow c.arcs-arcs.ensures.in_range c.in_ok-order.ensures (c.starts.view_is ∙ starting) (c.ends.view_is ∙ ending) full (omega (arith, c.len-places.ensures, c.in_ok-order.order.numbers.ok.0)) c.in_ok-passing.ensures c.in_ok-live.ensures changed put put_live
