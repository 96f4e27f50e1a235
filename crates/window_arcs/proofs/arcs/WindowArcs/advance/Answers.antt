use Rattle.std.proofs.Common.{◌∙◌, ◌*◌, ◌<◌, ap, sym, subst, arith, length}
use Rattle.std.proofs.lemmas.List.{length-map}
use Rattle.flow_windows.specs.Cuts.{Cut, cut_of}
use Rattle.window_arcs.specs.Current.{Current, passing_weight}
use Rattle.window_arcs.proofs.AdvanceLemmas.{AreChanging, changing, current_next, next_small}
use Rattle.window_arcs.proofs.arcs.WindowArcs.advance.Goals as goal

pub overflow_add-next : goal.overflow_add-next
overflow_add-next c =
    let cut : Cut = cut_of c.self.inside.whole.now c.self.inside.width c.self.inside.number in
    let has_step : cut.width * cut.number < cut.whole.steps = subst (λ (v : Current). v.cut.width * v.cut.number < v.cut.whole.steps) (sym c.self.view_is) c.requires in
    omega (arith, next_small cut.width cut.number cut.whole.steps c.self.invariant.some_width has_step c.arcs-arcs.ensures.in_range.few_steps)

pub put_passing-requires-clause-within : goal.put_passing-requires-clause-within
put_passing-requires-clause-within c =
    let changed : AreChanging c.self.inside.width c.self.inside.number c.self.inside.whole.now.arcs c.deref.result.now =
    changing c.self.inside.width c.self.inside.number c.self.inside.whole.now.arcs c.self.inside.starts c.self.inside.ends c.new-changed.result.items c.push_numbers.new.numbers.items c.push_numbers-2.new.numbers.items c.push_numbers-3.new.numbers.items c.deref.result.now
    c.self.invariant.some_width c.self.invariant.first_windows c.self.invariant.last_windows c.new-changed.ensures.items c.in_ok-push_numbers.ensures c.in_ok-push_numbers-2.ensures c.in_ok-push_numbers-3.ensures c.deref.ensures.value in
    changed.within

pub put_passing-requires-clause-each : goal.put_passing-requires-clause-each
put_passing-requires-clause-each c =
    let cut : Cut = cut_of c.self.inside.whole.now c.self.inside.width c.self.inside.number in
    let order = c.self.inside.order.numbers.items in
    ap length c.self.invariant.weights ∙ length-map order (passing_weight cut)

pub put_passing-requires-clause-each_live : goal.put_passing-requires-clause-each_live
put_passing-requires-clause-each_live c =
    c.self.invariant.lives.each_rank

pub invariant_of-self : goal.invariant_of-self
invariant_of-self c =
    let cut : Cut = cut_of c.self.inside.whole.now c.self.inside.width c.self.inside.number in
    let changed : AreChanging c.self.inside.width c.self.inside.number c.self.inside.whole.now.arcs c.deref.result.now =
    changing c.self.inside.width c.self.inside.number c.self.inside.whole.now.arcs c.self.inside.starts c.self.inside.ends c.new-changed.result.items c.push_numbers.new.numbers.items c.push_numbers-2.new.numbers.items c.push_numbers-3.new.numbers.items c.deref.result.now
    c.self.invariant.some_width c.self.invariant.first_windows c.self.invariant.last_windows c.new-changed.ensures.items c.in_ok-push_numbers.ensures c.in_ok-push_numbers-2.ensures c.in_ok-push_numbers-3.ensures c.deref.ensures.value in
    current_next cut c.self.inside.order.numbers.items c.self.inside.order.ranks.items c.self.inside.starts c.self.inside.ends c.self.inside.passing c.self.inside.live c.self.inside.flows.items c.deref.result.now c.put_passing.new.passing c.put_passing.new.live
    c.self.invariant c.arcs-arcs.ensures.in_range changed c.put_passing.ensures.weights c.put_passing.ensures.lives
