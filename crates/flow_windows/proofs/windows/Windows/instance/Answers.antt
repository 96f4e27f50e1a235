use Rattle.std.proofs.Common.{◌≡◌, ◌∙◌, ℕ, ◌<◌, ap, sym, arith, All, [], ◌∷◌, ◌++◌, length, map, take, get_or}
use Rattle.std.proofs.lemmas.List.{map_more}
use Rattle.flow_model.specs.declared.arcs.OuterArc.{OuterArc}
use Rattle.flow_model.specs.Instances.{IsArc, arc_at, no_arc}
use Rattle.flow_model.specs.Windows.{meets, part_of, window_instance}
use Rattle.flow_windows.specs.Cuts.{Cut, numbers_where}
use Rattle.flow_windows.proofs.PartArcs.{is_window, window_made}
use Rattle.flow_windows.proofs.Numbering.{met_at, parts_of_numbers}
use Rattle.flow_windows.proofs.windows.Windows.instance.Goals as goal

pub bounds-arcs-number : goal.bounds-arcs-number
bounds-arcs-number c =
    let are : c.deref-number-items.result.now ≡ numbers_where (meets c.new-window.result.width c.new-window.result.number) c.arcs-arcs.result.now =
    rw (c.new-window.ensures.width, c.new-window.ensures.number, c.arcs-arcs.ensures.arcs) (c.deref-number-items.ensures.value ∙ c.self.invariant.arcs) in
    (met_at c.new-window.result.width c.new-window.result.number c.arcs-arcs.result.now c.deref-number-items.result.now c.loop-number.number-index are c.loop-number-test.true).within

pub part_of-requires-clause-met : goal.part_of-requires-clause-met
part_of-requires-clause-met c =
    let are : c.deref-number-items.result.now ≡ numbers_where (meets c.new-window.result.width c.new-window.result.number) c.arcs-arcs.result.now =
    rw (c.new-window.ensures.width, c.new-window.ensures.number, c.arcs-arcs.ensures.arcs) (c.deref-number-items.ensures.value ∙ c.self.invariant.arcs) in
    (met_at c.new-window.result.width c.new-window.result.number c.arcs-arcs.result.now c.deref-number-items.result.now c.loop-number.number-index are c.loop-number-test.true).steps

pub part_of-requires-clause-order : goal.part_of-requires-clause-order
part_of-requires-clause-order c =
    let are : c.deref-number-items.result.now ≡ numbers_where (meets c.new-window.result.width c.new-window.result.number) c.arcs-arcs.result.now =
    rw (c.new-window.ensures.width, c.new-window.ensures.number, c.arcs-arcs.ensures.arcs) (c.deref-number-items.ensures.value ∙ c.self.invariant.arcs) in
    (met_at c.new-window.result.width c.new-window.result.number c.arcs-arcs.result.now c.deref-number-items.result.now c.loop-number.number-index are c.loop-number-test.true).order

pub part_of-requires-clause-end : goal.part_of-requires-clause-end
part_of-requires-clause-end c =
    let are : c.deref-number-items.result.now ≡ numbers_where (meets c.new-window.result.width c.new-window.result.number) c.arcs-arcs.result.now =
    rw (c.new-window.ensures.width, c.new-window.ensures.number, c.arcs-arcs.ensures.arcs) (c.deref-number-items.ensures.value ∙ c.self.invariant.arcs) in
    let met = met_at c.new-window.result.width c.new-window.result.number c.arcs-arcs.result.now c.deref-number-items.result.now c.loop-number.number-index are c.loop-number-test.true in
    let fit : All (IsArc c.self.inside.whole.now.steps) c.arcs-arcs.result.now = rw c.arcs-arcs.ensures.arcs c.arcs-arcs.ensures.in_range.arcs_fit in
    omega (arith, (fit _ no_arc met.within).within, c.arcs-arcs.ensures.in_range.few_steps)

pub part_of-requires-clause-cost : goal.part_of-requires-clause-cost
part_of-requires-clause-cost c =
    let are : c.deref-number-items.result.now ≡ numbers_where (meets c.new-window.result.width c.new-window.result.number) c.arcs-arcs.result.now =
    rw (c.new-window.ensures.width, c.new-window.ensures.number, c.arcs-arcs.ensures.arcs) (c.deref-number-items.ensures.value ∙ c.self.invariant.arcs) in
    let met = met_at c.new-window.result.width c.new-window.result.number c.arcs-arcs.result.now c.deref-number-items.result.now c.loop-number.number-index are c.loop-number-test.true in
    let fit : All (IsArc c.self.inside.whole.now.steps) c.arcs-arcs.result.now = rw c.arcs-arcs.ensures.arcs c.arcs-arcs.ensures.in_range.arcs_fit in
    (fit _ no_arc met.within).small_cost

pub new-requires : goal.new-requires
new-requires c =
    let whole = c.self.inside.whole.now in
    let past = rw c.deref-number-items.ensures.value at c.loop-number-test.false in
    let made = rw c.arcs-arcs.ensures.arcs at c.loop-number.invariant.parts in
    let parts = parts_of_numbers c.self.inside.width c.self.inside.number c.loop-number.number-index whole.arcs c.self.inside.met.items c.loop-number.parts.items c.self.invariant.arcs past made in
    let steps = rw (c.steps.ensures, c.new-window.ensures.width, c.new-window.ensures.number) at c.steps_within.ensures in
    is_window whole c.self.inside.width c.self.inside.number c.steps_within.result c.units.result c.loop-number.parts.items c.arcs-arcs.ensures.in_range steps c.units.ensures parts

pub returns : goal.returns
returns c =
    let whole = c.self.inside.whole.now in
    let past = rw c.deref-number-items.ensures.value at c.loop-number-test.false in
    let made = rw c.arcs-arcs.ensures.arcs at c.loop-number.invariant.parts in
    let parts = parts_of_numbers c.self.inside.width c.self.inside.number c.loop-number.number-index whole.arcs c.self.inside.met.items c.loop-number.parts.items c.self.invariant.arcs past made in
    let steps = rw (c.steps.ensures, c.new-window.ensures.width, c.new-window.ensures.number) at c.steps_within.ensures in
    c.new.ensures
    ∙ window_made whole c.self.inside.width c.self.inside.number c.steps_within.result c.units.result c.loop-number.parts.items steps c.units.ensures parts
    ∙ ap (λ (cut : Cut). window_instance cut.whole cut.width cut.number) c.self.view_is

pub loop-number-preserved : goal.loop-number-preserved
loop-number-preserved c =
    let before = c.loop-number.invariant in
    let met = c.self.inside.met.items in
    let n = c.loop-number.number-index in
    let part : ℕ → OuterArc = λ k. part_of c.self.inside.width c.self.inside.number (arc_at c.arcs-arcs.result.now k) in
    let within : n < length met = omega (arith, c.loop-number-test.true, ap length c.deref-number-items.ensures.value) in
    let made : c.part_of.result ≡ part (get_or met n 0) = rw (c.new-window.ensures.width, c.new-window.ensures.number, c.deref-number-items.ensures.value) at c.part_of.ensures in
    record {
      parts = c.push_reserved.ensures.items ∙ ap (λ xs. xs ++ c.part_of.result ∷ []) before.parts ∙ ap (λ p. map part (take n met) ++ p ∷ []) made ∙ sym (map_more part met n 0 within);
      count = omega (arith, c.push_reserved.ensures.len, before.count);
      room = omega (arith, c.push_reserved.ensures.capacity, before.room);
    }
