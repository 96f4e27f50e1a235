use Rattle.std.proofs.Common.{◌<◌, ◌∙◌, ap, sym, arith, length, get_or, All}
use Rattle.std.proofs.lemmas.Bool.{ltb-true}
use Rattle.flow_model.specs.Instances.{IsArc, no_arc}
use Rattle.flow_model.specs.Windows.{meets, part_of, part_steps}
use Rattle.flow_windows.proofs.PartArcs.{is_window, parts_all, window_made}
use Rattle.flow_windows.proofs.Passing.{map_filter-pass, map_filter-skip, count_by-drop_pass, count_by-drop_skip}
use Rattle.flow_windows.proofs.parts.window_instance.Goals as goal
use Rattle.flow_windows.proofs.parts.window_instance.Goals.{then-meets, else-meets}

pub part_of-requires-clause-met : goal.part_of-requires-clause-met
part_of-requires-clause-met c =
    ltb-true 0 (part_steps c.new-window.result.width c.new-window.result.number (get_or c.arcs-arcs.result.now c.loop-arc.arc-index no_arc)) (sym c.meets.ensures ∙ c.if-meets.true)

pub part_of-requires-clause-order : goal.part_of-requires-clause-order
part_of-requires-clause-order c =
    let fit : All (IsArc c.args.whole.now.steps) c.arcs-arcs.result.now = rw c.arcs-arcs.ensures.arcs c.arcs-arcs.ensures.in_range.arcs_fit in
    let arc = fit c.loop-arc.arc-index no_arc c.loop-arc-test.true in
    arc.order

pub part_of-requires-clause-end : goal.part_of-requires-clause-end
part_of-requires-clause-end c =
    let fit : All (IsArc c.args.whole.now.steps) c.arcs-arcs.result.now = rw c.arcs-arcs.ensures.arcs c.arcs-arcs.ensures.in_range.arcs_fit in
    let arc = fit c.loop-arc.arc-index no_arc c.loop-arc-test.true in
    omega (arith, arc.within, c.arcs-arcs.ensures.in_range.few_steps)

pub part_of-requires-clause-cost : goal.part_of-requires-clause-cost
part_of-requires-clause-cost c =
    let fit : All (IsArc c.args.whole.now.steps) c.arcs-arcs.result.now = rw c.arcs-arcs.ensures.arcs c.arcs-arcs.ensures.in_range.arcs_fit in
    let arc = fit c.loop-arc.arc-index no_arc c.loop-arc-test.true in
    arc.small_cost

pub push_reserved-requires : goal.push_reserved-requires
push_reserved-requires c =
    let met = rw (c.new-window.ensures.width, c.new-window.ensures.number) at c.meets.ensures in
    omega (arith, c.loop-arc.invariant.room, count_by-drop_pass (meets c.args.width c.args.number) c.arcs-arcs.result.now c.loop-arc.arc-index no_arc c.loop-arc-test.true (sym met ∙ c.if-meets.true))

pub loop-arc-preserved : goal.loop-arc-preserved
loop-arc-preserved c =
    let width = c.args.width in
    let number = c.args.number in
    let arcs = c.arcs-arcs.result.now in
    let i = c.loop-arc.arc-index in
    let inv = c.loop-arc.invariant in
    let within : i < length arcs = c.loop-arc-test.true in
    let met = rw (c.new-window.ensures.width, c.new-window.ensures.number) at c.meets.ensures in
    elim c.if-meets.branch [
      | then-meets w ↦
          (let passes = sym met ∙ w.if-meets.true in
          let part = rw (c.new-window.ensures.width, c.new-window.ensures.number) at w.part_of.ensures in
          record {
            parts = map_filter-pass (part_of width number) (meets width number) arcs i _ c.loop-arc.parts.items _ w.part_of.result within passes part inv.parts (ap (λ v. v.items) w.parts-is ∙ w.push_reserved.ensures.items);
            room = rw w.parts-is (omega (arith, inv.room, w.push_reserved.ensures.len, w.push_reserved.ensures.capacity, count_by-drop_pass (meets width number) arcs i _ within passes));
          })
      | else-meets w ↦
          (let fails = sym met ∙ w.if-meets.false in
          record {
            parts = map_filter-skip (part_of width number) (meets width number) arcs i _ c.loop-arc.parts.items _ within fails inv.parts (ap (λ v. v.items) w.parts-is);
            room = rw w.parts-is (omega (arith, inv.room, count_by-drop_skip (meets width number) arcs i _ within fails));
          })
    ]

pub new-requires : goal.new-requires
new-requires c =
    is_window c.args.whole.now c.args.width c.args.number c.steps_within.result c.units.result c.loop-arc.parts.items c.arcs-arcs.ensures.in_range
    (rw (c.steps.ensures, c.new-window.ensures.width, c.new-window.ensures.number) at c.steps_within.ensures) c.units.ensures
    (parts_all c.arcs-arcs.result.now c.args.whole.now.arcs c.args.width c.args.number c.loop-arc.arc-index c.loop-arc.parts.items c.loop-arc-test.false c.arcs-arcs.ensures.arcs c.loop-arc.invariant.parts)

pub returns : goal.returns
returns c =
    c.new.ensures
    ∙ window_made c.args.whole.now c.args.width c.args.number c.steps_within.result c.units.result c.loop-arc.parts.items
    (rw (c.steps.ensures, c.new-window.ensures.width, c.new-window.ensures.number) at c.steps_within.ensures) c.units.ensures
    (parts_all c.arcs-arcs.result.now c.args.whole.now.arcs c.args.width c.args.number c.loop-arc.arc-index c.loop-arc.parts.items c.loop-arc-test.false c.arcs-arcs.ensures.arcs c.loop-arc.invariant.parts)
