use Rattle.std.proofs.Common.{◌≡◌, ◌≢◌, ℕ, ◌+◌, ◌-◌, ◌<◌, ◌∙◌, List, sym, ap, set, arith, refl, length-set, slice_index, length}
use Rattle.flow_model.specs.declared.arcs.OuterArc.{OuterArc}
use Rattle.flow_model.specs.Instances.{IsArc, no_arc, arc_at}
use Rattle.flow_model.proofs.Lists.{set_at}
use Rattle.flow_uniform.specs.Cuts.{ends_at}
use Rattle.flow_sparse.specs.Loads.{starts_at}
use Rattle.flow_sparse.proofs.Loaded.{changed, few_flow, flow_where-nothing}
use Rattle.flow_sparse.proofs.loads.add_changes.Goals as goal

pub loop-number-init : goal.loop-number-init
loop-number-init c =
    let arcs = c.args.instance.now.arcs in
    record {
      changed = λ t h.
          omega (arith, c.requires.levels t (omega (arith, h, c.requires.each)), flow_where-nothing (starts_at t) arcs c.args.flows.now, flow_where-nothing (ends_at t) arcs c.args.flows.now);
      each = refl;
    }

pub overflow_add-changes : goal.overflow_add-changes
overflow_add-changes c =
    let i = c.args.instance.now in
    let n = c.loop-number.number in
    let inv = c.loop-number.invariant in
    let fits = c.arcs-arcs.ensures.in_range in
    let within : n < length c.args.flows.now = omega (arith, c.loop-number-test.true, c.loop-number.auto.number-end) in
    let own : IsArc i.steps (arc_at i.arcs n) = fits.arcs_fit n no_arc (omega (arith, within, c.requires.each_arc)) in
    let e = ap (λ (arcs : List OuterArc). (arc_at arcs n).start) c.arcs-arcs.ensures.arcs in
    omega (
      arith,
      inv.changed (arc_at i.arcs n).start (omega (arith, own.order, own.within)),
      few_flow (starts_at (arc_at i.arcs n).start) i.arcs c.args.flows.now n c.requires.each_arc c.requires.small fits.few_arcs,
      c.requires.small n within,
      ap (slice_index c.loop-number.changes) e,
    )

pub overflow_sub-changes : goal.overflow_sub-changes
overflow_sub-changes c =
    let i = c.args.instance.now in
    let n = c.loop-number.number in
    let inv = c.loop-number.invariant in
    let fits = c.arcs-arcs.ensures.in_range in
    let changes = c.loop-number.changes in
    let flow : ℕ = slice_index c.args.flows.now n in
    let within : n < length c.args.flows.now = omega (arith, c.loop-number-test.true, c.loop-number.auto.number-end) in
    let own : IsArc i.steps (arc_at i.arcs n) = fits.arcs_fit n no_arc (omega (arith, within, c.requires.each_arc)) in
    let e = ap (λ (arcs : List OuterArc). arc_at arcs n) c.arcs-arcs.ensures.arcs in
    let start : ℕ = (arc_at c.arcs-arcs.result.now n).start in
    let end : ℕ = (arc_at c.arcs-arcs.result.now n).end in
    let start_is : start ≡ (arc_at i.arcs n).start = ap (λ (a : OuterArc). a.start) e in
    let end_is : end ≡ (arc_at i.arcs n).end = ap (λ (a : OuterArc). a.end) e in
    let apart : end ≢ start = λ same. omega (arith, same, start_is, end_is, own.order) in
    let room : start < length changes = omega (arith, start_is, own.order, own.within, inv.each, c.requires.each) in
    omega (
      arith,
      (set_at changes start end (slice_index changes start + flow) room).1 apart,
      inv.changed (arc_at i.arcs n).end own.within,
      few_flow (ends_at (arc_at i.arcs n).end) i.arcs c.args.flows.now n c.requires.each_arc c.requires.small fits.few_arcs,
      c.requires.small n within,
      ap (slice_index changes) end_is,
    )

pub loop-number-preserved : goal.loop-number-preserved
loop-number-preserved c =
    let i = c.args.instance.now in
    let n = c.loop-number.number in
    let inv = c.loop-number.invariant in
    let fits = c.arcs-arcs.ensures.in_range in
    let flows = c.args.flows.now in
    let changes = c.loop-number.changes in
    let within : n < length flows = omega (arith, c.loop-number-test.true, c.loop-number.auto.number-end) in
    let inside : n < length i.arcs = omega (arith, within, c.requires.each_arc) in
    let own : IsArc i.steps (arc_at i.arcs n) = fits.arcs_fit n no_arc inside in
    let e = ap (λ (arcs : List OuterArc). arc_at arcs n) c.arcs-arcs.ensures.arcs in
    let start : ℕ = (arc_at c.arcs-arcs.result.now n).start in
    let end : ℕ = (arc_at c.arcs-arcs.result.now n).end in
    let start_is : start ≡ (arc_at i.arcs n).start = ap (λ (a : OuterArc). a.start) e in
    let end_is : end ≡ (arc_at i.arcs n).end = ap (λ (a : OuterArc). a.end) e in
    let risen : List ℕ = set changes start (slice_index changes start + slice_index flows n) in
    record {
      changed = changed i.arcs flows changes n start end i.steps inside within (omega (arith, end_is, own.within, inv.each, c.requires.each)) (omega (arith, start_is, end_is, own.order)) (sym start_is) (sym end_is)
          (omega (
            arith,
            inv.changed (arc_at i.arcs n).end own.within,
            few_flow (ends_at (arc_at i.arcs n).end) i.arcs flows n c.requires.each_arc c.requires.small fits.few_arcs,
            c.requires.small n within,
            ap (slice_index changes) end_is,
          ))
          inv.changed;
      each = length-set risen end (slice_index risen end - slice_index flows n) ∙ length-set changes start (slice_index changes start + slice_index flows n) ∙ inv.each;
    }
