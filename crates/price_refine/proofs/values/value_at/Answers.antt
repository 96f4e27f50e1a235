use Rattle.std.proofs.Common.{◌≡◌, ◌∙◌, ◌-◌, ◌*◌, ◌^◌, ap, arith, length, sum, get_or, All, List}
use Rattle.std.proofs.lemmas.List.{get_or_default, take_all}
use Rattle.flow_model.specs.declared.arcs.OuterArc.{OuterArc}
use Rattle.flow_model.specs.Instances.{IsArc, no_arc, price_over, surplus}
use Rattle.price_refine.proofs.ArcValues.{paid-small, price_is, value_more, value_more-small}
use Rattle.price_refine.proofs.values.value_at.Goals as goal

pub sums_of-requires-clause-few : goal.sums_of-requires-clause-few
sums_of-requires-clause-few c = omega (arith, c.requires.each_step, c.arcs-arcs.ensures.in_range.few_steps)

pub sums_of-requires-clause-small : goal.sums_of-requires-clause-small
sums_of-requires-clause-small c = paid-small c.args.instance.now.units (sum c.args.prices.now) (2 ^ 126) c.arcs-arcs.ensures.in_range.some_units c.requires.paid

pub overflow_mul-value : goal.overflow_mul-value
overflow_mul-value c =
    let prices = c.args.prices.now in
    let are = c.in_ok-sums.ensures in
    let total = c.index.ensures ∙ get_or_default c.in_ok-sums.sums.items (length prices) _ 0 (omega (arith, are.one_more)) ∙ are.each (length prices) (omega arith) ∙ ap sum (take_all (length prices) prices (omega arith)) in
    rw (c.units.ensures, total) (omega (arith, c.requires.paid))

pub loop-arc-init : goal.loop-arc-init
loop-arc-init c =
    let prices = c.args.prices.now in
    let are = c.in_ok-sums.ensures in
    let total = c.index.ensures ∙ get_or_default c.in_ok-sums.sums.items (length prices) _ 0 (omega (arith, are.one_more)) ∙ are.each (length prices) (omega arith) ∙ ap sum (take_all (length prices) prices (omega arith)) in
    rw (c.units.ensures, total) (omega arith)

pub overflow_sub-index : goal.overflow_sub-index
overflow_sub-index c =
    let fit : All (IsArc c.args.instance.now.steps) c.arcs-arcs.result.now = rw c.arcs-arcs.ensures.arcs (c.arcs-arcs.ensures.in_range.arcs_fit) in
    let arc = fit c.loop-arc.arc-index no_arc c.loop-arc-test.true in
    omega (
      arith,
      price_is c.args.instance.now.steps c.args.prices.now c.in_ok-sums.sums.items (get_or c.arcs-arcs.result.now c.loop-arc.arc-index no_arc) c.index-in-loop-arc.result.now
          c.index-in-loop-arc-2.result.now c.in_ok-sums.ensures c.requires.each_step arc c.index-in-loop-arc.ensures c.index-in-loop-arc-2.ensures,
    )

pub overflow_add-value : goal.overflow_add-value
overflow_add-value c =
    let fit : All (IsArc c.args.instance.now.steps) c.arcs-arcs.result.now = rw c.arcs-arcs.ensures.arcs (c.arcs-arcs.ensures.in_range.arcs_fit) in
    let k = c.loop-arc.arc-index in
    let arc = get_or c.arcs-arcs.result.now k no_arc in
    let price = price_is c.args.instance.now.steps c.args.prices.now c.in_ok-sums.sums.items arc c.index-in-loop-arc.result.now
    c.index-in-loop-arc-2.result.now c.in_ok-sums.ensures c.requires.each_step (fit k no_arc c.loop-arc-test.true) c.index-in-loop-arc.ensures c.index-in-loop-arc-2.ensures in
    let between : c.index-in-loop-arc.result.now - c.index-in-loop-arc-2.result.now ≡ price_over c.args.prices.now arc = omega (arith, price) in
    let more = c.surplus_of-value.ensures ∙ ap (λ n. arc.weight * arc.cost - arc.weight * n) between ∙ ap (λ (arcs : List OuterArc). surplus c.args.prices.now (get_or arcs k no_arc)) c.arcs-arcs.ensures.arcs in
    omega (
      arith,
      value_more-small c.args.instance.now c.args.prices.now k c.loop-arc.value c.surplus_of-value.result no_arc (omega (arith, c.loop-arc-test.true, ap (λ (arcs : List OuterArc). length arcs) c.arcs-arcs.ensures.arcs))
          c.arcs-arcs.ensures.in_range.few_arcs c.requires.worths c.requires.paid c.loop-arc.invariant more,
    )

pub loop-arc-preserved : goal.loop-arc-preserved
loop-arc-preserved c =
    let fit : All (IsArc c.args.instance.now.steps) c.arcs-arcs.result.now = rw c.arcs-arcs.ensures.arcs (c.arcs-arcs.ensures.in_range.arcs_fit) in
    let k = c.loop-arc.arc-index in
    let arc = get_or c.arcs-arcs.result.now k no_arc in
    let price = price_is c.args.instance.now.steps c.args.prices.now c.in_ok-sums.sums.items arc c.index-in-loop-arc.result.now
    c.index-in-loop-arc-2.result.now c.in_ok-sums.ensures c.requires.each_step (fit k no_arc c.loop-arc-test.true) c.index-in-loop-arc.ensures c.index-in-loop-arc-2.ensures in
    let between : c.index-in-loop-arc.result.now - c.index-in-loop-arc-2.result.now ≡ price_over c.args.prices.now arc = omega (arith, price) in
    let more = c.surplus_of-value.ensures ∙ ap (λ n. arc.weight * arc.cost - arc.weight * n) between ∙ ap (λ (arcs : List OuterArc). surplus c.args.prices.now (get_or arcs k no_arc)) c.arcs-arcs.ensures.arcs in
    value_more c.args.instance.now c.args.prices.now k c.loop-arc.value c.surplus_of-value.result no_arc (omega (arith, c.loop-arc-test.true, ap (λ (arcs : List OuterArc). length arcs) c.arcs-arcs.ensures.arcs))
    c.loop-arc.invariant more
