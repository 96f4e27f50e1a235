use Rattle.std.proofs.Common.{◌≡◌, ◌∙◌, ap, arith, length, subst, sym, List}
use Rattle.cache_model.specs.declared.intervals.Interval.{Interval}
use Rattle.price_refine.specs.Parts.{bound_in}
use Rattle.price_refine.specs.Refinements.{Refinement}
use Rattle.price_refine.proofs.AllSettled.{AreAllSettled, all_settled_none, counted_line}
use Rattle.price_refine.proofs.SumsBeside.{beside_all}
use Rattle.price_refine.proofs.refining.settled_prices.Goals as goal

pub returns-then-steps-lt2-clause-settled : goal.returns-then-steps-lt2-clause-settled
returns-then-steps-lt2-clause-settled c =
    all_settled_none c.args.whole c.args.width c.args.intervals.now.items c.args.given.prices (omega (arith, c.if-steps-lt2.true, c.steps.ensures.steps, c.requires.each_step))

pub settle_all-requires-clause-ready : goal.settle_all-requires-clause-ready
settle_all-requires-clause-ready c =
    let line = c.args.intervals.now in
    let timeline = c.steps.ensures.timeline in
    let prices = c.given.inside.prices.items in
    let same : prices ≡ c.args.given.prices = ap (λ (r : Refinement). r.prices) c.given.view_is in
    let each : length prices ≡ line.steps = ap length same ∙ c.requires.each_step in
    rw c.as_slice-items.ensures.items
    (record {
      block = record {
        few_steps = omega (arith, each, timeline.few_steps);
        some_unit = c.requires.unit;
        some_units = c.requires.units.0;
        few_units = c.requires.units.1;
        denominator = c.requires.denominator;
        order = omega (arith, c.requires.first, c.requires.last, c.if-steps-lt2.false, c.steps.ensures.steps);
        within = omega (arith, each, c.requires.last, c.if-steps-lt2.false, c.steps.ensures.steps);
      };
      from_first = c.requires.first;
      to_last = omega (arith, each, c.requires.last, c.if-steps-lt2.false, c.steps.ensures.steps);
      some_width = c.requires.width;
      counted = rw each (counted_line line c.args.whole.unit timeline c.requires.unit c.requires.divides);
      in_order = timeline.order;
      small_bound = omega (arith, ap (bound_in c.args.whole line.items) same, c.requires.upper, c.requires.small);
      sums = beside_all c.args.whole.end c.args.whole.end prices c.in_ok-sums.sums.items (rw c.deref.ensures.value at c.in_ok-sums.ensures);
    })

pub settle_all-requires-clause-bound : goal.settle_all-requires-clause-bound
settle_all-requires-clause-bound c =
    let priced = ap (λ (r : Refinement). bound_in c.args.whole c.args.intervals.now.items r.prices) c.given.view_is in
    rw c.as_slice-items.ensures.items (ap (λ (r : Refinement). r.upper) c.given.view_is ∙ c.requires.upper ∙ sym priced)

pub returns-clause-settled : goal.returns-clause-settled
returns-clause-settled c =
    subst (λ (items : List Interval). AreAllSettled c.args.whole c.args.width items c.settle_all.new.pricing.prices.items) c.as_slice-items.ensures.items c.in_ok-upper.ensures.settled
