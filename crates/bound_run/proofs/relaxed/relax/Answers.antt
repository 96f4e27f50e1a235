use Prim.Native.Nat.{◌∣◌}
use Rattle.std.proofs.Common.{◌≡◌, ℕ, ◌*◌, ◌≤◌, ◌<◌, ◌^◌, ◌∙◌, sym, subst, arith, false, replicate, length, sum, Result, Ok, Err, IfOk, All}
use Rattle.interval_maker.specs.Timelines.{IsTimeline, Timeline}
use Rattle.bound_terms.specs.declared.modes.Mode.TheVariants.{Constant, Infinite}
use Rattle.constant_price.specs.Constants.{IsLeastConstant, constant_bound, constant_prices}
use Rattle.constant_price.proofs.Bounds.{sum-constant_prices}
use Rattle.constant_price.proofs.Prices.{length-constant_prices, constant_prices-last}
use Rattle.relaxation.specs.Prices.{most_paid}
use Rattle.bound_run.specs.declared.relaxed.Relaxed.{Relaxed}
use Rattle.bound_run.specs.BoundsMade.{IsOfMode}
use Rattle.bound_run.specs.Relaxations.{IsRelaxed}
use Rattle.bound_run.proofs.Relaxing.{all_zero, full_flags-no_flows, no_flows, no_value}
use Rattle.bound_run.proofs.relaxed.relax.Goals as goal

-- the least constant, and no flow
of_constant : {E : Type 0} (line : Timeline) (unit units denominator price : ℕ) (r : Result Relaxed E) → IsLeastConstant line unit units denominator price → IfOk r (λ x. x.solution.prices ≡ constant_prices price line.steps)
    → IfOk r (λ x. x.solution.flows ≡ replicate (length line.items) 0) → IfOk r (λ x. x.price ≡ price) → IfOk r (λ x. IsOfMode Constant line unit units denominator x.solution.prices x.solution.flows x.price)
of_constant line unit units denominator price (Ok x) least priced none is =
    (rw is least, rw is priced, subst (λ fs. All (λ f. f ≡ 0) fs) (sym none) (all_zero (length line.items)))
of_constant line unit units denominator price (Err e) least priced none is = tt

-- neither price nor flow
of_infinite : {E : Type 0} (line : Timeline) (unit units denominator : ℕ) (r : Result Relaxed E) → IfOk r (λ x. x.solution.prices ≡ constant_prices 0 line.steps)
    → IfOk r (λ x. x.solution.flows ≡ replicate (length line.items) 0) → IfOk r (λ x. x.price ≡ 0) → IfOk r (λ x. IsOfMode Infinite line unit units denominator x.solution.prices x.solution.flows x.price)
of_infinite line unit units denominator (Ok x) priced none is = (is, priced, subst (λ fs. All (λ f. f ≡ 0) fs) (sym none) (all_zero (length line.items)))
of_infinite line unit units denominator (Err e) priced none is = tt

pub returns-in-Constant-clause-of_mode : goal.returns-in-Constant-clause-of_mode
returns-in-Constant-clause-of_mode c =
    rw (← c.asked.view_is, c.in-Constant.is)
    (of_constant c.args.intervals.now c.args.scale.unit c.args.scale.units c.args.scale.denominator c.least-price.result c.at_one_price.result c.least-price.ensures.least c.at_one_price.ensures.prices c.at_one_price.ensures.flows c.at_one_price.ensures.price)

pub returns-in-Infinite-clause-of_mode : goal.returns-in-Infinite-clause-of_mode
returns-in-Infinite-clause-of_mode c =
    rw (← c.asked.view_is, c.in-Infinite.is)
    (of_infinite c.args.intervals.now c.args.scale.unit c.args.scale.units c.args.scale.denominator c.at_one_price-in-Infinite.result c.at_one_price-in-Infinite.ensures.prices c.at_one_price-in-Infinite.ensures.flows c.at_one_price-in-Infinite.ensures.price)

-- one price and no flow, with what they are worth
of_one_price : {E : Type 0} (line : Timeline) (unit units denominator price : ℕ) (r : Result Relaxed E) → IsTimeline line → 1 ≤ unit → All (λ i. unit ∣ i.size) line.items → units * sum (constant_prices price line.steps) ≤ most_paid
    → IfOk r (λ x. x.solution.prices ≡ constant_prices price line.steps) → IfOk r (λ x. x.solution.flows ≡ replicate (length line.items) 0) → IfOk r (λ x. x.full.items ≡ replicate (length line.items) false)
    → IfOk r (λ x. x.upper ≡ constant_bound line unit units denominator price) → IfOk r (λ x. x.upper < 2 ^ 127) → IfOk r (λ x. x.flow ≡ 0) → IfOk r (IsRelaxed line unit units denominator)
of_one_price line unit units denominator price (Ok x) is_line positive divides paid priced none unset bounded small nothing = record {
  each = rw priced (length-constant_prices price line.steps);
  last = rw priced (constant_prices-last price line.steps);
  paid = rw priced paid;
  bound = rw priced bounded;
  small = small;
  schedule = rw none (no_flows unit units line.items);
  value = rw none (nothing ∙ sym (no_value unit denominator line.items));
  small_value = omega (arith, nothing);
  full = rw (none, unset) (sym (full_flags-no_flows line unit is_line positive divides));
}
of_one_price line unit units denominator price (Err e) is_line positive divides paid priced none unset bounded small nothing = tt

pub returns-in-Constant-clause-relaxed : goal.returns-in-Constant-clause-relaxed
returns-in-Constant-clause-relaxed c =
    let made = c.at_one_price.ensures in
    of_one_price c.args.intervals.now c.args.scale.unit c.args.scale.units c.args.scale.denominator c.least-price.result c.at_one_price.result c.requires.timeline c.args.scale.some_unit c.requires.divides (omega (arith, c.least-price.ensures.sum))
    made.prices made.flows made.full made.bound made.small made.value

pub returns-in-Infinite-clause-relaxed : goal.returns-in-Infinite-clause-relaxed
returns-in-Infinite-clause-relaxed c =
    let made = c.at_one_price-in-Infinite.ensures in
    of_one_price c.args.intervals.now c.args.scale.unit c.args.scale.units c.args.scale.denominator 0 c.at_one_price-in-Infinite.result c.requires.timeline c.args.scale.some_unit c.requires.divides (rw (sum-constant_prices 0 c.args.intervals.now.steps) (omega arith))
    made.prices made.flows made.full made.bound made.small made.value
