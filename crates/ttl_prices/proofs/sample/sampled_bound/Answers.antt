use Rattle.std.proofs.Common.{◌<◌, ◌∙◌, ap, arith, length, slice_index_or}
use Rattle.constant_price.specs.Constants.{constant_prices}
use Rattle.ttl_prices.proofs.Paid.{sum-more}
use Rattle.ttl_prices.proofs.sample.sampled_bound.Goals as goal

pub loop-t-preserved : goal.loop-t-preserved
loop-t-preserved c =
    let within : c.loop-t.t < length c.args.timed.now.trace.now.objects = omega (arith, c.loop-t-test.true, c.len-steps.ensures.requests) in
    let price =
    c.step_price.ensures ∙ ap (λ n. slice_index_or (constant_prices c.args.price n) c.loop-t.t 0) c.len-steps.ensures.requests in
    record {
      latest = omega (arith, c.in_ok-walk_sampled.ensures.clock, c.step.ensures.clock);
      units = c.step.ensures.units ∙ c.walk_sampled.ensures.units ∙ c.loop-t.invariant.units;
      prices = omega (
        arith,
        c.step.ensures.prices,
        c.walk_sampled.ensures.prices,
        c.loop-t.invariant.prices,
        price,
        sum-more c.args.price (length c.args.timed.now.trace.now.objects) c.loop-t.t within,
      );
      gains = omega (arith, c.in_ok-walk_sampled.ensures.gains, c.step.ensures.gains, c.loop-t.invariant.gains);
    }
