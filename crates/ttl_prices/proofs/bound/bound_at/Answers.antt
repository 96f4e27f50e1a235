use Rattle.std.proofs.Common.{◌≡◌, ◌<◌, ◌∙◌, ap, arith, length, refl, slice_index_or, subst, sym}
use Rattle.constant_price.specs.Constants.{constant_prices}
use Rattle.constant_price.proofs.Prices.{length-constant_prices}
use Rattle.freshness.specs.Stale.{clock}
use Rattle.ttl_sums.specs.Walked.{HasWalked, Priced}
use Rattle.ttl_sums.proofs.Next.{number-within}
use Rattle.ttl_prices.specs.Bounds.{priced}
use Rattle.ttl_prices.proofs.Paid.{clock-more}
use Rattle.ttl_prices.proofs.bound.bound_at.Goals as goal

pub loop-t-init : goal.loop-t-init
loop-t-init c = record {
  walked = c.new-worths.ensures.walked
      (priced c.args.terms c.args.scale.unit c.args.scale.denominator c.args.timed.now.trace.now c.args.timed.now.times.now
      (constant_prices c.args.price (length c.args.timed.now.trace.now.objects)) c.args.timed.now.ttl)
      refl (sym c.requires.units);
  clock = refl;
  latest = omega (arith, c.new-worths.ensures.clock);
  gains = omega (arith, c.new-worths.ensures.gains);
}

pub walk_request-requires-clause-number : goal.walk_request-requires-clause-number
walk_request-requires-clause-number c =
    number-within
    (priced c.args.terms c.args.scale.unit c.args.scale.denominator c.args.timed.now.trace.now c.args.timed.now.times.now
    (constant_prices c.args.price (length c.args.timed.now.trace.now.objects)) c.args.timed.now.ttl)
    c.loop-t.t c.request-number.result c.loop-t.t c.loop-t.worths (omega (arith, c.loop-t-test.true, c.len-steps.ensures.requests))
    c.request-number.ensures.number c.loop-t.invariant.walked

pub loop-t-preserved : goal.loop-t-preserved
loop-t-preserved c =
    let within : c.loop-t.t < length c.args.timed.now.times.now = omega (arith, c.loop-t-test.true, c.len-steps.ensures.requests, c.requires.times) in
    let p : Priced =
    priced c.args.terms c.args.scale.unit c.args.scale.denominator c.args.timed.now.trace.now c.args.timed.now.times.now
    (constant_prices c.args.price (length c.args.timed.now.trace.now.objects)) c.args.timed.now.ttl in
    let clocked : c.max-clock.result ≡ clock c.args.timed.now.times.now c.loop-t.t =
    omega (arith, c.max-clock.ensures, c.loop-t.invariant.clock, clock-more c.args.timed.now.times.now c.loop-t.t within) in
    record {
      walked = c.step.ensures.walked p c.loop-t.t
          (c.step_price.ensures ∙ ap (λ n. slice_index_or (constant_prices c.args.price n) c.loop-t.t 0) c.len-steps.ensures.requests)
          (c.in_ok-walk_request.ensures.walked c.args.timed.now.times.now
          (constant_prices c.args.price (length c.args.timed.now.trace.now.objects)) c.args.timed.now.ttl
          c.request-number.ensures.number clocked c.loop-t.invariant.walked);
      clock = clocked;
      latest = omega (arith, c.in_ok-walk_request.ensures.clock, c.step.ensures.clock);
      gains = omega (arith, c.in_ok-walk_request.ensures.gains, c.step.ensures.gains, c.loop-t.invariant.gains);
    }

pub returns-clause-bound : goal.returns-clause-bound
returns-clause-bound c =
    let p : Priced =
    priced c.args.terms c.args.scale.unit c.args.scale.denominator c.args.timed.now.trace.now c.args.timed.now.times.now
    (constant_prices c.args.price (length c.args.timed.now.trace.now.objects)) c.args.timed.now.ttl in
    let all : c.loop-t.t ≡ length c.args.timed.now.trace.now.objects =
    omega (arith, c.loop-t-test.false, c.loop-t.auto.t-end, c.len-steps.ensures.requests) in
    c.bound.ensures.bound p
    (omega (arith, length-constant_prices c.args.price (length c.args.timed.now.trace.now.objects)))
    (subst (λ n. HasWalked p n n c.loop-t.worths) all c.loop-t.invariant.walked)
