use Rattle.std.proofs.Common.{◌≡◌, ◌*◌, ◌^◌, ◌≤◌, length, fold, max, take}
use Rattle.constant_price.specs.Constants.{constant_prices}
use Rattle.ttl_sums.specs.Walked.{HasWalked}
use Rattle.ttl_prices.specs.Bounds.{priced}
use Rattle.ttl_prices.proofs.bound.bound_at.Given as goal

-- the requests so far were walked, and each gained at most 2^96
abbrev pub invariant-loop-t : goal.invariant-loop-t
invariant-loop-t l = record {
  walked : HasWalked
      (priced l.terms l.scale.unit l.scale.denominator l.trace l.timed.times.now (constant_prices l.price (length l.trace.objects)) l.timed.ttl)
      l.t l.t l.worths;
  clock : l.clock ≡ fold max 0 (take l.t l.timed.times.now);
  latest : l.worths.clock ≤ l.clock;
  gains : l.worths.gains ≤ l.t * 2 ^ 96;
}
