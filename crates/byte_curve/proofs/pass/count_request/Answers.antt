use Rattle.std.proofs.Common.{◌∙◌, sym, arith}
use Rattle.byte_curve.proofs.LatestBytes.{bytes-long}
use Rattle.byte_curve.proofs.FoundLemmas.{found-none, found-fits, hits-uncounted}
use Rattle.byte_curve.proofs.PassLemmas.{found-first, found-far, found-hit}
use Rattle.byte_curve.proofs.pass.count_request.Goals as goal

pub returns-then-not-counts : goal.returns-then-not-counts
returns-then-not-counts c =
    record {
      found = found-none c.args.trace.now.objects c.args.trace.now.fills c.args.warmup c.args.capacities.now c.args.t c.args.found.now
          (hits-uncounted c.args.trace.now.objects c.args.trace.now.fills c.args.warmup c.args.capacities.now c.args.t (sym c.counts.ensures ∙ c.if-not-counts.true)) c.requires.found;
    }

pub prev-requires : goal.prev-requires
prev-requires c = record { within = c.requires.within }

pub sum-distance-requires-clause-order : goal.sum-distance-requires-clause-order
sum-distance-requires-clause-order c = omega (arith, c.in-Some.ensures.nearest.before)

pub sum-distance-requires-clause-within : goal.sum-distance-requires-clause-within
sum-distance-requires-clause-within c = omega (arith, bytes-long c.args.trace.now.objects c.args.t c.args.latest.now (omega arith) c.requires.latest, c.requires.within)

pub first_at_least-place-requires : goal.first_at_least-place-requires
first_at_least-place-requires c = record { ascending = c.requires.ascending }

pub size_at-size-requires : goal.size_at-size-requires
size_at-size-requires c = record { within = c.requires.within }

pub plus-requires-clause-hits : goal.plus-requires-clause-hits
plus-requires-clause-hits c =
    (found-fits c.args.trace.now.objects c.args.trace.now.fills c.args.warmup c.args.capacities.now c.args.t c.args.found.now c.first_at_least-place.result c.from-bytes.result
    (omega (arith, c.requires.found.places, c.if-place-found.true)) (omega (arith, c.requires.few, c.requires.within)) (omega (arith, c.from-bytes.ensures, c.size_at-size.ensures.small)) c.requires.found).0

pub plus-requires-clause-bytes : goal.plus-requires-clause-bytes
plus-requires-clause-bytes c =
    (found-fits c.args.trace.now.objects c.args.trace.now.fills c.args.warmup c.args.capacities.now c.args.t c.args.found.now c.first_at_least-place.result c.from-bytes.result
    (omega (arith, c.requires.found.places, c.if-place-found.true)) (omega (arith, c.requires.few, c.requires.within)) (omega (arith, c.from-bytes.ensures, c.size_at-size.ensures.small)) c.requires.found).1

pub returns-then-place-found : goal.returns-then-place-found
returns-then-place-found c =
    record {
      found = found-hit c.args.trace.now.objects c.args.trace.now.fills c.args.warmup c.args.capacities.now c.args.t c.requires.within
          c.in-Some.last c.in-Some.ensures.nearest c.args.latest.now c.sum-distance.result c.requires.latest c.sum-distance.ensures c.requires.large
          c.args.found.now c.first_at_least-place.result c.from-bytes.result c.plus.result
          (omega (arith, c.requires.found.places, c.if-place-found.true)) (c.from-bytes.ensures ∙ c.size_at-size.ensures.size) (omega (arith, c.from-bytes.ensures, c.size_at-size.ensures.small))
          c.plus.ensures (sym c.counts.ensures ∙ c.if-not-counts.false) c.first_at_least-place.ensures.below c.first_at_least-place.ensures.above c.requires.found;
    }

pub returns-else-place-found : goal.returns-else-place-found
returns-else-place-found c =
    record {
      found = found-far c.args.trace.now.objects c.args.trace.now.fills c.args.warmup c.args.capacities.now c.args.t c.requires.within
          c.in-Some.last c.in-Some.ensures.nearest c.args.latest.now c.sum-distance.result c.requires.latest c.sum-distance.ensures c.requires.large
          c.args.found.now c.first_at_least-place.result (omega (arith, c.requires.found.places, c.if-place-found.false)) c.first_at_least-place.ensures.below c.requires.found;
    }

pub returns-in_default : goal.returns-in_default
returns-in_default c =
    record {
      found = found-first c.args.trace.now.objects c.args.trace.now.fills c.args.warmup c.args.capacities.now c.args.t c.requires.within c.args.found.now c.in_default.ensures.nearest c.requires.found;
    }
