use Rattle.std.proofs.Common.{◌∙◌, ap, sym, cond, ◌+◌, None, arith}
use Rattle.stack_curve.specs.Distances.{stack_distance}
use Rattle.stack_curve.proofs.CountLemmas.{distance_of, marks-long, counted-none, counted-some, count-fits, no_distance}
use Rattle.stack_curve.proofs.pass.count_distance.Goals as goal

pub count-distance-requires-clause-within : goal.count-distance-requires-clause-within
count-distance-requires-clause-within c = omega (arith, marks-long c.args.trace.now.objects c.args.t c.args.marks.now (omega arith) c.requires.marked, c.requires.within)

pub bounds-counts-distance : goal.bounds-counts-distance
bounds-counts-distance c =
    omega (
      arith,
      (distance_of c.args.trace.now.objects c.args.t c.in-Some.last c.count-distance.result c.args.marks.now c.requires.within c.in-Some.ensures.nearest c.requires.marked c.count-distance.ensures).1,
      c.requires.counted.places,
    )

pub overflow_add-counts : goal.overflow_add-counts
overflow_add-counts c =
    omega (
      arith,
      count-fits c.args.trace.now.objects c.args.t c.requires.within c.args.trace.now.fills c.args.counts.now (c.count-distance.result + 1)
          (distance_of c.args.trace.now.objects c.args.t c.in-Some.last c.count-distance.result c.args.marks.now c.requires.within c.in-Some.ensures.nearest c.requires.marked c.count-distance.ensures).1
          c.requires.counted,
      c.requires.few,
      c.requires.within,
    )

pub bounds-counts-distance-in-Some : goal.bounds-counts-distance-in-Some
bounds-counts-distance-in-Some c =
    omega (
      arith,
      (distance_of c.args.trace.now.objects c.args.t c.in-Some.last c.count-distance.result c.args.marks.now c.requires.within c.in-Some.ensures.nearest c.requires.marked c.count-distance.ensures).1,
      c.requires.counted.places,
    )

pub returns-then-only_fills : goal.returns-then-only_fills
returns-then-only_fills c =
    record {
      counted = counted-none c.args.trace.now.objects c.args.t c.requires.within c.args.trace.now.fills c.args.counts.now
          (ap (λ b. cond b None (stack_distance c.args.trace.now.objects c.args.t)) (sym c.only_fills.ensures ∙ c.if-only_fills.true)) c.requires.counted;
    }

pub returns-in-Some : goal.returns-in-Some
returns-in-Some c =
    let known = distance_of c.args.trace.now.objects c.args.t c.in-Some.last c.count-distance.result c.args.marks.now c.requires.within c.in-Some.ensures.nearest c.requires.marked c.count-distance.ensures in
    record {
      counted = counted-some c.args.trace.now.objects c.args.t c.requires.within c.args.trace.now.fills c.args.counts.now (c.count-distance.result + 1) known.1
          (ap (λ b. cond b None (stack_distance c.args.trace.now.objects c.args.t)) (sym c.only_fills.ensures ∙ c.if-only_fills.false) ∙ known.0) c.requires.counted;
    }

pub returns-in_default : goal.returns-in_default
returns-in_default c =
    record {
      counted = counted-none c.args.trace.now.objects c.args.t c.requires.within c.args.trace.now.fills c.args.counts.now
          (ap (λ b. cond b None (stack_distance c.args.trace.now.objects c.args.t)) (sym c.only_fills.ensures ∙ c.if-only_fills.false)
          ∙ no_distance c.args.trace.now.objects c.args.t c.requires.within c.in_default.ensures.nearest) c.requires.counted;
    }
