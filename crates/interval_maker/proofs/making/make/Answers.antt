use Rattle.std.proofs.Common.{◌≡◌, ◌∙◌, ap, length, replicate, arith}
use Rattle.cache_model.specs.Claim.{terms_from}
use Rattle.interval_maker.specs.Stored.{no_number}
use Rattle.interval_maker.proofs.Made.{made_none, made_step, made_rest, made_fit, made_stored, made_is}
use Rattle.interval_maker.proofs.making.make.Goals as goal
use Rattle.interval_maker.proofs.making.make.Goals.{in-Some+in_ok-push-in-Some, in-None}

pub loop-t-init : goal.loop-t-init
loop-t-init c =
    let steps = ap (λ n. replicate n no_number) c.len-steps.ensures.requests in
    let starting : c.in_ok-starting.starting.items ≡ replicate (length c.args.trace.now.objects) no_number = c.in_ok-starting.ensures ∙ steps in
    let ending : c.in_ok-ending.ending.items ≡ replicate (length c.args.trace.now.objects) no_number = c.in_ok-ending.ensures ∙ steps in
    rw (c.in_ok-items.ensures.items, starting, ending) (made_none (terms_from c.args.objective c.args.capacity c.args.warmup c.args.trace.now.fills) c.args.trace.now.objects)

pub loop-t-preserved : goal.loop-t-preserved
loop-t-preserved c =
    elim c.match-interval_from.branch [
      | in-Some+in_ok-push-in-Some w ↦
          made_step (terms_from c.args.objective c.args.capacity c.args.warmup c.args.trace.now.fills) c.args.trace.now.objects c.loop-t.t w.in-Some.interval c.loop-t.items.items c.loop-t.starting.items c.loop-t.ending.items _ _ _ _ _
          c.loop-t.invariant (omega arith) (omega arith) w.in-Some.ensures.0 w.in-Some.ensures.1 (omega arith) (omega arith)
          (ap (λ v. v.items) w.items-is ∙ w.in_ok-push-in-Some.ensures.items) (ap (λ v. v.items) w.starting-is) (ap (λ v. v.items) w.ending-is)
      | in-None w ↦
          made_rest (terms_from c.args.objective c.args.capacity c.args.warmup c.args.trace.now.fills) c.args.trace.now.objects c.loop-t.t c.loop-t.items.items c.loop-t.starting.items c.loop-t.ending.items _ _ _
          c.loop-t.invariant w.in-None.ensures (ap (λ v. v.items) w.items-is) (ap (λ v. v.items) w.starting-is) (ap (λ v. v.items) w.ending-is)
    ]

pub invariant_of-result : goal.invariant_of-result
invariant_of-result c =
    made_stored (terms_from c.args.objective c.args.capacity c.args.warmup c.args.trace.now.fills) c.args.trace.now.objects c.loop-t.t c.loop-t.items.items c.loop-t.starting.items c.loop-t.ending.items (omega arith) (omega arith) c.loop-t.invariant

pub returns-clause-timeline : goal.returns-clause-timeline
returns-clause-timeline c =
    (made_stored (terms_from c.args.objective c.args.capacity c.args.warmup c.args.trace.now.fills) c.args.trace.now.objects c.loop-t.t c.loop-t.items.items c.loop-t.starting.items c.loop-t.ending.items (omega arith) (omega arith) c.loop-t.invariant).timeline

pub returns-clause-intervals : goal.returns-clause-intervals
returns-clause-intervals c =
    made_is (terms_from c.args.objective c.args.capacity c.args.warmup c.args.trace.now.fills) c.args.trace.now.objects c.loop-t.t c.loop-t.items.items c.loop-t.starting.items c.loop-t.ending.items (omega arith) c.loop-t.invariant

pub returns-clause-fit : goal.returns-clause-fit
returns-clause-fit c = made_fit (terms_from c.args.objective c.args.capacity c.args.warmup c.args.trace.now.fills) c.args.trace.now.objects c.loop-t.t c.loop-t.items.items c.loop-t.starting.items c.loop-t.ending.items c.loop-t.invariant
