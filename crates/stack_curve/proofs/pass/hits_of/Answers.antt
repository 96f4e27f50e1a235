use Rattle.std.proofs.Common.{◌≡◌, ◌∙◌, ap, subst, sym, length, drop, arith}
use Rattle.std.proofs.lemmas.List.{take_at}
use Rattle.stack_curve.specs.Counts.{AreCounts, AreHits}
use Rattle.stack_curve.proofs.CurveLemmas.{counts-few, are-hits}
use Rattle.stack_curve.proofs.pass.hits_of.Goals as goal

pub sum_up-requires : goal.sum_up-requires
sum_up-requires c =
    let end : c.loop-t.t ≡ length c.args.trace.now.objects = omega arith in
    record { small = rw (c.deref_mut-2.ensures.value) (counts-few c.args.trace.now.objects c.args.trace.now.fills c.loop-t.counts.items (omega (arith, c.len.ensures.requests, c.len.ensures.most)) (subst (λ n. AreCounts c.args.trace.now.objects c.args.trace.now.fills n c.loop-t.counts.items) end c.loop-t.invariant.counted)) }

pub returns : goal.returns
returns c =
    let end : c.loop-t.t ≡ length c.args.trace.now.objects = omega arith in
    let long : length c.sum_up.new.counts ≡ length c.deref_mut-2.result.now = c.sum_up.auto.counts in
    subst (AreHits c.args.trace.now.objects c.args.trace.now.fills)
    (sym (take_at c.sum_up.new.counts (drop (length c.sum_up.new.counts) c.loop-t.counts.items) c.loop-t.counts.len (omega (arith, long, c.deref_mut-2.ensures.len))))
    (are-hits c.args.trace.now.objects c.args.trace.now.fills c.loop-t.counts.items c.sum_up.new.counts (subst (λ n. AreCounts c.args.trace.now.objects c.args.trace.now.fills n c.loop-t.counts.items) end c.loop-t.invariant.counted)
    (long ∙ ap length c.deref_mut-2.ensures.value)
    (rw (c.deref_mut-2.ensures.value) at c.sum_up.ensures))
