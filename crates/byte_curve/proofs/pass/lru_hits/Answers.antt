use Rattle.std.proofs.Common.{◌≡◌, ◌∙◌, ap, subst, sym, length, drop, arith}
use Rattle.std.proofs.lemmas.List.{take_at}
use Rattle.byte_curve.specs.Counts.{AreFound}
use Rattle.byte_curve.specs.Curves.{AreHits}
use Rattle.byte_curve.proofs.FoundLemmas.{are-hits}
use Rattle.byte_curve.proofs.pass.lru_hits.Goals as goal

pub sum_up-requires : goal.sum_up-requires
sum_up-requires c =
    record {
      hits = rw (c.deref_mut-2.ensures.value) (omega (arith, c.loop-t.invariant.found.few_hits, c.len.ensures.requests, c.len.ensures.most));
      bytes = rw (c.deref_mut-2.ensures.value) (omega (arith, c.loop-t.invariant.found.few_bytes, c.len.ensures.requests, c.len.ensures.most));
    }

pub returns : goal.returns
returns c =
    let end : c.loop-t.t ≡ length c.args.trace.now.objects = omega arith in
    let long : length c.sum_up.new.found ≡ length c.deref_mut-2.result.now = c.sum_up.auto.found in
    subst (AreHits c.args.trace.now.objects c.args.trace.now.fills c.args.warmup c.args.capacities.now)
    (sym (take_at c.sum_up.new.found (drop (length c.sum_up.new.found) c.loop-t.found.items) c.loop-t.found.len (omega (arith, long, c.deref_mut-2.ensures.len))))
    (are-hits c.args.trace.now.objects c.args.trace.now.fills c.args.warmup c.args.capacities.now c.loop-t.found.items c.sum_up.new.found
    (subst (λ n. AreFound c.args.trace.now.objects c.args.trace.now.fills c.args.warmup c.args.capacities.now n c.loop-t.found.items) end c.loop-t.invariant.found)
    (long ∙ ap length c.deref_mut-2.ensures.value)
    (rw (c.deref_mut-2.ensures.value) at c.sum_up.ensures.hits)
    (rw (c.deref_mut-2.ensures.value) at c.sum_up.ensures.bytes))
