use Rattle.std.proofs.Common.{◌≡◌, ◌∙◌, ◌+◌, ◌^◌, ◌≤◌, ℕ, Bool, cond, List, length, sym, ap, arith, sum_by}
use Rattle.std.specs.List.{range_with_len}
use Rattle.cache_model.specs.declared.objects.Object.{Object}
use Rattle.cache_model.specs.Claim.{request_at}
use Rattle.cache_model.proofs.Written.{written_at, written-more, written-requests}
use Rattle.cache_rules.proofs.writing.written_bytes.Goals as goal
use Rattle.cache_rules.proofs.writing.written_bytes.Goals.{then-writes, else-writes}

pub loop-t-preserved : goal.loop-t-preserved
loop-t-preserved c =
    let trace : List Object = c.args.trace.now.objects in
    let t : ℕ = c.loop-t.t in
    let own : Bool → ℕ = λ b. cond b (request_at trace t).size 0 in
    let sized : (c.if-writes.written ≡ c.loop-t.written + written_at c.args.warmup c.args.trace.now.fills trace c.args.keeps.now t) × (c.if-writes.written ≤ c.loop-t.written + 2 ^ 48) =
    elim c.if-writes.branch [
      | then-writes w ↦ (
        omega (arith, w.written-is, ap (λ (x : Object). x.size) w.requested.ensures.object, ap own (sym c.writes.ensures ∙ w.if-writes.true)),
        omega (arith, w.written-is, w.requested.ensures.size.1),
      )
      | else-writes w ↦ (omega (arith, w.written-is, ap own (sym c.writes.ensures ∙ w.if-writes.false)), omega (arith, w.written-is))
    ] in
    record {
      written = omega (arith, sized.0, c.loop-t.invariant.written, written-more c.args.warmup c.args.trace.now.fills trace c.args.keeps.now t);
      few = omega (arith, sized.1, c.loop-t.invariant.few);
    }

pub returns : goal.returns
returns c =
    let end : c.loop-t.t ≡ length c.args.trace.now.objects = omega arith in
    c.loop-t.invariant.written
    ∙ ap (λ n. sum_by (written_at c.args.warmup c.args.trace.now.fills c.args.trace.now.objects c.args.keeps.now) (range_with_len 0 n)) end
    ∙ sym (written-requests c.args.warmup c.args.trace.now.fills c.args.trace.now.objects c.args.keeps.now)
