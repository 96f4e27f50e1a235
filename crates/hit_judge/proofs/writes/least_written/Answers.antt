use Rattle.std.proofs.Common.{◌≡◌, ◌∙◌, ◌+◌, ◌^◌, ◌≤◌, ℕ, Bool, not, ◌&&◌, ◌||◌, cond, nat_le, List, length, sym, refl, ap, arith, sum_by}
use Rattle.std.specs.List.{range_with_len}
use Rattle.bit_list.specs.Bits.{bits_of}
use Rattle.cache_model.specs.declared.objects.Object.{Object}
use Rattle.cache_model.specs.Claim.{is_kept, only_fills, request_at}
use Rattle.judge_laws.specs.Flags.{is_flagged}
use Rattle.judge_laws.proofs.Flagged.{flag_keeps}
use Rattle.write_laws.proofs.Kept.{own, least_written-kept}
use Rattle.hit_judge.proofs.ClaimedSums.{claimed_more}
use Rattle.hit_judge.proofs.NextFlagged.{kept-next_flagged}
use Rattle.hit_judge.proofs.writes.least_written.Goals as goal
use Rattle.hit_judge.proofs.writes.least_written.Goals.{then-must_write, else-must_write}

pub loop-t-preserved : goal.loop-t-preserved
loop-t-preserved c =
    let trace : List Object = c.args.trace.now.objects in
    let fills : List Bool = c.args.trace.now.fills in
    let flags : List Bool = bits_of c.args.flags.now in
    let t : ℕ = c.loop-t.t in
    let size : ℕ = (request_at trace t).size in
    let own_of : Bool → Bool = λ kept. nat_le c.args.warmup t && (kept && (only_fills fills t || not (is_flagged flags t))) in
    let sized : (c.if-must_write.written ≡ c.loop-t.written + cond c.must_write.result size 0) × (c.if-must_write.written ≤ c.loop-t.written + 2 ^ 48) =
    elim c.if-must_write.branch [
      | then-must_write w ↦ (
        omega (arith, w.written-is, w.requested_size.ensures.size, ap (λ b. cond b size 0) w.if-must_write.true),
        omega (arith, w.written-is, w.requested_size.ensures.most),
      )
      | else-must_write w ↦ (omega (arith, w.written-is, ap (λ b. cond b size 0) w.if-must_write.false), omega (arith, w.written-is))
    ] in
    record {
      written = λ capacity possible.
          claimed_more (λ k. nat_le c.args.warmup k && (is_kept (flag_keeps capacity trace flags) k && (only_fills fills k || not (is_flagged flags k)))) (λ k. (request_at trace k).size)
          t c.loop-t.written c.if-must_write.written size c.must_write.result (c.loop-t.invariant.written capacity possible)
          (c.must_write.ensures ∙ ap own_of (sym (kept-next_flagged capacity trace flags possible t (omega arith) c.next_is_flagged-next_flagged.result c.next_is_flagged-next_flagged.ensures)))
          refl sized.0;
      few = omega (arith, sized.1, c.loop-t.invariant.few);
    }

pub returns : goal.returns
returns c =
    let trace : List Object = c.args.trace.now.objects in
    let flags : List Bool = bits_of c.args.flags.now in
    let end : c.loop-t.t ≡ length trace = omega arith in
    λ capacity possible.
    c.loop-t.invariant.written capacity possible
    ∙ ap (λ n. sum_by (own capacity c.args.warmup c.args.trace.now.fills trace flags) (range_with_len 0 n)) end
    ∙ sym (least_written-kept capacity c.args.warmup c.args.trace.now.fills trace flags possible)
