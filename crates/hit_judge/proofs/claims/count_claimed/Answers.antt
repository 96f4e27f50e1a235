use Rattle.std.proofs.Common.{◌≡◌, ◌∙◌, ◌&&◌, ◌+◌, ap, sym, refl, length, arith, ℕ, Bool, cond, sum_by}
use Rattle.std.specs.List.{range_with_len}
use Rattle.bit_list.specs.Bits.{bits_of}
use Rattle.cache_model.specs.Claim.{counts_past, request_at}
use Rattle.judge_laws.specs.Flags.{is_flagged}
use Rattle.hit_judge.proofs.ClaimedSums.{claimed_more}
use Rattle.hit_judge.proofs.claims.count_claimed.Goals as goal
use Rattle.hit_judge.proofs.claims.count_claimed.Goals.{then-is_claimed, else-is_claimed}

pub loop-t-preserved : goal.loop-t-preserved
loop-t-preserved c =
    let p : ℕ → Bool = λ k. counts_past c.args.warmup c.args.trace.now.fills k && is_flagged (bits_of c.args.flags.now) k in
    let size : ℕ → ℕ = λ k. (request_at c.args.trace.now.objects k).size in
    elim c.if-is_claimed.branch [
      | then-is_claimed w ↦
          record {
            hits = claimed_more p (λ _. 1) c.loop-t.t c.loop-t.hits c.if-is_claimed.hits 1 c.is_claimed.result c.loop-t.invariant.hits c.is_claimed.ensures refl
                (w.hits-is ∙ ap (λ b. c.loop-t.hits + cond b 1 0) (sym w.if-is_claimed.true));
            few_hits = omega (arith, w.hits-is);
            bytes = claimed_more p size c.loop-t.t c.loop-t.bytes c.if-is_claimed.bytes w.requested_size.result c.is_claimed.result c.loop-t.invariant.bytes c.is_claimed.ensures w.requested_size.ensures.size
                (w.bytes-is ∙ ap (λ b. c.loop-t.bytes + cond b w.requested_size.result 0) (sym w.if-is_claimed.true));
            few_bytes = omega (arith, w.bytes-is, w.requested_size.ensures.most);
          }
      | else-is_claimed w ↦
          record {
            hits = claimed_more p (λ _. 1) c.loop-t.t c.loop-t.hits c.if-is_claimed.hits 1 c.is_claimed.result c.loop-t.invariant.hits c.is_claimed.ensures refl
                (omega (arith, w.hits-is, ap {B = ℕ} (λ b. cond b 1 0) w.if-is_claimed.false));
            few_hits = omega (arith, w.hits-is);
            bytes = claimed_more p size c.loop-t.t c.loop-t.bytes c.if-is_claimed.bytes (size c.loop-t.t) c.is_claimed.result c.loop-t.invariant.bytes c.is_claimed.ensures refl
                (omega (arith, w.bytes-is, ap (λ b. cond b (size c.loop-t.t) 0) w.if-is_claimed.false));
            few_bytes = omega (arith, w.bytes-is);
          }
    ]

pub returns-clause-bytes : goal.returns-clause-bytes
returns-clause-bytes c =
    let f : ℕ → ℕ = λ t. cond (counts_past c.args.warmup c.args.trace.now.fills t && is_flagged (bits_of c.args.flags.now) t) (request_at c.args.trace.now.objects t).size 0 in
    let end : c.loop-t.t ≡ length c.args.trace.now.objects = omega arith in
    λ capacity. c.loop-t.invariant.bytes ∙ ap (λ n. sum_by f (range_with_len 0 n)) end
