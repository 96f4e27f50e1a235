use Rattle.std.proofs.Common.{◌≡◌, ◌≤◌, ◌*◌, ◌^◌, ◌&&◌, cond, sum_by}
use Rattle.std.specs.List.{range_with_len}
use Rattle.bit_list.specs.Bits.{bits_of}
use Rattle.cache_model.specs.Claim.{counts_past, request_at}
use Rattle.judge_laws.specs.Flags.{is_flagged}
use Rattle.hit_judge.proofs.claims.count_claimed.Given as goal

abbrev pub invariant-loop-t : goal.invariant-loop-t
invariant-loop-t l = record {
  hits : l.hits ≡ sum_by (λ t. cond (counts_past l.warmup l.trace.fills t && is_flagged (bits_of l.flags) t) 1 0) (range_with_len 0 l.t);
  few_hits : l.hits ≤ l.t;
  bytes : l.bytes ≡ sum_by (λ t. cond (counts_past l.warmup l.trace.fills t && is_flagged (bits_of l.flags) t) (request_at l.trace.objects t).size 0) (range_with_len 0 l.t);
  few_bytes : l.bytes ≤ l.t * 2 ^ 48;
}
