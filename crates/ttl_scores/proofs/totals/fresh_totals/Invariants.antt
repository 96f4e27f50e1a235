use Rattle.std.proofs.Common.{◌≡◌, ◌*◌, ◌^◌, ◌≤◌, max, fold, take, sum_by}
use Rattle.std.specs.List.{range_with_len}
use Rattle.cache_model.specs.Claim.{marked}
use Rattle.ttl_scores.proofs.Known.{HasClocks, earned_at, written_past}
use Rattle.ttl_scores.proofs.totals.fresh_totals.Given as goal

abbrev pub invariant-loop-t : goal.invariant-loop-t
invariant-loop-t l = record {
  clock : l.clock ≡ fold max 0 (take l.t l.times);
  clocks : HasClocks l.trace.fills l.trace.objects l.times l.ttl l.keeps l.t l.clocks.items;
  score : l.score ≡ sum_by (earned_at (marked l.terms l.trace.fills) l.trace.objects l.times l.ttl l.keeps) (range_with_len 0 l.t);
  few_score : l.score ≤ l.t * 2 ^ 48;
  written : l.written ≡ sum_by (written_past l.terms.warmup l.trace.fills l.trace.objects l.times l.ttl l.keeps) (range_with_len 0 l.t);
  few_written : l.written ≤ l.t * 2 ^ 48;
}
