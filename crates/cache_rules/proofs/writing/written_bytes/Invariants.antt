use Rattle.std.proofs.Common.{◌≡◌, ◌*◌, ◌^◌, ◌≤◌, sum_by}
use Rattle.std.specs.List.{range_with_len}
use Rattle.cache_model.proofs.Written.{written_at}
use Rattle.cache_rules.proofs.writing.written_bytes.Given as goal

abbrev pub invariant-loop-t : goal.invariant-loop-t
invariant-loop-t l = record {
  written : l.written ≡ sum_by (written_at l.warmup l.trace.fills l.trace.objects l.keeps) (range_with_len 0 l.t);
  few : l.written ≤ l.t * 2 ^ 48;
}
