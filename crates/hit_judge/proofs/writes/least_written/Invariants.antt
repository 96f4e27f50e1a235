use Rattle.std.proofs.Common.{◌≡◌, ◌*◌, ◌^◌, ◌≤◌, ℕ, sum_by}
use Rattle.std.specs.List.{range_with_len}
use Rattle.bit_list.specs.Bits.{bits_of}
use Rattle.judge_laws.specs.Flags.{IsPossible}
use Rattle.write_laws.proofs.Kept.{own}
use Rattle.hit_judge.proofs.writes.least_written.Given as goal

abbrev pub invariant-loop-t : goal.invariant-loop-t
invariant-loop-t l = record {
  written : (capacity : ℕ) → IsPossible capacity l.trace.objects (bits_of l.flags)
      → l.written ≡ sum_by (own capacity l.warmup l.trace.fills l.trace.objects (bits_of l.flags)) (range_with_len 0 l.t);
  few : l.written ≤ l.t * 2 ^ 48;
}
