use Rattle.std.proofs.Common.{◌≡◌, ◌≤◌, ◌<◌, ℕ, nat_lt, false}
use Rattle.bit_list.specs.Bits.{bits_of}
use Rattle.cache_model.specs.Keeps.{latest_sum}
use Rattle.judge_laws.specs.Flags.{flagged_load}
use Rattle.hit_judge.proofs.FlaggedLoads.{flagged_from}
use Rattle.hit_judge.proofs.causes.first_at_step.Given as goal

abbrev pub invariant-loop-t : goal.invariant-loop-t
invariant-loop-t l = record {
  load : l.load ≡ latest_sum l.trace.objects (flagged_from l.capacity l.trace.objects (bits_of l.flags)) l.t;
  room : l.load ≤ l.capacity;
  fits : (k : ℕ) → k < l.t → nat_lt l.capacity (flagged_load l.capacity l.trace.objects (bits_of l.flags) k) ≡ false;
}
