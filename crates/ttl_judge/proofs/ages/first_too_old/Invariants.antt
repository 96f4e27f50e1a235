use Rattle.std.proofs.Common.{◌≡◌, ◌&&◌, ℕ, ◌<◌, false, fold, max, nat_lt, take}
use Rattle.bit_list.specs.Bits.{bits_of}
use Rattle.judge_laws.specs.Flags.{is_flagged}
use Rattle.ttl_laws.proofs.Numbered.{AreOf}
use Rattle.ttl_judge.specs.Ages.{age_at, last_write}
use Rattle.ttl_judge.proofs.ages.first_too_old.Given as goal

abbrev pub invariant-loop-t : goal.invariant-loop-t
invariant-loop-t l = record {
  clock : l.clock ≡ fold max 0 (take l.t l.times);
  clocks : AreOf l.trace.objects (last_write l.trace.fills l.trace.objects l.times (bits_of l.flags) l.t) l.clocks.items;
  none : (k : ℕ) → k < l.t → (is_flagged (bits_of l.flags) k && nat_lt l.ttl (age_at l.trace.fills l.trace.objects l.times (bits_of l.flags) k)) ≡ false;
}
