use Rattle.std.proofs.Common.{◌≡◌, ◌&&◌, ℕ, ◌<◌, false}
use Rattle.bit_list.specs.Bits.{bits_of}
use Rattle.judge_laws.specs.Flags.{is_flagged}
use Rattle.hit_judge.specs.Causes.{never_hits}
use Rattle.hit_judge.proofs.causes.first_at_request.Given as goal

abbrev pub invariant-loop-t : goal.invariant-loop-t
invariant-loop-t l = (k : ℕ) → k < l.t → (is_flagged (bits_of l.flags) k && never_hits l.capacity l.trace.objects (bits_of l.stale) k) ≡ false
