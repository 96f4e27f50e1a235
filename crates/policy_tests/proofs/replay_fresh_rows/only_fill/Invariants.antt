use Rattle.std.proofs.Common.{ℕ, ◌<◌}
use Rattle.std.specs.Prelude.{IsTrue}
use Rattle.bit_list.specs.Bits.{bits_of}
use Rattle.cache_model.specs.Claim.{only_fills}
use Rattle.replay_fresh.specs.Fresh.{is_stale}
use Rattle.policy_tests.proofs.replay_fresh_rows.only_fill.Given as goal

abbrev pub invariant-loop-t : goal.invariant-loop-t
invariant-loop-t l = (k : ℕ) → k < l.t → IsTrue (is_stale (bits_of l.stale) k) → IsTrue (only_fills l.trace.fills k)
