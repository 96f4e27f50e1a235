use Rattle.std.proofs.Common.{◌≡◌, ◌≤◌, ◌*◌, ◌^◌, IsTrue, IfSome}
use Rattle.bit_list.specs.Bits.{bits_of}
use Rattle.cache_model.specs.Claim.{counts_past}
use Rattle.replay_core.specs.Laws.{IsTallied}
use Rattle.replay_fresh.specs.Latest.{AreLatest}
use Rattle.replay_fresh.proofs.KnownRuns.{IsRunTo}
use Rattle.replay_fresh.proofs.Writes.{IsPlayedTo}
use Rattle.replay_fresh.proofs.replaying.replay_fresh.Given as goal

abbrev pub invariant-loop-t : goal.invariant-loop-t
invariant-loop-t g l = record {
  capacity : g.P.Policy.room l.policy ≡ g.P.Policy.room l.fn.policy;
  objects : g.P.Policy.objects l.policy ≡ g.P.Policy.objects l.fn.policy;
  latest : IsTrue l.replace → AreLatest l.latest.entries l.trace.objects l.t;
  played : IsPlayedTo (g.P.Policy.room l.fn.policy) l.warmup l.trace.fills (bits_of l.stale) l.replace l.trace.objects (g.P.Policy.known_state l.fn.policy) l.t (g.P.Policy.contents l.policy) l.hits l.bytes l.written;
  run : IsRunTo (counts_past l.warmup l.trace.fills) (bits_of l.stale) l.replace l.trace.objects (g.P.Policy.known_state l.fn.policy) (g.P.Policy.known_state l.policy) l.t l.hits l.bytes;
  tallied : IfSome (g.P.Policy.tally l.fn.policy) (λ n. IsTallied n (g.P.Policy.tally l.policy) l.t l.warmup l.trace.fills l.hits);
  few_hits : l.hits ≤ l.t;
  few_bytes : l.bytes ≤ l.t * 2 ^ 48;
  few_written : l.written ≤ l.t * 2 ^ 48;
}
