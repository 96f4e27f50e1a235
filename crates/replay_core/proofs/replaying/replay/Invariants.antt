use Rattle.std.proofs.Common.{◌≡◌, ◌≤◌, ◌*◌, ◌^◌, IfSome}
use Rattle.cache_model.specs.Claim.{counts_past}
use Rattle.replay_core.specs.Laws.{IsTallied}
use Rattle.replay_core.proofs.KnownRuns.{IsRunTo}
use Rattle.replay_core.proofs.Writes.{IsPlayedTo}
use Rattle.replay_core.proofs.replaying.replay.Given as goal

abbrev pub invariant-loop-t : goal.invariant-loop-t
invariant-loop-t g l = record {
  capacity : g.P.Policy.room l.policy ≡ g.P.Policy.room l.fn.policy;
  objects : g.P.Policy.objects l.policy ≡ g.P.Policy.objects l.fn.policy;
  played : IsPlayedTo (g.P.Policy.known_state l.fn.policy) (g.P.Policy.room l.fn.policy) l.warmup l.trace.fills l.trace.objects l.t (g.P.Policy.contents l.policy) l.hits l.bytes l.written;
  run : IsRunTo (g.P.Policy.known_state l.fn.policy) (g.P.Policy.known_state l.policy) (counts_past l.warmup l.trace.fills) l.trace.objects l.t l.hits l.bytes;
  tallied : IfSome (g.P.Policy.tally l.fn.policy) (λ n. IsTallied n (g.P.Policy.tally l.policy) l.t l.warmup l.trace.fills l.hits);
  few_hits : l.hits ≤ l.t;
  few_bytes : l.bytes ≤ l.t * 2 ^ 48;
  few_written : l.written ≤ l.t * 2 ^ 48;
}
