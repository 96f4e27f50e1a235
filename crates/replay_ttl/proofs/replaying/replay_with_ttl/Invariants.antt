use Rattle.std.proofs.Common.{◌≡◌, ◌≤◌, ◌*◌, ◌^◌, IsTrue, fold, length, max, take}
use Rattle.bit_list.specs.Bits.{bits_of}
use Rattle.cache_model.specs.Objects.{objects_of}
use Rattle.replay_fresh.specs.Latest.{AreLatest}
use Rattle.replay_ttl.specs.Played.{timed}
use Rattle.replay_ttl.proofs.KnownRuns.{IsRunTo}
use Rattle.replay_ttl.proofs.PlayedTo.{IsPlayedTo}
use Rattle.replay_ttl.proofs.replaying.replay_with_ttl.Given as goal

abbrev pub invariant-loop-t : goal.invariant-loop-t
invariant-loop-t g l = record {
  capacity : g.P.Policy.room l.policy ≡ g.P.Policy.room l.fn.policy;
  objects : g.P.Policy.objects l.policy ≡ g.P.Policy.objects l.fn.policy;
  latest : IsTrue l.settings.replace → AreLatest l.latest.entries l.trace.objects l.t;
  clock : l.clock ≡ fold max 0 (take l.t l.times);
  known : length l.clocks.items ≡ length (objects_of l.trace.objects);
  played : IsPlayedTo (g.P.Policy.room l.fn.policy) (timed l.trace.objects l.trace.fills l.times (bits_of l.stale) l.settings) (g.P.Policy.known_state l.fn.policy) l.t (g.P.Policy.contents l.policy) l.clocks.items l.counts.hits l.counts.bytes l.counts.written (bits_of l.flags);
  run : IsRunTo (timed l.trace.objects l.trace.fills l.times (bits_of l.stale) l.settings) (g.P.Policy.known_state l.fn.policy) (g.P.Policy.known_state l.policy) l.t l.clocks.items l.counts.hits l.counts.bytes;
  few_hits : l.counts.hits ≤ l.t;
  few_bytes : l.counts.bytes ≤ l.t * 2 ^ 48;
  few_written : l.counts.written ≤ l.t * 2 ^ 48;
}
