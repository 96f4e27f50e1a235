use Rattle.std.proofs.Common.{◌≡◌, IsTrue}
use Rattle.bit_list.specs.Bits.{bits_of}
use Rattle.replay_fresh.specs.Latest.{AreLatest}
use Rattle.replay_fresh.proofs.KnownRuns.{IsRunTo}
use Rattle.replay_hits.proofs.FreshFlags.{AreHitsTo, none_counts}
use Rattle.replay_hits.proofs.freshly.fresh_hits.Given as goal

abbrev pub invariant-loop-t : goal.invariant-loop-t
invariant-loop-t g l = record {
  capacity : g.P.Policy.room l.policy ≡ g.P.Policy.room l.fn.policy;
  objects : g.P.Policy.objects l.policy ≡ g.P.Policy.objects l.fn.policy;
  latest : IsTrue l.replace → AreLatest l.latest.entries l.trace.objects l.t;
  run : IsRunTo (none_counts (g.P.Policy.room l.fn.policy) (bits_of l.stale) l.replace l.trace.objects) (bits_of l.stale) l.replace l.trace.objects (g.P.Policy.known_state l.fn.policy) (g.P.Policy.known_state l.policy) l.t 0 0;
  hits : AreHitsTo (g.P.Policy.room l.fn.policy) (bits_of l.stale) l.replace l.trace.objects (g.P.Policy.known_state l.fn.policy) l.t (g.P.Policy.contents l.policy) (bits_of l.flags);
}
