use Rattle.std.proofs.Common.{◌≡◌, [], IfSome}
use Rattle.bit_list.specs.Bits.{bits_of}
use Rattle.replay_core.specs.Laws.{IsTallied}
use Rattle.replay_core.proofs.KnownRuns.{IsRunTo}
use Rattle.replay_hits.specs.Hits.{flag_count}
use Rattle.replay_hits.proofs.Flagged.{AreHitsTo, none_counts}
use Rattle.replay_hits.proofs.recording.replay_hits.Given as goal

abbrev pub invariant-loop-t : goal.invariant-loop-t
invariant-loop-t g l = record {
  capacity : g.P.Policy.room l.policy ≡ g.P.Policy.room l.fn.policy;
  objects : g.P.Policy.objects l.policy ≡ g.P.Policy.objects l.fn.policy;
  run : IsRunTo (g.P.Policy.known_state l.fn.policy) (g.P.Policy.known_state l.policy) none_counts l.trace.objects l.t 0 0;
  tallied : IfSome (g.P.Policy.tally l.fn.policy) (λ n. IsTallied n (g.P.Policy.tally l.policy) l.t 0 [] (flag_count (bits_of l.flags)));
  hits : AreHitsTo (g.P.Policy.known_state l.fn.policy) (g.P.Policy.room l.fn.policy) l.trace.objects l.t (g.P.Policy.contents l.policy) (bits_of l.flags);
}
