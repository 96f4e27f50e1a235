use Rattle.std.proofs.Common.{◌≡◌, ◌-◌, ◌≤◌, List, length, None, IfSome}
use Rattle.bound_io.specs.Reading.{LosesPrefix}
use Rattle.cache_rules.specs.Stored.{Requests}
use Rattle.sweep_bounds.specs.Sweep.{HasSeen}
use Rattle.trace_any.specs.FirstLines.{HasGiven}
use Rattle.trace_any.specs.Readers.{GoesOn, known}
use Rattle.trace_any.proofs.Coming.{after_all}
use Rattle.policy_sweep.specs.Running.{Setting}
use Rattle.policy_stream.specs.Streams.{HasBeenTold, HasBegun}
use Rattle.trace_sweep.specs.Online.{told_of}
use Rattle.trace_sweep.specs.Swept.{AreKnown, IsTally}
use Rattle.trace_sweep.proofs.Tallies.{IsAligned}
use Rattle.trace_sweep.proofs.sweeping.sweep_all.Given as goal

-- the stream has given these requests, which the sweep was told
abbrev pub invariant-loop-object : goal.invariant-loop-object
invariant-loop-object g l = record {
  trace : Requests;
  format : l.stream.format ≡ l.initial.stream.format;
  limits : l.stream.limits ≡ l.initial.stream.limits;
  fault : l.stream.fault ≡ None;
  given : l.stream.given ≡ length trace.objects;
  goes_on : IfSome (known l.initial.stream (g.S.Source.left l.initial.source)) (λ bytes. GoesOn (after_all trace) l.initial.stream l.stream bytes (known l.stream (g.S.Source.left l.source)));
  given_all : IfSome (known l.initial.stream (g.S.Source.left l.initial.source)) (HasGiven trace.objects trace.fills l.initial.stream l.stream);
  source : LosesPrefix (g.S.Source.left l.initial.source) (g.S.Source.left l.source);
  none_failed : g.S.Source.faults l.source ≡ g.S.Source.faults l.initial.source;
  seen : HasSeen trace.objects trace.fills l.bounds;
  warmup : l.bounds.warmup ≡ l.initial.bounds.warmup;
  delay : l.bounds.delay ≡ l.initial.bounds.delay;
  capacities : l.bounds.sums.capacities ≡ l.initial.bounds.sums.capacities;
  aligned : IsAligned l.initial.stream.format trace l.stream.seen.noted;
  tallied : IsTally l.initial.stream.format l.initial.bounds.warmup trace l.stream.seen.noted l.tally;
  counted : l.tally.counted ≤ length trace.objects;
  stale : l.tally.stale ≤ length trace.objects;
  told : (settings : List Setting) → HasBegun settings l.initial.policies → HasBeenTold (told_of l.initial.stream.format l.initial.bounds.warmup trace l.stream.seen.noted) settings l.policies;
  known : (settings : List Setting) → HasBegun settings l.initial.policies → AreKnown settings trace.objects;
}

abbrev pub decreases-loop-object : goal.decreases-loop-object
decreases-loop-object g l = l.stream.limits.requests - l.stream.given
