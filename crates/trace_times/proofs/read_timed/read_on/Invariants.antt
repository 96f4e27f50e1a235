use Rattle.std.proofs.Common.{◌≡◌, ◌+◌, ◌-◌, length, None, IfSome}
use Rattle.bound_io.specs.Reading.{LosesPrefix}
use Rattle.trace_any.specs.FirstLines.{HasGiven}
use Rattle.trace_any.specs.Readers.{GoesOn, known}
use Rattle.trace_any.specs.Readings.{is_marked}
use Rattle.trace_any.proofs.Coming.{after_all}
use Rattle.trace_times.proofs.read_timed.read_on.Given as goal

abbrev pub invariant-loop-times : goal.invariant-loop-times
invariant-loop-times g l = record {
  format : l.reader.format ≡ l.initial.reader.format;
  kept : l.requests.marks ≡ is_marked l.initial.reader.format;
  limits : l.reader.limits ≡ l.initial.reader.limits;
  fault : l.reader.fault ≡ None;
  given : l.reader.given ≡ length l.requests.requests.objects;
  times : l.times.items ≡ l.reader.seen.times;
  each : length l.times.items ≡ length l.requests.requests.objects;
  goes_on : IfSome (known l.initial.reader (g.S.Source.left l.initial.source)) (λ bytes. GoesOn (after_all l.requests.requests) l.initial.reader l.reader bytes (known l.reader (g.S.Source.left l.source)));
  given_all : IfSome (known l.initial.reader (g.S.Source.left l.initial.source)) (HasGiven l.requests.requests.objects l.requests.requests.fills l.initial.reader l.reader);
  source : LosesPrefix (g.S.Source.left l.initial.source) (g.S.Source.left l.source);
  none_failed : g.S.Source.faults l.source ≡ g.S.Source.faults l.initial.source;
}

abbrev pub decreases-loop-times : goal.decreases-loop-times
decreases-loop-times g l = l.reader.limits.requests - l.reader.given
