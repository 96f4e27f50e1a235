use Rattle.std.proofs.Common.{◌≡◌, ◌+◌, ◌-◌, length, None, IfSome}
use Rattle.bound_io.specs.Reading.{LosesPrefix}
use Rattle.trace_any.specs.FirstLines.{HasGiven}
use Rattle.trace_any.specs.Readers.{GoesOn, known}
use Rattle.trace_any.specs.Readings.{is_marked}
use Rattle.trace_any.proofs.Coming.{after_all}
use Rattle.trace_any.proofs.loading.load.Given as goal

abbrev pub invariant-loop-requests : goal.invariant-loop-requests
invariant-loop-requests g l = record {
  format : l.reader.format ≡ l.initial.reader.format;
  kept : l.requests.marks ≡ is_marked l.initial.reader.format;
  limits : l.reader.limits ≡ l.initial.reader.limits;
  fault : l.reader.fault ≡ l.initial.reader.fault;
  given : l.reader.given ≡ l.initial.reader.given + length l.requests.requests.objects;
  goes_on : l.initial.reader.fault ≡ None → IfSome (known l.initial.reader (g.S.Source.left l.initial.source)) (λ bytes. GoesOn (after_all l.requests.requests) l.initial.reader l.reader bytes (known l.reader (g.S.Source.left l.source)));
  given_all : l.initial.reader.fault ≡ None → IfSome (known l.initial.reader (g.S.Source.left l.initial.source)) (HasGiven l.requests.requests.objects l.requests.requests.fills l.initial.reader l.reader);
  unread : IfSome l.initial.reader.fault (λ _. (l.reader ≡ l.initial.reader) × (g.S.Source.left l.source ≡ g.S.Source.left l.initial.source) × (g.S.Source.faults l.source ≡ g.S.Source.faults l.initial.source));
  source : LosesPrefix (g.S.Source.left l.initial.source) (g.S.Source.left l.source);
  none_failed : g.S.Source.faults l.source ≡ g.S.Source.faults l.initial.source;
}

abbrev pub decreases-loop-requests : goal.decreases-loop-requests
decreases-loop-requests g l = l.reader.limits.requests - l.reader.given
