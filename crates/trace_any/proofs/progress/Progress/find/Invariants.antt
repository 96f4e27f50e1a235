use Rattle.std.proofs.Common.{◌≡◌, ◌-◌, ◌≤◌, ◌<◌, None, IfSome}
use Rattle.bound_io.specs.Devices.{IsUntouched, seen}
use Rattle.bound_io.specs.Reading.{LosesPrefix}
use Rattle.trace_any.specs.FirstLines.{GoesNoFurther}
use Rattle.trace_any.specs.Readers.{GoesOn, known}
use Rattle.trace_any.proofs.progress.Progress.find.Given as goal

abbrev pub invariant-loop-self : goal.invariant-loop-self
invariant-loop-self g l = record {
  format : l.self.format ≡ l.initial.self.format;
  limits : l.self.limits ≡ l.initial.self.limits;
  given : l.self.given ≡ l.initial.self.given;
  noted : l.self.seen ≡ l.initial.self.seen;
  no_fault : l.self.lines.fault ≡ None;
  forgets_none : l.initial.self.dropped ≤ l.self.dropped;
  goes_on : IfSome (known l.initial.self (g.S.Source.left l.initial.source)) (λ bytes. GoesOn (λ r. r) l.initial.self l.self bytes (known l.self (g.S.Source.left l.source)));
  lines : IfSome (known l.initial.self (g.S.Source.left l.initial.source)) (GoesNoFurther (λ s. s) l.initial.self l.self);
  source : LosesPrefix (g.S.Source.left l.initial.source) (g.S.Source.left l.source);
  untouched : 0 < l.initial.self.ahead.count → (l.self ≡ l.initial.self) × IsUntouched (seen g.S.Source.left g.S.Source.faults l.initial.source l.source);
  none_failed : g.S.Source.faults l.source ≡ g.S.Source.faults l.initial.source;
}

abbrev pub decreases-loop-self : goal.decreases-loop-self
decreases-loop-self g l = l.self.limits.bytes - l.self.lines.consumed
