use Rattle.std.proofs.Common.{◌≡◌, ◌-◌, ◌≤◌, length}
use Rattle.std.specs.Io.KnownBytes.{Keeps}
use Rattle.bound_io.specs.Devices.{IsUntouched, seen}
use Rattle.bound_io.specs.Lines.{stands_in}
use Rattle.bound_io.specs.Reading.{LosesPrefix}
use Rattle.bound_io.proofs.buffer.Buffer.hold.Given as goal

abbrev pub invariant-loop-self : goal.invariant-loop-self
invariant-loop-self g l = record {
  kept : Keeps (stands_in l.initial.self (g.S.Source.left l.initial.source)) (stands_in l.self (g.S.Source.left l.source));
  source : LosesPrefix (g.S.Source.left l.initial.source) (g.S.Source.left l.source);
  none_failed : g.S.Source.faults l.source ≡ g.S.Source.faults l.initial.source;
  untouched : l.count ≤ length l.initial.self → (l.self ≡ l.initial.self) × IsUntouched (seen g.S.Source.left g.S.Source.faults l.initial.source l.source);
}

abbrev pub decreases-loop-self : goal.decreases-loop-self
decreases-loop-self g l = 65536 - length l.self
