use Rattle.std.proofs.Common.{◌≡◌, ◌+◌, ◌-◌, ◌≤◌, ◌<◌, length, drop}
use Rattle.std.specs.Io.KnownBytes.{Keeps}
use Rattle.bound_io.specs.Devices.{IsUntouched, seen as seen_of}
use Rattle.bound_io.specs.Lines.{stands_in, text_len}
use Rattle.bound_io.specs.Reading.{LosesPrefix}
use Rattle.bound_io.proofs.buffer.Buffer.find_text.Given as goal

abbrev pub invariant-loop-seen : goal.invariant-loop-seen
invariant-loop-seen g l = record {
  within : l.seen ≤ length l.self;
  seen : text_len l.self ≡ l.seen + text_len (drop l.seen l.self);
  kept : Keeps (stands_in l.initial.self (g.S.Source.left l.initial.source)) (stands_in l.self (g.S.Source.left l.source));
  source : LosesPrefix (g.S.Source.left l.initial.source) (g.S.Source.left l.source);
  none_failed : g.S.Source.faults l.source ≡ g.S.Source.faults l.initial.source;
  untouched : text_len l.initial.self < length l.initial.self → (l.self ≡ l.initial.self) × IsUntouched (seen_of g.S.Source.left g.S.Source.faults l.initial.source l.source);
}

abbrev pub decreases-loop-seen : goal.decreases-loop-seen
decreases-loop-seen g l = 65536 - length l.self
