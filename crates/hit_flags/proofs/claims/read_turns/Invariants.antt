use Rattle.std.proofs.Common.{◌≡◌, ◌-◌, ◌≤◌, ◌^◌, length, None, IfSome}
use Rattle.bit_list.specs.Bits.{bits_of}
use Rattle.bound_io.specs.Lines.{stands_in}
use Rattle.bound_io.specs.Reading.{LosesPrefix}
use Rattle.trace_any.specs.FirstLines.{HasGiven}
use Rattle.trace_any.specs.Readers.{GoesOn, known as trace_known}
use Rattle.trace_any.specs.Readings.{full_limits, is_marked}
use Rattle.trace_any.proofs.Coming.{after_all}
use Rattle.hit_flags.specs.Lines.{IsGoing, known, nothing_read}
use Rattle.hit_flags.specs.Nearness.{StandsPast}
use Rattle.hit_flags.proofs.Ends.{HasFlags}
use Rattle.hit_flags.proofs.claims.read_turns.Given as goal

abbrev pub invariant-loop-flags : goal.invariant-loop-flags
invariant-loop-flags g l = record {
  format : l.reader.format ≡ l.initial.reader.format;
  kept : l.requests.marks ≡ is_marked l.initial.reader.format;
  limits : l.reader.limits ≡ full_limits;
  fault : l.reader.fault ≡ None;
  given : l.reader.given ≡ length l.requests.requests.objects;
  few : length l.requests.requests.objects ≤ 2 ^ 25;
  goes_on : IfSome (trace_known l.initial.reader (g.T.Source.left l.initial.trace)) (λ bytes. GoesOn (after_all l.requests.requests) l.initial.reader l.reader bytes (trace_known l.reader (g.T.Source.left l.trace)));
  given_all : IfSome (trace_known l.initial.reader (g.T.Source.left l.initial.trace)) (HasGiven l.requests.requests.objects l.requests.requests.fills l.initial.reader l.reader);
  flags_past : IfSome (g.H.Source.left l.initial.hits) (λ text. StandsPast nothing_read l.lines text (known l.lines (g.H.Source.left l.hits)));
  flags_held : length l.lines.held ≤ 65536;
  going : IsGoing l.lines;
  line : l.lines.line ≡ length l.requests.requests.objects;
  as_many : length (bits_of l.flags) ≡ length l.requests.requests.objects;
  flagged : IfSome (g.H.Source.left l.initial.hits) (λ text. HasFlags (bits_of l.flags) l.lines text (stands_in l.lines.held (g.H.Source.left l.hits)));
  trace_source : LosesPrefix (g.T.Source.left l.initial.trace) (g.T.Source.left l.trace);
  hits_source : LosesPrefix (g.H.Source.left l.initial.hits) (g.H.Source.left l.hits);
  trace_faults : g.T.Source.faults l.trace ≡ g.T.Source.faults l.initial.trace;
  hits_faults : g.H.Source.faults l.hits ≡ g.H.Source.faults l.initial.hits;
}

abbrev pub decreases-loop-flags : goal.decreases-loop-flags
decreases-loop-flags g l = l.reader.limits.requests - l.reader.given
