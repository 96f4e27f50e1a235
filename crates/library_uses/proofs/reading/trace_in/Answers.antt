use Rattle.std.proofs.Common.{ap, sym, refl, Some}
use Rattle.trace_any.specs.Readers.{IsWhole}
use Rattle.trace_any.proofs.Loads.{from_start}
use Rattle.trace_any.proofs.Stopping.{of_fault}
use Rattle.trace_any.specs.Readings.{webcache_form}
use Rattle.bound_io.specs.CalmSource.{bytes_left}
use Rattle.bound_io.specs.Devices.{device}
use Rattle.library_uses.specs.Uses.{IsRefused}
use Rattle.library_uses.proofs.ReadLemmas.{refused_text}
use Rattle.library_uses.proofs.reading.trace_in.Goals as goal

pub returns-in_err-trace-clause-refused : goal.returns-in_err-trace-clause-refused
returns-in_err-trace-clause-refused c =
    let new = rw (c.lasting.ensures, c.full.ensures) at c.in_ok-reader.ensures in
    let fault = c.in_err-trace.field-0.0 in
    of_fault c.from_residual-in_err-trace.result fault (IsRefused c.args.text.items) c.from_residual-in_err-trace.ensures.1
    (refused_text c.args.text.items c.in_ok-reader.reader (device (Some (bytes_left c.new-source.result)) (Some (bytes_left c.load.new.source)) 0 0) fault new (ap (λ bytes. Some bytes) c.new-source.ensures) refl (c.in_err-trace.ensures.refused (ap (λ r. r.fault) new)))

pub returns-clause-trace : goal.returns-clause-trace
returns-clause-trace c =
    let new = rw (c.lasting.ensures, c.full.ensures) at c.in_ok-reader.ensures in
    let read = from_start webcache_form c.in_ok-reader.reader (Some (bytes_left c.new-source.result)) (λ s. IsWhole s c.in_ok-trace.trace c.in_ok-trace._dropped) new (c.in_ok-trace.ensures.whole (ap (λ r. r.fault) new)) in
    let whole = rw c.new-source.ensures at read in
    record { none_refused = whole.stop; requests = sym whole.requests; marks = sym whole.marks }
