use Rattle.std.proofs.Common.{◌≡◌, ◌+◌, ◌≤◌, ◌∙◌, sym, ap, length, None}
use Rattle.std.proofs.lemmas.Result.{err_from_is_err_and}
use Rattle.bound_io.specs.Lines.{first_text}
use Rattle.bound_io.specs.Devices.{device}
use Rattle.cert_format.specs.Grammar.{line_fault}
use Rattle.budget_format.specs.Grammar.{record_in, record_slots}
use Rattle.cert_format.specs.Lines.{of_line, text_given}
use Rattle.budget_format.proofs.RecordLines.{in_range_of_line, record_short}
use Rattle.cert_format.proofs.Taken.{Gave, stop_line, read_line, reads_as, read_of_line}
use Rattle.budget_format.proofs.lines.read_record.Goals as goal

pub returns-in_err-text-clause-read : goal.returns-in_err-text-clause-read
returns-in_err-text-clause-read g c =
    let f = c.next_whole_line.ensures in
    let gave : Gave c.args.lines.now c.next_whole_line.follows.lender-at-none (device (g.S.Source.left c.args.source.now) (g.S.Source.left c.next_whole_line.new.source) (g.S.Source.faults c.args.source.now) (g.S.Source.faults c.next_whole_line.new.source)) c.next_whole_line.result
    = record { line = f.line; refused = f.refused c.requires.no_fault; next = c.next_whole_line.follows.holds-at-none.0; short = f.short; held = c.next_whole_line.follows.holds-at-none.1; reads = f.reads } in
    let given = ap (λ n. text_given (n + 1) c.next_whole_line.result) (sym c.line-line.ensures) in
    let p = err_from_is_err_and c.from_residual.result c.from_residual.ensures.1 in
    rw (p.1, p.2) (stop_line (record_slots c.args.before) (λ bytes. (record_in c.args.before) (first_text bytes)) _ _ _ c.requires.limit c.requires.few f.reads.source f.reads.later c.next_whole_line.result c.in_err-text.field-0.0 gave (given ∙ c.in_err-text.ensures))

pub returns-clause-read : goal.returns-clause-read
returns-clause-read g c =
    let f = c.next_whole_line.ensures in
    let gave : Gave c.args.lines.now c.next_whole_line.follows.lender-at-none (device (g.S.Source.left c.args.source.now) (g.S.Source.left c.next_whole_line.new.source) (g.S.Source.faults c.args.source.now) (g.S.Source.faults c.next_whole_line.new.source)) c.next_whole_line.result
    = record { line = f.line; refused = f.refused c.requires.no_fault; next = c.next_whole_line.follows.holds-at-none.0; short = f.short; held = c.next_whole_line.follows.holds-at-none.1; reads = f.reads } in
    let given = ap (λ n. text_given (n + 1) c.next_whole_line.result) (sym c.line-line.ensures) in
    let line = c.line-line.ensures in
    let text = c.in_ok-text.text.now in
    let short : line_fault (record_slots c.args.before text) text ≡ None → length text ≤ 63 = λ fits. record_short c.args.before text c.requires.price fits in
    reads_as _ _ _ _ _ _ _ _ (read_of_line c.line-line.result c.args.lines.now.line c.in_line.result c.record_after.result (line_fault (record_slots c.args.before text) text) ((record_in c.args.before) text) c.in_line.ensures c.record_after.ensures line)
    (read_line (record_slots c.args.before) (record_in c.args.before) _ _ _ text short f.reads.source f.reads.later c.next_whole_line.result gave (given ∙ c.in_ok-text.ensures))

pub returns-clause-range : goal.returns-clause-range
returns-clause-range g c = in_range_of_line c.args.before (c.line-line.result + 1) c.in_ok-text.text.now c.in_line.result c.requires.price (c.in_line.ensures ∙ ap (of_line (c.line-line.result + 1)) c.record_after.ensures)
