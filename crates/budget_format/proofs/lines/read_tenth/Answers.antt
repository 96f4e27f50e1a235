use Rattle.std.proofs.Common.{◌+◌, ◌∙◌, sym, ap, subst}
use Rattle.std.proofs.lemmas.Result.{err_from_is_err_and}
use Rattle.bound_io.specs.Devices.{device}
use Rattle.cert_format.specs.Grammar.{line_fault}
use Rattle.cert_format.specs.Lines.{of_line, text_given}
use Rattle.cert_format.proofs.Taken.{Gave, read_of_line}
use Rattle.budget_format.specs.Grammar.{tenth_in, tenth_slots}
use Rattle.budget_format.specs.Parts.{ReadsWide, first_tenth, tenth_fault}
use Rattle.budget_format.proofs.Wide.{wide_line, wide_stop}
use Rattle.budget_format.proofs.BudgetLines.{tenth_of_line, tenth_short}
use Rattle.budget_format.proofs.lines.read_tenth.Goals as goal

pub returns-in_err-text-clause-read : goal.returns-in_err-text-clause-read
returns-in_err-text-clause-read g c =
    let f = c.next_whole_line.ensures in
    let gave : Gave c.args.lines.now c.next_whole_line.follows.lender-at-none (device (g.S.Source.left c.args.source.now) (g.S.Source.left c.next_whole_line.new.source) (g.S.Source.faults c.args.source.now) (g.S.Source.faults c.next_whole_line.new.source)) c.next_whole_line.result
    = record { line = f.line; refused = f.refused c.requires.no_fault; next = c.next_whole_line.follows.holds-at-none.0; short = f.short; held = c.next_whole_line.follows.holds-at-none.1; reads = f.reads } in
    let given = ap (λ n. text_given (n + 1) c.next_whole_line.result) (sym c.line-line.ensures) in
    let p = err_from_is_err_and c.from_residual.result c.from_residual.ensures.1 in
    rw (p.1, p.2) (wide_stop tenth_slots tenth_in _ _ _ _ _ _ f.reads.source f.reads.later c.requires.limit c.requires.few c.next_whole_line.result c.in_err-text.field-0.0 gave (given ∙ c.in_err-text.ensures))

pub returns-clause-read : goal.returns-clause-read
returns-clause-read g c =
    let f = c.next_whole_line.ensures in
    let gave : Gave c.args.lines.now c.next_whole_line.follows.lender-at-none (device (g.S.Source.left c.args.source.now) (g.S.Source.left c.next_whole_line.new.source) (g.S.Source.faults c.args.source.now) (g.S.Source.faults c.next_whole_line.new.source)) c.next_whole_line.result
    = record { line = f.line; refused = f.refused c.requires.no_fault; next = c.next_whole_line.follows.holds-at-none.0; short = f.short; held = c.next_whole_line.follows.holds-at-none.1; reads = f.reads } in
    let given = ap (λ n. text_given (n + 1) c.next_whole_line.result) (sym c.line-line.ensures) in
    let text = c.in_ok-text.text.now in
    let is = read_of_line c.line-line.result c.args.lines.now.line c.in_line.result c.tenth_after.result (line_fault (tenth_slots text) text) (tenth_in text) c.in_line.ensures c.tenth_after.ensures c.line-line.ensures in
    subst (λ r. ReadsWide tenth_fault first_tenth c.args.lines.now c.next_whole_line.follows.lender-at-none (device (g.S.Source.left c.args.source.now) (g.S.Source.left c.next_whole_line.new.source) (g.S.Source.faults c.args.source.now) (g.S.Source.faults c.next_whole_line.new.source)) r) (sym is)
    (wide_line tenth_slots tenth_in _ _ _ _ _ _ f.reads.source f.reads.later c.next_whole_line.result text (tenth_short text) gave (given ∙ c.in_ok-text.ensures))

pub returns-clause-range : goal.returns-clause-range
returns-clause-range g c = tenth_of_line (c.line-line.result + 1) c.in_ok-text.text.now c.in_line.result (c.in_line.ensures ∙ ap (of_line (c.line-line.result + 1)) c.tenth_after.ensures)
