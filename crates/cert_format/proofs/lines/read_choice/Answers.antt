use Rattle.std.proofs.Common.{◌≡◌, ◌+◌, ◌≤◌, ◌∙◌, sym, ap, length, List, ℕ, None}
use Rattle.std.specs.Str.{bytes_eq}
use Rattle.std.proofs.lemmas.Result.{err_from_is_err_and}
use Rattle.bound_io.specs.Lines.{first_text}
use Rattle.bound_io.specs.Devices.{device}
use Rattle.cert_format.specs.Grammar.{choice_line, line_fault, word_at}
use Rattle.cert_format.specs.Lines.{text_given}
use Rattle.cert_format.proofs.Short.{choice_short}
use Rattle.cert_format.proofs.Taken.{Gave, stop_line, read_line, reads_as, read_of_line}
use Rattle.cert_format.proofs.lines.read_choice.Goals as goal

pub returns-in_err-text : goal.returns-in_err-text
returns-in_err-text g c =
    let f = c.next_whole_line.ensures in
    let gave : Gave c.args.lines.now c.next_whole_line.follows.lender-at-none (device (g.S.Source.left c.args.source.now) (g.S.Source.left c.next_whole_line.new.source) (g.S.Source.faults c.args.source.now) (g.S.Source.faults c.next_whole_line.new.source)) c.next_whole_line.result
    = record { line = f.line; refused = f.refused c.requires.no_fault; next = c.next_whole_line.follows.holds-at-none.0; short = f.short; held = c.next_whole_line.follows.holds-at-none.1; reads = f.reads } in
    let given = ap (λ n. text_given (n + 1) c.next_whole_line.result) (sym c.line-line.ensures) in
    let p = err_from_is_err_and c.from_residual.result c.from_residual.ensures.1 in
    rw (p.1, p.2) (stop_line (λ _. choice_line c.args.name.now c.args.first.now c.args.second.now) (λ bytes. (λ (t : List ℕ). bytes_eq (word_at 1 t) c.args.first.now) (first_text bytes)) _ _ _ c.requires.limit c.requires.few f.reads.source f.reads.later c.next_whole_line.result c.in_err-text.field-0.0 gave (given ∙ c.in_err-text.ensures))

pub returns : goal.returns
returns g c =
    let f = c.next_whole_line.ensures in
    let gave : Gave c.args.lines.now c.next_whole_line.follows.lender-at-none (device (g.S.Source.left c.args.source.now) (g.S.Source.left c.next_whole_line.new.source) (g.S.Source.faults c.args.source.now) (g.S.Source.faults c.next_whole_line.new.source)) c.next_whole_line.result
    = record { line = f.line; refused = f.refused c.requires.no_fault; next = c.next_whole_line.follows.holds-at-none.0; short = f.short; held = c.next_whole_line.follows.holds-at-none.1; reads = f.reads } in
    let given = ap (λ n. text_given (n + 1) c.next_whole_line.result) (sym c.line-line.ensures) in
    let line = c.line-line.ensures in
    let text = c.in_ok-text.text.now in
    let short : line_fault (choice_line c.args.name.now c.args.first.now c.args.second.now) text ≡ None → length text ≤ 63 = λ fits. choice_short c.args.name.now c.args.first.now c.args.second.now text fits c.requires.name c.requires.first.1 c.requires.second.1 in
    reads_as _ _ _ _ _ _ _ _ (read_of_line c.line-line.result c.args.lines.now.line c.in_line.result c.choice_after.result (line_fault (choice_line c.args.name.now c.args.first.now c.args.second.now) text) ((λ (t : List ℕ). bytes_eq (word_at 1 t) c.args.first.now) text) c.in_line.ensures c.choice_after.ensures line)
    (read_line (λ _. choice_line c.args.name.now c.args.first.now c.args.second.now) (λ (t : List ℕ). bytes_eq (word_at 1 t) c.args.first.now) _ _ _ text short f.reads.source f.reads.later c.next_whole_line.result gave (given ∙ c.in_ok-text.ensures))
