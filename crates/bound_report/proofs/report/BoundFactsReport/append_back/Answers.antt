use Rattle.std.proofs.Common.{◌≡◌, ◌∙◌, ap, sym, ◌∷◌, ◌++◌, append_assoc, codes}
use Rattle.std.proofs.lemmas.List.Concat.{flat_map-append}
use Rattle.cache_model.specs.Texts.{entry, line, text_of}
use Rattle.bound_report.specs.Reports.{mode_line, unit_line, value_lines, written_lines}
use Rattle.bound_report.proofs.AppendedLines.{two_lines}
use Rattle.bound_report.proofs.report.BoundFactsReport.append_back.Goals as goal

pub returns : goal.returns
returns c =
    let f = c.args.self.now in
    let h = f.header in
    let t1 = c.append.new.text.items in
    let t2 = c.append-2.new.text.items in
    let t3 = c.append-3.new.text.items in
    let t4 = c.append_value_lines.new.text.items in
    let intervals = entry (codes "intervals") f.intervals in
    let third : t3 ≡ t2 ++ line intervals = c.in_ok-append-3.ensures.text ∙ ap (λ l. t2 ++ l) (c.entry_line.ensures ∙ ap (λ n. line (entry (codes "intervals") n)) c.from.ensures) in
    let t5 = c.append_written.new.text.items in
    let values : t4 ≡ t2 ++ text_of (intervals ∷ value_lines h)
    = c.in_ok-append_value_lines.ensures ∙ ap (λ t. t ++ text_of (value_lines h)) third ∙ append_assoc t2 (line intervals) (text_of (value_lines h)) in
    let rest : t5 ≡ t2 ++ text_of (intervals ∷ value_lines h ++ written_lines f.written)
    = c.in_ok-append_written.ensures
    ∙ ap (λ t. t ++ text_of (written_lines f.written)) values
    ∙ append_assoc t2 (text_of (intervals ∷ value_lines h)) (text_of (written_lines f.written))
    ∙ ap (λ t. t2 ++ t) (sym (flat_map-append line (intervals ∷ value_lines h) (written_lines f.written))) in
    two_lines c.args.text.now.items (mode_line f.mode f.price h.exact) (unit_line h) t1 t2 t5 (intervals ∷ value_lines h ++ written_lines f.written)
    (c.in_ok-append.ensures.text ∙ ap (λ l. c.args.text.now.items ++ l) c.mode_line.ensures)
    (c.in_ok-append-2.ensures.text ∙ ap (λ l. t1 ++ l) c.unit_line.ensures)
    rest
