use Rattle.std.proofs.Common.{◌≡◌, ◌∙◌, ap, sym, [], ◌∷◌, ◌++◌, append_assoc, codes}
use Rattle.std.proofs.lemmas.List.Concat.{flat_map-append}
use Rattle.cache_model.specs.Texts.{form_word, line, text_of}
use Rattle.bound_report.specs.Reports.{unit_line, value_lines}
use Rattle.bound_report.proofs.AppendedLines.{two_lines}
use Rattle.bound_report.proofs.verdict.CheckFactsReport.append_back.Goals as goal

pub returns : goal.returns
returns c =
    let h = c.args.self.now.verdict.header in
    let t1 = c.append.new.text.items in
    let t2 = c.append-2.new.text.items in
    let t3 = c.append_value_lines.new.text.items in
    let t4 = c.extend_from_slice.new.self.items in
    let rest : t4 ≡ t2 ++ text_of (value_lines h ++ codes "valid" ∷ [])
    = c.in_ok-extend_from_slice.ensures.items
    ∙ ap (λ t. t ++ codes "valid\n") c.in_ok-append_value_lines.ensures
    ∙ append_assoc t2 (text_of (value_lines h)) (codes "valid\n")
    ∙ ap (λ t. t2 ++ t) (sym (flat_map-append line (value_lines h) (codes "valid" ∷ []))) in
    two_lines c.args.text.now.items (codes "form " ++ form_word h.exact) (unit_line h) t1 t2 t4 (value_lines h ++ codes "valid" ∷ [])
    (c.in_ok-append.ensures.text ∙ ap (λ l. c.args.text.now.items ++ l) c.form_line.ensures)
    (c.in_ok-append-2.ensures.text ∙ ap (λ l. t1 ++ l) c.unit_line.ensures)
    rest
