use Rattle.std.proofs.Common.{◌∙◌, ap, [], ◌∷◌, ◌++◌, codes}
use Rattle.cache_model.specs.Texts.{entry, line, objective_word, text_of}
use Rattle.budget_format.specs.Texts.{budget_line, warmup_lines}
use Rattle.budget_format.proofs.Appended.{one_more, more_lines, then_two}
use Rattle.budget_format.proofs.text.header_text.Goals as goal

pub returns : goal.returns
returns c =
    let h = c.args.header.now in
    let first = codes "cache-bound-certificate 3" in
    let objective = codes "objective " ++ objective_word h.objective in
    let capacity = entry (codes "capacity") h.capacity in
    let requests = entry (codes "requests") h.requests in
    let unit = entry (codes "unit") h.unit in
    let denominator = entry (codes "denominator") h.denominator in
    let form = codes "form plain" in
    let upper = entry (codes "upper") h.upper in
    let lower = entry (codes "lower") h.lower in
    let budget = budget_line h.budget h.price in
    let at1 = one_more [] first _ c.push_line.new.self c.new-text.ensures c.push_line.ensures.text in
    let at2 = one_more (first ∷ []) objective _ c.push_line-2.new.self at1 (c.push_line-2.ensures.text ∙ ap (λ words. c.push_line.new.self ++ line words) c.objective_line.ensures.text) in
    let at3 = one_more (first ∷ objective ∷ []) capacity _ c.push_entry_line.new.self at2 c.push_entry_line.ensures.text in
    let at4 = one_more (first ∷ objective ∷ capacity ∷ []) requests _ c.push_entry_line-2.new.self at3 c.push_entry_line-2.ensures.text in
    let at5 = one_more (first ∷ objective ∷ capacity ∷ requests ∷ []) unit _ c.push_entry_line-3.new.self at4 c.push_entry_line-3.ensures.text in
    let at6 = one_more (first ∷ objective ∷ capacity ∷ requests ∷ unit ∷ []) denominator _ c.push_entry_line-4.new.self at5 c.push_entry_line-4.ensures.text in
    let at7 = one_more (first ∷ objective ∷ capacity ∷ requests ∷ unit ∷ denominator ∷ []) form _ c.push_line-3.new.self at6 c.push_line-3.ensures.text in
    let at8 = one_more (first ∷ objective ∷ capacity ∷ requests ∷ unit ∷ denominator ∷ form ∷ []) upper _ c.push_entry_line-5.new.self at7 c.push_entry_line-5.ensures.text in
    let at9 = one_more (first ∷ objective ∷ capacity ∷ requests ∷ unit ∷ denominator ∷ form ∷ upper ∷ []) lower _ c.push_entry_line-6.new.self at8 c.push_entry_line-6.ensures.text in
    let head = first ∷ objective ∷ capacity ∷ requests ∷ unit ∷ denominator ∷ form ∷ upper ∷ lower ∷ [] in
    let warm = warmup_lines h.warmup in
    let at10 = more_lines head warm _ c.push_warmup.new.text at9 c.push_warmup.ensures.text in
    let at11 = one_more (head ++ warm) budget _ c.push_budget.new.text at10 c.push_budget.ensures.text in
    let at12 = one_more ((head ++ warm) ++ budget ∷ []) (codes "records") _ _ at11 c.push_line-4.ensures.text in
    at12 ∙ ap text_of (then_two head warm budget (codes "records"))
