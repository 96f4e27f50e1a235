use Rattle.std.proofs.Common.{◌≡◌, ◌∙◌, ℕ, List, [], ◌∷◌, drop, get_or, get_or-drop, Option, Some, None, sym, ap}
use Rattle.std.specs.Borrow.{Bor}
use Rattle.std.specs.Option.{MatchOption}
use Rattle.trace_lines.specs.Lines.{fields}
use Rattle.trace_msr.specs.Used.{fields_left}
use Rattle.trace_msr.proofs.used.used_fields.Goals as goal

-- the first field, and those that are left
left_first : (cells : List (List ℕ)) (first : List ℕ) (left : Option (Bor (List ℕ))) → MatchOption left (cells ≡ first ∷ []) (λ rest. cells ≡ first ∷ fields rest.now) → cells ≡ first ∷ fields_left left
left_first cells first None cut = cut
left_first cells first (Some rest) cut = cut

-- the first after four
after_four : (cells : List (List ℕ)) → get_or (drop 1 (drop 1 (drop 1 (drop 1 cells)))) 0 [] ≡ get_or cells 4 []
after_four cells = get_or-drop 1 (drop 1 (drop 1 (drop 1 cells))) 0 [] ∙ get_or-drop 1 (drop 1 (drop 1 cells)) 1 [] ∙ get_or-drop 1 (drop 1 cells) 2 [] ∙ get_or-drop 1 cells 3 []

pub returns-clause-size : goal.returns-clause-size
returns-clause-size c =
    let whole = left_first (fields c.args.line.now) c.first_field.result.0.now c.first_field.result.1 c.first_field.ensures in
    let last = left_first (fields c.in_ok-from_size.field-0.now) c.first_field-2.result.0.now c.first_field-2.result.1 c.first_field-2.ensures in
    sym (ap (λ cells. get_or cells 0 []) last)
    ∙ ap (λ left. get_or (fields_left left) 0 []) (sym c.in_ok-from_size.was)
    ∙ ap (λ cells. get_or cells 0 []) (c.next_field-4.ensures.left ∙ ap (drop 1) (c.next_field-3.ensures.left ∙ ap (drop 1) (c.next_field-2.ensures.left ∙ ap (drop 1) c.next_field.ensures.left)))
    ∙ after_four (fields_left c.first_field.result.1)
    ∙ sym (ap (λ cells. get_or cells 5 []) whole)
