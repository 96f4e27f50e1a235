use Rattle.std.proofs.Common.{◌≡◌, ◌-◌, ◌++◌, ◌∷◌, [], ℕ, List, length, refl, arith}
use Rattle.std.proofs.lemmas.List.{get_or_push, length-append, take_at}
use Rattle.trace_lines.specs.Lines.{without_cr}
use Rattle.trace_lines.proofs.last.trim_cr.Goals as goal

-- a line that ends in a CR, without it
cr_dropped : (line prefix : List ℕ) (last : ℕ) → line ≡ prefix ++ last ∷ [] → last ≡ 13 → prefix ≡ without_cr line
cr_dropped line prefix last whole is_cr =
    let before : length (prefix ++ 13 ∷ []) - 1 ≡ length prefix = omega (arith, length-append prefix (13 ∷ [])) in
    rw (whole, is_cr, before, get_or_push prefix 13 0 (length prefix) refl, take_at prefix (13 ∷ []) (length prefix) refl) refl

pub returns-in-Some-eq13-default : goal.returns-in-Some-eq13-default
returns-in-Some-eq13-default c =
    cr_dropped c.args.line.now c.in-Some-eq13-default.text.now c.in-Some-eq13-default.field-0-0.now c.in-Some-eq13-default.ensures.cases.0 c.in-Some-eq13-default.field-0-0-test
