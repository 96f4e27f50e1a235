use Rattle.std.proofs.Common.{◌≢◌, ◌∙◌, sym, ap}
use Rattle.std.proofs.lemmas.Bool.{true≢false}
use Rattle.std.proofs.lemmas.Slice.Eq.{bytes_eq-Decides}
use Rattle.cert_format.specs.Grammar.{fixed_line, line_fault, value_unless}
use Rattle.cert_format.proofs.Shapes.{same_bytes, fixed_fits, other_fixed}
use Rattle.cert_format.proofs.line.fixed.Goals as goal

pub returns-then-eq : goal.returns-then-eq
returns-then-eq c =
    let same = same_bytes c.args.text.now c.args.line.now (sym c.eq.ensures ∙ c.if-eq.true) in
    sym (ap (λ o. value_unless o tt) (ap (line_fault (fixed_line c.args.line.now)) same ∙ fixed_fits c.args.line.now))

pub returns-else-eq : goal.returns-else-eq
returns-else-eq c =
    let other : c.args.text.now ≢ c.args.line.now = λ same. true≢false (sym ((bytes_eq-Decides c.args.text.now c.args.line.now).1 same) ∙ (sym c.eq.ensures ∙ c.if-eq.false)) in
    sym (ap (λ o. value_unless o tt) (other_fixed c.args.line.now c.args.text.now other))
