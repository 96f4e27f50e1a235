use Rattle.std.proofs.Common.{◌∙◌, sym, ap, arith, length}
use Rattle.std.specs.Option.{is_some}
use Rattle.std.proofs.lemmas.Bool.{eqb-false}
use Rattle.cert_format.proofs.Words.{is_lone}
use Rattle.cert_format.proofs.line.is_word.Goals as goal

pub returns-then-not-is_empty : goal.returns-then-not-is_empty
returns-then-not-is_empty c =
    let text = c.args.text.now in
    is_lone text c.is_none.result (ap is_some (sym c.space_in.ensures) ∙ c.is_none.ensures) (omega (arith, eqb-false (length text) 0 (sym c.is_empty.ensures ∙ c.if-not-is_empty.true)))
