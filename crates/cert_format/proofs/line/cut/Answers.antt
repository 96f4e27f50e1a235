use Rattle.std.proofs.Common.{◌≡◌, ◌+◌, ◌-◌, ◌∙◌, sym, ap, ◌∷◌, length, take, drop, arith, length-drop}
use Rattle.std.proofs.lemmas.List.{take_all}
use Rattle.cert_format.specs.Grammar.{words}
use Rattle.cert_format.proofs.Words.{cut_words, uncut_words}
use Rattle.cert_format.proofs.line.cut.Goals as goal

pub returns-in_err-place-clause-none : goal.returns-in_err-place-clause-none
returns-in_err-place-clause-none c = rw c.from_residual.ensures (uncut_words c.args.text.now (sym c.space_in.ensures ∙ c.in_err-place.was))

pub returns-clause-some : goal.returns-clause-some
returns-clause-some c =
    let text = c.args.text.now in
    let place = c.in_ok-place.place in
    let rest = drop (place + 1) text in
    let all : take (length text - (place + 1)) rest ≡ rest = take_all (length text - (place + 1)) rest (omega (arith, length-drop (place + 1) text)) in
    cut_words text place (sym c.space_in.ensures ∙ c.in_ok-place.was) ∙ ap (λ r. take place text ∷ words r) (sym all)
