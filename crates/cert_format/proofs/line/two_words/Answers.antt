use Rattle.std.proofs.Common.{◌∙◌, sym, ap, ◌∷◌}
use Rattle.cert_format.proofs.Words.{three_words, uncut_words}
use Rattle.cert_format.proofs.line.two_words.Goals as goal

pub returns-in-Some-clause-none : goal.returns-in-Some-clause-none
returns-in-Some-clause-none c = three_words c.args.text.now c.in_ok-first.first.now c.in_ok-first.second.now c.in-Some.field-0 c.in_ok-first.ensures.some (sym c.space_in.ensures ∙ c.in-Some.is)

pub returns-in-None-clause-some : goal.returns-in-None-clause-some
returns-in-None-clause-some c = c.in_ok-first.ensures.some ∙ ap (λ ws. c.in_ok-first.first.now ∷ ws) (uncut_words c.in_ok-first.second.now (sym c.space_in.ensures ∙ c.in-None.is))
