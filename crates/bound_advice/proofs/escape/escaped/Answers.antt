use Rattle.std.proofs.Common.{◌∙◌, ap, sym, subst, ◌++◌, flat_map, map-id, encode_utf8_all}
use Rattle.std.proofs.lemmas.Iterator.{YieldsList-from_chars}
use Rattle.std.proofs.lemmas.Iterator.Consumers.{YieldsList-end}
use Rattle.bound_advice.specs.Shown.{IsShown, shown_letter}
use Rattle.bound_advice.proofs.ShownLemmas.{IsShown-shown, flat_map-shown}
use Rattle.bound_advice.proofs.escape.escaped.Goals as goal

pub loop-letter-preserved : goal.loop-letter-preserved
loop-letter-preserved c =
    c.in_ok-push_shown.ensures
    ∙ ap (λ text. text ++ encode_utf8_all (shown_letter c.in-Some.letter)) c.loop-letter.invariant
    ∙ flat_map-shown c.loop-letter.yielded c.in-Some.letter

pub returns-clause-letters : goal.returns-clause-letters
returns-clause-letters c =
    let all = YieldsList-end (YieldsList-from_chars c.args.text.now c.utf8.text cc) c.loop-letter.yielded _ c.loop-letter.yielded_by _ _ c.in-None.is c.next.ensures.steps in
    c.loop-letter.invariant ∙ ap (λ letters. encode_utf8_all (flat_map shown_letter letters)) (sym (map-id c.loop-letter.yielded) ∙ all.0)

pub returns-clause-none_hidden : goal.returns-clause-none_hidden
returns-clause-none_hidden c = subst IsShown (sym c.loop-letter.invariant) (IsShown-shown c.loop-letter.yielded)
