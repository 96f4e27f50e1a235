use Rattle.std.proofs.Common.{◌∙◌, ap, sym, ◌++◌, codes, flat_map, map-id}
use Rattle.std.proofs.lemmas.Iterator.{YieldsList-from_chars}
use Rattle.std.proofs.lemmas.Iterator.Consumers.{YieldsList-end}
use Rattle.std.proofs.lemmas.List.{flat_map_more}
use Rattle.bound_advice.specs.Shell.{quoted_letter}
use Rattle.bound_advice.proofs.escape.quoted_word.Goals as goal

pub loop-letter-preserved : goal.loop-letter-preserved
loop-letter-preserved c =
    c.in_ok-push_quoted.ensures
    ∙ ap (λ text. text ++ quoted_letter c.in-Some.letter) c.loop-letter.invariant
    ∙ flat_map_more quoted_letter (codes "'") c.loop-letter.yielded c.in-Some.letter

pub returns : goal.returns
returns c =
    let all = YieldsList-end (YieldsList-from_chars c.args.word.now c.utf8.word cc) c.loop-letter.yielded _ c.loop-letter.yielded_by _ _ c.in-None.is c.next.ensures.steps in
    c.in_ok-push_str.ensures.bytes
    ∙ ap (λ text. text ++ codes "'") (c.loop-letter.invariant ∙ ap (λ letters. codes "'" ++ flat_map quoted_letter letters) (sym (map-id c.loop-letter.yielded) ∙ all.0))
