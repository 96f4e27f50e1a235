use Rattle.std.proofs.Common.{◌∙◌, sym, length, inl, inr}
use Rattle.std.proofs.lemmas.Bool.{true≢false, eqb-true}
use Rattle.cert_format.proofs.RecordShapes.{no_record}
use Rattle.cert_format.proofs.line.record_words.Goals as goal
use Rattle.cert_format.proofs.line.record_words.Goals.{else-not-is_empty-via-then-not-is_empty+else-is_word, else-not-is_empty-via-else-not-is_empty}

pub returns-else-not-is_empty-clause-none : goal.returns-else-not-is_empty-clause-none
returns-else-not-is_empty-clause-none c =
    let price = c.in_ok-price.price.now in
    let flow = c.in_ok-keep.flow.now in
    no_record c.args.text.now price c.in_ok-keep.keep.now c.in_ok-price.rest.now flow c.in_ok-price.ensures.some c.in_ok-keep.ensures.some
    (elim c.else-not-is_empty.branch [
      | else-not-is_empty-via-then-not-is_empty+else-is_word w ↦ inr (λ lone. true≢false (sym (w.is_word.ensures.1 lone) ∙ w.if-is_word.false))
      | else-not-is_empty-via-else-not-is_empty w ↦ inl (eqb-true (length price) 0 (sym c.is_empty.ensures ∙ w.if-not-is_empty.false))
    ])
