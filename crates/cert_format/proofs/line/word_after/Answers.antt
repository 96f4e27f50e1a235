use Rattle.std.proofs.Common.{◌≡◌, ◌∙◌, sym, ◌∷◌, []}
use Rattle.std.proofs.lemmas.Bool.{true≢false}
use Rattle.std.proofs.lemmas.Slice.Eq.{bytes_eq-Decides}
use Rattle.cert_format.specs.Grammar.{words}
use Rattle.cert_format.proofs.Words.{no_word_after}
use Rattle.cert_format.proofs.line.word_after.Goals as goal
use Rattle.cert_format.proofs.line.word_after.Goals.{else-eq-via-then-eq+else-is_word, else-eq-via-else-eq}

pub returns-else-eq-clause-none : goal.returns-else-eq-clause-none
returns-else-eq-clause-none c = λ word are.
    let first = c.in_ok-first.first.now in
    let rest = c.in_ok-first.word.now in
    let cut = c.in_ok-first.ensures.some in
    elim c.else-eq.branch [
      | else-eq-via-then-eq+else-is_word w ↦ no_word_after c.args.text.now first c.args.name.now rest word cut (λ lone. true≢false (sym (w.is_word.ensures.1 lone) ∙ w.if-is_word.false)) are
      | else-eq-via-else-eq w ↦
          let both : first ∷ words rest ≡ c.args.name.now ∷ word ∷ [] = sym cut ∙ are in
          let same : first ≡ c.args.name.now = cc both in
          absurd (true≢false (sym ((bytes_eq-Decides first c.args.name.now).1 same) ∙ (sym c.eq.ensures ∙ w.if-eq.false)))
    ]
