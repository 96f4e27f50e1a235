use Rattle.std.proofs.Common.{◌≡◌, ◌≢◌, ℕ, ◌^◌, ◌<◌, ◌∙◌, ap, sym, arith, length, get_or, List, Ok, Err}
use Rattle.std.proofs.lemmas.Result.{err_from_is_err_and}
use Rattle.bound_base.specs.Digits.{number_of}
use Rattle.cert_format.specs.Grammar.{number_in, value_unless}
use Rattle.cert_format.proofs.Numbers.{says, refused, in_range, below_range, above_range}
use Rattle.cert_format.proofs.number.number.Goals as goal
use Rattle.cert_format.proofs.number.number.Goals.{else-word-gt1-via-then-word-gt1+else-word-eq48, else-word-gt1-via-else-word-gt1, then-value-low-via-then-value-low, then-value-low-via-else-value-low+then-high-value}

-- no leading zero
abbrev NoLeadingZero : List ℕ → Type 0
NoLeadingZero word = 1 < length word → get_or word 0 0 ≢ 48

pub returns-in_err-value : goal.returns-in_err-value
returns-in_err-value c =
    let first : NoLeadingZero c.args.word.now = elim c.else-word-gt1.branch [
      | else-word-gt1-via-then-word-gt1+else-word-eq48 w ↦ (λ long. w.if-word-eq48.false)
      | else-word-gt1-via-else-word-gt1 w ↦ (λ long. absurd (omega arith))
    ] in
    let p = err_from_is_err_and c.from_residual.result c.from_residual.ensures.1 in
    let is : number_of (2 ^ 128) c.args.word.now ≡ Err c.in_err-value.field-0.0 = sym c.read_u128.ensures ∙ c.in_err-value.was in
    rw (p.1, p.2) (sym (ap (λ o. value_unless o (number_in c.args.word.now)) (refused c.args.low c.args.high (2 ^ 128) c.args.word.now c.in_err-value.field-0.0 is (omega arith) first)))

pub returns-then-value-low : goal.returns-then-value-low
returns-then-value-low c =
    let first : NoLeadingZero c.args.word.now = elim c.else-word-gt1.branch [
      | else-word-gt1-via-then-word-gt1+else-word-eq48 w ↦ (λ long. w.if-word-eq48.false)
      | else-word-gt1-via-else-word-gt1 w ↦ (λ long. absurd (omega arith))
    ] in
    let said = rw (sym c.read_u128.ensures ∙ c.in_ok-value.was) at (says (2 ^ 128) c.args.word.now) in
    elim c.then-value-low.branch [
      | then-value-low-via-then-value-low w ↦ sym (ap (λ o. value_unless o (number_in c.args.word.now)) (below_range c.args.low c.args.high c.args.word.now said.0 said.1 first (omega arith)))
      | then-value-low-via-else-value-low+then-high-value w ↦ sym (ap (λ o. value_unless o (number_in c.args.word.now)) (above_range c.args.low c.args.high c.args.word.now said.0 said.1 first (omega arith)))
    ]

pub returns : goal.returns
returns c =
    let first : NoLeadingZero c.args.word.now = elim c.else-word-gt1.branch [
      | else-word-gt1-via-then-word-gt1+else-word-eq48 w ↦ (λ long. w.if-word-eq48.false)
      | else-word-gt1-via-else-word-gt1 w ↦ (λ long. absurd (omega arith))
    ] in
    let said = rw (sym c.read_u128.ensures ∙ c.in_ok-value.was) at (says (2 ^ 128) c.args.word.now) in
    ap Ok said.2 ∙ sym (ap (λ o. value_unless o (number_in c.args.word.now)) (in_range c.args.low c.args.high c.args.word.now said.0 said.1 first (omega arith) (omega arith)))
