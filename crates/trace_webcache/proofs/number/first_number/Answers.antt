use Rattle.std.proofs.Common.{◌∙◌, sym, arith}
use Rattle.trace_webcache.proofs.Digits.{word_read}
use Rattle.trace_webcache.proofs.number.first_number.Goals as goal

pub returns-then-ends_word : goal.returns-then-ends_word
returns-then-ends_word c =
    word_read c.args.line.now c.skip_gaps-text.result.now c.split_at.result.1.now c.leading_digits-value.result.1 c.leading_digits-value.result.0 c.skip_gaps-text.ensures.words c.split_at.ensures.back
    c.leading_digits-value.ensures.len c.if-len-gt0.true c.leading_digits-value.ensures.digits c.leading_digits-value.ensures.value (omega arith) (sym c.ends_word.ensures ∙ c.if-ends_word.true)
