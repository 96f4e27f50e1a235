use Rattle.std.proofs.Common.{append_assoc}
use Rattle.cert_format.proofs.text.full_text.Goals as goal

pub returns : goal.returns
returns c =
    rw (c.push-2.ensures.text, c.push_number-2.ensures.text, c.push.ensures.text, c.keep_word.ensures.text, c.push_number.ensures.text, c.new-text.ensures) (simp append_assoc)
