use Rattle.std.proofs.Common.{refl, true, false}
use Rattle.cert_format.proofs.Decimals.{keep_text}
use Rattle.budget_format.proofs.text.keep_word.Goals as goal

pub returns-then-keep-clause-text : goal.returns-then-keep-clause-text
returns-then-keep-clause-text c = rw (c.if-keep.true, keep_text true) refl

pub returns-else-keep-clause-text : goal.returns-else-keep-clause-text
returns-else-keep-clause-text c = rw (c.if-keep.false, keep_text false) refl
