use Rattle.std.proofs.Common.{refl}
use Rattle.bound_report.proofs.refusal.refusal_text.Goals as goal

pub returns-in-FlagCount : goal.returns-in-FlagCount
returns-in-FlagCount c = rw (c.in-FlagCount.is, c.push-in-FlagCount.ensures.text, c.push_pair.ensures.text, c.push_entry-in-FlagCount.ensures.text, c.max.ensures, c.new-text.ensures) refl
