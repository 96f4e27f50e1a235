use Rattle.std.proofs.Common.{refl}
use Rattle.bound_report.proofs.refusal.push_invalid_kind.Goals as goal

pub returns-in-UpperDiffers-clause-text : goal.returns-in-UpperDiffers-clause-text
returns-in-UpperDiffers-clause-text c = rw (c.in-UpperDiffers.is, c.push_pair-in-UpperDiffers.ensures.text) refl
