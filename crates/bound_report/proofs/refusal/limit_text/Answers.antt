use Rattle.std.proofs.Common.{refl}
use Rattle.bound_report.proofs.refusal.limit_text.Goals as goal

pub returns-in-Requests-clause-text : goal.returns-in-Requests-clause-text
returns-in-Requests-clause-text c = rw c.in-Requests.is refl
