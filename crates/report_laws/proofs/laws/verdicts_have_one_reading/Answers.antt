use Rattle.report_laws.proofs.Verdicts.{verdicts_apart}
use Rattle.report_laws.proofs.laws.verdicts_have_one_reading.Goals as goal

pub returns : goal.returns
returns c = verdicts_apart
