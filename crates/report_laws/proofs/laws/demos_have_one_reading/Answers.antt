use Rattle.report_laws.proofs.Demos.{demos_apart}
use Rattle.report_laws.proofs.laws.demos_have_one_reading.Goals as goal

pub returns : goal.returns
returns c = demos_apart
