use Rattle.report_laws.proofs.Sweeps.{sweeps_apart}
use Rattle.report_laws.proofs.laws.sweeps_have_one_reading.Goals as goal

pub returns : goal.returns
returns c = sweeps_apart
