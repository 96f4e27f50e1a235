use Rattle.report_laws.proofs.Bounds.{bounds_apart}
use Rattle.report_laws.proofs.laws.bounds_have_one_reading.Goals as goal

pub returns : goal.returns
returns c = bounds_apart
