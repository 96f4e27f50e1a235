use Rattle.report_laws.proofs.Refinements.{refinements_apart}
use Rattle.report_laws.proofs.laws.refinements_have_one_reading.Goals as goal

pub returns : goal.returns
returns c = refinements_apart
