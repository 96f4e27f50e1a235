use Rattle.cert_checker.proofs.Walked.{passing_is_valid_lem}
use Rattle.cert_checker.proofs.laws.passing_is_valid.Goals as goal

pub returns : goal.returns
returns c = passing_is_valid_lem
