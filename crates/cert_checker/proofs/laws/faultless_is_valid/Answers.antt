use Rattle.cert_checker.proofs.Faultless.{faultless_is_valid_lem}
use Rattle.cert_checker.proofs.laws.faultless_is_valid.Goals as goal

pub returns : goal.returns
returns c = faultless_is_valid_lem
