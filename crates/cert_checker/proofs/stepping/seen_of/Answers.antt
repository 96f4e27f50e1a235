use Rattle.std.proofs.Common.{refl}
use Rattle.cert_checker.proofs.stepping.seen_of.Goals as goal

pub returns : goal.returns
returns c = refl
