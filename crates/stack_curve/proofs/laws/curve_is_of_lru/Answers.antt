use Rattle.stack_curve.proofs.LruCurve.{curve_is_of_lru as proof}
use Rattle.stack_curve.proofs.laws.curve_is_of_lru.Goals as goal

pub returns : goal.returns
returns c = proof
