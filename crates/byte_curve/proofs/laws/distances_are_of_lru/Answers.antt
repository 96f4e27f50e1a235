use Rattle.byte_curve.proofs.LruBytes.{distances_are_of_lru as proof}
use Rattle.byte_curve.proofs.laws.distances_are_of_lru.Goals as goal

pub returns : goal.returns
returns c = proof
