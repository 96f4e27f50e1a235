use Rattle.expiry_laws.proofs.Laxer.{laxer_scores_more as proof}
use Rattle.expiry_laws.proofs.laws.laxer_scores_more.Goals as goal

pub returns : goal.returns
returns c = proof
