use Rattle.policy_laws.proofs.RunLemmas.{runs_are_allowed as proof}
use Rattle.policy_laws.proofs.laws.runs_are_allowed.Goals as goal

pub returns : goal.returns
returns c = proof
