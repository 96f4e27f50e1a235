use Rattle.schedule_round.proofs.Flags.{full_flags_fit as proof}
use Rattle.schedule_round.proofs.laws.full_flags_fit.Goals as goal

pub returns : goal.returns
returns c = proof
