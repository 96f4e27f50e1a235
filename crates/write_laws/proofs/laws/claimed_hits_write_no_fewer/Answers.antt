use Rattle.write_laws.proofs.Written.{claimed_hits_write_no_fewer as proof}
use Rattle.write_laws.proofs.laws.claimed_hits_write_no_fewer.Goals as goal

pub returns : goal.returns
returns c = proof
