use Rattle.expiry_laws.proofs.SeenStale.{seen_tells_stale as proof}
use Rattle.expiry_laws.proofs.laws.seen_tells_stale.Goals as goal

pub returns : goal.returns
returns c = proof
