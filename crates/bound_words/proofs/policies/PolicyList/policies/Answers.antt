use Rattle.bound_words.proofs.NamedLists.{list-blind}
use Rattle.bound_words.proofs.policies.PolicyList.policies.Goals as goal

pub returns-clause-ahead_of : goal.returns-clause-ahead_of
returns-clause-ahead_of c = rw c.in_ok-policies.ensures (list-blind c.self.inside.list.now)
