use Rattle.bound_advice.proofs.RecentLemmas.{keeps_each, keeps_some}
use Rattle.bound_advice.proofs.recent.Recent.make_room.Goals as goal

pub returns-then-len-count-clause-last : goal.returns-then-len-count-clause-last
returns-then-len-count-clause-last c = keeps_some _ _ _ _ c.forget.ensures.last c.forget.ensures.all

pub returns-else-len-count-clause-last : goal.returns-else-len-count-clause-last
returns-else-len-count-clause-last c = keeps_each _ _
