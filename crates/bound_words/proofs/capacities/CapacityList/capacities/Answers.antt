use Rattle.bound_words.proofs.RisingLists.{climbs-ascend, climbs-range, climbs-strictly, list-climbs}
use Rattle.bound_words.proofs.capacities.CapacityList.capacities.Goals as goal

pub returns-clause-ascending : goal.returns-clause-ascending
returns-clause-ascending c = rw c.in_ok-capacities.ensures (climbs-ascend 0 _ (list-climbs c.self.inside.list.now))

pub returns-clause-strictly : goal.returns-clause-strictly
returns-clause-strictly c = rw c.in_ok-capacities.ensures (climbs-strictly 0 _ (list-climbs c.self.inside.list.now))

pub returns-clause-range : goal.returns-clause-range
returns-clause-range c = rw c.in_ok-capacities.ensures (climbs-range 0 _ (list-climbs c.self.inside.list.now))
