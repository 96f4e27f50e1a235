use Rattle.std.proofs.Common.{◌≤◌, arith}
use Rattle.replay_tinylfu.specs.Loads.{numbers_of}
use Rattle.replay_tinylfu.proofs.KeptLemmas.{few-numbers}
use Rattle.replay_tinylfu.proofs.ring.Ring.len.Goals as goal

pub overflow_add-result : goal.overflow_add-result
overflow_add-result c =
    let r = c.self.inside in
    let few : r.objects ≤ 2147483648 = c.self.invariant.kept.ring.few in
    omega (arith, few-numbers r.nodes.list r.places.items r.objects r.window r.probation r.protected (numbers_of r.nodes.list r.objects r.window r.probation r.protected) c.self.invariant.kept)

pub overflow_add-result-2 : goal.overflow_add-result-2
overflow_add-result-2 c =
    let r = c.self.inside in
    let few : r.objects ≤ 2147483648 = c.self.invariant.kept.ring.few in
    omega (arith, few-numbers r.nodes.list r.places.items r.objects r.window r.probation r.protected (numbers_of r.nodes.list r.objects r.window r.probation r.protected) c.self.invariant.kept)

pub returns-clause-few : goal.returns-clause-few
returns-clause-few c =
    let r = c.self.inside in
    let few : r.objects ≤ 2147483648 = c.self.invariant.kept.ring.few in
    omega (arith, few-numbers r.nodes.list r.places.items r.objects r.window r.probation r.protected (numbers_of r.nodes.list r.objects r.window r.probation r.protected) c.self.invariant.kept)
