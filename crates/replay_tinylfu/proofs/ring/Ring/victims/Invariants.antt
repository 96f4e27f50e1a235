use Rattle.std.proofs.Common.{◌<◌, ◌≤◌, ◌-◌, ◌++◌, length}
use Rattle.replay_tinylfu.specs.Queues.{main_entries, probation_of, protected_of}
use Rattle.replay_tinylfu.specs.Loads.{numbers_of}
use Rattle.replay_tinylfu.proofs.WalkLemmas.{IsWalk}
use Rattle.replay_tinylfu.proofs.ring.Ring.victims.Given as goal

abbrev pub invariant-loop-freed : goal.invariant-loop-freed
invariant-loop-freed l = record {
  walk : (let r = l.self-inside in let numbers = numbers_of r.nodes.list r.objects r.window r.probation r.protected in
      IsWalk r.nodes.list l.mark (probation_of r.objects numbers ++ protected_of r.objects numbers) l.counts.frequencies.counts l.bytes l.object l.freed l.sum l.entries);
  small : l.sum ≤ 255;
  less : 0 < l.freed → l.sum < l.count;
}

abbrev pub decreases-loop-freed : goal.decreases-loop-freed
decreases-loop-freed l = length (main_entries l.self) - l.entries
