use Rattle.std.proofs.Common.{◌≡◌, ◌++◌, List, take}
use Rattle.policy_sweep.specs.Running.{Setting}
use Rattle.policy_stream.specs.Streams.{HasBegun, at_capacity}
use Rattle.policy_stream.proofs.stream.PolicyStream.add_each.Given as goal

-- those of the rules so far
abbrev pub invariant-loop-name : goal.invariant-loop-name
invariant-loop-name l = record {
  replace : l.self.replace ≡ l.initial.self.replace;
  added : (settings : List Setting) → HasBegun settings l.initial.self → HasBegun (settings ++ at_capacity (take l.name-index l.names) l.capacity) l.self;
}
