use Rattle.std.proofs.Common.{◌≡◌, [], take}
use Rattle.policy_stream.specs.Streams.{HasBegun, settings_of}
use Rattle.policy_stream.proofs.stream.PolicyStream.add_all.Given as goal

-- those at the capacities so far
abbrev pub invariant-loop-capacity : goal.invariant-loop-capacity
invariant-loop-capacity l = record {
  replace : l.self.replace ≡ l.initial.self.replace;
  added : HasBegun [] l.initial.self → HasBegun (settings_of l.names (take l.capacity-index l.capacities)) l.self;
}
