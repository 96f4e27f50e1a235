-- the floors of those that left are no lower
use Rattle.std.proofs.Common.{◌≡◌, ◌<◌, filter, not, nat_le}
use Rattle.std.specs.VecDeque.{deque_capacity, deque_len}
use Rattle.ttl_walk.specs.Queue.{IsQueue}
use Rattle.ttl_walk.proofs.starts.join.Given as goal

abbrev pub invariant-loop-starts : goal.invariant-loop-starts
invariant-loop-starts l = record {
  queue : IsQueue l.starts.items;
  same : filter (λ d. not (nat_le l.start.floor d.floor)) l.starts.items ≡ filter (λ d. not (nat_le l.start.floor d.floor)) l.initial.starts.items;
  room : deque_len l.starts < deque_capacity l.starts;
}

abbrev pub decreases-loop-starts : goal.decreases-loop-starts
decreases-loop-starts l = deque_len l.starts
