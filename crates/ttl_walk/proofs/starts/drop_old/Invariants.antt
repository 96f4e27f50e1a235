-- those that left were too old
use Rattle.std.proofs.Common.{◌≡◌, ◌≤◌, filter}
use Rattle.std.specs.VecDeque.{deque_capacity, deque_len}
use Rattle.ttl_walk.specs.Queue.{IsQueue, is_fresh}
use Rattle.ttl_walk.proofs.starts.drop_old.Given as goal

abbrev pub invariant-loop-starts : goal.invariant-loop-starts
invariant-loop-starts l = record {
  queue : IsQueue l.starts.items;
  same : filter (is_fresh l.ttl l.now) l.starts.items ≡ filter (is_fresh l.ttl l.now) l.initial.starts.items;
  capacity : deque_capacity l.starts ≡ deque_capacity l.initial.starts;
  fewer : deque_len l.starts ≤ deque_len l.initial.starts;
}

abbrev pub decreases-loop-starts : goal.decreases-loop-starts
decreases-loop-starts l = deque_len l.starts
