use Rattle.std.proofs.Common.{◌∙◌, sym, arith}
use Rattle.std.specs.Result.{is_ok}
use Rattle.std.specs.VecDeque.{deque_len}
use Rattle.ttl_walk.proofs.Queues.{filter-back, joined-is, popped-le, queue-back}
use Rattle.ttl_walk.proofs.starts.join.Goals as goal

pub loop-starts-preserved : goal.loop-starts-preserved
loop-starts-preserved c =
    let high = sym c.ends_no_lower.ensures ∙ c.loop-starts-test.true in
    let xs = c.loop-starts.starts.items in
    let ys = c.pop_back.new.self.items in
    record {
      queue = queue-back xs ys c.pop_back.result c.pop_back.ensures.items c.loop-starts.invariant.queue;
      same = filter-back c.args.start.floor xs ys c.pop_back.result c.pop_back.ensures.items high ∙ c.loop-starts.invariant.same;
      room =
          omega (
            arith,
            c.loop-starts.invariant.room,
            c.pop_back.ensures.capacity,
            popped-le c.pop_back.result (deque_len c.pop_back.new.self) (deque_len c.loop-starts.starts) c.pop_back.ensures.cases,
          );
    }

pub returns : goal.returns
returns c =
    joined-is c.args.start c.loop-starts.starts.items c.args.starts.now.items c.push_back.new.self.items (is_ok c.push_back.result)
    c.loop-starts.invariant.queue (sym c.ends_no_lower.ensures ∙ c.loop-starts-test.false) c.loop-starts.invariant.same
    (c.push_back.ensures.succeeds c.loop-starts.invariant.room) c.push_back.ensures.items
