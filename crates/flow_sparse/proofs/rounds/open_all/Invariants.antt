use Rattle.std.proofs.Common.{◌≡◌, ◌+◌, length}
use Rattle.flow_sparse.specs.Openings.{shut_steps}
use Rattle.flow_sparse.specs.Rooms.{HasRoom, IsAtRest}
use Rattle.flow_sparse.proofs.rounds.open_all.Given as goal

abbrev pub invariant-loop-alloc : goal.invariant-loop-alloc
invariant-loop-alloc l =
    record {
      room : HasRoom l.instance l.work.network (length l.work.nodes.items) (length l.work.steps_of.items);
      rests : IsAtRest l.instance l.work.opens.items l.work.prices.items l.work.network.flows.outer;
      each_start : length l.work.loads.items ≡ l.instance.steps + 1;
    }

abbrev pub decreases-loop-alloc : goal.decreases-loop-alloc
decreases-loop-alloc l = shut_steps l.work.opens.items
