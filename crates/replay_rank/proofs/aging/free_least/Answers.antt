use Rattle.std.proofs.Common.{◌≡◌, ◌≤◌, ◌∙◌, arith}
use Rattle.policy_model.specs.States.{used}
use Rattle.replay_rank.specs.AgingEntries.{entries_of}
use Rattle.replay_rank.proofs.AgingOrdered.{aging_turn}
use Rattle.replay_rank.proofs.aging.free_least.Goals as goal

pub loop-left-preserved : goal.loop-left-preserved
loop-left-preserved c =
    let left_is : c.loop-left.left.used ≡ used (entries_of c.loop-left.holdings) = c.loop-left.invariant.left in
    let low : c.loop-left.left.used ≤ c.args.capacity = c.loop-left.invariant.within in
    record {
      left = omega (arith, c.give_up_least-gone.ensures.size);
      within = omega arith;
      ordered = c.give_up_least-gone.ensures.ordered;
      turns = aging_turn c.loop-left.holdings c.give_up_least-gone.new.holdings c.loop-left.left.floor c.give_up_least-gone.result.kept.rank c.args.capacity c.args.size (c.give_up_least-gone.ensures.stock c.loop-left.left.floor) c.give_up_least-gone.ensures.fewer (omega arith)
          ∙ c.loop-left.invariant.turns;
    }
