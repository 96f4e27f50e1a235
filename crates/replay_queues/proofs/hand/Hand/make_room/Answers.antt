use Rattle.std.proofs.Common.{◌≡◌, ◌+◌, ◌*◌, ◌++◌, ◌≤◌, ◌<◌, ◌∙◌, sym, ap, refl, length, arith}
use Rattle.std.proofs.lemmas.Bool.{le-leb}
use Rattle.policy_model.specs.Sieve.{Cut, look, cut_used}
use Rattle.policy_model.proofs.Parts.{until-fits}
use Rattle.policy_model.proofs.SieveSound.{looks_left, look-ends}
use Rattle.replay_queues.specs.SieveQueues.{cut_at, with_room}
use Rattle.replay_queues.proofs.SieveLemmas.{enough_looks, look_step}
use Rattle.replay_queues.proofs.hand.Hand.make_room.Goals as goal

pub loop-left-init : goal.loop-left-init
loop-left-init c =
    let h = c.args.self.now in
    record {
      left = c.requires.in_use;
      within = c.requires.within;
      held = c.requires.held;
      table = refl;
      few = omega arith;
      room = refl;
      looks = (2 * length ((cut_at h).behind ++ (cut_at h).ahead) + 1, enough_looks (cut_at h), refl);
    }

pub overflow_sub-left : goal.overflow_sub-left
overflow_sub-left c = omega (arith, c.loop-left.invariant.left, c.look-left.ensures.freed)

pub loop-left-preserved : goal.loop-left-preserved
loop-left-preserved c =
    let cut : Cut = cut_at c.loop-left.self in
    let after : Cut = cut_at c.look-left.new.self in
    let left_is : c.loop-left.left ≡ cut_used cut = c.loop-left.invariant.left in
    let within : c.loop-left.left ≤ c.args.capacity = c.loop-left.invariant.within in
    let freed : cut_used after + c.look-left.result ≡ cut_used cut = c.look-left.ensures.freed in
    let h = c.args.self.now in
    record {
      left = omega arith;
      within = omega arith;
      held = c.look-left.ensures.held;
      table = c.look-left.ensures.table ∙ c.loop-left.invariant.table;
      few = omega (arith, c.look-left.ensures.few, c.loop-left.invariant.few);
      room = c.look-left.ensures.room ∙ c.loop-left.invariant.room;
      looks = look_step c.args.capacity c.args.size c.loop-left.invariant.looks.0 cut after
          (with_room c.args.capacity c.args.size (cut_at h))
          c.look-left.ensures.cut (omega arith) (omega arith) c.loop-left.invariant.looks.1 c.loop-left.invariant.looks.2;
    }

pub loop-left-smaller : goal.loop-left-smaller
loop-left-smaller c =
    let cut : Cut = cut_at c.loop-left.self in
    let left_is : c.loop-left.left ≡ cut_used cut = c.loop-left.invariant.left in
    let less : looks_left (look cut) < looks_left cut = look-ends cut (omega arith) in
    omega (arith, ap looks_left c.look-left.ensures.cut)

pub returns-clause-cut : goal.returns-clause-cut
returns-clause-cut c =
    let cut : Cut = cut_at c.loop-left.self in
    let left_is : c.loop-left.left ≡ cut_used cut = c.loop-left.invariant.left in
    sym (until-fits look cut_used c.args.capacity c.args.size c.loop-left.invariant.looks.0 cut (le-leb (cut_used cut + c.args.size) c.args.capacity (omega arith)))
    ∙ c.loop-left.invariant.looks.2
