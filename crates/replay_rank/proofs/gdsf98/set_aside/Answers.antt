use Rattle.std.proofs.Common.{◌≡◌, ◌<◌, ◌≤◌, ◌∙◌, sym, ap, subst, length, arith}
use Rattle.std.specs.List.{AllByRecursion}
use Rattle.std.proofs.lemmas.List.{length-map}
use Rattle.policy_model.specs.States.{Stock, used}
use Rattle.policy_model.proofs.Parts.{part-trans}
use Rattle.replay_rank.specs.AgingEntries.{entry_of, entries_of}
use Rattle.replay_rank.specs.AdmittedEntries.{put_again}
use Rattle.replay_rank.proofs.AgingOrdered.{aging_turn}
use Rattle.replay_rank.proofs.AdmittedOrdered.{floor-above, again-pushed, sizes-pushed, whole-part, taken-part, taken-size}
use Rattle.replay_rank.proofs.gdsf98.set_aside.Goals as goal

pub returns-in_default-clause-aside : goal.returns-in_default-clause-aside
returns-in_default-clause-aside c =
    let left_is : c.loop-left.left.used ≡ used (entries_of c.loop-left.holdings) = c.loop-left.invariant.left in
    record {
      again = ap (λ ps. put_again c.loop-left.aside.items (entries_of ps)) c.in_default.ensures.stays ∙ c.loop-left.invariant.again;
      some = c.loop-left.invariant.some;
      fits = λ fit. absurd (omega arith);
      loses = λ full.
          subst (λ (s : Stock). c.args.most < s.beside.floor) c.loop-left.invariant.turns
          (floor-above c.args.most c.args.capacity c.args.size (length c.loop-left.holdings) c.loop-left.left.floor (entries_of c.loop-left.holdings) c.in_default.ensures.above
          (omega arith) c.requires.small (omega (arith, length-map c.loop-left.holdings entry_of)));
    }

pub returns-in_default-clause-part : goal.returns-in_default-clause-part
returns-in_default-clause-part c =
    whole-part c.loop-left.aside.items (entries_of c.take_least.new.holdings) (entries_of c.args.holdings.now)
    (ap (λ ps. put_again c.loop-left.aside.items (entries_of ps)) c.in_default.ensures.stays ∙ c.loop-left.invariant.again)

pub overflow_sub-left : goal.overflow_sub-left
overflow_sub-left c =
    omega (arith, c.loop-left.invariant.left, taken-size c.args.most c.loop-left.holdings c.take_least.new.holdings (c.in-Some.object, c.in-Some.held) c.in-Some.ensures.taken)

pub loop-left-preserved : goal.loop-left-preserved
loop-left-preserved c =
    let left_is : c.loop-left.left.used ≡ used (entries_of c.loop-left.holdings) = c.loop-left.invariant.left in
    let within : c.loop-left.left.used ≤ c.args.capacity = c.loop-left.invariant.within in
    record {
      left = omega (arith, taken-size c.args.most c.loop-left.holdings c.take_least.new.holdings (c.in-Some.object, c.in-Some.held) c.in-Some.ensures.taken);
      within = omega arith;
      low = c.in-Some.ensures.taken.low;
      ordered = c.take_least.ensures.ordered;
      again =
          ap (λ aside. put_again aside (entries_of c.take_least.new.holdings)) c.in_ok-push.ensures.items
          ∙ again-pushed c.loop-left.aside.items (c.in-Some.object, c.in-Some.held) (entries_of c.take_least.new.holdings)
          ∙ ap (put_again c.loop-left.aside.items) c.in-Some.ensures.taken.again
          ∙ c.loop-left.invariant.again;
      some = subst (AllByRecursion (λ a. 1 ≤ a.1.size)) (sym c.in_ok-push.ensures.items) (sizes-pushed c.loop-left.aside.items (c.in-Some.object, c.in-Some.held) c.loop-left.invariant.some c.in-Some.ensures.taken.some);
      turns =
          aging_turn c.loop-left.holdings c.take_least.new.holdings c.loop-left.left.floor c.in-Some.held.kept.rank c.args.capacity c.args.size (c.in-Some.ensures.taken.stock c.loop-left.left.floor) c.in-Some.ensures.taken.fewer (omega arith)
          ∙ c.loop-left.invariant.turns;
    }

pub returns-in_err-push-clause-part : goal.returns-in_err-push-clause-part
returns-in_err-push-clause-part c =
    part-trans (entries_of c.take_least.new.holdings) (entries_of c.loop-left.holdings) (entries_of c.args.holdings.now)
    (taken-part c.args.most c.loop-left.holdings c.take_least.new.holdings (c.in-Some.object, c.in-Some.held) c.in-Some.ensures.taken)
    (whole-part c.loop-left.aside.items (entries_of c.loop-left.holdings) (entries_of c.args.holdings.now) c.loop-left.invariant.again)

pub returns-in_err-push-clause-in_use : goal.returns-in_err-push-clause-in_use
returns-in_err-push-clause-in_use c =
    omega (arith, c.loop-left.invariant.left, taken-size c.args.most c.loop-left.holdings c.take_least.new.holdings (c.in-Some.object, c.in-Some.held) c.in-Some.ensures.taken)

pub returns-clause-part : goal.returns-clause-part
returns-clause-part c = whole-part c.loop-left.aside.items (entries_of c.loop-left.holdings) (entries_of c.args.holdings.now) c.loop-left.invariant.again
