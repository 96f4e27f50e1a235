use Rattle.std.proofs.Common.{◌≡◌, ℕ, ◌-◌, ◌∙◌, sym, refl, Bool, true, false, ◌||◌, arith}
use Rattle.policy_model.specs.States.{has_member}
use Rattle.replay_queues.proofs.QueueLeavings.{none-gone}
use Rattle.replay_queues.proofs.QueueAnswers.{kept-in, gone-are, gone-is, gone-freed, small-stays, small-less}
use Rattle.replay_queues.proofs.three_queues.ThreeQueues.leave.Goals as goal

pub returns-then-not-holds-clause-queues : goal.returns-then-not-holds-clause-queues
returns-then-not-holds-clause-queues c =
    let t = c.args.self.now in
    none-gone c.args.object t.table t.parts.small t.parts.main t.parts.ghosts c.requires.queued.fading.are (sym c.holds.ensures ∙ c.if-not-holds.true)

pub remove-size-requires : goal.remove-size-requires
remove-size-requires c =
    let t = c.args.self.now in
    let k : ℕ = c.args.object in
    let held : (has_member t.parts.small k || has_member t.parts.main k) ≡ true = kept-in t c.requires.queued k (sym c.holds.ensures ∙ c.if-not-holds.false) in
    record { there = wider (has_member t.parts.small k) (has_member t.parts.main k) (has_member t.parts.ghosts k) held }
  where
    wider : (x y z : Bool) → (x || y) ≡ true → (x || (y || z)) ≡ true
    wider true y z there = refl
    wider false true z there = refl
    wider false false z there = cc

pub returns-then-not-is_small-clause-queues : goal.returns-then-not-is_small-clause-queues
returns-then-not-is_small-clause-queues c = gone-are c.args.self.now c.requires.queued c.args.object (sym c.holds.ensures ∙ c.if-not-holds.false) c.remove-size.new.self c.remove-size.ensures.rest c.set.new.self c.set.ensures

pub returns-then-not-is_small-clause-freed : goal.returns-then-not-is_small-clause-freed
returns-then-not-is_small-clause-freed c = gone-freed c.args.self.now c.requires.queued c.args.object (sym c.holds.ensures ∙ c.if-not-holds.false) c.remove-size.new.self c.remove-size.ensures.rest c.set.new.self c.set.ensures c.remove-size.result c.remove-size.ensures.size

pub returns-then-not-is_small-clause-queued : goal.returns-then-not-is_small-clause-queued
returns-then-not-is_small-clause-queued c =
    gone-is c.args.self.now c.requires.queued c.args.object (sym c.holds.ensures ∙ c.if-not-holds.false) c.remove-size.new.self c.remove-size.ensures.rest c.set.new.self c.set.ensures c.args.self.now.small_used
    (small-stays c.args.self.now c.requires.queued c.args.object (sym c.holds.ensures ∙ c.if-not-holds.false) c.remove-size.new.self c.remove-size.ensures.rest c.set.new.self c.set.ensures (sym c.is_small-is_small.ensures ∙ c.if-not-is_small.true))

-- what an object of the small queue had is among its bytes
pub overflow_sub-self : goal.overflow_sub-self
overflow_sub-self c =
    omega (arith, small-less c.args.self.now c.requires.queued c.args.object (sym c.holds.ensures ∙ c.if-not-holds.false) c.remove-size.new.self c.remove-size.ensures.rest c.set.new.self c.set.ensures c.remove-size.result c.remove-size.ensures.size (sym c.is_small-is_small.ensures ∙ c.if-not-is_small.false))

pub returns-clause-queues : goal.returns-clause-queues
returns-clause-queues c = gone-are c.args.self.now c.requires.queued c.args.object (sym c.holds.ensures ∙ c.if-not-holds.false) c.remove-size.new.self c.remove-size.ensures.rest c.set.new.self c.set.ensures

pub returns-clause-freed : goal.returns-clause-freed
returns-clause-freed c = gone-freed c.args.self.now c.requires.queued c.args.object (sym c.holds.ensures ∙ c.if-not-holds.false) c.remove-size.new.self c.remove-size.ensures.rest c.set.new.self c.set.ensures c.remove-size.result c.remove-size.ensures.size

pub returns-clause-queued : goal.returns-clause-queued
returns-clause-queued c =
    gone-is c.args.self.now c.requires.queued c.args.object (sym c.holds.ensures ∙ c.if-not-holds.false) c.remove-size.new.self c.remove-size.ensures.rest c.set.new.self c.set.ensures (c.args.self.now.small_used - c.remove-size.result)
    (omega (arith, small-less c.args.self.now c.requires.queued c.args.object (sym c.holds.ensures ∙ c.if-not-holds.false) c.remove-size.new.self c.remove-size.ensures.rest c.set.new.self c.set.ensures c.remove-size.result c.remove-size.ensures.size (sym c.is_small-is_small.ensures ∙ c.if-not-is_small.false)))
