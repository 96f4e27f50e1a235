use Rattle.std.proofs.Common.{◌≡◌, refl, heap_items}
use Rattle.policy_model.specs.declared.names.PolicyName.TheVariants.{Gdsf98 as ByAdmission}
use Rattle.replay_core.specs.Keeping.{kept_without}
use Rattle.replay_core.proofs.Kept.{fit-sound}
use Rattle.replay_core.proofs.Leavings.{left-contents, left-state, plain-left}
use Rattle.replay_rank.specs.AgingEntries.{entries_of}
use Rattle.replay_rank.proofs.AgingAnswers.{keeping, aging-gone, aging-entries, aging-ordered, aging-left}
use Rattle.replay_rank.proofs.gdsf98.Gdsf98LetGo.let_go.Goals as goal

pub overflow_sub-self : goal.overflow_sub-self
overflow_sub-self c =
    aging-gone c.self.inside.capacity c.self.inside.left.used c.self.inside.holdings (heap_items c.self.inside.order) c.self.invariant.aging c.args.object c.take.result c.take.ensures.size

pub invariant_of-self : goal.invariant_of-self
invariant_of-self c = record {
  aging = aging-left c.self.inside.capacity c.self.inside.left.used c.self.inside.holdings (heap_items c.self.inside.order) c.self.invariant.aging c.args.object c.take.result c.take.ensures.size c.take.new.self c.take.ensures.rest
      (heap_items c.throw_away-self-inside.new.order) c.throw_away-self-inside.ensures.ordered;
  low = c.self.invariant.low;
}

-- what is kept is what the rule keeps without it
left : (c : goal.After-self-2-1) → keeping c.self.inside.objects c.self.inside.capacity c.self.inside.requests c.self.inside.left.floor (entries_of c.take.new.self) ≡ kept_without ByAdmission c.args.self.now c.args.object
left c =
    plain-left ByAdmission (λ s k. refl) (keeping c.self.inside.objects c.self.inside.capacity c.self.inside.requests c.self.inside.left.floor (entries_of c.self.inside.holdings)) c.args.self.now c.args.object
    (entries_of c.take.new.self) c.self.view_is
    (aging-entries c.self.inside.capacity c.self.inside.left.used c.self.inside.holdings (heap_items c.self.inside.order) c.self.invariant.aging c.args.object c.take.result c.take.ensures.size c.take.new.self c.take.ensures.rest)

pub returns-clause-contents : goal.returns-clause-contents
returns-clause-contents c =
    left-contents ByAdmission c.args.self.now (keeping c.self.inside.objects c.self.inside.capacity c.self.inside.requests c.self.inside.left.floor (entries_of c.take.new.self)) c.args.object (left c)

pub returns-clause-sound : goal.returns-clause-sound
returns-clause-sound c = fit-sound c.self.inside.capacity (entries_of c.take.new.self) (invariant_of-self c).aging.fits

pub returns-clause-state : goal.returns-clause-state
returns-clause-state c =
    left-state ByAdmission c.args.self.now (keeping c.self.inside.objects c.self.inside.capacity c.self.inside.requests c.self.inside.left.floor (entries_of c.take.new.self)) c.args.object (left c)

pub throw_away-self-inside-requires : goal.throw_away-self-inside-requires
throw_away-self-inside-requires c = record { ordered = aging-ordered c.self.inside.capacity c.self.inside.left.used c.self.inside.holdings (heap_items c.self.inside.order) c.self.invariant.aging c.args.object c.take.result c.take.ensures.size c.take.new.self c.take.ensures.rest }
