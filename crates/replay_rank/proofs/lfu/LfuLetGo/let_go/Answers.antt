use Rattle.std.proofs.Common.{◌≡◌, refl, heap_items}
use Rattle.policy_model.specs.declared.names.PolicyName.TheVariants.{Lfu as ByCount}
use Rattle.replay_core.specs.Keeping.{kept_without}
use Rattle.replay_core.proofs.Kept.{fit-sound}
use Rattle.replay_core.proofs.Leavings.{left-contents, left-state, plain-left}
use Rattle.replay_rank.specs.LfuEntries.{entries_of}
use Rattle.replay_rank.proofs.Unchanged.{kept}
use Rattle.replay_rank.proofs.LfuAnswers.{lfu-gone, lfu-entries, lfu-ordered, lfu-left}
use Rattle.replay_rank.proofs.lfu.LfuLetGo.let_go.Goals as goal

pub overflow_sub-self : goal.overflow_sub-self
overflow_sub-self c = lfu-gone c.self.inside.capacity c.self.inside.used c.self.inside.holdings (heap_items c.self.inside.order) c.self.invariant c.args.object c.take.result c.take.ensures.size

pub invariant_of-self : goal.invariant_of-self
invariant_of-self c =
    lfu-left c.self.inside.capacity c.self.inside.used c.self.inside.holdings (heap_items c.self.inside.order) c.self.invariant c.args.object c.take.result c.take.ensures.size c.take.new.self c.take.ensures.rest
    (heap_items c.throw_away-self-inside.new.order) c.throw_away-self-inside.ensures.ordered

-- what is kept is what the rule keeps without it
left : (c : goal.After-self-2-1) → kept c.self.inside.objects c.self.inside.capacity c.self.inside.requests (entries_of c.take.new.self) ≡ kept_without ByCount c.args.self.now c.args.object
left c =
    plain-left ByCount (λ s k. refl) (kept c.self.inside.objects c.self.inside.capacity c.self.inside.requests (entries_of c.self.inside.holdings)) c.args.self.now c.args.object (entries_of c.take.new.self) c.self.view_is
    (lfu-entries c.self.inside.capacity c.self.inside.used c.self.inside.holdings (heap_items c.self.inside.order) c.self.invariant c.args.object c.take.result c.take.ensures.size c.take.new.self c.take.ensures.rest)

pub returns-clause-contents : goal.returns-clause-contents
returns-clause-contents c = left-contents ByCount c.args.self.now (kept c.self.inside.objects c.self.inside.capacity c.self.inside.requests (entries_of c.take.new.self)) c.args.object (left c)

pub returns-clause-sound : goal.returns-clause-sound
returns-clause-sound c = fit-sound c.self.inside.capacity (entries_of c.take.new.self) (invariant_of-self c).fits

pub returns-clause-state : goal.returns-clause-state
returns-clause-state c = left-state ByCount c.args.self.now (kept c.self.inside.objects c.self.inside.capacity c.self.inside.requests (entries_of c.take.new.self)) c.args.object (left c)

pub throw_away-self-inside-requires : goal.throw_away-self-inside-requires
throw_away-self-inside-requires c = record { ordered = lfu-ordered c.self.inside.capacity c.self.inside.used c.self.inside.holdings (heap_items c.self.inside.order) c.self.invariant c.args.object c.take.result c.take.ensures.size c.take.new.self c.take.ensures.rest }
