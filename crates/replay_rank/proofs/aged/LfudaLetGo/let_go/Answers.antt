use Rattle.std.proofs.Common.{◌≡◌, ◌∙◌, ap}
use Rattle.cache_model.specs.declared.objects.Objective.TheVariants.{Bytes}
use Rattle.policy_model.specs.declared.names.PolicyName.TheVariants.{Lfuda as ByAge}
use Rattle.replay_core.specs.Keeping.{Kept, kept_without}
use Rattle.replay_core.proofs.Leavings.{left-contents, left-capacity, left-objects, left-state}
use Rattle.replay_rank.proofs.aged.LfudaLetGo.let_go.Goals as goal

-- what is kept is what the rule keeps without it
left : (c : goal.After-leave) → c.leave.new.self ≡ kept_without ByAge c.args.self.now c.args.object
left c = c.leave.ensures.rest Bytes ∙ ap (λ (p : Kept). kept_without ByAge p c.args.object) c.self.view_is

pub returns-clause-contents : goal.returns-clause-contents
returns-clause-contents c = left-contents ByAge c.args.self.now c.leave.new.self c.args.object (left c)

pub returns-clause-same_capacity : goal.returns-clause-same_capacity
returns-clause-same_capacity c = left-capacity ByAge c.args.self.now c.leave.new.self c.args.object (left c)

pub returns-clause-same_objects : goal.returns-clause-same_objects
returns-clause-same_objects c = left-objects ByAge c.args.self.now c.leave.new.self c.args.object (left c)

pub returns-clause-state : goal.returns-clause-state
returns-clause-state c = left-state ByAge c.args.self.now c.leave.new.self c.args.object (left c)
