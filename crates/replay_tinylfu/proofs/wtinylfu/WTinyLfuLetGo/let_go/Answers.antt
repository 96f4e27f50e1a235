use Rattle.std.proofs.Common.{◌≡◌}
use Rattle.policy_model.specs.declared.names.PolicyName.TheVariants.{WTinyLfu as ByCount}
use Rattle.policy_model.specs.WTinyLfu.{segment_entries}
use Rattle.replay_core.specs.Keeping.{kept_without}
use Rattle.replay_core.proofs.Kept.{fit-sound}
use Rattle.replay_core.proofs.Leavings.{left-contents, left-state}
use Rattle.replay_tinylfu.specs.TinyKept.{kept_of}
use Rattle.replay_tinylfu.proofs.TinyAnswers.{tinylfu-left, kept-left}
use Rattle.replay_tinylfu.proofs.wtinylfu.WTinyLfuLetGo.let_go.Goals as goal

pub invariant_of-self : goal.invariant_of-self
invariant_of-self c = tinylfu-left c.args.object c.self.inside.ring c.leave.new.ring c.leave.ensures c.self.inside.objects c.self.inside.capacity c.self.inside.counts c.self.invariant

-- what is kept is what the rule keeps without it
left : (c : goal.After-leave) → kept_of c.self.inside.objects c.self.inside.capacity c.self.inside.requests c.self.inside.counts.frequencies c.leave.new.ring.segments ≡ kept_without ByCount c.args.self.now c.args.object
left c = kept-left c.args.object c.self.inside.ring c.leave.new.ring c.leave.ensures c.args.self.now c.self.inside.objects c.self.inside.capacity c.self.inside.requests c.self.inside.counts.frequencies c.self.view_is

pub returns-clause-contents : goal.returns-clause-contents
returns-clause-contents c =
    left-contents ByCount c.args.self.now (kept_of c.self.inside.objects c.self.inside.capacity c.self.inside.requests c.self.inside.counts.frequencies c.leave.new.ring.segments) c.args.object (left c)

pub returns-clause-sound : goal.returns-clause-sound
returns-clause-sound c = fit-sound c.self.inside.capacity (segment_entries c.leave.new.ring.segments) (invariant_of-self c).fits

pub returns-clause-state : goal.returns-clause-state
returns-clause-state c =
    left-state ByCount c.args.self.now (kept_of c.self.inside.objects c.self.inside.capacity c.self.inside.requests c.self.inside.counts.frequencies c.leave.new.ring.segments) c.args.object (left c)
