use Rattle.std.proofs.Common.{◌≡◌, ◌∙◌, refl, ap, unwrap_or, nat_eq}
use Rattle.std.specs.Map.{lookup}
use Rattle.policy_model.specs.declared.names.PolicyName.TheVariants.{Lru as ByRecency}
use Rattle.replay_core.specs.Keeping.{kept_without}
use Rattle.replay_core.proofs.Kept.{fit-sound}
use Rattle.replay_core.proofs.Leavings.{left-contents, left-state, plain-left}
use Rattle.replay_recency.specs.LruEntries.{entries_of}
use Rattle.replay_recency.proofs.QueueAnswers.{kept, gone-few, left-entries, left-lru}
use Rattle.replay_recency.proofs.lru_policy.LruLetGo.let_go.Goals as goal

pub overflow_sub-self : goal.overflow_sub-self
overflow_sub-self c = gone-few c.self.inside.capacity c.self.inside.used c.self.inside.entries.cap c.self.inside.entries.entries c.self.invariant c.args.object c.unwrap_or.result (c.unwrap_or.ensures ∙ ap (λ o. unwrap_or o 0) c.pop.ensures.value)

-- the bytes of what left
gone : (c : goal.After-self-1) → c.unwrap_or.result ≡ unwrap_or (lookup (nat_eq c.args.object) c.self.inside.entries.entries) 0
gone c = c.unwrap_or.ensures ∙ ap (λ o. unwrap_or o 0) c.pop.ensures.value

pub invariant_of-self : goal.invariant_of-self
invariant_of-self c =
    left-lru c.self.inside.capacity c.self.inside.used c.self.inside.entries.cap c.self.inside.entries.entries c.self.invariant c.args.object c.unwrap_or.result (gone c) c.pop.new.self c.pop.ensures.entries

-- what is kept is what the rule keeps without it
left : (c : goal.After-self-1) → kept c.self.inside.objects c.self.inside.capacity c.self.inside.requests c.pop.new.self.entries ≡ kept_without ByRecency c.args.self.now c.args.object
left c =
    plain-left ByRecency (λ s k. refl) (kept c.self.inside.objects c.self.inside.capacity c.self.inside.requests c.self.inside.entries.entries) c.args.self.now c.args.object (entries_of c.pop.new.self.entries) c.self.view_is
    (left-entries c.self.inside.capacity c.self.inside.used c.self.inside.entries.cap c.self.inside.entries.entries c.self.invariant c.args.object c.unwrap_or.result (gone c) c.pop.new.self c.pop.ensures.entries)

pub returns-clause-contents : goal.returns-clause-contents
returns-clause-contents c = left-contents ByRecency c.args.self.now (kept c.self.inside.objects c.self.inside.capacity c.self.inside.requests c.pop.new.self.entries) c.args.object (left c)

pub returns-clause-sound : goal.returns-clause-sound
returns-clause-sound c = fit-sound c.self.inside.capacity (entries_of c.pop.new.self.entries) (invariant_of-self c).fits

pub returns-clause-state : goal.returns-clause-state
returns-clause-state c = left-state ByRecency c.args.self.now (kept c.self.inside.objects c.self.inside.capacity c.self.inside.requests c.pop.new.self.entries) c.args.object (left c)
