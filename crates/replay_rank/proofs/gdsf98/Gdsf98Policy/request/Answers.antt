use Rattle.std.proofs.Common.{ℕ, IfOk}
use Rattle.std.specs.declared.option.Option.{Option}
use Rattle.std.proofs.lemmas.Result.{IfOk-weaker}
use Rattle.replay_core.specs.Keeping.{Answers}
use Rattle.policy_model.specs.declared.names.PolicyName.TheVariants.{Gdsf98 as ByAdmission}
use Rattle.replay_core.proofs.Kept.{result-outcome, result-enters, result-step, result-capacity, result-objects}
use Rattle.replay_rank.proofs.gdsf98.Gdsf98Policy.request.Goals as goal

-- the answer at the next request that is known
at_next : (c : goal.After-ask) → IfOk c.ask.result (λ outcome. Answers ByAdmission c.args.self.now c.ask.new.self c.args.object c.args.size c.args._next outcome)
at_next c =
    IfOk-weaker c.ask.result (λ outcome. (next : Option ℕ) → Answers ByAdmission c.args.self.now c.ask.new.self c.args.object c.args.size next outcome)
    (λ outcome. Answers ByAdmission c.args.self.now c.ask.new.self c.args.object c.args.size c.args._next outcome) (λ outcome a. a c.args._next) c.ask.ensures.answers

pub returns-clause-outcome : goal.returns-clause-outcome
returns-clause-outcome c = result-outcome ByAdmission c.args.self.now c.ask.new.self c.args.object c.args.size c.args._next c.ask.result (at_next c)

pub returns-clause-only_the_request_enters : goal.returns-clause-only_the_request_enters
returns-clause-only_the_request_enters c = result-enters ByAdmission c.args.self.now c.ask.new.self c.args.object c.args.size c.args._next c.ask.result (at_next c)

pub returns-clause-same_capacity : goal.returns-clause-same_capacity
returns-clause-same_capacity c = result-capacity ByAdmission c.args.self.now c.ask.new.self c.args.object c.args.size c.args._next c.ask.result (at_next c) c.ask.ensures.gives_up

pub returns-clause-same_objects : goal.returns-clause-same_objects
returns-clause-same_objects c = result-objects ByAdmission c.args.self.now c.ask.new.self c.args.object c.args.size c.args._next c.ask.result (at_next c) c.ask.ensures.gives_up

pub returns-clause-step : goal.returns-clause-step
returns-clause-step c = result-step ByAdmission c.args.self.now c.ask.new.self c.args.object c.args.size c.args._next c.ask.result (at_next c)
