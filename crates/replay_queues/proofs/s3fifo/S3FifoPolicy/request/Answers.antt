use Rattle.policy_model.specs.declared.names.PolicyName.TheVariants.{S3Fifo as ByTrial}
use Rattle.replay_core.proofs.Kept.{result-outcome, result-enters, result-step}
use Rattle.replay_queues.proofs.RoomLemmas.{answers-at, kept-capacity, kept-objects, kept-former}
use Rattle.replay_queues.proofs.s3fifo.S3FifoPolicy.request.Goals as goal

pub returns-clause-outcome : goal.returns-clause-outcome
returns-clause-outcome c = result-outcome ByTrial c.args.self.now c.ask.new.self c.args.object c.args.size c.args._next c.ask.result (answers-at ByTrial c.args.self.now c.ask.new.self c.args.object c.args.size c.ask.result c.ask.ensures.answers c.args._next)

pub returns-clause-only_the_request_enters : goal.returns-clause-only_the_request_enters
returns-clause-only_the_request_enters c = result-enters ByTrial c.args.self.now c.ask.new.self c.args.object c.args.size c.args._next c.ask.result (answers-at ByTrial c.args.self.now c.ask.new.self c.args.object c.args.size c.ask.result c.ask.ensures.answers c.args._next)

pub returns-clause-none_enters : goal.returns-clause-none_enters
returns-clause-none_enters c = kept-former c.args.self.now c.ask.new.self c.ask.result c.ask.ensures.kept

pub returns-clause-same_capacity : goal.returns-clause-same_capacity
returns-clause-same_capacity c = kept-capacity ByTrial c.args.self.now c.ask.new.self c.args.object c.args.size c.ask.result c.ask.ensures.answers c.ask.ensures.kept

pub returns-clause-same_objects : goal.returns-clause-same_objects
returns-clause-same_objects c = kept-objects ByTrial c.args.self.now c.ask.new.self c.args.object c.args.size c.ask.result c.ask.ensures.answers c.ask.ensures.kept

pub returns-clause-step : goal.returns-clause-step
returns-clause-step c = result-step ByTrial c.args.self.now c.ask.new.self c.args.object c.args.size c.args._next c.ask.result (answers-at ByTrial c.args.self.now c.ask.new.self c.args.object c.args.size c.ask.result c.ask.ensures.answers c.args._next)
