use Rattle.relaxation.proofs.Whole.{timeline_weights}
use Rattle.relaxation.proofs.flows.value_of_schedule.Goals as goal

pub value_of-requires-clause-weights : goal.value_of-requires-clause-weights
value_of-requires-clause-weights c = rw c.as_slice.ensures.items (timeline_weights c.args.intervals.now c.args.unit c.as_slice.ensures.timeline c.requires.unit c.requires.divides)
