use Rattle.std.proofs.Math.Nat.{one-dvd}
use Rattle.bounds_tests.proofs.relaxation_values.value_of.Goals as goal

pub flow_value-requires-clause-divides : goal.flow_value-requires-clause-divides
flow_value-requires-clause-divides g c = λ k d lt. one-dvd _

pub value_of_schedule-requires-clause-divides : goal.value_of_schedule-requires-clause-divides
value_of_schedule-requires-clause-divides g c = λ k d lt. one-dvd _

pub value_of_schedule-requires-clause-schedule : goal.value_of_schedule-requires-clause-schedule
value_of_schedule-requires-clause-schedule g c = (4, c.in_ok-value.ensures.schedule)
