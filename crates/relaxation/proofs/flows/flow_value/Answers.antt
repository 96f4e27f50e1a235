use Rattle.relaxation.proofs.flows.flow_value.Goals as goal

pub value_of_schedule-requires-clause-schedule : goal.value_of_schedule-requires-clause-schedule
value_of_schedule-requires-clause-schedule c = (c.args.units, c.in_ok-check_flows.ensures.schedule)
