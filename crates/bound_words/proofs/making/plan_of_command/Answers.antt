use Rattle.std.proofs.lemmas.List.{length-map}
use Rattle.bound_words.proofs.making.plan_of_command.Goals as goal

pub returns-in-Curve-clause-plan : goal.returns-in-Curve-clause-plan
returns-in-Curve-clause-plan c = rw (c.in-Curve.is, length-map) c.curve_plan.ensures.plan

pub returns-in-Sweep-clause-plan : goal.returns-in-Sweep-clause-plan
returns-in-Sweep-clause-plan c = rw (c.in-Sweep.is, length-map) c.sweep_plan.ensures.plan

pub returns-in-CapacityCurve-clause-plan : goal.returns-in-CapacityCurve-clause-plan
returns-in-CapacityCurve-clause-plan c = rw (c.in-CapacityCurve.is, length-map) c.capacity_curve_plan.ensures.plan
