use Rattle.std.proofs.Common.{◌≡◌, ◌≤◌, ◌+◌, ◌*◌, ◌^◌, drop}
use Rattle.cache_model.specs.Schedules.{flow_value}
use Rattle.relaxation.proofs.flows.value_of.Given as goal

abbrev pub invariant-loop-at : goal.invariant-loop-at
invariant-loop-at l = record {
  value : l.value + flow_value (drop l.at l.intervals) l.unit l.denominator (drop l.at l.flows) ≡ flow_value l.intervals l.unit l.denominator l.flows;
  small : l.value ≤ l.at * 2 ^ 96;
}
