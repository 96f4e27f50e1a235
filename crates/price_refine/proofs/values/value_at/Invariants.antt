use Rattle.std.proofs.Common.{◌≡◌, ◌+◌, ◌*◌, sum, sum_by, take}
use Rattle.flow_model.specs.Instances.{surplus}
use Rattle.price_refine.proofs.values.value_at.Given as goal

abbrev pub invariant-loop-arc : goal.invariant-loop-arc
invariant-loop-arc l = l.value ≡ l.fn.instance.units * sum l.fn.prices + sum_by (surplus l.fn.prices) (take l.arc-index l.fn.instance.arcs)
