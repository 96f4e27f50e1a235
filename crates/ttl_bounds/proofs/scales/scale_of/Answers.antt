use Rattle.std.proofs.Common.{arith}
use Rattle.std.proofs.Math.Nat.{div-le_self}
use Rattle.ttl_bounds.proofs.Scaling.{some_units, unit-le_capacity}
use Rattle.ttl_bounds.proofs.scales.scale_of.Goals as goal

pub invariant_of-result : goal.invariant_of-result
invariant_of-result c =
    let capacity = c.asked.inside.terms.capacity in
    let unit = c.unit_of-unit.result in
    let fit = rw (← c.asked.view_is) at c.requires.fit in
    record {
      some_unit = c.unit_of-unit.ensures.positive;
      units_in_range = (
        some_units capacity unit c.unit_of-unit.ensures.positive
            (unit-le_capacity c.args.intervals.now capacity unit c.asked.invariant.capacity.0 c.requires.timeline fit c.unit_of-unit.ensures.unit),
        omega (arith, div-le_self capacity unit, c.asked.invariant.capacity.1),
      );
      denominator_in_range = c.in-Ok.ensures.range;
    }
