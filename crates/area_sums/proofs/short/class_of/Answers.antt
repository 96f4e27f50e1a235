use Rattle.std.proofs.Common.{arith}
use Rattle.area_sums.proofs.LogLemmas.{log_class, log_digits, log_large, log_small}
use Rattle.area_sums.proofs.ShortLemmas.{class_is, small}
use Rattle.area_sums.proofs.short.class_of.Goals as goal

pub returns-then-number-lt-WHOLE : goal.returns-then-number-lt-WHOLE
returns-then-number-lt-WHOLE c = class_is c.args.number c.args.number (small c.args.number c.if-number-lt-WHOLE.true)

pub overflow_sub-zeros : goal.overflow_sub-zeros
overflow_sub-zeros c = omega (arith, log_large c.args.number c.ilog2-zeros.result c.if-number-lt-WHOLE.false c.ilog2-zeros.ensures.next_power_gt)

pub overflow_cast-result-3 : goal.overflow_cast-result-3
overflow_cast-result-3 c =
    record { fits = omega (arith, log_digits c.args.number c.ilog2-zeros.result c.if-number-lt-WHOLE.false c.ilog2-zeros.ensures.next_power_gt) }

pub overflow_add-result : goal.overflow_add-result
overflow_add-result c = record {
  fits = omega (
    arith,
    log_small c.args.number c.ilog2-zeros.result c.requires c.ilog2-zeros.ensures.power_le,
    log_digits c.args.number c.ilog2-zeros.result c.if-number-lt-WHOLE.false c.ilog2-zeros.ensures.next_power_gt,
  );
}

pub returns : goal.returns
returns c = log_class c.args.number c.ilog2-zeros.result c.if-number-lt-WHOLE.false c.ilog2-zeros.ensures.power_le c.ilog2-zeros.ensures.next_power_gt
