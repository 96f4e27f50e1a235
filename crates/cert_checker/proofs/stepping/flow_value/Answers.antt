use Rattle.std.proofs.Common.{◌/◌, arith}
use Rattle.std.proofs.Math.Nat.{div-mul-le_self, mul-le-mul_left}
use Rattle.cert_checker.proofs.stepping.flow_value.Goals as goal

pub overflow_mul-result : goal.overflow_mul-result
overflow_mul-result c =
    omega (arith, mul-le-mul_left (c.args.worth / c.args.weight) c.requires.flow, div-mul-le_self c.args.worth c.args.weight)
