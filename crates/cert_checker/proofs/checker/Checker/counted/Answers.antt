use Rattle.std.proofs.Common.{◌≡◌, ◌*◌, arith, ap}
use Rattle.cache_model.specs.Certificates.{units_of}
use Rattle.cert_checker.proofs.Checking.{paid-le, surpluses-le}
use Rattle.cert_checker.proofs.checker.Checker.counted.Goals as goal

pub overflow_mul-result : goal.overflow_mul-result
overflow_mul-result c =
    let paid : c.units.result * c.self.inside.sums.prices ≡ units_of c.self.inside.header * c.self.inside.sums.prices = ap (λ u. u * c.self.inside.sums.prices) c.units.ensures in
    omega (arith, paid, paid-le _ c.self.invariant)

pub overflow_add-result : goal.overflow_add-result
overflow_add-result c =
    let paid : c.units.result * c.self.inside.sums.prices ≡ units_of c.self.inside.header * c.self.inside.sums.prices = ap (λ u. u * c.self.inside.sums.prices) c.units.ensures in
    omega (arith, paid, paid-le _ c.self.invariant, surpluses-le _ c.self.invariant)
