use Rattle.std.proofs.Common.{arith}
use Rattle.cert_checker.proofs.Checking.{entries-le}
use Rattle.cert_checker.proofs.checker.Checker.entries.Goals as goal

pub overflow_cast-result : goal.overflow_cast-result
overflow_cast-result c = omega (arith, entries-le _ c.self.invariant, c.len.ensures.len)
