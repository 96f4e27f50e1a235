-- steps were taken, at most one for each request
use Rattle.std.proofs.Common.{◌≡◌, length}
use Rattle.reading_tests.proofs.cert_checker_steps.answer_of.Given as goal

abbrev pub invariant-loop-t : goal.invariant-loop-t
invariant-loop-t g l = (l.checker.header.requests ≡ length l.requests) × (l.checker.sums.steps ≡ l.t)
