use Rattle.std.proofs.Common.{◌≤◌}
use Rattle.ttl_prices.proofs.sample.guess_from.Given as goal

-- no price passes the start
abbrev pub invariant-loop-turn : goal.invariant-loop-turn
invariant-loop-turn l = l.search.high ≤ l.start
