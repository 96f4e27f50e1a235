use Rattle.std.proofs.Common.{◌≡◌, sum, take}
use Rattle.window_arcs.proofs.arcs.sum_of.Given as goal

-- the prices so far
abbrev pub invariant-loop-price : goal.invariant-loop-price
invariant-loop-price l = l.sum ≡ sum (take l.price-index l.prices)
