use Rattle.std.proofs.Common.{◌≡◌}
use Rattle.byte_curve.specs.Counts.{AreFound, bytes_at}
use Rattle.byte_curve.proofs.pass.lru_hits.Given as goal

-- the requests before this one are counted
abbrev pub invariant-loop-t : goal.invariant-loop-t
invariant-loop-t l = record { latest : l.latest ≡ bytes_at l.trace.objects l.t; found : AreFound l.trace.objects l.trace.fills l.warmup l.capacities l.t l.found.items }
