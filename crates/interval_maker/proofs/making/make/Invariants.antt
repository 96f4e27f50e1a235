use Rattle.cache_model.specs.Claim.{marked}
use Rattle.interval_maker.proofs.Made.{IsMade}
use Rattle.interval_maker.proofs.making.make.Given as goal

abbrev pub invariant-loop-t : goal.invariant-loop-t
invariant-loop-t l = IsMade (marked l.terms l.trace.fills) l.trace.objects l.t l.items.items l.starting.items l.ending.items
