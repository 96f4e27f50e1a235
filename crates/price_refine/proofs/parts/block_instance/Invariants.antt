use Rattle.std.proofs.Common.{◌≡◌, filter, flat_map, take}
use Rattle.price_refine.specs.Parts.{arcs_of, meets}
use Rattle.price_refine.proofs.parts.block_instance.Given as goal

abbrev pub invariant-loop-interval : goal.invariant-loop-interval
invariant-loop-interval l = l.arcs.items ≡ flat_map (arcs_of l.block l.pricing.prices.items) (filter (meets l.block) (take l.interval-index l.intervals))
