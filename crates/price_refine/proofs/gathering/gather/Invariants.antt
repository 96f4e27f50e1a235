use Rattle.std.proofs.Common.{◌≡◌, ◌-◌, length, filter, take}
use Rattle.std.specs.Prelude.{nat_lt}
use Rattle.price_refine.proofs.gathering.gather.Given as goal

abbrev pub invariant-loop-gathered : goal.invariant-loop-gathered
invariant-loop-gathered l = l.gathered.met.items ≡ filter (λ i. nat_lt l.block.first i.end) (take l.gathered.next l.items)

abbrev pub decreases-loop-gathered : goal.decreases-loop-gathered
decreases-loop-gathered l = length l.items - l.gathered.next
