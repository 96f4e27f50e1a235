-- The value of an instance, arc by arc.
use Rattle.std.proofs.Common.{◌≡◌, ◌∙◌, ℕ, ◌+◌, ◌*◌, ◌^◌, ◌<◌, ◌≤◌, ap, arith, List, length, get_or, take, sum, sum_by, All}
use Rattle.std.proofs.lemmas.List.{take_all}
use Rattle.std.proofs.lemmas.List.Sums.{sum_by-le, sum_by_more, sum_by_more_le}
use Rattle.std.proofs.lemmas.Nat.{mul-le}
use Rattle.flow_model.specs.declared.arcs.OuterArc.{OuterArc}
use Rattle.flow_model.specs.Instances.{Instance, IsArc, price_over, surplus, value_at}
use Rattle.relaxation.specs.Prices.{AreSums}
use Rattle.relaxation.proofs.RunningSums.{sum_between}

-- prices whose units are paid for sum to no more
pub paid-small : (units total most : ℕ) → 1 ≤ units → units * total ≤ most → total ≤ most
paid-small units total most some paid = omega (arith, mul-le 1 total units total some (omega arith))

-- the price of an arc, from two sums
pub price_is : (steps : ℕ) (prices sums : List ℕ) (arc : OuterArc) (high low : ℕ) → AreSums prices sums → length prices ≡ steps → IsArc steps arc
    → high ≡ get_or sums arc.end high → low ≡ get_or sums arc.start low → high ≡ low + price_over prices arc
price_is steps prices sums arc high low are each fits at_end at_start =
    sum_between prices sums arc.start arc.end high low are (omega (arith, fits.order)) (omega (arith, fits.within)) at_end at_start

-- the surpluses of all arcs are no more than their worths
surplus-le : (prices : List ℕ) (arcs : List OuterArc) → All (λ arc. arc.weight * arc.cost ≤ 2 ^ 96) arcs → sum_by (surplus prices) arcs ≤ length arcs * 2 ^ 96
surplus-le prices arcs small = sum_by-le (surplus prices) (2 ^ 96) arcs (λ k d within. omega (arith, small k d within))

-- one more arc
pub value_more : (instance : Instance) (prices : List ℕ) (k value more : ℕ) (d : OuterArc) → k < length instance.arcs
    → value ≡ instance.units * sum prices + sum_by (surplus prices) (take k instance.arcs) → more ≡ surplus prices (get_or instance.arcs k d)
    → value + more ≡ instance.units * sum prices + sum_by (surplus prices) (take (k + 1) instance.arcs)
value_more instance prices k value more d within before is = omega (arith, before, is, sum_by_more (surplus prices) instance.arcs k d within)

pub value_more-small : (instance : Instance) (prices : List ℕ) (k value more : ℕ) (d : OuterArc) → k < length instance.arcs → length instance.arcs ≤ 2 ^ 26
    → All (λ arc. arc.weight * arc.cost ≤ 2 ^ 96) instance.arcs → instance.units * sum prices ≤ 2 ^ 126
    → value ≡ instance.units * sum prices + sum_by (surplus prices) (take k instance.arcs) → more ≡ surplus prices (get_or instance.arcs k d)
    → value + more < 2 ^ 127
value_more-small instance prices k value more d within few small paid before is =
    omega (arith, before, is, sum_by_more_le (surplus prices) instance.arcs k d within, surplus-le prices instance.arcs small)

-- the worths of all arcs
pub worths-le : (arcs : List OuterArc) → length arcs ≤ 2 ^ 26 → All (λ arc. arc.weight * arc.cost ≤ 2 ^ 96) arcs → sum_by (λ arc. arc.weight * arc.cost) arcs ≤ 2 ^ 122
worths-le arcs few small = omega (arith, sum_by-le (λ arc. arc.weight * arc.cost) (2 ^ 96) arcs small)

-- once all arcs are done
pub value_all : (instance : Instance) (prices : List ℕ) (k value : ℕ) → length instance.arcs ≤ k
    → value ≡ instance.units * sum prices + sum_by (surplus prices) (take k instance.arcs) → value ≡ value_at instance prices
value_all instance prices k value past is = is ∙ ap (λ arcs. instance.units * sum prices + sum_by (surplus prices) arcs) (take_all k instance.arcs past)
