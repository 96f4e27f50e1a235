-- The two arcs of an interval earn what its worth is above the price of its weight.
use Rattle.std.proofs.Common.{◌≡◌, ℕ, ◌+◌, ◌-◌, ◌*◌, ◌/◌, ◌%◌, ◌<◌, ◌≤◌, ap, subst, arith, cond, List, [], ◌∷◌, sum_by, ⊎_elim}
use Rattle.std.proofs.Math.Nat.{mul-le-mul_left}
use Rattle.std.proofs.lemmas.Bool.{cases_eq, cases_lt, eq-eqb, ne_eqb}
use Rattle.std.proofs.lemmas.List.Sums.{sum_by-cons}
use Rattle.std.proofs.lemmas.Nat.{div-add-mod', mod_below}
use Rattle.cache_model.specs.declared.intervals.Interval.{Interval}
use Rattle.flow_model.specs.declared.arcs.OuterArc.{OuterArc}
use Rattle.flow_model.specs.Instances.{surplus, price_over}
use Rattle.price_refine.specs.declared.block.Block.{Block}
use Rattle.price_refine.specs.Parts.{arcs_of_worth, cut_arc, upper_arcs}

-- where the price x is no more than the lower cost x + d
earn_low : (v r x d : ℕ) → (v * (x + d) - v * x) + (r * (x + d + 1) - r * x) ≡ ((x + d) * (v + r) + r) - (v + r) * x
earn_low v r x d = omega arith

-- where it is more
earn_high : (v r g x : ℕ) → g < x → r < v + r → (v * g - v * x) + (r * (g + 1) - r * x) ≡ (g * (v + r) + r) - (v + r) * x
earn_high v r g x high less =
    let lower : v * g ≤ v * x = mul-le-mul_left v (omega arith) in
    let upper : r * (g + 1) ≤ r * x = mul-le-mul_left r (omega arith) in
    let both : (v + r) * (g + 1) ≤ (v + r) * x = mul-le-mul_left (v + r) (omega arith) in
    omega (arith, lower, upper, both)

-- at each price x
earn_both : (v r g x : ℕ) → r < v + r → (v * g - v * x) + (r * (g + 1) - r * x) ≡ (g * (v + r) + r) - (v + r) * x
earn_both v r g x less =
    ⊎_elim
    (λ (high : g < x). earn_high v r g x high less)
    (λ (low : x ≤ g).
    let P : ℕ → Type 0 = λ n. (v * n - v * x) + (r * (n + 1) - r * x) ≡ (n * (v + r) + r) - (v + r) * x in
    let is : x + (g - x) ≡ g = omega arith in
    subst P is (earn_low v r x (g - x)))
    (cases_lt g x)

-- with a weight and a worth
earn_worth : (w worth x : ℕ) → 0 < w → ((w - worth % w) * (worth / w) - (w - worth % w) * x) + (worth % w * (worth / w + 1) - worth % w * x) ≡ worth - w * x
earn_worth w worth x some =
    let r : ℕ = worth % w in
    let g : ℕ = worth / w in
    let below : r < w = mod_below worth w some in
    let whole : (w - r) + r ≡ w = omega arith in
    let is : g * w + r ≡ worth = div-add-mod' worth w in
    let P : ℕ → ℕ → Type 0 = λ m n. ((w - r) * g - (w - r) * x) + (r * (g + 1) - r * x) ≡ n - m * x in
    let both : P ((w - r) + r) (g * ((w - r) + r) + r) = earn_both (w - r) r g x (omega arith) in
    let swapped : P w (g * w + r) = subst (λ m. P m (g * m + r)) whole both in
    subst (P w) is swapped

-- what the upper arcs earn
upper_earn : (block : Block) (i : Interval) (w worth : ℕ) (prices : List ℕ)
    → sum_by (surplus prices) (upper_arcs block i w worth)
    ≡ worth % w * (worth / w + 1) - worth % w * price_over prices (cut_arc block i 0 0)
upper_earn block i w worth prices =
    let upper : OuterArc = cut_arc block i (worth % w) (worth / w + 1) in
    ⊎_elim
    (λ (none : worth % w ≡ 0).
    omega (arith, ap (λ t. sum_by (surplus prices) (cond t [] (upper ∷ []))) (eq-eqb (worth % w) 0 none), ap (λ r. r * (worth / w + 1) - r * price_over prices (cut_arc block i 0 0)) none))
    (λ (some : worth % w ≡ 0 → ⊥).
    omega (arith, ap (λ t. sum_by (surplus prices) (cond t [] (upper ∷ []))) (ne_eqb (worth % w) 0 some), sum_by-cons (surplus prices) upper []))
    (cases_eq (worth % w) 0)

-- what the arcs of an interval earn
pub arcs_earn : (block : Block) (i : Interval) (w worth : ℕ) (prices : List ℕ) → 0 < w
    → sum_by (surplus prices) (arcs_of_worth block i w worth) ≡ worth - w * price_over prices (cut_arc block i 0 0)
arcs_earn block i w worth prices some =
    let lower : OuterArc = cut_arc block i (w - worth % w) (worth / w) in
    let upper : List OuterArc = upper_arcs block i w worth in
    let x : ℕ = price_over prices (cut_arc block i 0 0) in
    ⊎_elim
    (λ (none : worth ≡ 0).
    omega (arith, ap (λ t. sum_by (surplus prices) (cond t [] (lower ∷ upper))) (eq-eqb worth 0 none)))
    (λ (worthy : worth ≡ 0 → ⊥).
    omega (arith, ap (λ t. sum_by (surplus prices) (cond t [] (lower ∷ upper))) (ne_eqb worth 0 worthy), sum_by-cons (surplus prices) lower upper, upper_earn block i w worth prices, earn_worth w worth x some))
    (cases_eq worth 0)
