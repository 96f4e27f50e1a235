use Rattle.std.proofs.Common.{ℕ, ◌≡◌, ◌*◌, ◌/◌, ◌≤◌, sym, refl, subst, arith}
use Rattle.std.specs.Int.{IsGcd}
use Rattle.bound_base.specs.Multiples.{IsLcm}
use Rattle.bound_base.proofs.Multiples.{IsGcd_positive, IsLcm-from_gcd, same_from_IsLcm}
use Rattle.bound_base.proofs.divisor.lcm_to.Goals as goal

-- the least common multiple is the product that is computed
multiple_is : (a b g multiple : ℕ) → 1 ≤ a → IsGcd a b g → IsLcm a b multiple → a * (b / g) ≡ multiple
multiple_is a b g multiple positive divisor h = same_from_IsLcm a b (a * (b / g)) multiple (IsLcm-from_gcd a b g (omega arith) divisor) h

pub nonzero_div-b : goal.nonzero_div-b
nonzero_div-b c = IsGcd_positive c.args.a c.args.b c.gcd.result (omega arith) c.gcd.ensures

pub returns-in_err-multiple-clause-limit : goal.returns-in_err-multiple-clause-limit
returns-in_err-multiple-clause-limit c multiple h =
    let same = multiple_is c.args.a c.args.b c.gcd.result multiple (omega arith) c.gcd.ensures h in
    rw c.from_residual.ensures (λ _. omega (arith, same, c.in_err-multiple.ensures), λ _. refl)

pub returns-then-multiple-limit-clause-value : goal.returns-then-multiple-limit-clause-value
returns-then-multiple-limit-clause-value c =
    let same : c.args.a * (c.args.b / c.gcd.result) ≡ c.in_ok-multiple.multiple = sym c.in_ok-multiple.ensures.1 in
    subst (IsLcm c.args.a c.args.b) same (IsLcm-from_gcd c.args.a c.args.b c.gcd.result (omega arith) c.gcd.ensures)

pub returns-then-multiple-limit-clause-limit : goal.returns-then-multiple-limit-clause-limit
returns-then-multiple-limit-clause-limit c multiple h =
    let same = multiple_is c.args.a c.args.b c.gcd.result multiple (omega arith) c.gcd.ensures h in
    (λ wrong. cc, λ over. absurd (omega (arith, same, c.in_ok-multiple.ensures.1)))

pub returns-else-multiple-limit-clause-limit : goal.returns-else-multiple-limit-clause-limit
returns-else-multiple-limit-clause-limit c multiple h =
    let same = multiple_is c.args.a c.args.b c.gcd.result multiple (omega arith) c.gcd.ensures h in
    (λ _. omega (arith, same, c.in_ok-multiple.ensures.1), λ _. refl)
