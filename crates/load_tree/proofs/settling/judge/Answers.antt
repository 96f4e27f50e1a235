use Rattle.std.proofs.Common.{◌≡◌, ℕ, ◌+◌, ◌-◌, ap, refl, get_or, arith}
use Rattle.load_tree.proofs.settling.judge.Goals as goal

pub is_over-requires-clause-small : goal.is_over-requires-clause-small
is_over-requires-clause-small c = λ p first last.
    let t : ℕ = p - c.args.level.start in
    let at : c.args.level.start + t ≡ p = omega arith in
    omega (arith, ap (λ q. get_or c.args.values.now q 0) at, c.requires.left t (omega arith) (omega arith), c.requires.small t (omega arith))

pub returns-then-is_over : goal.returns-then-is_over
returns-then-is_over c =
    let found = c.if-is_over.ensures.over refl in
    let t : ℕ = found.0 - c.args.level.start in
    let first = found.1 in
    let last = found.2 in
    let at : c.args.level.start + t ≡ found.0 = omega arith in
    (t, omega arith, omega arith, omega (arith, ap (λ q. get_or c.args.values.now q 0) at, c.requires.left t (omega arith) (omega arith), found.3))

pub is_over-requires-2-clause-small : goal.is_over-requires-2-clause-small
is_over-requires-2-clause-small c = λ p first last.
    let t : ℕ = p - c.args.level.start in
    let at : c.args.level.start + t ≡ p = omega arith in
    omega (arith, ap (λ q. get_or c.args.values.now q 0) at, c.requires.right t (omega arith) (omega arith), c.requires.small t (omega arith))

pub returns-then-is_over-2 : goal.returns-then-is_over-2
returns-then-is_over-2 c =
    let found = c.if-is_over-2.ensures.over refl in
    let t : ℕ = found.0 - c.args.level.start in
    let first = found.1 in
    let last = found.2 in
    let at : c.args.level.start + t ≡ found.0 = omega arith in
    (t, omega arith, omega arith, omega (arith, ap (λ q. get_or c.args.values.now q 0) at, c.requires.right t (omega arith) (omega arith), found.3))
