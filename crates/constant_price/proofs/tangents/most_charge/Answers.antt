use Rattle.std.proofs.Common.{◌≡◌, ℕ, ◌+◌, ◌*◌, ◌/◌, ◌^◌, ◌<◌, ◌≤◌, ⊎_elim, max, arith}
use Rattle.std.proofs.lemmas.Bool.{cases_lt}
use Rattle.std.proofs.lemmas.Nat.{mul-le}
use Rattle.constant_price.proofs.tangents.most_charge.Goals as goal

-- a quotient by the price, or by 1, is the most that the price takes no further
within_top : (top price m : ℕ) → m ≡ max price 1 → top / m * price ≤ top
within_top top price m is = omega (arith, mul-le (top / m) price (top / m) m (omega arith) (omega (arith, is)))

past_quotient : (top m n : ℕ) → 0 < m → top / m < n → top ≤ n * m
past_quotient top m n some more = omega (arith, mul-le (top / m + 1) m n m (omega (arith, more)) (omega arith))

past_top : (top price m n : ℕ) → m ≡ max price 1 → top / m < n → n < top → top ≤ n * price
past_top top price m n is more below =
    let past = past_quotient top m n (omega (arith, is)) more in
    ⊎_elim
    (λ (none : price < 1). let one : m ≡ 1 = omega (arith, is, none) in let past' : top ≤ n * 1 = rw one at past in absurd (omega (arith, past', below)))
    (λ (some : 1 ≤ price). let same : m ≡ price = omega (arith, is, some) in rw same at past)
    (cases_lt price 1)

pub returns-clause-most : goal.returns-clause-most
returns-clause-most c = within_top (2 ^ 96) c.args.price c.max.result c.max.ensures

pub returns-clause-more : goal.returns-clause-more
returns-clause-more c n more below = past_top (2 ^ 96) c.args.price c.max.result n c.max.ensures more below
