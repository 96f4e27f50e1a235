-- The prices of a constant, step by step.
use Rattle.std.proofs.Common.{◌≡◌, ℕ, zero, suc, ◌+◌, ◌-◌, ◌<◌, ◌∙◌, refl, ap, arith, [], ◌∷◌, length, get_or, replicate, length-append}
use Rattle.std.proofs.lemmas.List.{length-replicate, get_or-replicate, get_or_append_left, get_or-append_right}
use Rattle.constant_price.specs.Constants.{constant_prices}

-- one for each step
pub length-constant_prices : (price steps : ℕ) → length (constant_prices price steps) ≡ steps
length-constant_prices price zero = refl
length-constant_prices price (suc n) = omega (arith, length-append (replicate n price) (0 ∷ []), length-replicate n price)

-- that of each step but the last
pub constant_prices-before : (price steps t : ℕ) → t + 1 < steps → get_or (constant_prices price steps) t 0 ≡ price
constant_prices-before price zero t before = absurd (omega arith)
constant_prices-before price (suc n) t before =
    let long = length-replicate n price in
    get_or_append_left (replicate n price) (0 ∷ []) 0 t (omega arith) ∙ get_or-replicate n t price 0 (omega arith)

-- that of the last
pub constant_prices-last : (price steps : ℕ) → get_or (constant_prices price steps) (steps - 1) 0 ≡ 0
constant_prices-last price zero = refl
constant_prices-last price (suc n) =
    let place : suc n - 1 ≡ n = omega arith in
    let first : n - n ≡ 0 = omega arith in
    rw place (get_or-append_right (replicate n price) (0 ∷ []) n n 0 (length-replicate n price) (omega arith) ∙ ap (λ i. get_or (0 ∷ []) i 0) first)
