-- What the code makes of a number's binary logarithm: its class, and of a class its short number.
use Rattle.std.proofs.Common.{◌≡◌, ℕ, ◌+◌, ◌-◌, ◌*◌, ◌/◌, ◌%◌, ◌^◌, ◌<◌, ◌≤◌, ◌⊎◌, inl, inr, ap, ◌∙◌, subst, arith}
use Rattle.std.proofs.Math.Pow.{pow_mono}
use Rattle.std.proofs.lemmas.Bool.{cases_lt}
use Rattle.std.proofs.lemmas.Nat.{pow-add}
use Rattle.area_sums.specs.Short.{class_of, short_at}
use Rattle.area_sums.proofs.ShortLemmas.{digits_hold, factor_below, grows_le, high, pow_pos, top_is}

-- a number from 4096 on has a logarithm of 12 or more
pub log_large : (n log : ℕ) → 4096 ≤ n → n < 2 * 2 ^ log → 12 ≤ log
log_large n log h next_power = by (cases_lt log 12)
  where
    by : (log < 12) ⊎ (12 ≤ log) → 12 ≤ log
    by (inl less) = absurd (omega (arith, pow_mono {i = log} {j = 11} (omega arith)))
    by (inr more) = more

-- and one below 2^80 a logarithm below 80
pub log_small : (n log : ℕ) → n < 2 ^ 80 → 2 ^ log ≤ n → log < 80
log_small n log h power = by (cases_lt log 80)
  where
    by : (log < 80) ⊎ (80 ≤ log) → log < 80
    by (inl less) = less
    by (inr more) = absurd (omega (arith, pow_mono {i = 80} {j = log} more))

-- the power of 2 is 2048 times that of what is left
power_parts : (log : ℕ) → 12 ≤ log → 2 ^ log ≡ 2048 * 2 ^ (log - 11)
power_parts log h =
    let e : log ≡ 11 + (log - 11) = omega arith in
    ap (λ (m : ℕ). 2 ^ m) e ∙ pow-add 2 11 (log - 11)

-- so the class is found from the logarithm and the first 12 digits
pub log_class : (n log : ℕ) → 4096 ≤ n → 2 ^ log ≤ n → n < 2 * 2 ^ log → 2048 * (log - 11) + n / 2 ^ (log - 11) ≡ class_of n
log_class n log h power next_power =
    let e = power_parts log (log_large n log h next_power) in
    digits_hold n (log - 11) (omega (arith, e)) (omega (arith, e))

-- which are below 4096
pub log_digits : (n log : ℕ) → 4096 ≤ n → n < 2 * 2 ^ log → n / 2 ^ (log - 11) < 4096
log_digits n log h next_power =
    let e = power_parts log (log_large n log h next_power) in
    factor_below (2 ^ (log - 11)) (n / 2 ^ (log - 11)) 4096 (omega (arith, e, pow_pos (log - 11)))

-- a short number up to 2^80 fits, so it is shifted whole
pub shifted : (class : ℕ) → 2048 ≤ class → class ≤ 143360 → (2048 + class % 2048) * 2 ^ (class / 2048 - 1) % 340282366920938463463374607431768211456 ≡ short_at class
shifted class many few =
    subst (λ m. m % 340282366920938463463374607431768211456 ≡ short_at class) (high class many)
    (omega (arith, grows_le class 143360 few, top_is))
