-- What is claimed, one request later.
use Rattle.std.proofs.Common.{◌≡◌, ℕ, suc, ◌+◌, ◌∙◌, ap, Bool, cond, arith, sum_by}
use Rattle.std.specs.List.{range_with_len}
use Rattle.cache_model.proofs.Streams.{sum_by-range_last}

-- the amounts of the requests that claim, one request later
pub claimed_more : (p : ℕ → Bool) (amount : ℕ → ℕ) (t before after size : ℕ) (claims : Bool)
    → before ≡ sum_by (λ k. cond (p k) (amount k) 0) (range_with_len 0 t)
    → claims ≡ p t → size ≡ amount t → after ≡ before + cond claims size 0
    → after ≡ sum_by (λ k. cond (p k) (amount k) 0) (range_with_len 0 (t + 1))
claimed_more p amount t before after size claims so_far claims_is size_is adds =
    let f : ℕ → ℕ = λ k. cond (p k) (amount k) 0 in
    let more : cond claims size 0 ≡ f t = ap (λ b. cond b size 0) claims_is ∙ ap (λ n. cond (p t) n 0) size_is in
    let next : t + 1 ≡ suc t = omega arith in
    let last : sum_by f (range_with_len 0 (t + 1)) ≡ sum_by f (range_with_len 0 t) + f t = ap (λ n. sum_by f (range_with_len 0 n)) next ∙ sum_by-range_last f t in
    omega arith
