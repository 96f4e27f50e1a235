-- Lists where a number is set, and slices that are written whole.
use Rattle.std.proofs.Common.{◌≡◌, ◌≢◌, ℕ, ◌<◌, ◌∙◌, ◌++◌, ap, arith, List, [], length, take, drop, get_or, set, get_or-set_same, get_or-set_other}
use Rattle.std.proofs.lemmas.List.{append-nil, take_all, drop_all}

-- what stands at j where the number at i was set
pub set_at : (xs : List ℕ) (i j x : ℕ) → i < length xs → (j ≡ i → get_or (set xs i x) j 0 ≡ x) × (j ≢ i → get_or (set xs i x) j 0 ≡ get_or xs j 0)
set_at xs i j x within = (λ e. ap (λ k. get_or (set xs i x) k 0) e ∙ get_or-set_same xs i x 0 within, λ n. get_or-set_other xs i j x 0 n)

-- a slice that is written whole
pub written : (xs new : List ℕ) (n : ℕ) → length new ≡ length xs → n ≡ length xs → take n (new ++ drop (length new) xs) ≡ new
written xs new n same len =
    let rest : drop (length new) xs ≡ [] = drop_all (length new) xs (omega arith) in
    ap (λ ys. take n (new ++ ys)) rest ∙ ap (take n) (append-nil new) ∙ take_all n new (omega arith)
