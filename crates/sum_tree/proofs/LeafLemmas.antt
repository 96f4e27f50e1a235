-- The leaves of a tree of sums.
use Rattle.std.proofs.Common.{◌≡◌, ℕ, zero, suc, ◌+◌, ◌*◌, ◌≤◌, ◌∙◌, refl, ap, List, length, drop, take, arith, sum}
use Rattle.std.proofs.lemmas.List.{length-drop, drop_more}
use Rattle.std.proofs.lemmas.List.Sums.{sum_by-cons}
use Rattle.sum_tree.specs.Sums.{sum_at, sum_from}

-- one for each place
pub length-leaves : (places : ℕ) (sums : List ℕ) → length sums ≡ 2 * places → length (drop places sums) ≡ places
length-leaves places sums long = omega (arith, length-drop places sums, long)

-- some of them, summed
pub sum-leaves : (sums : List ℕ) (node n : ℕ) → node + n ≤ length sums → sum (take n (drop node sums)) ≡ sum_from sums node n
sum-leaves sums node zero within = refl
sum-leaves sums node (suc n) within =
    ap (λ xs. sum (take (suc n) xs)) (drop_more sums node 0 (omega arith))
    ∙ sum_by-cons (λ (x : ℕ). x) (sum_at sums node) (take n (drop (node + 1) sums))
    ∙ ap (λ m. sum_at sums node + m) (sum-leaves sums (node + 1) n (omega arith))
