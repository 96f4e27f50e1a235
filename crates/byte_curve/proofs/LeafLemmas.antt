-- The bytes at the places are the leaves of a tree of sums.
use Rattle.std.proofs.Common.{◌≡◌, ℕ, ◌+◌, ◌-◌, ◌≤◌, ◌^◌, ◌∙◌, sym, ap, List, set, drop, take, arith, sum}
use Rattle.std.specs.Prelude.{slice_range}
use Rattle.std.proofs.lemmas.List.{drop-drop}
use Rattle.sum_tree.specs.Sums.{sum_from, IsTree}
use Rattle.sum_tree.proofs.LeafLemmas.{sum-leaves}

-- one leaf is set
pub leaves-set : (places place leaf : ℕ) (old new sums : List ℕ) → sums ≡ new → drop places new ≡ set (drop places old) place leaf → drop places sums ≡ set (drop places old) place leaf
leaves-set places place leaf old new sums here leaves = ap (drop places) here ∙ leaves

-- a range is summed
pub leaves-sum : (places from to total : ℕ) (bytes sums : List ℕ) → bytes ≡ drop places sums → IsTree (2 ^ 48) places sums → from ≤ to → to ≤ places
    → total ≡ sum_from sums (places + from) (to - from) → total ≡ sum (slice_range bytes from to)
leaves-sum places from to total bytes sums view tree order within counted =
    counted
    ∙ sym (sum-leaves sums (places + from) (to - from) (omega (arith, tree.nodes)))
    ∙ ap (λ xs. sum (take (to - from) xs)) (sym (drop-drop from places sums))
    ∙ ap (λ xs. sum (slice_range xs from to)) (sym view)
