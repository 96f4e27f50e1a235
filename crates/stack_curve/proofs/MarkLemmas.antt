-- Marks are the leaves of a tree of sums.
use Rattle.std.proofs.Common.{◌≡◌, ℕ, zero, suc, ◌+◌, ◌-◌, ◌*◌, ◌<◌, ◌≤◌, ◌∙◌, sym, refl, ap, Bool, true, false, eqb, cond, List, ◌∷◌, length, set, drop, take, map, replicate, arith, count_by}
use Rattle.std.specs.Prelude.{slice_range}
use Rattle.std.proofs.lemmas.List.{length-map, map-set, drop-drop, drop-map, length-drop, drop_more, drop-replicate}
use Rattle.std.proofs.lemmas.List.Sums.{sum_by-cons}
use Rattle.sum_tree.specs.Sums.{sum_at, sum_from, IsTree}
use Rattle.stack_curve.specs.Marks.{marks_of}

-- no sums, no marks
pub marks-none : (places : ℕ) (sums : List ℕ) → sums ≡ replicate (2 * places) 0 → marks_of places sums ≡ replicate places false
marks-none places sums none =
    let half : 2 * places - places ≡ places = omega arith in
    ap (marks_of places) none
    ∙ ap (map (λ leaf. eqb leaf 1)) (drop-replicate places (2 * places) 0)
    ∙ ap (λ n. map (λ leaf. eqb leaf 1) (replicate n 0)) half
    ∙ no_marks places
  where
    no_marks : (n : ℕ) → map (λ leaf. eqb leaf 1) (replicate n 0) ≡ replicate n false
    no_marks zero = refl
    no_marks (suc n) = ap (λ xs. false ∷ xs) (no_marks n)

-- a mark for each place
pub length-marks_of : (places : ℕ) (sums : List ℕ) → length sums ≡ 2 * places → length (marks_of places sums) ≡ places
length-marks_of places sums long = omega (arith, length-map (drop places sums) (λ leaf. eqb leaf 1), length-drop places sums, long)

-- the marks among this many leaves are their sum
count-leaves : (sums : List ℕ) (node n : ℕ) → node + n ≤ length sums → ((i : ℕ) → node ≤ i → i < node + n → sum_at sums i ≤ 1)
    → count_by (λ on. on) (take n (map (λ leaf. eqb leaf 1) (drop node sums))) ≡ sum_from sums node n
count-leaves sums node zero within leaves = refl
count-leaves sums node (suc n) within leaves =
    ap (λ xs. count_by (λ on. on) (take (suc n) (map (λ leaf. eqb leaf 1) xs))) (drop_more sums node 0 (omega arith))
    ∙ sum_by-cons (λ (on : Bool). cond on 1 0) (eqb (sum_at sums node) 1) (take n (map (λ leaf. eqb leaf 1) (drop (node + 1) sums)))
    ∙ at (sum_at sums node) (leaves node (omega arith) (omega arith))
    (count-leaves sums (node + 1) n (omega arith) (λ i low high. leaves i (omega arith) (omega arith)))
  where
    at : (leaf : ℕ) → leaf ≤ 1 → count_by (λ on. on) (take n (map (λ s. eqb s 1) (drop (node + 1) sums))) ≡ sum_from sums (node + 1) n
        → cond (eqb leaf 1) 1 0 + count_by (λ on. on) (take n (map (λ s. eqb s 1) (drop (node + 1) sums))) ≡ leaf + sum_from sums (node + 1) n
    at zero bit rest = omega (arith, rest)
    at (suc leaf) bit rest = let e : leaf ≡ 0 = omega arith in rw e (omega (arith, rest))

-- one mark is set
pub marks-set : (bit : Bool → ℕ) (places place leaf : ℕ) (on : Bool) (old new sums : List ℕ) → sums ≡ new → drop places new ≡ set (drop places old) place leaf → bit true ≡ 1 → bit false ≡ 0 → leaf ≡ bit on
    → marks_of places sums ≡ set (marks_of places old) place on
marks-set bit places place leaf on old new sums here leaves set_bit clear_bit is =
    ap (marks_of places) here
    ∙ ap (map (λ s. eqb s 1)) leaves
    ∙ map-set (λ s. eqb s 1) (drop places old) place leaf
    ∙ ap (set (marks_of places old) place) (ap (λ s. eqb s 1) is ∙ at on)
  where
    at : (b : Bool) → eqb (bit b) 1 ≡ b
    at true = ap (λ s. eqb s 1) set_bit
    at false = ap (λ s. eqb s 1) clear_bit

-- a range of the marks counts the leaves there
pub marks-count : (places from to sum : ℕ) (marks : List Bool) (sums : List ℕ) → marks ≡ marks_of places sums → IsTree 1 places sums → from ≤ to → to ≤ places
    → sum ≡ sum_from sums (places + from) (to - from) → sum ≡ count_by (λ on. on) (slice_range marks from to)
marks-count places from to sum marks sums view tree order within counted =
    counted
    ∙ sym (count-leaves sums (places + from) (to - from) (omega (arith, tree.nodes)) (λ i low high. tree.leaves i (omega arith) (omega arith)))
    ∙ ap (λ xs. count_by (λ on. on) (take (to - from) (map (λ s. eqb s 1) xs))) (sym (drop-drop from places sums))
    ∙ ap (λ xs. count_by (λ on. on) (take (to - from) xs)) (sym (drop-map (λ s. eqb s 1) from (drop places sums)))
    ∙ ap (λ xs. count_by (λ on. on) (slice_range xs from to)) (sym view)
