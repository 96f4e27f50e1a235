-- One leaf is set: the sums above it are mended one by one.
use Rattle.std.proofs.Common.{◌≡◌, ℕ, zero, suc, ◌+◌, ◌-◌, ◌*◌, ◌/◌, ◌<◌, ◌≤◌, ◌^◌, ◌∙◌, sym, refl, ap, subst, ⊎_elim, List, length, map, set, get_or, arith}
use Rattle.std.proofs.lemmas.Bool.{cases_lt}
use Rattle.std.proofs.lemmas.List.{length-set, length-map, map-set, get_or-set_same, get_or-set_other}
use Rattle.std.proofs.Math.Nat.{mul-le-mul_left, mul-le-mul_right}
use Rattle.sum_tree.specs.Sums.{sum_at, sum_from, IsTree}
use Rattle.sum_tree.proofs.SumLemmas.{sum_from-last, sum_from-leaves, value-at}

-- half the sum of two products
halves : (a b j n : ℕ) → a * (2 * j) ≤ n → b * (2 * j + 1) ≤ n → (a + b) * j ≤ n
halves a b j n first second = grind (arith, first, second)

-- all is mended but the sum at the parent of this node
pub record IsMended (greatest places node : ℕ) (sums : List ℕ) : Type 0 where
  pub nodes : length sums ≡ 2 * places
  pub few : places < 2 ^ 32
  pub low : 1 ≤ node
  pub high : node < 2 * places
  pub leaves : (i : ℕ) → places ≤ i → i < 2 * places → sum_at sums i ≤ greatest
  pub before : (i : ℕ) → 1 ≤ i → i < places → i < node / 2 → sum_at sums i ≡ sum_at sums (2 * i) + sum_at sums (2 * i + 1)
  pub after : (i : ℕ) → 1 ≤ i → i < places → node / 2 < i → sum_at sums i ≡ sum_at sums (2 * i) + sum_at sums (2 * i + 1)
  pub small : (i : ℕ) → 1 ≤ i → i < 2 * places → sum_at sums i * i ≤ greatest * (2 * places)

-- one leaf is set
mended-leaf : (greatest places place leaf : ℕ) (sums : List ℕ) → IsTree greatest places sums → place < places → leaf ≤ greatest
    → IsMended greatest places (places + place) (set sums (places + place) leaf)
mended-leaf greatest places place leaf sums tree within small =
    let node : ℕ = places + place in
    let new : List ℕ = set sums node leaf in
    let long : length sums ≡ 2 * places = tree.nodes in
    let here : sum_at new node ≡ leaf = get_or-set_same sums node leaf 0 (omega (arith, long)) in
    let other : (i : ℕ) → (i ≡ node → ⊥) → sum_at new i ≡ sum_at sums i = λ i apart. get_or-set_other sums node i leaf 0 apart in
    record {
      nodes = length-set sums node leaf ∙ long;
      few = tree.few;
      low = omega arith;
      high = omega arith;
      leaves = λ i low high. at i node (λ e. subst (λ k. sum_at new k ≤ greatest) (sym e) (omega (arith, here)))
          (λ apart. omega (arith, other i apart, tree.leaves i low high));
      before = λ i low high less. other i (λ e. omega arith) ∙ tree.inner i low high ∙ sym (omega (arith, other (2 * i) (λ e. omega arith), other (2 * i + 1) (λ e. omega arith)));
      after = λ i low high more. other i (λ e. omega arith) ∙ tree.inner i low high ∙ sym (omega (arith, other (2 * i) (λ e. omega arith), other (2 * i + 1) (λ e. omega arith)));
      small = λ i low high. at i node
          (λ e. subst (λ k. sum_at new k * k ≤ greatest * (2 * places)) (sym e) (small-leaf (sum_at new node) node places (omega (arith, here)) (omega arith)))
          (λ apart. subst (λ s. s * i ≤ greatest * (2 * places)) (sym (other i apart)) (tree.small i low high));
    }
  where
    at : {P : Type 0} (i j : ℕ) → (i ≡ j → P) → ((i ≡ j → ⊥) → P) → P
    at i j same apart =
        ⊎_elim (λ (less : i < j). apart (λ e. omega arith))
        (λ (more : j ≤ i). ⊎_elim (λ (beyond : j < i). apart (λ e. omega arith)) (λ (no : i ≤ j). same (omega arith)) (cases_lt j i))
        (cases_lt i j)

    small-leaf : (b n m : ℕ) → b ≤ greatest → n ≤ 2 * m → b * n ≤ greatest * (2 * m)
    small-leaf b n m low few = let one : b * n ≤ greatest * n = mul-le-mul_right n low in let two : greatest * n ≤ greatest * (2 * m) = mul-le-mul_left greatest few in omega arith

-- the sum at the parent is mended
mended-parent : (greatest places node : ℕ) (sums : List ℕ) → 1 < node → IsMended greatest places node sums
    → IsMended greatest places (node / 2) (set sums (node / 2) (sum_at sums (2 * (node / 2)) + sum_at sums (2 * (node / 2) + 1)))
mended-parent greatest places node sums inner mended =
    let j : ℕ = node / 2 in
    let sum : ℕ = sum_at sums (2 * j) + sum_at sums (2 * j + 1) in
    let new : List ℕ = set sums j sum in
    let long : length sums ≡ 2 * places = mended.nodes in
    let high : node < 2 * places = mended.high in
    let here : sum_at new j ≡ sum = get_or-set_same sums j sum 0 (omega (arith, long)) in
    let other : (i : ℕ) → (i ≡ j → ⊥) → sum_at new i ≡ sum_at sums i = λ i apart. get_or-set_other sums j i sum 0 apart in
    let own : sum_at new j ≡ sum_at new (2 * j) + sum_at new (2 * j + 1) = omega (arith, here, other (2 * j) (λ e. omega arith), other (2 * j + 1) (λ e. omega arith)) in
    let kept : (i : ℕ) → (i ≡ j → ⊥) → (2 * i ≡ j → ⊥) → (2 * i + 1 ≡ j → ⊥) → sum_at sums i ≡ sum_at sums (2 * i) + sum_at sums (2 * i + 1) → sum_at new i ≡ sum_at new (2 * i) + sum_at new (2 * i + 1) =
    λ i a b c old. other i a ∙ old ∙ omega (arith, other (2 * i) b, other (2 * i + 1) c) in
    record {
      nodes = length-set sums j sum ∙ long;
      few = mended.few;
      low = omega arith;
      high = omega arith;
      leaves = λ i low within. omega (arith, other i (λ e. omega arith), mended.leaves i low within);
      before = λ i low within less. kept i (λ e. omega arith) (λ e. omega arith) (λ e. omega arith) (mended.before i low within (omega arith));
      after = λ i low within more.
          ⊎_elim (λ (beyond : j < i). kept i (λ e. omega arith) (λ e. omega arith) (λ e. omega arith) (mended.after i low within beyond))
          (λ (up : i ≤ j). ⊎_elim
          (λ (less : i < j). kept i (λ e. omega arith) (λ e. omega arith) (λ e. omega arith) (mended.before i low within less))
          (λ (no : j ≤ i). let e : j ≡ i = omega arith in subst (λ k. sum_at new k ≡ sum_at new (2 * k) + sum_at new (2 * k + 1)) e own)
          (cases_lt i j))
          (cases_lt j i);
      small = λ i low within.
          ⊎_elim (λ (beyond : j < i). subst (λ s. s * i ≤ greatest * (2 * places)) (sym (other i (λ e. omega arith))) (mended.small i low within))
          (λ (up : i ≤ j). ⊎_elim
          (λ (less : i < j). subst (λ s. s * i ≤ greatest * (2 * places)) (sym (other i (λ e. omega arith))) (mended.small i low within))
          (λ (no : j ≤ i). let e : j ≡ i = omega arith in
          subst (λ k. sum_at new k * k ≤ greatest * (2 * places)) e
          (subst (λ s. s * j ≤ greatest * (2 * places)) (sym here)
          (halves (sum_at sums (2 * j)) (sum_at sums (2 * j + 1)) j (greatest * (2 * places)) (mended.small (2 * j) (omega arith) (omega arith)) (mended.small (2 * j + 1) (omega arith) (omega arith)))))
          (cases_lt i j))
          (cases_lt j i);
    }

-- the sums at the nodes from k to 2k - 1 are those from 2 to 3, summed
levels : (sums : List ℕ) (places : ℕ) → ((i : ℕ) → 2 ≤ i → i < places → sum_at sums i ≡ sum_at sums (2 * i) + sum_at sums (2 * i + 1))
    → (n : ℕ) → 2 + n ≤ places → sum_from sums 2 2 ≡ sum_from sums (2 + n) (2 + n)
levels sums places inner zero within = refl
levels sums places inner (suc n) within =
    let k : ℕ = 2 + n in
    let longer : 2 + suc n ≡ suc (suc (suc n)) = omega arith in
    let shorter : k ≡ suc (suc n) = omega arith in
    let next : 2 + suc n ≡ k + 1 = omega arith in
    let even : k + 1 + suc n ≡ 2 * k = omega arith in
    let odd : k + 1 + suc (suc n) ≡ 2 * k + 1 = omega arith in
    let before : sum_from sums k k ≡ sum_at sums k + sum_from sums (k + 1) (suc n) = ap (sum_from sums k) shorter in
    let after : sum_from sums (2 + suc n) (2 + suc n) ≡ sum_from sums (k + 1) (suc (suc (suc n))) = ap (λ m. sum_from sums m (2 + suc n)) next ∙ ap (sum_from sums (k + 1)) longer in
    omega (
      arith,
      levels sums places inner n (omega arith),
      before,
      after,
      sum_from-last sums (k + 1) (suc (suc n)),
      sum_from-last sums (k + 1) (suc n),
      ap (sum_at sums) even,
      ap (sum_at sums) odd,
      inner k (omega arith) (omega arith),
    )

-- twice what is at most this much in many
twice : (s j n : ℕ) → 2 ≤ j → s * j ≤ 2 * n → s ≤ n
twice s j n two few = let more : s * 2 ≤ s * j = mul-le-mul_left s two in omega arith

-- the sum at the parent is no more than all leaves can have together
parent-small : (greatest places node : ℕ) (sums : List ℕ) → 1 < node → IsMended greatest places node sums
    → sum_at sums (2 * (node / 2)) + sum_at sums (2 * (node / 2) + 1) ≤ greatest * places
parent-small greatest places node sums inner mended =
    let high : node < 2 * places = mended.high in
    let j : ℕ = node / 2 in
    let double : greatest * (2 * places) ≡ 2 * (greatest * places) = grind arith in
    ⊎_elim
    (λ (deep : 1 < j).
    let both : (sum_at sums (2 * j) + sum_at sums (2 * j + 1)) * j ≤ greatest * (2 * places) =
    halves _ _ j (greatest * (2 * places)) (mended.small (2 * j) (omega arith) (omega arith)) (mended.small (2 * j + 1) (omega arith) (omega arith)) in
    twice _ j (greatest * places) deep (omega arith))
    (λ (root : j ≤ 1).
    let one : j ≡ 1 = omega arith in
    let end : 2 + (places - 2) ≡ places = omega arith in
    let all : sum_from sums 2 2 ≡ sum_from sums places places =
    levels sums places (λ i low within. mended.after i (omega arith) within (omega arith)) (places - 2) (omega arith) ∙ ap (λ k. sum_from sums k k) end in
    omega (
      arith,
      all,
      sum_from-leaves greatest places sums mended.leaves places places (omega arith) (omega arith),
      ap (λ k. sum_at sums (2 * k)) one,
      ap (λ k. sum_at sums (2 * k + 1)) one,
    ))
    (cases_lt 1 j)

-- nothing is left to mend above the root
pub mended-tree : (greatest places node : ℕ) (sums : List ℕ) → node ≤ 1 → IsMended greatest places node sums → IsTree greatest places sums
mended-tree greatest places node sums end mended = record {
  nodes = mended.nodes;
  few = mended.few;
  leaves = mended.leaves;
  inner = λ i low high. mended.after i low high (omega arith);
  small = mended.small;
}

-- a leaf is set
pub leaf-set : {A : Type 0} (value : A → ℕ) (greatest places place : ℕ) (sums : List A) (leaf : A) → IsTree greatest places (map value sums) → place < places → value leaf ≤ greatest
    → IsMended greatest places (places + place) (map value (set sums (places + place) leaf))
leaf-set value greatest places place sums leaf tree within small =
    subst (IsMended greatest places (places + place)) (sym (map-set value sums (places + place) leaf)) (mended-leaf greatest places place (value leaf) (map value sums) tree within small)

module _ {A : Type 0} (value : A → ℕ) (greatest places node : ℕ) (sums : List A) (left right : A) (inner : 1 < node) (mended : IsMended greatest places node (map value sums)) (is_left : left ≡ get_or sums (2 * (node / 2)) left) (is_right : right ≡ get_or sums (2 * (node / 2) + 1) right) where
  children : value left + value right ≡ sum_at (map value sums) (2 * (node / 2)) + sum_at (map value sums) (2 * (node / 2) + 1)
  children =
      let long : length sums ≡ 2 * places = sym (length-map sums value) ∙ mended.nodes in
      let high : node < 2 * places = mended.high in
      omega (arith, value-at value sums (2 * (node / 2)) left (omega arith) is_left, value-at value sums (2 * (node / 2) + 1) right (omega arith) is_right)

  -- the sum at a parent fits
  pub parent-fits : (limit : ℕ) → greatest * places < limit → value left + value right < limit
  parent-fits limit fits = omega (arith, children, parent-small greatest places node (map value sums) inner mended)

  -- the sum at a parent is set
  pub parent-set : (both : A) → value both ≡ value left + value right → IsMended greatest places (node / 2) (map value (set sums (node / 2) both))
  parent-set both is =
      subst (IsMended greatest places (node / 2))
      (ap (set (map value sums) (node / 2)) (sym (is ∙ children)) ∙ sym (map-set value sums (node / 2) both))
      (mended-parent greatest places node (map value sums) inner mended)
