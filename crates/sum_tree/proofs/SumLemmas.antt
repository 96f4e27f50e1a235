-- Sums of nodes: those of leaves, and what a range of leaves has so far.
use Rattle.std.proofs.Common.{◌≡◌, ℕ, zero, suc, ◌+◌, ◌-◌, ◌*◌, ◌/◌, ◌%◌, ◌<◌, ◌≤◌, ◌^◌, ◌∙◌, sym, refl, ap, subst, ⊎_elim, List, length, map, drop, replicate, get_or, arith}
use Rattle.std.proofs.lemmas.Bool.{cases_lt}
use Rattle.std.proofs.lemmas.List.{length-map, get_or-map, get_or-replicate, length-replicate, drop-replicate}
use Rattle.std.proofs.Math.Nat.{mul-suc, mul-le-mul_left}
use Rattle.sum_tree.specs.Sums.{sum_at, sum_from, IsTree}

-- one more at the end
pub sum_from-last : (sums : List ℕ) (node n : ℕ) → sum_from sums node (suc n) ≡ sum_from sums node n + sum_at sums (node + n)
sum_from-last sums node zero = let e : node + 0 ≡ node = omega arith in rw e (omega arith)
sum_from-last sums node (suc n) = let e : node + 1 + n ≡ node + suc n = omega arith in omega (arith, sum_from-last sums (node + 1) n, ap (sum_at sums) e)

-- no leaf is above the greatest
pub sum_from-leaves : (greatest places : ℕ) (sums : List ℕ) → ((i : ℕ) → places ≤ i → i < 2 * places → sum_at sums i ≤ greatest) → (node n : ℕ) → places ≤ node → node + n ≤ 2 * places → sum_from sums node n ≤ greatest * n
sum_from-leaves greatest places sums leaves node zero low high = omega arith
sum_from-leaves greatest places sums leaves node (suc n) low high =
    omega (arith, mul-suc greatest n, leaves node low (omega arith), sum_from-leaves greatest places sums leaves (node + 1) n (omega arith) (omega arith))

-- a range of leaves is summed but for the nodes from `low` to the one before `high`
pub record IsCounted (places from to : ℕ) (sums : List ℕ) (low high sum : ℕ) : Type 0 where
  pub order : low ≤ high
  pub within : high ≤ 2 * places
  pub first : low < high → 1 ≤ low
  pub so_far : sum + sum_from sums low (high - low) ≡ sum_from sums (places + from) (to - from)

-- the children's sums are those of their parents
pub sum_from-children : (greatest places : ℕ) (sums : List ℕ) (a n : ℕ) → IsTree greatest places sums → 1 ≤ a → a + n ≤ places → sum_from sums (2 * a) (2 * n) ≡ sum_from sums a n
sum_from-children greatest places sums a zero tree low high = refl
sum_from-children greatest places sums a (suc n) tree low high =
    let two : 2 * suc n ≡ suc (suc (2 * n)) = omega arith in
    let next : 2 * a + 1 + 1 ≡ 2 * (a + 1) = omega arith in
    ap (sum_from sums (2 * a)) two
    ∙ omega (
      arith,
      ap (λ k. sum_from sums k (2 * n)) next,
      sum_from-children greatest places sums (a + 1) n tree (omega arith) (omega arith),
      tree.inner a low (omega arith),
    )

module _ (greatest places from to : ℕ) (sums : List ℕ) (tree : IsTree greatest places sums) (order : from ≤ to) (within : to ≤ places) where
  -- a sum so far is no more than all leaves can have together
  sum-small : (low high sum : ℕ) → IsCounted places from to sums low high sum → sum ≤ greatest * places
  sum-small low high sum counted =
      let some : greatest * (to - from) ≤ greatest * places = mul-le-mul_left greatest (omega arith) in
      omega (arith, counted.so_far, sum_from-leaves greatest places sums tree.leaves (places + from) (to - from) (omega arith) (omega arith))

  -- an odd lower end is counted
  low-odd : (low high sum : ℕ) → low < high → low % 2 ≡ 1 → IsCounted places from to sums low high sum
      → IsCounted places from to sums (low + 1) high (sum + sum_at sums low) × ((low + 1) % 2 ≡ 0)
  low-odd low high sum some odd counted =
      let more : high - low ≡ suc (high - (low + 1)) = omega arith in (
        record {
          order = omega arith;
          within = counted.within;
          first = λ _. omega arith;
          so_far = omega (arith, counted.so_far, ap (sum_from sums low) more);
        },
        omega arith,
      )

  -- and then an odd upper end
  high-odd : (low high sum : ℕ) → low % 2 ≡ 0 → high % 2 ≡ 1 → IsCounted places from to sums low high sum
      → IsCounted places from to sums low (high - 1) (sum + sum_at sums (high - 1)) × ((high - 1) % 2 ≡ 0)
  high-odd low high sum even odd counted =
      let bound : low ≤ high = counted.order in
      let more : high - low ≡ suc (high - 1 - low) = omega arith in
      let end : low + (high - 1 - low) ≡ high - 1 = omega arith in (
        record {
          order = omega arith;
          within = omega (arith, counted.within);
          first = λ less. counted.first (omega arith);
          so_far = omega (arith, counted.so_far, ap (sum_from sums low) more, sum_from-last sums low (high - 1 - low), ap (sum_at sums) end);
        },
        omega arith,
      )

  -- and then the parents stand for their children
  pub parents : (low high sum : ℕ) → low % 2 ≡ 0 → high % 2 ≡ 0 → IsCounted places from to sums low high sum → IsCounted places from to sums (low / 2) (high / 2) sum
  parents low high sum even_low even_high counted =
      let bound : low ≤ high = counted.order in
      let top : high ≤ 2 * places = counted.within in
      record {
        order = omega arith;
        within = omega arith;
        first = λ less. omega (arith, counted.first (omega arith));
        so_far = ⊎_elim
            (λ (less : low < high).
            let first : 1 ≤ low = counted.first less in
            let a : low ≡ 2 * (low / 2) = omega arith in
            let n : high - low ≡ 2 * (high / 2 - low / 2) = omega arith in
            omega (arith, counted.so_far, ap (λ k. sum_from sums k (high - low)) a, ap (sum_from sums (2 * (low / 2))) n, sum_from-children greatest places sums (low / 2) (high / 2 - low / 2) tree (omega arith) (omega arith)))
            (λ (no : high ≤ low).
            let n : high - low ≡ 0 = omega arith in
            let m : high / 2 - low / 2 ≡ 0 = omega arith in
            omega (arith, counted.so_far, ap (sum_from sums low) n, ap (sum_from sums (low / 2)) m))
            (cases_lt low high);
      }

-- the sum at a node is the value that stands there
pub value-at : {A : Type 0} (value : A → ℕ) (sums : List A) (node : ℕ) (here : A) → node < length sums → here ≡ get_or sums node here → value here ≡ sum_at (map value sums) node
value-at value sums node here within is = ap value is ∙ sym (get_or-map value sums node here 0 within)

module _ {A : Type 0} (value : A → ℕ) (greatest places from to : ℕ) (sums : List A) (tree : IsTree greatest places (map value sums)) (order : from ≤ to) (within : to ≤ places) (low high : ℕ) (sum here : A) where
  module _ (some : low < high) (odd : low % 2 ≡ 1) (counted : IsCounted places from to (map value sums) low high (value sum)) (is : here ≡ get_or sums low here) where
    at_low : value here ≡ sum_at (map value sums) low
    at_low =
        let top : high ≤ 2 * places = counted.within in
        let long : length sums ≡ 2 * places = sym (length-map sums value) ∙ tree.nodes in
        value-at value sums low here (omega arith) is

    -- an odd lower end is added
    pub low-added : (more : A) → value more ≡ value sum + value here → IsCounted places from to (map value sums) (low + 1) high (value more) × ((low + 1) % 2 ≡ 0)
    low-added more gives =
        subst (λ n. IsCounted places from to (map value sums) (low + 1) high n × ((low + 1) % 2 ≡ 0)) (sym (gives ∙ ap (λ n. value sum + n) at_low))
        (low-odd greatest places from to (map value sums) tree order within low high (value sum) some odd counted)

    -- and that sum fits
    pub low-fits : (limit : ℕ) → greatest * places < limit → value sum + value here < limit
    low-fits limit fits =
        omega (arith, at_low, sum-small greatest places from to (map value sums) tree order within _ _ _ (low-odd greatest places from to (map value sums) tree order within low high (value sum) some odd counted).0)

  module _ (even : low % 2 ≡ 0) (odd : high % 2 ≡ 1) (counted : IsCounted places from to (map value sums) low high (value sum)) (is : here ≡ get_or sums (high - 1) here) where
    at_high : value here ≡ sum_at (map value sums) (high - 1)
    at_high =
        let top : high ≤ 2 * places = counted.within in
        let long : length sums ≡ 2 * places = sym (length-map sums value) ∙ tree.nodes in
        value-at value sums (high - 1) here (omega arith) is

    -- then an odd upper end is added
    pub high-added : (more : A) → value more ≡ value sum + value here → IsCounted places from to (map value sums) low (high - 1) (value more) × ((high - 1) % 2 ≡ 0)
    high-added more gives =
        subst (λ n. IsCounted places from to (map value sums) low (high - 1) n × ((high - 1) % 2 ≡ 0)) (sym (gives ∙ ap (λ n. value sum + n) at_high))
        (high-odd greatest places from to (map value sums) tree order within low high (value sum) even odd counted)

    -- and that sum fits
    pub high-fits : (limit : ℕ) → greatest * places < limit → value sum + value here < limit
    high-fits limit fits =
        omega (arith, at_high, sum-small greatest places from to (map value sums) tree order within _ _ _ (high-odd greatest places from to (map value sums) tree order within low high (value sum) even odd counted).0)

-- every sum of no leaf is 0
pub tree-none : (greatest places : ℕ) (sums : List ℕ) → places < 2 ^ 32 → sums ≡ replicate (2 * places) 0 → IsTree greatest places sums
tree-none greatest places sums few none =
    let nothing : (i : ℕ) → i < 2 * places → sum_at sums i ≡ 0 = λ i within. ap (λ xs. sum_at xs i) none ∙ get_or-replicate (2 * places) i 0 0 within in
    record {
      nodes = ap length none ∙ length-replicate (2 * places) 0;
      few = few;
      leaves = λ i low high. omega (arith, nothing i high);
      inner = λ i low high. omega (arith, nothing i (omega arith), nothing (2 * i) (omega arith), nothing (2 * i + 1) (omega arith));
      small = λ i low high. subst (λ s. s * i ≤ greatest * (2 * places)) (sym (nothing i high)) (omega arith);
    }

-- the leaves of a tree of no sums
pub leaves-none : (places : ℕ) (sums : List ℕ) → sums ≡ replicate (2 * places) 0 → drop places sums ≡ replicate places 0
leaves-none places sums none =
    let half : 2 * places - places ≡ places = omega arith in
    ap (drop places) none ∙ drop-replicate places (2 * places) 0 ∙ ap (λ n. replicate n 0) half
