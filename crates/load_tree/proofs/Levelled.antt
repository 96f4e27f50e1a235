-- Loads in levels: how the values of a level, the greatest of a group and its load belong together.
use Rattle.std.proofs.Common.{◌≡◌, ℕ, suc, zero, ◌+◌, ◌-◌, ◌*◌, ◌/◌, ◌<◌, ◌≤◌, ◌∙◌, sym, refl, ap, subst, List, length, get_or, arith, ⊎_elim}
use Rattle.std.specs.Prelude.{min}
use Rattle.std.proofs.lemmas.Bool.{cases_lt}
use Rattle.load_tree.specs.Levels.{IsLevels, greatest, groups_of, load_at, most_of_group}

-- ---- the greatest of some values

pub greatest-le : (values : List ℕ) (from count i : ℕ) → i < count → get_or values (from + i) 0 ≤ greatest values from count
greatest-le values from zero i low = absurd (omega arith)
greatest-le values from (suc count) i low =
    ⊎_elim
    (λ (earlier : i < count). omega (arith, greatest-le values from count i earlier))
    (λ (last : count ≤ i). let e : i ≡ count = omega arith in rw e (omega arith))
    (cases_lt i count)

pub greatest_reached : (values : List ℕ) (from count : ℕ) → 0 < count → (i : ℕ) × (i < count) × (get_or values (from + i) 0 ≡ greatest values from count)
greatest_reached values from zero some = absurd (omega arith)
greatest_reached values from (suc zero) some = (0, omega arith, omega arith)
greatest_reached values from (suc (suc count)) some =
    let earlier = greatest_reached values from (suc count) (omega arith) in
    ⊎_elim
    (λ (less : greatest values from (suc count) < get_or values (from + suc count) 0). (suc count, omega arith, omega arith))
    (λ (enough : get_or values (from + suc count) 0 ≤ greatest values from (suc count)). (earlier.0, omega (arith, earlier.1), omega (arith, earlier.2)))
    (cases_lt (greatest values from (suc count)) (get_or values (from + suc count) 0))

pub greatest_same : (old new : List ℕ) (from count : ℕ) → ((i : ℕ) → i < count → get_or new (from + i) 0 ≡ get_or old (from + i) 0) → greatest new from count ≡ greatest old from count
greatest_same old new from zero same = refl
greatest_same old new from (suc count) same = omega (arith, greatest_same old new from count (λ i low. same i (omega arith)), same count (omega arith))

pub greatest_grown : (old new : List ℕ) (from count : ℕ) → ((p : ℕ) → get_or old p 0 ≤ get_or new p 0) → greatest old from count ≤ greatest new from count
greatest_grown old new from zero grown = omega arith
greatest_grown old new from (suc count) grown = omega (arith, greatest_grown old new from count grown, grown (from + count))

-- ---- groups

-- no value of a group is greater than its greatest
pub value-le-most : (values : List ℕ) (start count t : ℕ) → t < count → get_or values (start + t) 0 ≤ most_of_group values start count (t / 16)
value-le-most values start count t low =
    let at : start + 16 * (t / 16) + (t - 16 * (t / 16)) ≡ start + t = omega arith in
    rw at at (greatest-le values (start + 16 * (t / 16)) (min (16 * (t / 16) + 16) count - 16 * (t / 16)) (t - 16 * (t / 16)) (omega arith))

-- one is equal to it
pub most_reached : (values : List ℕ) (start count g : ℕ) → 16 * g < count → (t : ℕ) × (t < count) × (t / 16 ≡ g) × (get_or values (start + t) 0 ≡ most_of_group values start count g)
most_reached values start count g some =
    let found = greatest_reached values (start + 16 * g) (min (16 * g + 16) count - 16 * g) (omega arith) in
    let low : found.0 < min (16 * g + 16) count - 16 * g = found.1 in
    let at : start + (16 * g + found.0) ≡ start + 16 * g + found.0 = omega arith in
    (16 * g + found.0, omega arith, omega arith, ap (λ p. get_or values p 0) at ∙ found.2)

pub most_same : (old new : List ℕ) (start count g : ℕ) → ((t : ℕ) → t < count → t / 16 ≡ g → get_or new (start + t) 0 ≡ get_or old (start + t) 0) → most_of_group new start count g ≡ most_of_group old start count g
most_same old new start count g same =
    greatest_same old new (start + 16 * g) (min (16 * g + 16) count - 16 * g)
    (λ i low.
    let at : start + (16 * g + i) ≡ start + 16 * g + i = omega arith in
    rw at at (same (16 * g + i) (omega arith) (omega arith)))

pub most_grown : (old new : List ℕ) (start count g : ℕ) → ((p : ℕ) → get_or old p 0 ≤ get_or new p 0) → most_of_group old start count g ≤ most_of_group new start count g
most_grown old new start count g grown = greatest_grown old new (start + 16 * g) (min (16 * g + 16) count - 16 * g) grown

-- ---- loads

pub value-le-load : (height start count : ℕ) (values : List ℕ) (t : ℕ) → get_or values (start + t) 0 ≤ load_at height start count values t
value-le-load zero start count values t = omega arith
value-le-load (suc height) start count values t = omega arith

pub levels_within : (height start count : ℕ) (values : List ℕ) → IsLevels height start count values → start + count ≤ length values
levels_within zero start count values levels = omega (arith, levels.0)
levels_within (suc height) start count values levels = omega (arith, levels_within height (start + count) (groups_of count) values levels.1)

module _ (height start count : ℕ) (values : List ℕ) (levels : IsLevels (suc height) start count values) where
  -- the load of each group
  abbrev above : ℕ → ℕ
  above g = load_at height (start + count) (groups_of count) values g

  -- the greatest value of a group is within its load
  pub most-le-load : (g : ℕ) → 16 * g < count → most_of_group values start count g ≤ above g
  most-le-load g some = omega (arith, levels.0 g some, value-le-load height (start + count) (groups_of count) values g)

  -- a load with the greatest value of its group is its value with the load of its group
  pub load_sum : (t : ℕ) → t < count → load_at (suc height) start count values t + most_of_group values start count (t / 16) ≡ get_or values (start + t) 0 + above (t / 16)
  load_sum t low = omega (arith, most-le-load (t / 16) (omega arith))

  pub load-le-above : (t : ℕ) → t < count → load_at (suc height) start count values t ≤ above (t / 16)
  load-le-above t low = omega (arith, load_sum t low, value-le-most values start count t low)

  -- a load of a group is equal to that of the group
  pub above_reached : (g : ℕ) → 16 * g < count → (t : ℕ) × (t < count) × (t / 16 ≡ g) × (load_at (suc height) start count values t ≡ above g)
  above_reached g some =
      let found = most_reached values start count g some in
      let in_group : found.0 / 16 ≡ g = found.2 in
      let same = load_sum found.0 found.1 in
      (found.0, found.1, found.2, omega (arith, same, found.3, ap above in_group, ap (most_of_group values start count) in_group))

-- ---- values that agree from the start of a level on

pub load_same : (height start count : ℕ) (old new : List ℕ) → ((p : ℕ) → start ≤ p → get_or new p 0 ≡ get_or old p 0) → (t : ℕ) → load_at height start count new t ≡ load_at height start count old t
load_same zero start count old new same t = same (start + t) (omega arith)
load_same (suc height) start count old new same t =
    omega (
      arith,
      same (start + t) (omega arith),
      load_same height (start + count) (groups_of count) old new (λ p late. same p (omega arith)) (t / 16),
      most_same old new start count (t / 16) (λ i _ _. same (start + i) (omega arith)),
    )

pub levels_same : (height start count : ℕ) (old new : List ℕ) → length new ≡ length old → ((p : ℕ) → start ≤ p → get_or new p 0 ≡ get_or old p 0) → IsLevels height start count old → IsLevels height start count new
levels_same zero start count old new long same levels = (omega (arith, levels.0, long), levels.1)
levels_same (suc height) start count old new long same levels = (
  λ g some. omega (arith, levels.0 g some, most_same old new start count g (λ i _ _. same (start + i) (omega arith)), same (start + count + g) (omega arith)),
  levels_same height (start + count) (groups_of count) old new long (λ p late. same p (omega arith)) levels.1,
)

-- ---- a level and the one above

-- how the values and loads of a level belong to those of the one above
pub record IsBelow (height start count higher next groups : ℕ) (values : List ℕ) : Type 0 where
  pub levels : IsLevels higher next groups values
  pub most : (g : ℕ) → 16 * g < count → most_of_group values start count g ≤ get_or values (next + g) 0
  pub most_load : (g : ℕ) → 16 * g < count → most_of_group values start count g ≤ load_at higher next groups values g
  pub load_is : (t : ℕ) → t < count → load_at height start count values t + most_of_group values start count (t / 16) ≡ get_or values (start + t) 0 + load_at higher next groups values (t / 16)
  pub at_most : (t : ℕ) → t < count → load_at height start count values t ≤ load_at higher next groups values (t / 16)
  pub reached : (g : ℕ) → 16 * g < count → (t : ℕ) × (t < count) × (t / 16 ≡ g) × (load_at height start count values t ≡ load_at higher next groups values g)

pub below : (height start count higher next groups : ℕ) (values : List ℕ) → height ≡ higher + 1 → next ≡ start + count → groups ≡ groups_of count → IsLevels height start count values
    → IsBelow height start count higher next groups values
below height start count higher next groups values is_height is_next is_groups levels =
    let at : height ≡ suc higher = omega arith in
    let own : IsLevels (suc higher) start count values = subst (λ h. IsLevels h start count values) at levels in
    let whole : IsBelow (suc higher) start count higher (start + count) (groups_of count) values = record {
      levels = own.1;
      most = own.0;
      most_load = most-le-load higher start count values own;
      load_is = load_sum higher start count values own;
      at_most = load-le-above higher start count values own;
      reached = above_reached higher start count values own;
    } in
    subst (λ h. IsBelow h start count higher next groups values) (sym at) (subst (λ n. IsBelow (suc higher) start count higher n groups values) (sym is_next) (subst (λ n. IsBelow (suc higher) start count higher (start + count) n values) (sym is_groups) whole))

-- levels are such where the ones above are and no value there is less than the greatest of its group
pub levels_from : (height start count higher next groups : ℕ) (values : List ℕ) → height ≡ higher + 1 → next ≡ start + count → groups ≡ groups_of count
    → ((g : ℕ) → 16 * g < count → most_of_group values start count g ≤ get_or values (next + g) 0) → IsLevels higher next groups values → IsLevels height start count values
levels_from height start count higher next groups values is_height is_next is_groups most levels =
    let at : height ≡ suc higher = omega arith in
    subst (λ h. IsLevels h start count values) (sym at) (
      subst (λ n. (g : ℕ) → 16 * g < count → most_of_group values start count g ≤ get_or values (n + g) 0) is_next most,
      subst (λ n. IsLevels higher (start + count) n values) is_groups (subst (λ n. IsLevels higher n groups values) is_next levels),
    )
