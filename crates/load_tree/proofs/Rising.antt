-- How the loads of a level rise, by how its groups rise above.
use Rattle.std.proofs.Common.{◌≡◌, ◌≢◌, ℕ, ◌+◌, ◌-◌, ◌*◌, ◌/◌, ◌<◌, ◌≤◌, ◌∙◌, sym, refl, ap, subst, inl, inr, List, length, get_or, arith, ⊎_elim}
use Rattle.std.specs.Prelude.{◌⊎◌}
use Rattle.std.proofs.lemmas.Bool.{cases_lt, cases_order}
use Rattle.load_tree.specs.Levels.{EndsRise, IsLevels, IsRaised, load_at, groups_of, most_of_group}
use Rattle.load_tree.proofs.Levelled.{IsBelow, below, levels_from, levels_same, load_same, most_same, most_grown, most_reached}

-- the highest level rises where its values do
pub top_raised : (height start count : ℕ) (old new : List ℕ) (low low_by high high_by between : ℕ) → height ≡ 0 → IsLevels height start count old → high < count → low ≤ high → EndsRise start old new low low_by high high_by between
    → IsRaised height start count old new low low_by high high_by between
top_raised height start count old new low low_by high high_by between is_top levels within order ends =
    let few : (start + count ≡ length old) × (count ≤ 16) = subst (λ h. IsLevels h start count old) is_top levels in
    let narrow = few.1 in
    subst (λ h. IsRaised h start count old new low low_by high high_by between) (sym is_top)
    (record {
      same_length = ends.same_length;
      levels = (omega (arith, few.0, ends.same_length), few.1);
      loads = record {
        at_low = ends.at_low;
        at_high = ends.at_high;
        inside = λ t first last. ends.left t first last (omega arith);
        before = λ t early. ends.before (start + t) (omega arith);
        after = λ t late _. ends.after (start + t) (omega arith);
      };
      low_value = ends.at_low;
      high_value = ends.at_high;
      grown = λ p. ⊎_elim
          (λ (early : p < start + low). omega (arith, ends.before p early))
          (λ (other : start + low ≤ p). ⊎_elim
          (λ (late : start + high < p). omega (arith, ends.after p late))
          (λ (inside : p ≤ start + high).
          let t : ℕ = p - start in
          let at : start + t ≡ p = omega arith in
          rw at at (narrow_grown t (omega arith) (omega arith) narrow))
          (cases_lt (start + high) p))
          (cases_lt p (start + low));
      below = λ p early. ends.before p (omega arith);
    })
  where
    narrow_grown : (t : ℕ) → low ≤ t → t ≤ high → count ≤ 16 → get_or old (start + t) 0 ≤ get_or new (start + t) 0
    narrow_grown t first last narrow =
        ⊎_elim
        (λ (at_low : t ≡ low). omega (arith, ap (λ i. get_or old (start + i) 0) at_low, ap (λ i. get_or new (start + i) 0) at_low, ends.at_low))
        (λ (other : (t < low) ⊎ (low < t)).
        ⊎_elim
        (λ (at_high : t ≡ high). omega (arith, ap (λ i. get_or old (start + i) 0) at_high, ap (λ i. get_or new (start + i) 0) at_high, ends.at_high (omega arith)))
        (λ (apart : (t < high) ⊎ (high < t)). omega (arith, ends.left t (omega arith) (omega arith) (omega arith)))
        (cases_order t high))
        (cases_order t low)

module _ (height start count higher next groups : ℕ) (old mid : List ℕ) (low low_by high high_by between : ℕ) (is_height : height ≡ higher + 1) (is_next : next ≡ start + count) (is_groups : groups ≡ groups_of count)
    (levels : IsLevels height start count old) (order : low ≤ high) (within : high < count) (ends : EndsRise start old mid low low_by high high_by between) where
  abbrev is_below : IsBelow height start count higher next groups old
  is_below = below height start count higher next groups old is_height is_next is_groups levels

  above_same : (p : ℕ) → next ≤ p → get_or mid p 0 ≡ get_or old p 0
  above_same p late = ends.after p (omega arith)

  load_above_same : (g : ℕ) → load_at higher next groups mid g ≡ load_at higher next groups old g
  load_above_same g = load_same higher next groups old mid above_same g

  -- ---- the values of the level

  grown_at : (t : ℕ) → get_or old (start + t) 0 ≤ get_or mid (start + t) 0
  grown_at t =
      ⊎_elim
      (λ (at_low : t ≡ low). omega (arith, ap (λ i. get_or old (start + i) 0) at_low, ap (λ i. get_or mid (start + i) 0) at_low, ends.at_low))
      (λ (off_low : (t < low) ⊎ (low < t)).
      ⊎_elim
      (λ (early : t < low). omega (arith, ends.before (start + t) (omega arith)))
      (λ (later : low < t).
      ⊎_elim
      (λ (at_high : t ≡ high). omega (arith, ap (λ i. get_or old (start + i) 0) at_high, ap (λ i. get_or mid (start + i) 0) at_high, ends.at_high (omega arith)))
      (λ (off_high : (t < high) ⊎ (high < t)).
      ⊎_elim
      (λ (inside : t < high).
      ⊎_elim
      (λ (in_left : t / 16 ≡ low / 16). omega (arith, ends.left t later inside in_left))
      (λ (off_left : (t / 16 < low / 16) ⊎ (low / 16 < t / 16)).
      ⊎_elim
      (λ (in_right : t / 16 ≡ high / 16). omega (arith, ends.right t later inside in_right))
      (λ (off_right : (t / 16 < high / 16) ⊎ (high / 16 < t / 16)). omega (arith, ends.inner t (omega arith) (omega arith)))
      (cases_order (t / 16) (high / 16)))
      (cases_order (t / 16) (low / 16)))
      (λ (late : high < t). omega (arith, ends.after (start + t) (omega arith)))
      off_high)
      (cases_order t high))
      off_low)
      (cases_order t low)

  pub mid_grown : (p : ℕ) → get_or old p 0 ≤ get_or mid p 0
  mid_grown p =
      ⊎_elim
      (λ (early : p < start). omega (arith, ends.before p (omega arith)))
      (λ (late : start ≤ p).
      let at : start + (p - start) ≡ p = omega arith in
      rw at at (grown_at (p - start)))
      (cases_lt p start)

  -- ---- the groups

  -- a group that is neither of the two has the values that it had
  other_same : (g : ℕ) → g ≢ low / 16 → g ≢ high / 16 → (t : ℕ) → t / 16 ≡ g → get_or mid (start + t) 0 ≡ get_or old (start + t) 0
  other_same g off_left off_right t in_group =
      ⊎_elim
      (λ (early : g < low / 16). ends.before (start + t) (omega arith))
      (λ (after_left : low / 16 ≤ g).
      ⊎_elim
      (λ (late : high / 16 < g). ends.after (start + t) (omega arith))
      (λ (before_right : g ≤ high / 16). ends.inner t (omega arith) (omega arith))
      (cases_lt (high / 16) g))
      (cases_lt g (low / 16))

  other_most : (g : ℕ) → g ≢ low / 16 → g ≢ high / 16 → most_of_group mid start count g ≡ most_of_group old start count g
  other_most g off_left off_right = most_same old mid start count g (λ t _ in_group. other_same g off_left off_right t in_group)

  -- ---- what is asked of the groups

  module _ (limit : ℕ) (small : (t : ℕ) → t < count → load_at height start count old t < limit) (low_room : load_at height start count old low + low_by < limit) (high_room : low < high → load_at height start count old high + high_by < limit)
      (room : (t : ℕ) → low < t → t < high → load_at height start count old t + between < limit) where
    room_inside : (t : ℕ) → low < t → t < high → (t / 16 ≡ low / 16) ⊎ (t / 16 ≡ high / 16) → load_at height start count old t + get_or mid (start + t) 0 < limit + get_or old (start + t) 0
    room_inside t first last at_end =
        ⊎_elim
        (λ (in_left : t / 16 ≡ low / 16). omega (arith, room t first last, ends.left t first last in_left))
        (λ (in_right : t / 16 ≡ high / 16). omega (arith, room t first last, ends.right t first last in_right))
        at_end

    room_at : (t : ℕ) → t < count → (t / 16 ≡ low / 16) ⊎ (t / 16 ≡ high / 16) → load_at height start count old t + get_or mid (start + t) 0 < limit + get_or old (start + t) 0
    room_at t short at_end =
        ⊎_elim
        (λ (at_low : t ≡ low). omega (arith, low_room, ends.at_low, ap (load_at height start count old) at_low, ap (λ i. get_or old (start + i) 0) at_low, ap (λ i. get_or mid (start + i) 0) at_low))
        (λ (off_low : (t < low) ⊎ (low < t)).
        ⊎_elim
        (λ (early : t < low). omega (arith, ends.before (start + t) (omega arith), small t short))
        (λ (later : low < t).
        ⊎_elim
        (λ (at_high : t ≡ high). omega (arith, high_room (omega arith), ends.at_high (omega arith), ap (load_at height start count old) at_high, ap (λ i. get_or old (start + i) 0) at_high, ap (λ i. get_or mid (start + i) 0) at_high))
        (λ (off_high : (t < high) ⊎ (high < t)).
        ⊎_elim
        (λ (inside : t < high). room_inside t later inside at_end)
        (λ (late : high < t). omega (arith, ends.after (start + t) (omega arith), small t short))
        off_high)
        (cases_order t high))
        off_low)
        (cases_order t low)

    group_room : (g : ℕ) → 16 * g < count → (g ≡ low / 16) ⊎ (g ≡ high / 16) → load_at higher next groups mid g + (most_of_group mid start count g - most_of_group old start count g) < limit
    group_room g some at_end =
        let found = most_reached mid start count g some in
        let in_group : found.0 / 16 ≡ g = found.2 in
        let fits = room_at found.0 found.1 (subst (λ i. (i ≡ low / 16) ⊎ (i ≡ high / 16)) (sym in_group) at_end) in
        omega (
          arith,
          fits,
          found.3,
          is_below.load_is found.0 found.1,
          load_above_same g,
          most_grown old mid start count g mid_grown,
          ap (most_of_group old start count) in_group,
          ap (load_at higher next groups old) in_group,
        )

    pub left_room : load_at higher next groups mid (low / 16) + (most_of_group mid start count (low / 16) - most_of_group old start count (low / 16)) < limit
    left_room = group_room (low / 16) (omega arith) (inl refl)

    pub right_room : load_at higher next groups mid (high / 16) + (most_of_group mid start count (high / 16) - most_of_group old start count (high / 16)) < limit
    right_room = group_room (high / 16) (omega arith) (inr refl)

    pub inner_room : (g : ℕ) → low / 16 < g → g < high / 16 → load_at higher next groups mid g + between < limit
    inner_room g first last =
        let found = is_below.reached g (omega arith) in
        let in_group : found.0 / 16 ≡ g = found.2 in
        omega (arith, load_above_same g, found.3, room found.0 (omega arith) (omega arith))

    pub small_room : (g : ℕ) → 16 * g < count → load_at higher next groups mid g < limit
    small_room g some =
        let found = is_below.reached g some in
        omega (arith, load_above_same g, found.3, small found.0 found.1)

  pub mid_levels : IsLevels higher next groups mid
  mid_levels = levels_same higher next groups old mid ends.same_length above_same is_below.levels

  -- nothing rises above where both places are in one group and its greatest value stays
  pub none_raised : (by_right : ℕ) → low / 16 ≡ high / 16 → IsRaised higher next groups mid mid (low / 16) 0 (high / 16) by_right between
  none_raised by_right together = record {
    same_length = refl;
    levels = mid_levels;
    loads = record {
      at_low = omega arith;
      at_high = λ apart. absurd (omega arith);
      inside = λ t first last. absurd (omega arith);
      before = λ t early. refl;
      after = λ t late _. refl;
    };
    low_value = omega arith;
    high_value = λ apart. absurd (omega arith);
    grown = λ p. omega arith;
    below = λ p early. refl;
  }

  module _ (new : List ℕ) (up : IsRaised higher next groups mid new (low / 16) (most_of_group mid start count (low / 16) - most_of_group old start count (low / 16)) (high / 16) (most_of_group mid start count (high / 16) - most_of_group old start count (high / 16)) between) where
    own_same : (t : ℕ) → t < count → get_or new (start + t) 0 ≡ get_or mid (start + t) 0
    own_same t short = up.below (start + t) (omega arith)

    own_most : (g : ℕ) → most_of_group new start count g ≡ most_of_group mid start count g
    own_most g = most_same mid new start count g (λ t short _. own_same t short)

    left_grown : most_of_group old start count (low / 16) ≤ most_of_group mid start count (low / 16)
    left_grown = most_grown old mid start count (low / 16) mid_grown

    right_grown : most_of_group old start count (high / 16) ≤ most_of_group mid start count (high / 16)
    right_grown = most_grown old mid start count (high / 16) mid_grown

    most_within : (g : ℕ) → 16 * g < count → most_of_group new start count g ≤ get_or new (next + g) 0
    most_within g some =
        ⊎_elim
        (λ (in_left : g ≡ low / 16).
        omega (arith, own_most g, ap (most_of_group mid start count) in_left, ap (most_of_group old start count) in_left, left_grown, is_below.most g some, above_same (next + g) (omega arith), up.low_value, ap (λ i. get_or new (next + i) 0) in_left, ap (λ i. get_or mid (next + i) 0) in_left))
        (λ (off_left : (g < low / 16) ⊎ (low / 16 < g)).
        ⊎_elim
        (λ (in_right : g ≡ high / 16).
        omega (arith, own_most g, ap (most_of_group mid start count) in_right, ap (most_of_group old start count) in_right, right_grown, is_below.most g some, above_same (next + g) (omega arith), up.high_value (omega arith), ap (λ i. get_or new (next + i) 0) in_right, ap (λ i. get_or mid (next + i) 0) in_right))
        (λ (off_right : (g < high / 16) ⊎ (high / 16 < g)).
        omega (arith, own_most g, other_most g (λ e. omega arith) (λ e. omega arith), is_below.most g some, above_same (next + g) (omega arith), up.grown (next + g)))
        (cases_order g (high / 16)))
        (cases_order g (low / 16))

    new_levels : IsLevels height start count new
    new_levels = levels_from height start count higher next groups new is_height is_next is_groups most_within up.levels

    abbrev new_below : IsBelow height start count higher next groups new
    new_below = below height start count higher next groups new is_height is_next is_groups new_levels

    -- ---- the loads

    -- in one of the two groups a load rises as its value does
    left_moved : (t : ℕ) → t < count → t / 16 ≡ low / 16 → load_at height start count new t + get_or old (start + t) 0 ≡ load_at height start count old t + get_or mid (start + t) 0
    left_moved t short in_left =
        omega (
          arith,
          is_below.load_is t short,
          new_below.load_is t short,
          own_same t short,
          own_most (t / 16),
          left_grown,
          load_above_same (t / 16),
          up.loads.at_low,
          ap (most_of_group mid start count) in_left,
          ap (most_of_group old start count) in_left,
          ap (load_at higher next groups mid) in_left,
          ap (load_at higher next groups new) in_left,
        )

    right_moved : (t : ℕ) → t < count → t / 16 ≡ high / 16 → load_at height start count new t + get_or old (start + t) 0 ≡ load_at height start count old t + get_or mid (start + t) 0
    right_moved t short in_right =
        ⊎_elim
        (λ (apart : low / 16 < high / 16).
        omega (
          arith,
          is_below.load_is t short,
          new_below.load_is t short,
          own_same t short,
          own_most (t / 16),
          right_grown,
          load_above_same (t / 16),
          up.loads.at_high apart,
          ap (most_of_group mid start count) in_right,
          ap (most_of_group old start count) in_right,
          ap (load_at higher next groups mid) in_right,
          ap (load_at higher next groups new) in_right,
        ))
        (λ (together : high / 16 ≤ low / 16). left_moved t short (omega arith))
        (cases_lt (low / 16) (high / 16))

    other_moved : (t : ℕ) → t < count → t / 16 ≢ low / 16 → t / 16 ≢ high / 16 → load_at height start count new t + load_at higher next groups old (t / 16) ≡ load_at height start count old t + load_at higher next groups new (t / 16)
    other_moved t short off_left off_right =
        omega (arith, is_below.load_is t short, new_below.load_is t short, own_same t short, other_same (t / 16) off_left off_right t refl, own_most (t / 16), other_most (t / 16) off_left off_right)

    moved_inside : (t : ℕ) → low < t → t < high → load_at height start count new t ≡ load_at height start count old t + between
    moved_inside t first last =
        ⊎_elim
        (λ (in_left : t / 16 ≡ low / 16). omega (arith, left_moved t (omega arith) in_left, ends.left t first last in_left))
        (λ (off_left : (t / 16 < low / 16) ⊎ (low / 16 < t / 16)).
        ⊎_elim
        (λ (in_right : t / 16 ≡ high / 16). omega (arith, right_moved t (omega arith) in_right, ends.right t first last in_right))
        (λ (off_right : (t / 16 < high / 16) ⊎ (high / 16 < t / 16)).
        omega (arith, other_moved t (omega arith) (λ e. omega arith) (λ e. omega arith), load_above_same (t / 16), up.loads.inside (t / 16) (omega arith) (omega arith)))
        (cases_order (t / 16) (high / 16)))
        (cases_order (t / 16) (low / 16))

    moved_before : (t : ℕ) → t < low → load_at height start count new t ≡ load_at height start count old t
    moved_before t early =
        ⊎_elim
        (λ (in_left : t / 16 ≡ low / 16). omega (arith, left_moved t (omega arith) in_left, ends.before (start + t) (omega arith)))
        (λ (off_left : (t / 16 < low / 16) ⊎ (low / 16 < t / 16)).
        omega (arith, other_moved t (omega arith) (λ e. omega arith) (λ e. omega arith), load_above_same (t / 16), up.loads.before (t / 16) (omega arith)))
        (cases_order (t / 16) (low / 16))

    moved_after : (t : ℕ) → high < t → t < count → load_at height start count new t ≡ load_at height start count old t
    moved_after t late short =
        ⊎_elim
        (λ (in_right : t / 16 ≡ high / 16). omega (arith, right_moved t short in_right, ends.after (start + t) (omega arith)))
        (λ (off_right : (t / 16 < high / 16) ⊎ (high / 16 < t / 16)).
        omega (arith, other_moved t short (λ e. omega arith) (λ e. omega arith), load_above_same (t / 16), up.loads.after (t / 16) (omega arith) (omega arith)))
        (cases_order (t / 16) (high / 16))

    pub raised_below : IsRaised height start count old new low low_by high high_by between
    raised_below = record {
      same_length = up.same_length ∙ ends.same_length;
      levels = new_levels;
      loads = record {
        at_low = omega (arith, left_moved low (omega arith) refl, ends.at_low);
        at_high = λ apart. omega (arith, right_moved high within refl, ends.at_high apart);
        inside = moved_inside;
        before = moved_before;
        after = moved_after;
      };
      low_value = own_same low (omega arith) ∙ ends.at_low;
      high_value = λ apart. own_same high within ∙ ends.at_high apart;
      grown = λ p. omega (arith, mid_grown p, up.grown p);
      below = λ p early. up.below p (omega arith) ∙ ends.before p (omega arith);
    }
