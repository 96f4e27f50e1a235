-- The least bound over edges, class by class.
use Rattle.std.proofs.Common.{◌≡◌, ℕ, zero, suc, ◌+◌, ◌*◌, ◌/◌, ◌^◌, ◌<◌, ◌≤◌, ◌⊎◌, inl, inr, refl, sym, ap, ◌∙◌, subst, List, length, take, sum_by, arith}
use Rattle.std.proofs.Math.Nat.{mul-le-mul_left}
use Rattle.std.proofs.lemmas.Bool.{cases_lt}
use Rattle.std.proofs.lemmas.List.{take_all}
use Rattle.std.proofs.lemmas.List.Sums.{sum_by_more, sum_by-take-le}
use Rattle.area_sums.specs.declared.bound.EdgeBound.{EdgeBound}
use Rattle.area_sums.specs.declared.group.Group.{Group}
use Rattle.area_sums.specs.Short.{short_at}
use Rattle.area_sums.specs.Bounds.{IsNoWorse}
use Rattle.area_sums.specs.Groups.{AreCheap, IsLeastOf, IsTriedClass, area_below, both, bound_over, gain_below, gain_bound, group_at, group_below, no_group}
use Rattle.area_sums.proofs.ShortLemmas.{grows_le, next, short_pos}

-- a bound is no worse than itself, nor than one that another is no worse than
pub no_worse-refl : (a : EdgeBound) → IsNoWorse a a
no_worse-refl a = record { floor = omega arith; edge = λ e. omega arith }

pub no_worse-trans : (a b c : EdgeBound) → IsNoWorse a b → IsNoWorse b c → IsNoWorse a c
no_worse-trans a b c x y = record {
  floor = omega (arith, x.floor, y.floor);
  edge = λ e.
      let first : a.upper / a.edge ≡ b.upper / b.edge = omega (arith, x.floor, y.floor, e) in
      let second : b.upper / b.edge ≡ c.upper / c.edge = omega (arith, x.floor, y.floor, e) in
      omega (arith, x.edge first, y.edge second);
}

-- products grow with their factors
pub product-le : (a b c d : ℕ) → a ≤ b → c ≤ d → a * c ≤ b * d
product-le a b c d x y = omega (arith, mul-le-mul_left a y, mul-le-mul_left d x)

module _ (groups : List Group) where
  -- the sums below the next class
  gain-more : (class : ℕ) → class < length groups → gain_below groups (class + 1) ≡ gain_below groups class + (group_at groups class).gain
  gain-more class within = sum_by_more (λ (g : Group). g.gain) groups class no_group within

  area-more : (class : ℕ) → class < length groups → area_below groups (class + 1) ≡ area_below groups class + (group_at groups class).area
  area-more class within = sum_by_more (λ (g : Group). g.area) groups class no_group within

  -- one class more
  pub below-more : (class : ℕ) → class < length groups → group_below groups (class + 1) ≡ both (group_below groups class) (group_at groups class)
  below-more class within = λ i. record { gain = gain-more class within i; area = area-more class within i }

  -- a class without gains adds nothing
  pub below-same : (class : ℕ) → class < length groups → AreCheap groups → (group_at groups class).gain ≡ 0 → group_below groups (class + 1) ≡ group_below groups class
  below-same class within cheap none =
      let gain : gain_below groups (class + 1) ≡ gain_below groups class = omega (arith, gain-more class within, none) in
      let free : (group_at groups class).area ≤ 0 * short_at (class + 1) = subst (λ g. (group_at groups class).area ≤ g * short_at (class + 1)) none (cheap class within) in
      let area : area_below groups (class + 1) ≡ area_below groups class = omega (arith, area-more class within, free) in
      λ i. record { gain = gain i; area = area i }

  -- what is below a class costs less than its edge
  pub cheap-below : AreCheap groups → (class : ℕ) → class ≤ length groups → area_below groups class ≤ short_at class * gain_below groups class
  cheap-below cheap zero within = omega arith
  cheap-below cheap (suc class) within = by (cheap-below cheap class (omega arith))
    where
      by : area_below groups class ≤ short_at class * gain_below groups class → area_below groups (suc class) ≤ short_at (suc class) * gain_below groups (suc class)
      by rest =
          let e : suc class ≡ class + 1 = omega arith in
          subst (λ c. area_below groups c ≤ short_at c * gain_below groups c) (sym e)
          (omega (
            arith,
            ap (λ (m : ℕ). short_at (class + 1) * m) (gain-more class (omega arith)),
            area-more class (omega arith),
            cheap class (omega arith),
            rest,
            mul-le-mul_left (gain_below groups class) (grows_le class (class + 1) (omega arith)),
          ))

  module _ (area : ℕ) (room : area + short_at (length groups) * sum_by (λ (g : Group). g.gain) groups < 2 ^ 128) where
    -- the totals at the edges fit
    pub room-below : (class : ℕ) → class ≤ length groups → area + short_at class * gain_below groups class < 2 ^ 128
    room-below class within =
        omega (
          arith,
          room,
          product-le (short_at class) (short_at (length groups)) (gain_below groups class) (sum_by (λ (g : Group). g.gain) groups)
              (grows_le class (length groups) within) (sum_by-take-le (λ (g : Group). g.gain) groups class),
        )

    pub area-fits : AreCheap groups → (class : ℕ) → class ≤ length groups → area_below groups class < 2 ^ 128
    area-fits cheap class within = omega (arith, cheap-below cheap class within, room-below class within)

    pub gains-fit : sum_by (λ (g : Group). g.gain) groups < 2 ^ 128
    gains-fit = by (cases_lt 0 (length groups))
      where
        by : (0 < length groups) ⊎ (length groups ≤ 0) → sum_by (λ (g : Group). g.gain) groups < 2 ^ 128
        by (inl some) =
            omega (
              arith,
              room,
              product-le 1 (short_at (length groups)) (sum_by (λ (g : Group). g.gain) groups) (sum_by (λ (g : Group). g.gain) groups)
                  (omega (arith, short_pos (length groups) some)) (omega arith),
            )
        by (inr none) =
            let all : take 0 groups ≡ groups = take_all 0 groups none in
            omega (arith, ap (sum_by (λ (g : Group). g.gain)) all)

  module _ (area : ℕ) where
    -- a class that is tried among the first is tried among more
    later : (first class : ℕ) → IsTriedClass groups first class → IsTriedClass groups (first + 1) class
    later first class h = record { above_one = h.above_one; of = h.of; early = omega (arith, h.early); some = h.some; next = h.next }

    -- a class without spans changes nothing
    pub least-same : (first : ℕ) (bound : EdgeBound) → (group_at groups first).gain ≡ 0 → IsLeastOf area groups first bound → IsLeastOf area groups (first + 1) bound
    least-same first bound none h = record {
      is_one = by h.is_one;
      no_price = h.no_price;
      least = λ class tried. h.least class (earlier class tried);
    }
      where
        by : (bound ≡ gain_bound groups) ⊎ ((class : ℕ) × (IsTriedClass groups first class × (bound ≡ bound_over area (group_below groups class) class)))
            → (bound ≡ gain_bound groups) ⊎ ((class : ℕ) × (IsTriedClass groups (first + 1) class × (bound ≡ bound_over area (group_below groups class) class)))
        by (inl e) = inl e
        by (inr (class, (tried, e))) = inr (class, (later first class tried, e))

        earlier : (class : ℕ) → IsTriedClass groups (first + 1) class → IsTriedClass groups first class
        earlier class tried = record { above_one = tried.above_one; of = tried.of; early = at (cases_lt tried.of first); some = tried.some; next = tried.next }
          where
            at : (tried.of < first) ⊎ (first ≤ tried.of) → tried.of < first
            at (inl less) = less
            at (inr more) =
                let e : tried.of ≡ first = omega (arith, tried.early) in
                absurd (omega (arith, tried.some, ap (λ k. (group_at groups k).gain) e, none))

    -- the lesser of a bound and that of a class, if its edge is above 1
    pub record IsLesser (class : ℕ) (old new : EdgeBound) : Type 0 where
      pub same : class ≤ 1 → new ≡ old
      pub either : 1 < class → (new ≡ old) ⊎ (new ≡ bound_over area (group_below groups class) class)
      pub no_worse : IsNoWorse new old
      pub no_worse_than_edge : 1 < class → IsNoWorse new (bound_over area (group_below groups class) class)

    -- from what is found with the group below
    pub lesser-is : (class : ℕ) (below : Group) (old new : EdgeBound) → below ≡ group_below groups class
        → (class ≤ 1 → new ≡ old) → (1 < class → (new ≡ old) ⊎ (new ≡ bound_over area below class)) → IsNoWorse new old
        → (1 < class → IsNoWorse new (bound_over area below class)) → IsLesser class old new
    lesser-is class below old new e same either no_worse no_worse_than_edge = record {
      same = same;
      either = subst (λ b. 1 < class → (new ≡ old) ⊎ (new ≡ bound_over area b class)) e either;
      no_worse = no_worse;
      no_worse_than_edge = subst (λ b. 1 < class → IsNoWorse new (bound_over area b class)) e no_worse_than_edge;
    }

    -- a class with spans adds its own edge and the next
    pub least-more : (first : ℕ) (old mid new : EdgeBound) → 0 < (group_at groups first).gain
        → IsLesser first old mid → IsLesser (first + 1) mid new → IsLeastOf area groups first old → IsLeastOf area groups (first + 1) new
    least-more first old mid new some one two h = record {
      is_one = second (cases_lt 1 (first + 1));
      no_price = no_worse-trans new old (gain_bound groups) overall h.no_price;
      least = λ class tried. all class tried (cases_lt tried.of first) tried.next;
    }
      where
        overall : IsNoWorse new old
        overall = no_worse-trans new mid old two.no_worse one.no_worse

        IsOne : EdgeBound → Type 0
        IsOne b = (b ≡ gain_bound groups)
            ⊎ ((class : ℕ) × (IsTriedClass groups (first + 1) class × (b ≡ bound_over area (group_below groups class) class)))

        start : (b : EdgeBound) → b ≡ old → IsOne b
        start b e = by h.is_one
          where
            by : (old ≡ gain_bound groups) ⊎ ((class : ℕ) × (IsTriedClass groups first class × (old ≡ bound_over area (group_below groups class) class)))
                → (b ≡ gain_bound groups)
                ⊎ ((class : ℕ) × (IsTriedClass groups (first + 1) class × (b ≡ bound_over area (group_below groups class) class)))
            by (inl f) = inl (e ∙ f)
            by (inr (class, (tried, f))) = inr (class, (later first class tried, e ∙ f))

        middle : (b : EdgeBound) → b ≡ mid → (1 < first) ⊎ (first ≤ 1) → IsOne b
        middle b e (inr few) = start b (e ∙ one.same few)
        middle b e (inl many) = by (one.either many)
          where
            by : (mid ≡ old) ⊎ (mid ≡ bound_over area (group_below groups first) first) → IsOne b
            by (inl f) = start b (e ∙ f)
            by (inr f) = inr (first, (record { above_one = many; of = first; early = omega arith; some = some; next = inl refl }, e ∙ f))

        second : (1 < first + 1) ⊎ (first + 1 ≤ 1) → IsOne new
        second (inr few) = middle new (two.same few) (cases_lt 1 first)
        second (inl many) = by (two.either many)
          where
            by : (new ≡ mid) ⊎ (new ≡ bound_over area (group_below groups (first + 1)) (first + 1)) → IsOne new
            by (inl f) = middle new f (cases_lt 1 first)
            by (inr f) = inr (first + 1, (record { above_one = many; of = first; early = omega arith; some = some; next = inr refl }, f))

        all : (class : ℕ) (tried : IsTriedClass groups (first + 1) class) → (tried.of < first) ⊎ (first ≤ tried.of)
            → (class ≡ tried.of) ⊎ (class ≡ tried.of + 1) → IsNoWorse new (bound_over area (group_below groups class) class)
        all class tried (inl before) next =
            no_worse-trans new old (bound_over area (group_below groups class) class) overall
            (h.least class (record { above_one = tried.above_one; of = tried.of; early = before; some = tried.some; next = tried.next }))
        all class tried (inr here) (inl e) =
            let own : first ≡ class = omega (arith, tried.early, e) in
            no_worse-trans new mid (bound_over area (group_below groups class) class) two.no_worse
            (subst (λ c. IsNoWorse mid (bound_over area (group_below groups c) c)) own (one.no_worse_than_edge (omega (arith, tried.above_one))))
        all class tried (inr here) (inr e) =
            let after : first + 1 ≡ class = omega (arith, tried.early, e) in
            subst (λ c. IsNoWorse new (bound_over area (group_below groups c) c)) after (two.no_worse_than_edge (omega (arith, tried.above_one)))

  -- of no class there is only the bound without a price
  pub least-none : (area : ℕ) → IsLeastOf area groups 0 (gain_bound groups)
  least-none area = record {
    is_one = inl refl;
    no_price = no_worse-refl (gain_bound groups);
    least = λ class tried. absurd (omega (arith, tried.early));
  }
