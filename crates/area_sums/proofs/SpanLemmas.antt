-- The least bound of groups is that of the spans.
use Rattle.std.proofs.Common.{◌≡◌, ℕ, suc, ◌+◌, ◌-◌, ◌*◌, ◌<◌, ◌≤◌, ◌⊎◌, inl, inr, refl, sym, ap, ◌∙◌, subst, Bool, true, false, cond, ◌&&◌, eqb, leb, ltb, List, [], ◌∷◌, length, get_or, All, Contains, sum_by, filter, arith, eq-eqb}
use Rattle.std.proofs.lemmas.Bool.{cases_lt, eqb-true, le-ltb, lt-ltb, ne_eqb}
use Rattle.std.proofs.lemmas.List.{take_all}
use Rattle.std.proofs.lemmas.List.Elements.{All-filter}
use Rattle.std.proofs.lemmas.List.Sums.{get_or-le-sum_by, sum_by-cons}
use Rattle.cache_model.specs.declared.objects.Objective.{Objective}
use Rattle.cache_model.specs.declared.objects.Objective.TheVariants.{Object as Hits, Bytes}
use Rattle.cache_model.proofs.Sums.{sum_by-agree, sum_by-filter}
use Rattle.area_sums.specs.declared.bound.EdgeBound.{EdgeBound}
use Rattle.area_sums.specs.declared.group.Group.{Group}
use Rattle.area_sums.specs.Short.{IsShortAbove, IsShortBelow, class_of, short_at}
use Rattle.area_sums.specs.Spans.{Span, area_of, cost_of, edge_total, gain_of, gain_total, within}
use Rattle.area_sums.specs.Bounds.{IsLeastBound, IsNextTo, IsNoWorse, IsTried, bound_at}
use Rattle.area_sums.specs.Groups.{IsLeastOf, IsTriedClass, area_below, bound_over, gain_below, gain_bound, group_at, group_below}
use Rattle.area_sums.proofs.ShortLemmas.{class_below, class_not_below, grows, low, places_grow, short_above, short_above_is, short_below, short_below_is}
use Rattle.area_sums.proofs.TestLemmas.{if_so}
use Rattle.area_sums.proofs.PlaceSums.{class_at}
use Rattle.area_sums.proofs.ClassSums.{sum-all, sum-below}

-- the gain times the cost is the area
gain-cost : (objective : Objective) (s : Span) → gain_of objective s * cost_of objective s ≡ area_of s
gain-cost Hits s = omega arith
gain-cost Bytes s = refl

-- a hit earns something
gain-some : (objective : Objective) (s : Span) → 0 < s.size → 0 < gain_of objective s
gain-some Hits s some = omega arith
gain-some Bytes s some = some

-- what a cost lacks to an edge, with the area, is the edge for each unit of the gain, if the cost is below the edge
lack-below : (gain cost area edge : ℕ) → gain * cost ≡ area → cost < edge → gain * (edge - cost) + area ≡ edge * gain
lack-below gain cost area edge is_area below =
    let lack : ℕ = edge - cost in
    let e : edge ≡ lack + cost = omega arith in
    omega (arith, ap (λ m. m * gain) e, is_area)

module _ (objective : Objective) (capacity class : ℕ) where
  -- at one span
  lack-span : (s : Span)
      → if_so (leb s.size capacity && ltb (class_of (cost_of objective s)) class) (gain_of objective s) * short_at class
      ≡ if_so (leb s.size capacity) (gain_of objective s * (short_at class - cost_of objective s))
      + if_so (leb s.size capacity && ltb (class_of (cost_of objective s)) class) (area_of s)
  lack-span s = by (leb s.size capacity) (cases_lt (cost_of objective s) (short_at class))
    where
      by : (b : Bool) → (cost_of objective s < short_at class) ⊎ (short_at class ≤ cost_of objective s)
          → if_so (b && ltb (class_of (cost_of objective s)) class) (gain_of objective s) * short_at class
          ≡ if_so b (gain_of objective s * (short_at class - cost_of objective s))
          + if_so (b && ltb (class_of (cost_of objective s)) class) (area_of s)
      by false any = omega arith
      by true (inl below) =
          let yes = lt-ltb (class_of (cost_of objective s)) class (class_below (cost_of objective s) class below) in
          ap (λ b. if_so b (gain_of objective s) * short_at class) yes
          ∙ omega (arith, lack-below (gain_of objective s) (cost_of objective s) (area_of s) (short_at class) (gain-cost objective s) below, ap (λ b. if_so b (area_of s)) yes)
      by true (inr above) =
          let no_class = le-ltb (class_of (cost_of objective s)) class (class_not_below (cost_of objective s) class above) in
          let nothing : short_at class - cost_of objective s ≡ 0 = omega arith in
          ap (λ b. if_so b (gain_of objective s) * short_at class) no_class
          ∙ omega (arith, ap (λ m. gain_of objective s * m) nothing, ap (λ b. if_so b (area_of s)) no_class)

  -- and at all
  lack-spans : (spans : List Span)
      → sum_by (λ s. if_so (leb s.size capacity && ltb (class_of (cost_of objective s)) class) (gain_of objective s)) spans * short_at class
      ≡ sum_by (λ s. if_so (leb s.size capacity) (gain_of objective s * (short_at class - cost_of objective s))) spans
      + sum_by (λ s. if_so (leb s.size capacity && ltb (class_of (cost_of objective s)) class) (area_of s)) spans
  lack-spans [] = omega arith
  lack-spans (s ∷ more) =
      omega (
        arith,
        lack-span s,
        lack-spans more,
        ap (λ m. m * short_at class) (sum_by-cons (λ s. if_so (leb s.size capacity && ltb (class_of (cost_of objective s)) class) (gain_of objective s)) s more),
        sum_by-cons (λ s. if_so (leb s.size capacity) (gain_of objective s * (short_at class - cost_of objective s))) s more,
        sum_by-cons (λ s. if_so (leb s.size capacity && ltb (class_of (cost_of objective s)) class) (area_of s)) s more,
      )

-- the first of a list is in it, and so are the later ones
first-in : (x : Span) (xs : List Span) → Contains (x ∷ xs) x
first-in x xs = (0, omega arith, refl)

later-in : (x y : Span) (xs : List Span) → Contains xs y → Contains (x ∷ xs) y
later-in x y xs (k, within, e) = (suc k, omega arith, e)

-- a sum that is not 0 has a term that is not
some-span : (p q : Span → Bool) (f : Span → ℕ) (xs : List Span) → 0 < sum_by (λ s. if_so (p s && q s) (f s)) xs
    → (s : Span) × (Contains (filter p xs) s × (q s ≡ true))
some-span p q f [] some = absurd (omega arith)
some-span p q f (x ∷ xs) some =
    by (p x) (q x) refl (λ rest. some-span p q f xs rest) (omega (arith, some, sum_by-cons (λ s. if_so (p s && q s) (f s)) x xs))
  where
    by : (b c : Bool) → q x ≡ c
        → (0 < sum_by (λ s. if_so (p s && q s) (f s)) xs → (s : Span) × (Contains (filter p xs) s × (q s ≡ true)))
        → 0 < if_so (b && c) (f x) + sum_by (λ s. if_so (p s && q s) (f s)) xs
        → (s : Span) × (Contains (cond b (x ∷ filter p xs) (filter p xs)) s × (q s ≡ true))
    by true true e rest some = (x, (first-in x (filter p xs), e))
    by true false e rest some =
        let r = rest (omega arith) in
        (r.0, (later-in x r.0 (filter p xs) r.1.0, r.1.1))
    by false c e rest some = rest (omega arith)

-- and a sum with such a term is not 0
span-some : (p q : Span → Bool) (f : Span → ℕ) (xs : List Span) (s : Span) → Contains (filter p xs) s → q s ≡ true → 0 < f s
    → 0 < sum_by (λ s. if_so (p s && q s) (f s)) xs
span-some p q f xs s (k, within, e) so some =
    omega (
      arith,
      sum_by-filter (λ s. if_so (q s) (f s)) p xs,
      get_or-le-sum_by (λ s. if_so (q s) (f s)) (filter p xs) k s within,
      ap (λ s. if_so (q s) (f s)) e,
      ap (λ b. if_so b (f s)) so,
      sum_by-agree (λ s. if_so (p s && q s) (f s)) (λ s. if_so (p s) (if_so (q s) (f s))) xs (λ s. nested (p s) (q s) (f s)),
    )
  where
    nested : (a b : Bool) (n : ℕ) → if_so (a && b) n ≡ if_so a (if_so b n)
    nested true b n = refl
    nested false b n = refl

-- a span that the capacity holds has a class, if no class after the last has a span that it holds
early-class_of : (objective : Objective) (capacity classes : ℕ) (spans : List Span) → All (λ s. 0 < s.size) spans
    → ((class : ℕ) → classes ≤ class → sum_by (λ s. if_so (leb s.size capacity && eqb (class_at objective s) class) (gain_of objective s)) spans ≡ 0)
    → All (λ s. leb s.size capacity ≡ true → class_at objective s < classes) spans
early-class_of objective capacity classes spans sizes none = λ k d low held. by k d low held (cases_lt (class_at objective (get_or spans k d)) classes)
  where
    by : (k : ℕ) (d : Span) → k < length spans → leb (get_or spans k d).size capacity ≡ true
        → (class_at objective (get_or spans k d) < classes) ⊎ (classes ≤ class_at objective (get_or spans k d))
        → class_at objective (get_or spans k d) < classes
    by k d low held (inl less) = less
    by k d low held (inr more) =
        let s : Span = get_or spans k d in
        let class : ℕ = class_at objective s in
        absurd (omega (
          arith,
          none class more,
          get_or-le-sum_by (λ s. if_so (leb s.size capacity && eqb (class_at objective s) class) (gain_of objective s)) spans k d low,
          ap (λ b. if_so (b && eqb class class) (gain_of objective s)) held,
          ap (λ b. if_so b (gain_of objective s)) (eq-eqb class class refl),
          gain-some objective s (sizes k d low),
        ))

module _ (objective : Objective) (capacities : List ℕ) (spans : List Span) (place steps : ℕ) (groups : List Group) (sizes : All (λ s. 0 < s.size) spans)
    (gains : (class : ℕ) → class < length groups
    → (group_at groups class).gain ≡ sum_by (λ s. if_so (leb s.size (get_or capacities place 0) && eqb (class_at objective s) class) (gain_of objective s)) spans)
    (areas : (class : ℕ) → class < length groups
    → (group_at groups class).area ≡ sum_by (λ s. if_so (leb s.size (get_or capacities place 0) && eqb (class_at objective s) class) (area_of s)) spans)
    (none : (class : ℕ) → length groups ≤ class
    → sum_by (λ s. if_so (leb s.size (get_or capacities place 0) && eqb (class_at objective s) class) (gain_of objective s)) spans ≡ 0) where
  -- the capacity holds the span
  abbrev held : Span → Bool
  held s = leb s.size (get_or capacities place 0)

  early : All (λ s. held s ≡ true → class_at objective s < length groups) spans
  early = early-class_of objective (get_or capacities place 0) (length groups) spans sizes none

  -- the total at the edge of a class
  total-class : (class : ℕ) → class ≤ length groups
      → get_or capacities place 0 * steps + short_at class * gain_below groups class - area_below groups class
      ≡ edge_total objective (get_or capacities place 0) steps spans (short_at class)
  total-class class few =
      let all_gains = sum-below objective held (λ g. g.gain) (gain_of objective) spans groups gains class few in
      let all_areas = sum-below objective held (λ g. g.area) area_of spans groups areas class few in
      omega (
        arith,
        ap (λ m. m * short_at class) all_gains,
        all_areas,
        lack-spans objective (get_or capacities place 0) class spans,
        sum_by-filter (λ s. gain_of objective s * (short_at class - cost_of objective s)) (λ s. leb s.size (get_or capacities place 0)) spans,
      )

  -- so is the bound
  bound-class : (class : ℕ) → 1 < class → class ≤ length groups
      → bound_over (get_or capacities place 0 * steps) (group_below groups class) class ≡ bound_at objective (get_or capacities place 0) steps spans (short_at class)
  bound-class class more few =
      let above : 1 < short_at class = omega (arith, low 1 (omega arith), grows 1 class more) in
      let priced : eqb (short_at class) 1 ≡ false = ne_eqb (short_at class) 1 (λ e. omega arith) in
      let upper = total-class class few
      ∙ sym (ap (λ b. cond b (gain_total objective (get_or capacities place 0) spans) (edge_total objective (get_or capacities place 0) steps spans (short_at class))) priced) in
      λ i. record { upper = upper i; edge = short_at class }

  -- what all gain
  gain-all : sum_by (λ g. g.gain) groups ≡ gain_total objective (get_or capacities place 0) spans
  gain-all =
      sym (ap (sum_by (λ (g : Group). g.gain)) (take_all (length groups) groups (omega arith)))
      ∙ sum-below objective held (λ g. g.gain) (gain_of objective) spans groups gains (length groups) (omega arith)
      ∙ sum-all objective held (λ g. g.gain) (gain_of objective) spans (length groups) early
      ∙ sym (sum_by-filter (gain_of objective) held spans)

  bound-free : gain_bound groups ≡ bound_at objective (get_or capacities place 0) steps spans 1
  bound-free = λ i. record { upper = gain-all i; edge = 1 }

  -- a class that is tried has a span next to its edge
  tried-span : (class : ℕ) → IsTriedClass groups (length groups) class → IsTried objective (get_or capacities place 0) spans (short_at class)
  tried-span class tried = inr (found.0, (found.1.0, record { above_one = omega (arith, low 1 (omega arith), grows 1 class tried.above_one); next = by tried.next }))
    where
      found : (s : Span) × (Contains (within (get_or capacities place 0) spans) s × (eqb (class_of (cost_of objective s)) tried.of ≡ true))
      found =
          some-span (λ s. leb s.size (get_or capacities place 0)) (λ s. eqb (class_of (cost_of objective s)) tried.of) (gain_of objective) spans
          (omega (arith, tried.some, gains tried.of tried.early))

      own : class_of (cost_of objective found.0) ≡ tried.of
      own = eqb-true (class_of (cost_of objective found.0)) tried.of found.1.1

      by : (class ≡ tried.of) ⊎ (class ≡ tried.of + 1) → IsShortBelow (short_at class) (cost_of objective found.0) ⊎ IsShortAbove (short_at class) (cost_of objective found.0)
      by (inl e) = inl (subst (λ c. IsShortBelow (short_at c) (cost_of objective found.0)) (own ∙ sym e) (short_below (cost_of objective found.0)))
      by (inr e) = inr (subst (λ c. IsShortAbove (short_at c) (cost_of objective found.0)) (ap (λ c. c + 1) own ∙ sym e) (short_above (cost_of objective found.0)))

  -- and a span has a class, whose edge or the next is that next to its cost
  span-class : (edge : ℕ) (s : Span) → Contains (within (get_or capacities place 0) spans) s → IsNextTo objective edge s
      → (class : ℕ) × (IsTriedClass groups (length groups) class × (edge ≡ short_at class))
  span-class edge s member next = by next.next
    where
      positive : 0 < s.size
      positive =
          let all = All-filter (λ s. leb s.size (get_or capacities place 0)) (λ s. 0 < s.size) spans sizes in
          omega (arith, all member.0 s member.1, ap (λ s. s.size) member.2)

      span_gains : 0 < sum_by (λ t. if_so (leb t.size (get_or capacities place 0) && eqb (class_at objective t) (class_of (cost_of objective s))) (gain_of objective t)) spans
      span_gains =
          span-some (λ t. leb t.size (get_or capacities place 0)) (λ t. eqb (class_at objective t) (class_of (cost_of objective s))) (gain_of objective) spans s member
          (eq-eqb (class_of (cost_of objective s)) (class_of (cost_of objective s)) refl) (gain-some objective s positive)

      few : class_of (cost_of objective s) < length groups
      few = held_early (cases_lt (class_of (cost_of objective s)) (length groups))
        where
          held_early : (class_of (cost_of objective s) < length groups) ⊎ (length groups ≤ class_of (cost_of objective s)) → class_of (cost_of objective s) < length groups
          held_early (inl less) = less
          held_early (inr more) = absurd (omega (arith, span_gains, none (class_of (cost_of objective s)) more))

      gained : 0 < (group_at groups (class_of (cost_of objective s))).gain
      gained = omega (arith, span_gains, gains (class_of (cost_of objective s)) few)

      above : (class : ℕ) → edge ≡ short_at class → 1 < class
      above class e = places_grow 1 class (omega (arith, low 1 (omega arith), e, next.above_one))

      by : IsShortBelow edge (cost_of objective s) ⊎ IsShortAbove edge (cost_of objective s)
          → (class : ℕ) × (IsTriedClass groups (length groups) class × (edge ≡ short_at class))
      by (inl short) =
          let e = short_below_is edge (cost_of objective s) short in (
            class_of (cost_of objective s),
            (
              record {
                above_one = above (class_of (cost_of objective s)) e;
                of = class_of (cost_of objective s);
                early = few;
                some = gained;
                next = inl refl;
              },
              e,
            ),
          )
      by (inr short) =
          let e = short_above_is edge (cost_of objective s) short in (
            class_of (cost_of objective s) + 1,
            (
              record {
                above_one = above (class_of (cost_of objective s) + 1) e;
                of = class_of (cost_of objective s);
                early = few;
                some = gained;
                next = inr refl;
              },
              e,
            ),
          )

  -- a class that is tried is at most one after the last
  early-class : (class : ℕ) → IsTriedClass groups (length groups) class → class ≤ length groups
  early-class class tried = by tried.next
    where
      by : (class ≡ tried.of) ⊎ (class ≡ tried.of + 1) → class ≤ length groups
      by (inl e) = omega (arith, e, tried.early)
      by (inr e) = omega (arith, e, tried.early)

  -- the least bound of the groups is that of the spans
  pub least-of_spans : (bound : EdgeBound) → IsLeastOf (get_or capacities place 0 * steps) groups (length groups) bound
      → IsLeastBound objective (get_or capacities place 0) steps spans bound
  least-of_spans bound h = record { tried = one.0; is_bound = one.1; least = λ edge tried. least edge tried }
    where
      one : IsTried objective (get_or capacities place 0) spans bound.edge × (bound ≡ bound_at objective (get_or capacities place 0) steps spans bound.edge)
      one = by h.is_one
        where
          by : (bound ≡ gain_bound groups)
              ⊎ ((class : ℕ) × (IsTriedClass groups (length groups) class × (bound ≡ bound_over (get_or capacities place 0 * steps) (group_below groups class) class)))
              → IsTried objective (get_or capacities place 0) spans bound.edge × (bound ≡ bound_at objective (get_or capacities place 0) steps spans bound.edge)
          by (inl e) =
              let edge : 1 ≡ bound.edge = sym (ap (λ b. b.edge) e) in
              (inl (sym edge), e ∙ bound-free ∙ ap (bound_at objective (get_or capacities place 0) steps spans) edge)
          by (inr (class, (tried, e))) =
              let edge : short_at class ≡ bound.edge = sym (ap (λ b. b.edge) e) in (
                subst (IsTried objective (get_or capacities place 0) spans) edge (tried-span class tried),
                e ∙ bound-class class tried.above_one (early-class class tried) ∙ ap (bound_at objective (get_or capacities place 0) steps spans) edge,
              )

      least : (edge : ℕ) → IsTried objective (get_or capacities place 0) spans edge → IsNoWorse bound (bound_at objective (get_or capacities place 0) steps spans edge)
      least edge (inl e) =
          subst (λ k. IsNoWorse bound (bound_at objective (get_or capacities place 0) steps spans k)) (sym e) (subst (IsNoWorse bound) bound-free h.no_price)
      least edge (inr (s, (member, next))) =
          let found = span-class edge s member next in
          subst (λ k. IsNoWorse bound (bound_at objective (get_or capacities place 0) steps spans k)) (sym found.1.1)
          (subst (IsNoWorse bound) (bound-class found.0 found.1.0.above_one (early-class found.0 found.1.0)) (h.least found.0 found.1.0))
