-- One pass over the places of the capacities.
use Rattle.std.proofs.Common.{◌≡◌, ℕ, zero, suc, ◌+◌, ◌*◌, ◌^◌, ◌<◌, ◌≤◌, ◌⊎◌, inl, inr, refl, sym, ap, ◌∙◌, subst, Bool, ◌&&◌, eqb, leb, List, [], ◌∷◌, ◌++◌, length, get_or, replicate, sum_by, arith}
use Rattle.std.proofs.lemmas.Bool.{cases_lt}
use Rattle.std.proofs.lemmas.List.{get_or-replicate, get_or_append_left, get_or_push, length-append}
use Rattle.cache_model.specs.declared.objects.Objective.{Objective}
use Rattle.area_sums.specs.declared.group.Group.{Group}
use Rattle.area_sums.specs.declared.bound.EdgeBound.{EdgeBound}
use Rattle.area_sums.specs.Short.{short_at}
use Rattle.area_sums.specs.Spans.{Span, area_of, gain_of}
use Rattle.area_sums.specs.Bounds.{IsLeastBound}
use Rattle.area_sums.specs.Groups.{AreCapacities, AreCheap, AreGroupsOf, IsLeastOf, both, group_at, no_group}
use Rattle.area_sums.specs.Places.{AreBefore, AreLeastBefore, AreOfSpans, HasRoomFor, edge_bound_at, group_before}
use Rattle.area_sums.proofs.TestLemmas.{if_so}
use Rattle.area_sums.proofs.PlaceSums.{areas-sum, class_at, gains-sum, sum-held}
use Rattle.area_sums.proofs.ClassSums.{areas-fit, classes-cheap, classes-room, gains-fit}
use Rattle.area_sums.proofs.SpanLemmas.{least-of_spans}

-- one place more
before-next : (groups : ℕ → ℕ → Group) (class place : ℕ) → group_before groups class (place + 1) ≡ both (group_before groups class place) (groups place class)
before-next groups class place = let e : place + 1 ≡ suc place = omega arith in ap (group_before groups class) e

-- places without groups have none
before-nothing : (groups : ℕ → ℕ → Group) (class : ℕ) → ((place : ℕ) → groups place class ≡ no_group) → (place : ℕ) → (group_before groups class place).gain ≡ 0
before-nothing groups class none zero = refl
before-nothing groups class none (suc place) = omega (arith, before-nothing groups class none place, ap (λ (g : Group). g.gain) (none place))

-- before the first place no class has a group
pub before-none : (groups : ℕ → ℕ → Group) (classes : List Group) → classes ≡ replicate (length classes) no_group → AreBefore 0 groups classes
before-none groups classes none = record {
  each = λ class low. ap (λ cs. group_at cs class) none ∙ get_or-replicate (length classes) class no_group no_group low;
}

-- no bound so far
pub least-none : (steps : ℕ) (capacities : List ℕ) (groups : ℕ → ℕ → Group) → AreLeastBefore 0 steps capacities groups []
least-none steps capacities groups = record {
  each = refl;
  edges = λ place low. absurd (omega arith);
  least = λ objective spans sizes are place low. absurd (omega arith);
}

module _ (capacities : List ℕ) (groups : ℕ → ℕ → Group) (place : ℕ) (ranges : AreCapacities capacities) (low : place < length capacities) where
  -- a span that the capacity of the place holds, of a class
  abbrev pub held : Objective → ℕ → Span → Bool
  held objective class s = leb s.size (get_or capacities place 0) && eqb (class_at objective s) class

  module _ (old : List Group) (h : AreOfSpans capacities (length old) groups) (before : AreBefore place groups old) where
    -- there is room for the groups of the place
    pub next-room : HasRoomFor (groups place) old
    next-room = record {
      gain = λ class early.
          omega (
            arith,
            ap (λ (g : Group). g.gain) (before.each class early),
            ap (λ (g : Group). g.gain) (before-next groups class place),
            sum-held h.objective (λ g. g.gain) (gain_of h.objective) (gains-sum h.objective) capacities h.spans groups h.are ranges.ascending class place low,
            gains-fit h.objective h.spans h.few h.ranges (held h.objective class),
          );
      area = λ class early.
          omega (
            arith,
            ap (λ (g : Group). g.area) (before.each class early),
            ap (λ (g : Group). g.area) (before-next groups class place),
            sum-held h.objective (λ g. g.area) area_of (areas-sum h.objective) capacities h.spans groups h.are ranges.ascending class place low,
            areas-fit h.objective h.spans h.few h.ranges (held h.objective class),
          );
    }

    -- with them the classes have the groups of the places before the next
    pub next-before : (new : List Group) → length new ≡ length old
        → ((class : ℕ) → class < length old → group_at new class ≡ both (group_at old class) (groups place class)) → AreBefore (place + 1) groups new
    next-before new len each = record {
      each = λ class early.
          each class (omega (arith, len))
          ∙ ap (λ g. both g (groups place class)) (before.each class (omega (arith, len)))
          ∙ sym (before-next groups class place);
    }

  module _ (new : List Group) (h : AreOfSpans capacities (length new) groups) (next : AreBefore (place + 1) groups new) where
    -- the groups of classes are those of whatever spans the groups are, as far as the capacity holds them
    gains-held : (objective : Objective) (spans : List Span) → AreGroupsOf objective capacities spans groups → (class : ℕ) → class < length new
        → (group_at new class).gain ≡ sum_by (λ s. if_so (held objective class s) (gain_of objective s)) spans
    gains-held objective spans are class early =
        ap (λ (g : Group). g.gain) (next.each class early)
        ∙ sum-held objective (λ g. g.gain) (gain_of objective) (gains-sum objective) capacities spans groups are ranges.ascending class place low

    areas-held : (objective : Objective) (spans : List Span) → AreGroupsOf objective capacities spans groups → (class : ℕ) → class < length new
        → (group_at new class).area ≡ sum_by (λ s. if_so (held objective class s) (area_of s)) spans
    areas-held objective spans are class early =
        ap (λ (g : Group). g.area) (next.each class early)
        ∙ sum-held objective (λ g. g.area) area_of (areas-sum objective) capacities spans groups are ranges.ascending class place low

    -- no span is of a class after the last
    none-above : (objective : Objective) (spans : List Span) → AreGroupsOf objective capacities spans groups → (class : ℕ) → length new ≤ class
        → sum_by (λ s. if_so (held objective class s) (gain_of objective s)) spans ≡ 0
    none-above objective spans are class above =
        sym (sum-held objective (λ g. g.gain) (gain_of objective) (gains-sum objective) capacities spans groups are ranges.ascending class place low)
        ∙ before-nothing groups class (λ p. h.none_above p class above) (place + 1)

    -- they are within the ranges
    pub next-cheap : AreCheap new
    next-cheap =
        classes-cheap h.objective h.spans (λ s. leb s.size (get_or capacities place 0)) new (gains-held h.objective h.spans h.are) (areas-held h.objective h.spans h.are)

    pub next-total : (area : ℕ) → area ≤ 2 ^ 88 → area + short_at (length new) * sum_by (λ g. g.gain) new < 2 ^ 128
    next-total area small =
        classes-room h.objective h.spans (λ s. leb s.size (get_or capacities place 0)) new (gains-held h.objective h.spans h.are) area h.few h.ranges h.within small

    -- and their least bound is that of the spans
    pub least-more : (steps : ℕ) (bounds : List EdgeBound) (bound : EdgeBound) → 0 < bound.edge
        → IsLeastOf (get_or capacities place 0 * steps) new (length new) bound
        → AreLeastBefore place steps capacities groups bounds → AreLeastBefore (place + 1) steps capacities groups (bounds ++ bound ∷ [])
    least-more steps bounds bound edge least done = record {
      each = omega (arith, length-append bounds (bound ∷ []), done.each);
      edges = λ k within. at (λ b j. 0 < b.edge) edge (λ j before. done.edges j before) k within (cases_lt k place);
      least = λ objective spans sizes are k within.
          at (λ b j. IsLeastBound objective (get_or capacities j 0) steps spans b)
          (least-of_spans objective capacities spans place steps new sizes (gains-held objective spans are) (areas-held objective spans are)
          (none-above objective spans are) bound least)
          (λ j before. done.least objective spans sizes are j before) k within (cases_lt k place);
    }
      where
        at : (P : EdgeBound → ℕ → Type 0) → P bound place → ((j : ℕ) → j < place → P (edge_bound_at bounds j) j)
            → (k : ℕ) → k < place + 1 → (k < place) ⊎ (place ≤ k) → P (edge_bound_at (bounds ++ bound ∷ []) k) k
        at P here earlier k within (inl before) =
            subst (λ b. P b k) (sym (get_or_append_left bounds (bound ∷ []) (record { upper = 0; edge = 0 }) k (omega (arith, done.each)))) (earlier k before)
        at P here earlier k within (inr after) =
            let e : place ≡ k = omega arith in
            subst (λ j. P (edge_bound_at (bounds ++ bound ∷ []) j) j) e
            (subst (λ b. P b place) (sym (get_or_push bounds bound (record { upper = 0; edge = 0 }) place done.each)) here)
