-- What the groups of the first places are of the spans.
use Rattle.std.proofs.Common.{◌≡◌, ℕ, zero, suc, ◌+◌, ◌<◌, ◌≤◌, refl, sym, ap, ◌∙◌, subst, ◌&&◌, eqb, leb, ltb, List, length, get_or, sum_by, arith}
use Rattle.std.specs.List.Sorted.{IsStrictlyIncreasing}
use Rattle.cache_model.specs.declared.objects.Objective.{Objective}
use Rattle.cache_model.proofs.Sums.{sum_by-agree, sum_by-filter, sum_by-nothing}
use Rattle.area_sums.specs.declared.group.Group.{Group}
use Rattle.area_sums.specs.Short.{class_of}
use Rattle.area_sums.specs.Spans.{Span, area_of, cost_of, gain_of}
use Rattle.area_sums.specs.Groups.{AreGroupsOf, both, group_of, no_group, place_of, spans_at}
use Rattle.area_sums.specs.Places.{group_before}
use Rattle.area_sums.proofs.TestLemmas.{and-swap, below-more, below-none, below-up_to, if_so, sum_by-split}
use Rattle.area_sums.proofs.PlaceLemmas.{place-le}

-- the class of a span
abbrev pub class_at : Objective → Span → ℕ
class_at objective s = class_of (cost_of objective s)

-- what a group sums up of spans
pub record SumsUp (objective : Objective) (part : Group → ℕ) (f : Span → ℕ) : Type 0 where
  pub of : (xs : List Span) → part (group_of objective xs) ≡ sum_by f xs
  pub none : part no_group ≡ 0
  pub more : (a b : Group) → part (both a b) ≡ part a + part b

pub gains-sum : (objective : Objective) → SumsUp objective (λ g. g.gain) (gain_of objective)
gains-sum objective = record { of = λ xs. refl; none = refl; more = λ a b. refl }

pub areas-sum : (objective : Objective) → SumsUp objective (λ g. g.area) area_of
areas-sum objective = record { of = λ xs. refl; none = refl; more = λ a b. refl }

module _ (objective : Objective) (part : Group → ℕ) (f : Span → ℕ) (sums : SumsUp objective part f) (capacities : List ℕ) (spans : List Span)
    (groups : ℕ → ℕ → Group) (are : AreGroupsOf objective capacities spans groups) where
  -- at a place and a class
  pub sum-at : (class place : ℕ) → place < length capacities
      → part (groups place class) ≡ sum_by (λ s. if_so (eqb (class_at objective s) class && eqb (place_of capacities s.size) place) (f s)) spans
  sum-at class place low =
      ap part (are.each place class low)
      ∙ sums.of (spans_at objective capacities place class spans)
      ∙ sum_by-filter f (λ s. eqb (class_at objective s) class && eqb (place_of capacities s.size) place) spans

  -- at the places before one
  pub sum-before : (class place : ℕ) → place ≤ length capacities
      → part (group_before groups class place) ≡ sum_by (λ s. if_so (eqb (class_at objective s) class && ltb (place_of capacities s.size) place) (f s)) spans
  sum-before class zero within =
      sums.none
      ∙ sym (sum_by-nothing (λ s. if_so (eqb (class_at objective s) class && ltb (place_of capacities s.size) 0) (f s)) spans
      (λ s. below-none (eqb (class_at objective s) class) (place_of capacities s.size) (f s)))
  sum-before class (suc place) within =
      let e : suc place ≡ place + 1 = omega arith in
      subst (λ p. part (group_before groups class (suc place)) ≡ sum_by (λ s. if_so (eqb (class_at objective s) class && ltb (place_of capacities s.size) p) (f s)) spans) (sym e)
      (omega (
        arith,
        sums.more (group_before groups class place) (groups place class),
        sum-before class place (omega arith),
        sum-at class place (omega arith),
        sum_by-split (λ s. if_so (eqb (class_at objective s) class && ltb (place_of capacities s.size) place) (f s))
            (λ s. if_so (eqb (class_at objective s) class && eqb (place_of capacities s.size) place) (f s))
            (λ s. if_so (eqb (class_at objective s) class && ltb (place_of capacities s.size) (place + 1)) (f s)) spans
            (λ s. below-more (eqb (class_at objective s) class) (place_of capacities s.size) place (f s)),
      ))

  -- up to a place are the spans that its capacity holds
  pub sum-held : IsStrictlyIncreasing capacities → (class place : ℕ) → place < length capacities
      → part (group_before groups class (place + 1)) ≡ sum_by (λ s. if_so (leb s.size (get_or capacities place 0) && eqb (class_at objective s) class) (f s)) spans
  sum-held rises class place low =
      sum-before class (place + 1) (omega arith)
      ∙ sum_by-agree (λ s. if_so (eqb (class_at objective s) class && ltb (place_of capacities s.size) (place + 1)) (f s))
      (λ s. if_so (leb s.size (get_or capacities place 0) && eqb (class_at objective s) class) (f s)) spans
      (λ s. ap (λ b. if_so b (f s))
      (ap (λ b. eqb (class_at objective s) class && b) (below-up_to (place_of capacities s.size) place ∙ place-le capacities rises s.size place low)
      ∙ and-swap (eqb (class_at objective s) class) (leb s.size (get_or capacities place 0))))
