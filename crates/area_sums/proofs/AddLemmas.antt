-- The sums after one span more are those of the spans with it.
use Rattle.std.proofs.Common.{◌≡◌, ℕ, ◌+◌, ◌^◌, ◌<◌, refl, ap, ◌∙◌, sym, Bool, true, false, cond, ◌&&◌, eqb, List, [], ◌∷◌, ◌++◌, length, All, filter, arith}
use Rattle.std.proofs.lemmas.List.Sums.{sum_by_push}
use Rattle.cache_model.specs.declared.objects.Objective.{Objective}
use Rattle.area_sums.specs.declared.group.Group.{Group}
use Rattle.area_sums.specs.Spans.{Span, area_of, gain_of}
use Rattle.area_sums.specs.Groups.{AreGroupsOf, IsInRange, both, group_of, no_group, place_of, with_more}
use Rattle.area_sums.proofs.PlaceSums.{areas-sum, class_at, gains-sum, sum-at}
use Rattle.area_sums.proofs.ClassSums.{area-most, areas-most, gain-most, gains-most, most-small}

-- a filter of a list with one more
filter_push : {X : Type 0} (p : X → Bool) (xs : List X) (x : X) → filter p (xs ++ x ∷ []) ≡ filter p xs ++ filter p (x ∷ [])
filter_push p [] x = refl
filter_push p (y ∷ ys) x = by (p y) (filter_push p ys x)
  where
    by : (b : Bool) → filter p (ys ++ x ∷ []) ≡ filter p ys ++ filter p (x ∷ [])
        → cond b (y ∷ filter p (ys ++ x ∷ [])) (filter p (ys ++ x ∷ [])) ≡ cond b (y ∷ filter p ys) (filter p ys) ++ filter p (x ∷ [])
    by true rest = ap (λ zs. y ∷ zs) rest
    by false rest = rest

-- what spans gain with one more, if it passes a test
group-push : (objective : Objective) (p : Span → Bool) (spans : List Span) (s : Span)
    → group_of objective (filter p (spans ++ s ∷ []))
    ≡ (cond (p s) (both (group_of objective (filter p spans)) (record { gain = gain_of objective s; area = area_of s })) (group_of objective (filter p spans)))
group-push objective p spans s = ap (group_of objective) (filter_push p spans s) ∙ by (p s)
  where
    by : (b : Bool) → group_of objective (filter p spans ++ cond b (s ∷ []) [])
        ≡ cond b (both (group_of objective (filter p spans)) (record { gain = gain_of objective s; area = area_of s })) (group_of objective (filter p spans))
    by true =
        let gain = sum_by_push (gain_of objective) (filter p spans) s in
        let area = sum_by_push area_of (filter p spans) s in
        λ i. record { gain = gain i; area = area i }
    by false = ap (group_of objective) (nothing (filter p spans))
      where
        nothing : (xs : List Span) → xs ++ [] ≡ xs
        nothing [] = refl
        nothing (x ∷ xs) = ap (λ ys. x ∷ ys) (nothing xs)

-- the groups with a span are those of the spans with it
pub groups-of : (objective : Objective) (capacities : List ℕ) (spans : List Span) (old new : ℕ → ℕ → Group) (s : Span)
    → ((place class : ℕ) → place < length capacities → new place class
    ≡ with_more old (place_of capacities s.size) (class_at objective s) (record { gain = gain_of objective s; area = area_of s }) place class)
    → AreGroupsOf objective capacities spans old → AreGroupsOf objective capacities (spans ++ s ∷ []) new
groups-of objective capacities spans old new s more h = record {
  each = λ place class low.
      let test : Span → Bool = λ s. eqb (class_at objective s) class && eqb (place_of capacities s.size) place in
      more place class low
      ∙ ap (λ g. cond (test s) (both g (record { gain = gain_of objective s; area = area_of s })) g) (h.each place class low)
      ∙ sym (group-push objective test spans s);
}

-- groups that are the same are those of the same spans
pub groups-same : (objective : Objective) (capacities : List ℕ) (spans : List Span) (old new : ℕ → ℕ → Group)
    → ((place class : ℕ) → place < length capacities → new place class ≡ old place class)
    → AreGroupsOf objective capacities spans old → AreGroupsOf objective capacities spans new
groups-same objective capacities spans old new same h = record { each = λ place class low. same place class low ∙ h.each place class low }

-- a sum of no span
pub groups-none : (objective : Objective) (capacities : List ℕ) (groups : ℕ → ℕ → Group) → ((place class : ℕ) → place < length capacities → groups place class ≡ no_group)
    → AreGroupsOf objective capacities [] groups
groups-none objective capacities groups none = record { each = λ place class low. none place class low }

-- there is room for a span in each group at the place of a capacity
module _ (objective : Objective) (capacities : List ℕ) (spans : List Span) (groups : ℕ → ℕ → Group) (are : AreGroupsOf objective capacities spans groups)
    (few : length spans < 2 ^ 32) (ranges : All IsInRange spans) (s : Span) (range : IsInRange s) (place class : ℕ) (low : place < length capacities) where
  pub gain-room : (groups place class).gain + gain_of objective s < 2 ^ 128
  gain-room =
      omega (
        arith,
        sum-at objective (λ g. g.gain) (gain_of objective) (gains-sum objective) capacities spans groups are class place low,
        gains-most objective spans few ranges (λ s. eqb (class_at objective s) class && eqb (place_of capacities s.size) place),
        most-small objective,
        gain-most objective s range,
      )

  pub area-room : (groups place class).area + area_of s < 2 ^ 128
  area-room =
      omega (
        arith,
        sum-at objective (λ g. g.area) area_of (areas-sum objective) capacities spans groups are class place low,
        areas-most objective spans few ranges (λ s. eqb (class_at objective s) class && eqb (place_of capacities s.size) place),
        area-most s range,
      )
