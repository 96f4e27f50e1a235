-- Sums over the classes of spans that pass a test, and their ranges.
use Rattle.std.proofs.Common.{◌≡◌, ℕ, zero, suc, ◌+◌, ◌*◌, ◌^◌, ◌<◌, ◌≤◌, refl, sym, ap, subst, Bool, true, false, ◌&&◌, eqb, ltb, List, [], ◌∷◌, length, take, get_or, All, sum_by, arith}
use Rattle.std.proofs.Math.Nat.{mul-le-mul_left}
use Rattle.std.proofs.lemmas.Bool.{eqb-true, lt-ltb}
use Rattle.std.proofs.lemmas.List.{take_all}
use Rattle.std.proofs.lemmas.List.Sums.{sum_by-cons, sum_by-le, sum_by-le-sum_by, sum_by_more}
use Rattle.cache_model.specs.declared.objects.Objective.{Objective}
use Rattle.cache_model.specs.declared.objects.Objective.TheVariants.{Object as Hits, Bytes}
use Rattle.cache_model.proofs.Sums.{sum_by-nothing}
use Rattle.area_sums.specs.declared.group.Group.{Group}
use Rattle.area_sums.specs.Short.{short_at}
use Rattle.area_sums.specs.Spans.{Span, area_of, gain_of}
use Rattle.area_sums.specs.Groups.{AreCheap, IsInRange, classes_for, group_at, no_group}
use Rattle.area_sums.proofs.TestLemmas.{below-more, below-none, if_so, if_so-le, sum_by-agree_on, sum_by-split}
use Rattle.area_sums.proofs.PlaceSums.{class_at}
use Rattle.area_sums.proofs.ShortLemmas.{class_holds, grows_le, length_top_is, top_is}
use Rattle.area_sums.proofs.LeastLemmas.{product-le}

-- the classes below one sum up to what is below it
module _ (objective : Objective) (test : Span → Bool) (part : Group → ℕ) (f : Span → ℕ) (spans : List Span) where
  pub sum-below : (groups : List Group)
      → ((class : ℕ) → class < length groups → part (group_at groups class) ≡ sum_by (λ s. if_so (test s && eqb (class_at objective s) class) (f s)) spans)
      → (class : ℕ) → class ≤ length groups → sum_by part (take class groups) ≡ sum_by (λ s. if_so (test s && ltb (class_at objective s) class) (f s)) spans
  sum-below groups each zero within =
      sym (sum_by-nothing (λ s. if_so (test s && ltb (class_at objective s) 0) (f s)) spans (λ s. below-none (test s) (class_at objective s) (f s)))
  sum-below groups each (suc class) within = by (sum-below groups each class (omega arith))
    where
      by : sum_by part (take class groups) ≡ sum_by (λ s. if_so (test s && ltb (class_at objective s) class) (f s)) spans
          → sum_by part (take (suc class) groups) ≡ sum_by (λ s. if_so (test s && ltb (class_at objective s) (suc class)) (f s)) spans
      by rest =
          let e : suc class ≡ class + 1 = omega arith in
          subst (λ c. sum_by part (take c groups) ≡ sum_by (λ s. if_so (test s && ltb (class_at objective s) c) (f s)) spans) (sym e)
          (omega (
            arith,
            sum_by_more part groups class no_group (omega arith),
            each class (omega arith),
            rest,
            sum_by-split (λ s. if_so (test s && ltb (class_at objective s) class) (f s)) (λ s. if_so (test s && eqb (class_at objective s) class) (f s))
                (λ s. if_so (test s && ltb (class_at objective s) (class + 1)) (f s)) spans (λ s. below-more (test s) (class_at objective s) class (f s)),
          ))

  -- all classes, if each span that passes has one
  pub sum-all : (classes : ℕ) → All (λ s. test s ≡ true → class_at objective s < classes) spans
      → sum_by (λ s. if_so (test s && ltb (class_at objective s) classes) (f s)) spans ≡ sum_by (λ s. if_so (test s) (f s)) spans
  sum-all classes early =
      sum_by-agree_on (λ s. if_so (test s && ltb (class_at objective s) classes) (f s)) (λ s. if_so (test s) (f s)) spans
      (λ k d low. ap (λ b. if_so b (f (get_or spans k d))) (by (test (get_or spans k d)) (class_at objective (get_or spans k d)) (early k d low)))
    where
      by : (b : Bool) (c : ℕ) → (b ≡ true → c < classes) → (b && ltb c classes) ≡ b
      by true c h = lt-ltb c classes (h refl)
      by false c h = refl

-- an area is no more than that of the gain at the edge after the class
span-cheap : (objective : Objective) (s : Span) → area_of s ≤ gain_of objective s * short_at (class_at objective s + 1)
span-cheap Hits s = omega (arith, (class_holds (area_of s)).next_above)
span-cheap Bytes s =
    let below : s.length ≤ short_at (class_at Bytes s + 1) = omega (arith, (class_holds s.length).next_above) in
    mul-le-mul_left s.size below

-- nor are those of a class
pub class-cheap : (objective : Objective) (test : Span → Bool) (class : ℕ) (spans : List Span)
    → sum_by (λ s. if_so (test s && eqb (class_at objective s) class) (area_of s)) spans
    ≤ sum_by (λ s. if_so (test s && eqb (class_at objective s) class) (gain_of objective s)) spans * short_at (class + 1)
class-cheap objective test class [] = omega arith
class-cheap objective test class (s ∷ spans) =
    omega (
      arith,
      sum_by-cons (λ s. if_so (test s && eqb (class_at objective s) class) (area_of s)) s spans,
      ap (λ (m : ℕ). m * short_at (class + 1)) (sum_by-cons (λ s. if_so (test s && eqb (class_at objective s) class) (gain_of objective s)) s spans),
      by (test s) (eqb (class_at objective s) class) refl,
      class-cheap objective test class spans,
    )
  where
    by : (b t : Bool) → eqb (class_at objective s) class ≡ t
        → if_so (b && t) (area_of s) ≤ if_so (b && t) (gain_of objective s) * short_at (class + 1)
    by false t h = omega arith
    by true false h = omega arith
    by true true h = subst (λ c. area_of s ≤ gain_of objective s * short_at (c + 1)) (eqb-true (class_at objective s) class h) (span-cheap objective s)

-- the most that a span gains
abbrev pub most_for : Objective → ℕ
most_for Hits = 1
most_for Bytes = 2 ^ 48

pub gain-most : (objective : Objective) (s : Span) → IsInRange s → gain_of objective s ≤ most_for objective
gain-most Hits s range = omega arith
gain-most Bytes s range = range.size

pub area-most : (s : Span) → IsInRange s → area_of s ≤ 2 ^ 80
area-most s range = product-le s.size (2 ^ 48) s.length (2 ^ 32) range.size (omega (arith, range.length))

pub most-small : (objective : Objective) → 2 ^ 32 * most_for objective ≤ 2 ^ 80
most-small Hits = omega arith
most-small Bytes = omega arith

-- the total at the greatest edge
top-total : (objective : Objective) → short_at (classes_for objective) * (2 ^ 32 * most_for objective) ≤ 2 ^ 112
top-total Hits = omega (arith, ap (λ m. m * (2 ^ 32 * 1)) top_is)
top-total Bytes = omega (arith, ap (λ m. m * (2 ^ 32 * 2 ^ 48)) length_top_is)

module _ (objective : Objective) (spans : List Span) (few : length spans < 2 ^ 32) (ranges : All IsInRange spans) (test : Span → Bool) where
  -- what spans gain, and their areas
  pub gains-most : sum_by (λ s. if_so (test s) (gain_of objective s)) spans ≤ 2 ^ 32 * most_for objective
  gains-most =
      omega (
        arith,
        sum_by-le-sum_by (λ s. if_so (test s) (gain_of objective s)) (gain_of objective) spans (λ s. if_so-le (test s) (gain_of objective s)),
        sum_by-le (gain_of objective) (most_for objective) spans (λ k d low. gain-most objective (get_or spans k d) (ranges k d low)),
        product-le (length spans) (2 ^ 32) (most_for objective) (most_for objective) (omega arith) (omega arith),
      )

  pub gains-fit : sum_by (λ s. if_so (test s) (gain_of objective s)) spans < 2 ^ 128
  gains-fit = omega (arith, gains-most, most-small objective)

  pub areas-most : sum_by (λ s. if_so (test s) (area_of s)) spans ≤ 2 ^ 32 * 2 ^ 80
  areas-most =
      omega (
        arith,
        sum_by-le-sum_by (λ s. if_so (test s) (area_of s)) area_of spans (λ s. if_so-le (test s) (area_of s)),
        sum_by-le area_of (2 ^ 80) spans (λ k d low. area-most (get_or spans k d) (ranges k d low)),
        product-le (length spans) (2 ^ 32) (2 ^ 80) (2 ^ 80) (omega arith) (omega arith),
      )

  pub areas-fit : sum_by (λ s. if_so (test s) (area_of s)) spans < 2 ^ 128
  areas-fit = omega (arith, areas-most)

-- the groups of classes are within the ranges
module _ (objective : Objective) (spans : List Span) (test : Span → Bool) (groups : List Group)
    (gains : (class : ℕ) → class < length groups
    → (group_at groups class).gain ≡ sum_by (λ s. if_so (test s && eqb (class_at objective s) class) (gain_of objective s)) spans) where
  pub classes-cheap : ((class : ℕ) → class < length groups
      → (group_at groups class).area ≡ sum_by (λ s. if_so (test s && eqb (class_at objective s) class) (area_of s)) spans) → AreCheap groups
  classes-cheap areas class low =
      omega (arith, areas class low, ap (λ m. m * short_at (class + 1)) (gains class low), class-cheap objective test class spans)

  pub classes-room : (area : ℕ) → length spans < 2 ^ 32 → All IsInRange spans → length groups ≤ classes_for objective → area ≤ 2 ^ 88
      → area + short_at (length groups) * sum_by (λ g. g.gain) groups < 2 ^ 128
  classes-room area few ranges within small =
      let all = sum-below objective test (λ g. g.gain) (gain_of objective) spans groups gains (length groups) (omega arith) in
      let whole = ap (sum_by (λ (g : Group). g.gain)) (take_all (length groups) groups (omega arith)) in
      let most : sum_by (λ (g : Group). g.gain) groups ≤ 2 ^ 32 * most_for objective =
      omega (arith, all, whole, gains-most objective spans few ranges (λ s. test s && ltb (class_at objective s) (length groups))) in
      omega (
        arith,
        top-total objective,
        product-le (short_at (length groups)) (short_at (classes_for objective)) (sum_by (λ (g : Group). g.gain) groups) (2 ^ 32 * most_for objective)
            (grows_le (length groups) (classes_for objective) within) most,
      )
