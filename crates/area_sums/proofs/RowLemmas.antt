-- Rows of groups.
use Rattle.std.proofs.Common.{◌≡◌, ℕ, ◌+◌, ◌<◌, ◌≤◌, ◌⊎◌, inl, inr, sym, ap, ◌∙◌, [], get_or, map, arith}
use Rattle.std.specs.List.{range_with_len}
use Rattle.std.proofs.lemmas.Bool.{cases_lt}
use Rattle.std.proofs.lemmas.List.{get_or-map, get_or_past, length-map}
use Rattle.std.proofs.lemmas.List.FromFn.{get_or-range_with_len, length-range_with_len}
use Rattle.area_sums.specs.declared.group.Group.{Group}
use Rattle.area_sums.specs.Groups.{area_classes, group_at, groups_of, no_group, rows_of}

-- a list that is made by number
made-read : {X : Type 0} (f : ℕ → X) (n k : ℕ) (d : X) → k < n → get_or (map f (range_with_len 0 n)) k d ≡ f k
made-read f n k d low =
    let e : 0 + k ≡ k = omega arith in
    get_or-map f (range_with_len 0 n) k 0 d (omega (arith, length-range_with_len 0 n)) ∙ ap f (get_or-range_with_len 0 n k 0 low ∙ e)

made-past : {X : Type 0} (f : ℕ → X) (n k : ℕ) (d : X) → n ≤ k → get_or (map f (range_with_len 0 n)) k d ≡ d
made-past f n k d past = get_or_past (map f (range_with_len 0 n)) k d (omega (arith, length-map (range_with_len 0 n) f, length-range_with_len 0 n))

-- the rows have the groups, if none is of a class after the last
pub rows-read : (places : ℕ) (groups : ℕ → ℕ → Group) → ((place class : ℕ) → area_classes ≤ class → groups place class ≡ no_group)
    → (place class : ℕ) → place < places → groups_of (rows_of places groups) place class ≡ groups place class
unfolding rows_of
rows-read places groups none place class low =
    by area_classes (none place class)
  where
    by : (classes : ℕ) → (classes ≤ class → groups place class ≡ no_group)
        → group_at (get_or (map (λ place. map (groups place) (range_with_len 0 classes)) (range_with_len 0 places)) place []) class ≡ groups place class
    by classes none =
        ap (λ row. group_at row class) (made-read (λ place. map (groups place) (range_with_len 0 classes)) places place [] low)
        ∙ at (cases_lt class classes)
      where
        at : (class < classes) ⊎ (classes ≤ class) → group_at (map (groups place) (range_with_len 0 classes)) class ≡ groups place class
        at (inl early) = made-read (groups place) classes class no_group early
        at (inr late) = made-past (groups place) classes class no_group late ∙ sym (none late)
