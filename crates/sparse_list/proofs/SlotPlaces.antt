-- Where the cells of a list with room stand, as numbers are read, put and taken away.
use Rattle.std.proofs.Common.{◌≡◌, ℕ, zero, suc, ◌+◌, ◌-◌, ◌<◌, ◌≢◌, ◌∙◌, ap, refl, subst, sym, List, [], ◌∷◌, ◌++◌, length, map, replicate, slice_set, slice_index_or, arith}
use Rattle.std.proofs.lemmas.List.{append-nil, get_or_read, length-map, map-append}
use Rattle.sparse_list.specs.declared.list.Cell.{Cell}
use Rattle.sparse_list.specs.Sparse.{Sparse, AreCells, place_at, value_at, values_of}
use Rattle.sparse_list.specs.Slots.{Slots, slot_at}
use Rattle.sparse_list.proofs.Places.{added-cells, added-values, padded, placed-within, some-place}

-- the values of a list with room
abbrev pub sparse_of : {X : Type 0} → Slots X → Sparse X
sparse_of s = record { none = s.none; items = s.items }

suc-zero : {P : Type 0} (k : ℕ) → suc k ≡ 0 → P
suc-zero k e = absurd (omega (arith, e))

module _ {X : Type 0} (none : X) (cells : List (Cell X)) (places : List ℕ) (count room : ℕ) (s : Slots X) (view : record { none = none; items = values_of none cells places; count = count; room = room } ≡ s) where
  values-view : record { none = none; items = values_of none cells places } ≡ sparse_of s
  values-view = ap sparse_of view

  -- a number whose value is not that for none has a place, which is read
  pub read-some : (n read : ℕ) → slot_at s n ≢ s.none → read ≡ slice_index_or places n read → place_at places n ≡ suc (read - 1)
  read-some n read some is =
      let there : place_at places n ≡ suc (place_at places n - 1) = some-place none (sparse_of s) cells places n values-view some in
      omega (arith, there, get_or_read places n read (placed-within places n (place_at places n - 1) there) is 0)

  -- and that place is not the one for none
  pub read-there : (n read : ℕ) → slot_at s n ≢ s.none → read ≡ slice_index_or places n read → (place_at places n ≡ read) × (read ≢ 0)
  read-there n read some is =
      let there : place_at places n ≡ suc (place_at places n - 1) = some-place none (sparse_of s) cells places n values-view some in
      let same : read ≡ place_at places n = get_or_read places n read (placed-within places n (place_at places n - 1) there) is 0 in
      (sym same, λ zero. suc-zero (place_at places n - 1) (sym there ∙ sym same ∙ zero))

  -- a number that was reached stands among the places
  pub reached-within : (n : ℕ) → n < length s.items → n < length places
  reached-within n low = omega (arith, low, ap length (ap (λ (t : Slots X). t.items) view), length-map places (value_at none cells))

  -- the place of a number that was reached, as it is read
  pub read-place : (n read : ℕ) → n < length s.items → read ≡ slice_index_or places n read → place_at places n ≡ read
  read-place n read low is = sym (get_or_read places n read (reached-within n low) is 0)

-- ---- a cell is added at a place that was reached
module _ {X : Type 0} (none : X) (cells : List (Cell X)) (places : List ℕ) (are : AreCells none cells places) (n : ℕ) (within : n < length places) (free : place_at places n ≡ 0) (c : Cell X) (own : c.owner ≡ n) (place : ℕ) (last : place ≡ length cells + 1) where
  no-more : (m : ℕ) → m ≡ length places → n + 1 - m ≡ 0
  no-more m is = omega (arith, is, within)

  pub put-cells : AreCells none (cells ++ c ∷ []) (slice_set places n place)
  put-cells = subst (λ p. AreCells none (cells ++ c ∷ []) (slice_set places n p)) (sym last) (subst (λ ps. AreCells none (cells ++ c ∷ []) (slice_set ps n (length cells + 1))) short (added-cells none cells places are n free c own))
    where
      short : places ++ replicate (n + 1 - length places) 0 ≡ places
      short = ap (λ more. places ++ replicate more 0) (no-more (length places) refl) ∙ append-nil places

  pub put-values : values_of none (cells ++ c ∷ []) (slice_set places n place) ≡ slice_set (values_of none cells places) n c.value
  put-values =
      ap (λ p. values_of none (cells ++ c ∷ []) (slice_set places n p)) last
      ∙ ap (λ ps. values_of none (cells ++ c ∷ []) (slice_set ps n (length cells + 1))) (sym short)
      ∙ added-values none cells places are n free c own
      ∙ ap (λ items. slice_set items n c.value) short-items
    where
      short : places ++ replicate (n + 1 - length places) 0 ≡ places
      short = ap (λ more. places ++ replicate more 0) (no-more (length places) refl) ∙ append-nil places

      short-items : values_of none cells places ++ replicate (n + 1 - length (values_of none cells places)) none ≡ values_of none cells places
      short-items = ap (λ more. values_of none cells places ++ replicate more none) (no-more (length (values_of none cells places)) (length-map places (value_at none cells))) ∙ append-nil (values_of none cells places)

-- ---- more places without a cell
map-replicate : {X Y : Type 0} (f : X → Y) (n : ℕ) (x : X) → map f (replicate n x) ≡ replicate n (f x)
map-replicate f zero x = refl
map-replicate f (suc n) x = ap (λ ys. f x ∷ ys) (map-replicate f n x)

module _ {X : Type 0} (none : X) (cells : List (Cell X)) (places : List ℕ) (more : ℕ) where
  pub longer-cells : AreCells none cells places → AreCells none cells (places ++ replicate more 0)
  longer-cells are = record {
    owned = λ n k e. are.owned n k (sym (padded places more n 0) ∙ e);
    placed = λ k low. padded places more (slice_owner k) 0 ∙ are.placed k low;
  }
    where
      slice_owner : ℕ → ℕ
      slice_owner k = (slice_index_or cells k (record { owner = 0; value = none })).owner

  pub longer-values : values_of none cells (places ++ replicate more 0) ≡ values_of none cells places ++ replicate more none
  longer-values = map-append (value_at none cells) places (replicate more 0) ∙ ap (λ vs. values_of none cells places ++ vs) (map-replicate (value_at none cells) more 0)
