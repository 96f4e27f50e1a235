-- Cells and the places of their numbers, as cells are changed, added and taken away.
use Rattle.std.proofs.Common.{◌≡◌, ℕ, zero, suc, ◌+◌, ◌-◌, ◌<◌, ◌≤◌, ◌≢◌, ◌∙◌, ap, sym, refl, subst, inl, inr, arith, List, [], ◌∷◌, ◌++◌, length, replicate, slice_set, slice_index_or, take, length-set, length-append, length-take}
use Rattle.std.proofs.lemmas.Bool.{cases_eq, cases_lt}
use Rattle.std.proofs.lemmas.List.{append-nil, ext_get_or, get_or-map, get_or-set_same, get_or-set_other, get_or-take, get_or_append_left, get_or-append_right, get_or_push, get_or_past, get_or_read, get_or-replicate, length-map, length-replicate, length_push, set-get_or}
use Rattle.sparse_list.specs.declared.list.Cell.{Cell}
use Rattle.sparse_list.specs.Sparse.{Sparse, AreCells, cell_at, cells_without, item_at, last_cell, place_at, up_to, value_at, values_of}

-- ---- places
zero-suc : {P : Type 0} (k : ℕ) → 0 ≡ suc k → P
zero-suc k e = absurd (omega (arith, e))

-- a number that has a place stands among the places
pub placed-within : (places : List ℕ) (n k : ℕ) → place_at places n ≡ suc k → n < length places
placed-within places n k e = elim (cases_lt n (length places)) [
  | inl within ↦ within
  | inr past ↦ zero-suc k (sym (get_or_past places n 0 past) ∙ e)
]

module _ {X : Type 0} (none : X) where
  -- items are the values of places if each is that of its number's place
  pub values_are : (cells : List (Cell X)) (places : List ℕ) (items : List X) → length items ≡ length places
      → ((n : ℕ) → n < length places → value_at none cells (place_at places n) ≡ slice_index_or items n none)
      → values_of none cells places ≡ items
  values_are cells places items long each =
      ext_get_or none (values_of none cells places) items (length-map places (value_at none cells) ∙ sym long)
      (λ n below.
      let within : n < length places = omega (arith, below, length-map places (value_at none cells)) in
      get_or-map (value_at none cells) places n 0 none within ∙ each n within)

  -- the item of a number is the value of its place
  pub item-place : (cells : List (Cell X)) (places : List ℕ) (n : ℕ) → slice_index_or (values_of none cells places) n none ≡ value_at none cells (place_at places n)
  item-place cells places n = elim (cases_lt n (length places)) [
    | inl within ↦ get_or-map (value_at none cells) places n 0 none within
    | inr past ↦
        get_or_past (values_of none cells places) n none (omega (arith, past, length-map places (value_at none cells)))
        ∙ sym (ap (value_at none cells) (get_or_past places n 0 past))
  ]

  -- the item of a number in items of which that of another one was set
  pub set-item : (items : List X) (n m : ℕ) (value : X) → n < length items → (v : X) → (m ≡ n → v ≡ value) → (m ≢ n → v ≡ slice_index_or items m none) → v ≡ slice_index_or (slice_set items n value) m none
  set-item items n m value within v same other = elim (cases_eq m n) [
    | inl e ↦ same e ∙ sym (ap (λ k. slice_index_or (slice_set items n value) k none) e ∙ get_or-set_same items n value none within)
    | inr apart ↦ other apart ∙ sym (get_or-set_other items n m value none apart)
  ]

  -- a number whose value is not that for none has a place
  pub some-place : (s : Sparse X) (cells : List (Cell X)) (places : List ℕ) (n : ℕ) → record { none = none; items = values_of none cells places } ≡ s → item_at s n ≢ s.none → place_at places n ≡ suc (place_at places n - 1)
  some-place s cells places n view some = elim (cases_eq (place_at places n) 0) [
    | inl free ↦ absurd (some (subst (λ (s : Sparse X). item_at s n ≡ s.none) view (item-place cells places n ∙ ap (value_at none cells) free)))
    | inr apart ↦ omega (arith, apart)
  ]

  -- a number without a place has the value for none
  pub no-place : (s : Sparse X) (cells : List (Cell X)) (places : List ℕ) (n : ℕ) → record { none = none; items = values_of none cells places } ≡ s → place_at places n ≡ 0 → s ≡ record s { items = slice_set s.items n s.none }
  no-place s cells places n view free =
      let is : item_at s n ≡ s.none = subst (λ (s : Sparse X). item_at s n ≡ s.none) view (item-place cells places n ∙ ap (value_at none cells) free) in
      ap (λ items. record s { items = items }) (sym (set-get_or s.items n s.none) ∙ ap (λ v. slice_set s.items n v) is)

  -- the items go up to a number that has a place
  pub up_to-placed : (s : Sparse X) (cells : List (Cell X)) (places : List ℕ) (n k : ℕ) → record { none = none; items = values_of none cells places } ≡ s → place_at places n ≡ suc k → up_to n s ≡ s.items
  up_to-placed s cells places n k view at =
      let within : n < length s.items = subst (λ (s : Sparse X). n < length s.items) view (omega (arith, placed-within places n k at, length-map places (value_at none cells))) in
      let none_more : n + 1 - length s.items ≡ 0 = omega (arith, within) in
      ap (λ more. s.items ++ replicate more s.none) none_more ∙ append-nil s.items

  -- ---- a value changes
  module _ (cells : List (Cell X)) (places : List ℕ) (are : AreCells none cells places) (n k : ℕ) (at : place_at places n ≡ suc k) (c : Cell X) (own : c.owner ≡ n) where
    set-owner : (j : ℕ) → (cell_at none (slice_set cells k c) j).owner ≡ (cell_at none cells j).owner
    set-owner j = elim (cases_eq j k) [
      | inl same ↦
          ap (λ i. (cell_at none (slice_set cells k c) i).owner) same
          ∙ (ap (λ (d : Cell X). d.owner) (get_or-set_same cells k c (record { owner = 0; value = none }) (are.owned n k at).0) ∙ own
          ∙ sym (are.owned n k at).1 ∙ ap (λ i. (cell_at none cells i).owner) (sym same))
      | inr apart ↦ ap (λ (d : Cell X). d.owner) (get_or-set_other cells k j c (record { owner = 0; value = none }) apart)
    ]

    pub changed-cells : AreCells none (slice_set cells k c) places
    changed-cells = record {
      owned = λ m j e. (omega (arith, (are.owned m j e).0, length-set cells k c), set-owner j ∙ (are.owned m j e).1);
      placed = λ j below. ap (place_at places) (set-owner j) ∙ are.placed j (omega (arith, below, length-set cells k c));
    }

    -- the value at a place of another number
    stays : (m place : ℕ) → place_at places m ≡ place → m ≢ n → value_at none (slice_set cells k c) place ≡ value_at none cells place
    stays m zero e apart = refl
    stays m (suc j) e apart =
        ap (λ (d : Cell X). d.value) (get_or-set_other cells k j c (record { owner = 0; value = none })
        (λ same. apart (sym (are.owned m j e).1 ∙ ap (λ i. (cell_at none cells i).owner) same ∙ (are.owned n k at).1)))

    pub changed-values : values_of none (slice_set cells k c) places ≡ slice_set (values_of none cells places) n c.value
    changed-values =
        values_are (slice_set cells k c) places (slice_set (values_of none cells places) n c.value) (length-set (values_of none cells places) n c.value ∙ length-map places (value_at none cells))
        (λ m within.
        set-item (values_of none cells places) n m c.value (omega (arith, placed-within places n k at, length-map places (value_at none cells))) (value_at none (slice_set cells k c) (place_at places m))
        (λ same. ap (λ i. value_at none (slice_set cells k c) (place_at places i)) same ∙ (ap (value_at none (slice_set cells k c)) at ∙ ap (λ (d : Cell X). d.value) (get_or-set_same cells k c (record { owner = 0; value = none }) (are.owned n k at).0)))
        (λ apart. stays m (place_at places m) refl apart ∙ sym (item-place cells places m)))

-- the cell that is read at the place of a number is of that number
pub read-owner : {X : Type 0} (none : X) (cells : List (Cell X)) (places : List ℕ) → AreCells none cells places → (n k : ℕ) → place_at places n ≡ suc k → (c : Cell X) → c ≡ slice_index_or cells k c → c.owner ≡ n
read-owner {X = X} none cells places are n k at c read =
    let own = are.owned n k at in
    ap (λ (d : Cell X). d.owner) (get_or_read cells k c own.0 read (record { owner = 0; value = none })) ∙ own.1

-- more items that are none change nothing
pub padded : {X : Type 0} (xs : List X) (k m : ℕ) (d : X) → slice_index_or (xs ++ replicate k d) m d ≡ slice_index_or xs m d
padded xs k m d = elim (cases_lt m (length xs)) [
  | inl within ↦ get_or_append_left xs (replicate k d) d m within
  | inr past ↦ get_or-append_right xs (replicate k d) (length xs) m d refl past ∙ (more (m - length xs) ∙ sym (get_or_past xs m d past))
]
  where
    more : (i : ℕ) → slice_index_or (replicate k d) i d ≡ d
    more i = elim (cases_lt i k) [
      | inl within ↦ get_or-replicate k i d d within
      | inr past ↦ get_or_past (replicate k d) i d (omega (arith, past, length-replicate k d))
    ]

-- ---- a cell is added
module _ {X : Type 0} (none : X) (cells : List (Cell X)) (places : List ℕ) (are : AreCells none cells places) (n : ℕ) (free : place_at places n ≡ 0) (c : Cell X) (own : c.owner ≡ n) where
  -- places up to that of the number
  abbrev long : List ℕ
  long = places ++ replicate (n + 1 - length places) 0

  abbrev more_places : List ℕ
  more_places = slice_set long n (length cells + 1)

  reached : n < length long
  reached = omega (arith, length-append places (replicate (n + 1 - length places) 0), length-replicate {A = ℕ} (n + 1 - length places) 0)

  place-new : place_at more_places n ≡ suc (length cells)
  place-new = get_or-set_same long n (length cells + 1) 0 reached ∙ omega arith

  place-old : (m : ℕ) → m ≢ n → place_at more_places m ≡ place_at places m
  place-old m apart = get_or-set_other long n m (length cells + 1) 0 apart ∙ padded places (n + 1 - length places) m 0

  -- a number that has a place is another one
  placed-other : (m j : ℕ) → place_at places m ≡ suc j → m ≢ n
  placed-other m j e same = zero-suc j (sym free ∙ (ap (place_at places) (sym same) ∙ e))

  cell-old : (j : ℕ) → j < length cells → cell_at none (cells ++ c ∷ []) j ≡ cell_at none cells j
  cell-old j below = get_or_append_left cells (c ∷ []) (record { owner = 0; value = none }) j below

  cell-new : cell_at none (cells ++ c ∷ []) (length cells) ≡ c
  cell-new = get_or_push cells c (record { owner = 0; value = none }) (length cells) refl

  owned-new : (m j : ℕ) → place_at more_places m ≡ suc j → (j < length (cells ++ c ∷ [])) × ((cell_at none (cells ++ c ∷ []) j).owner ≡ m)
  owned-new m j e = elim (cases_eq m n) [
    | inl same ↦
        let last : j ≡ length cells = omega (arith, sym e ∙ (ap (place_at more_places) same ∙ place-new)) in
        (omega (arith, last, length_push cells c), ap (λ i. (cell_at none (cells ++ c ∷ []) i).owner) last ∙ (ap (λ (d : Cell X). d.owner) cell-new ∙ own ∙ sym same))
    | inr apart ↦
        let was = are.owned m j (sym (place-old m apart) ∙ e) in
        (omega (arith, was.0, length_push cells c), ap (λ (d : Cell X). d.owner) (cell-old j was.0) ∙ was.1)
  ]

  placed-new : (j : ℕ) → j < length (cells ++ c ∷ []) → place_at more_places (cell_at none (cells ++ c ∷ []) j).owner ≡ suc j
  placed-new j below = elim (cases_eq j (length cells)) [
    | inl last ↦
        ap (λ i. place_at more_places (cell_at none (cells ++ c ∷ []) i).owner) last
        ∙ (ap (λ (d : Cell X). place_at more_places d.owner) cell-new ∙ (ap (place_at more_places) own ∙ (place-new ∙ ap suc (sym last))))
    | inr apart ↦
        let within : j < length cells = omega (arith, below, apart, length_push cells c) in
        ap (λ (d : Cell X). place_at more_places d.owner) (cell-old j within)
        ∙ (place-old (cell_at none cells j).owner (placed-other (cell_at none cells j).owner j (are.placed j within)) ∙ are.placed j within)
  ]

  pub added-cells : AreCells none (cells ++ c ∷ []) more_places
  added-cells = record { owned = owned-new; placed = placed-new }

  -- the value at a place of a number that had one
  kept : (m place : ℕ) → place_at places m ≡ place → value_at none (cells ++ c ∷ []) place ≡ value_at none cells place
  kept m zero e = refl
  kept m (suc j) e = ap (λ (d : Cell X). d.value) (cell-old j (are.owned m j e).0)

  abbrev more_items : List X
  more_items = values_of none cells places ++ replicate (n + 1 - length (values_of none cells places)) none

  pub added-values : values_of none (cells ++ c ∷ []) more_places ≡ slice_set more_items n c.value
  added-values =
      let items : length (values_of none cells places) ≡ length places = length-map places (value_at none cells) in
      let most : length more_items ≡ length long =
      length-append (values_of none cells places) (replicate (n + 1 - length (values_of none cells places)) none)
      ∙ omega (arith, items, length-replicate (n + 1 - length (values_of none cells places)) none, length-append places (replicate (n + 1 - length places) 0), length-replicate {A = ℕ} (n + 1 - length places) 0) in
      values_are none (cells ++ c ∷ []) more_places (slice_set more_items n c.value) (length-set more_items n c.value ∙ (most ∙ sym (length-set long n (length cells + 1))))
      (λ m within.
      set-item none more_items n m c.value (omega (arith, most, reached)) (value_at none (cells ++ c ∷ []) (place_at more_places m))
      (λ same. ap (λ i. value_at none (cells ++ c ∷ []) (place_at more_places i)) same ∙ (ap (value_at none (cells ++ c ∷ [])) place-new ∙ ap (λ (d : Cell X). d.value) cell-new))
      (λ apart.
      ap (value_at none (cells ++ c ∷ [])) (place-old m apart)
      ∙ (kept m (place_at places m) refl
      ∙ (sym (item-place none cells places m) ∙ sym (padded (values_of none cells places) (n + 1 - length (values_of none cells places)) m none)))))

-- ---- a cell is taken away
module _ {X : Type 0} (none : X) (cells : List (Cell X)) (places : List ℕ) (are : AreCells none cells places) (n k : ℕ) (at : place_at places n ≡ suc k) where
  abbrev last : Cell X
  last = last_cell none cells

  abbrev rest : List (Cell X)
  rest = cells_without none k cells

  abbrev rest_places : List ℕ
  rest_places = slice_set (slice_set places last.owner (suc k)) n 0

  there : k < length cells
  there = (are.owned n k at).0

  -- the last cell and its place
  last-place : place_at places last.owner ≡ suc (length cells - 1)
  last-place = are.placed (length cells - 1) (omega (arith, there))

  pub last-within : last.owner < length places
  last-within = placed-within places last.owner (length cells - 1) last-place

  n-within : n < length places
  n-within = placed-within places n k at

  rest-length : length rest ≡ length cells - 1
  rest-length = length-set (take (length cells - 1) cells) k last ∙ (length-take (length cells - 1) cells ∙ omega arith)

  -- the places
  gone : place_at rest_places n ≡ 0
  gone = get_or-set_same (slice_set places last.owner (suc k)) n 0 0 (omega (arith, n-within, length-set places last.owner (suc k)))

  moved : last.owner ≢ n → place_at rest_places last.owner ≡ suc k
  moved apart = get_or-set_other (slice_set places last.owner (suc k)) n last.owner 0 0 apart ∙ get_or-set_same places last.owner (suc k) 0 last-within

  others : (m : ℕ) → m ≢ n → m ≢ last.owner → place_at rest_places m ≡ place_at places m
  others m apart other = get_or-set_other (slice_set places last.owner (suc k)) n m 0 0 apart ∙ get_or-set_other places last.owner m (suc k) 0 other

  -- the number of the last cell is that one exactly if its place is the last
  last-apart : last.owner ≢ n → k < length cells - 1
  last-apart apart = elim (cases_lt k (length cells - 1)) [
    | inl below ↦ below
    | inr not ↦ absurd (apart (ap (λ i. (cell_at none cells i).owner) (sym (the-last not)) ∙ (are.owned n k at).1))
  ]
    where
      the-last : length cells - 1 ≤ k → k ≡ length cells - 1
      the-last not = omega (arith, not, there)

  apart-last : k < length cells - 1 → last.owner ≢ n
  apart-last below same = omega (arith, below, sym at ∙ (ap (place_at places) (sym same) ∙ last-place))

  -- the cells
  cell-moved : k < length cells - 1 → cell_at none rest k ≡ last
  cell-moved below = get_or-set_same (take (length cells - 1) cells) k last (record { owner = 0; value = none }) (omega (arith, below, length-take (length cells - 1) cells))

  cell-stays : (j : ℕ) → j ≢ k → j < length cells - 1 → cell_at none rest j ≡ cell_at none cells j
  cell-stays j apart below =
      get_or-set_other (take (length cells - 1) cells) k j last (record { owner = 0; value = none }) apart
      ∙ get_or-take (length cells - 1) cells j (record { owner = 0; value = none }) below

  -- where another number stands
  stands : (m j : ℕ) → m ≢ n → m ≢ last.owner → place_at places m ≡ suc j → (j ≢ k) × (j < length cells - 1)
  stands m j apart other e = (
    λ same. apart (sym (are.owned m j e).1 ∙ (ap (λ i. (cell_at none cells i).owner) same ∙ (are.owned n k at).1)),
    before (λ same. other (sym (are.owned m j e).1 ∙ ap (λ i. (cell_at none cells i).owner) same)),
  )
    where
      before : (j ≢ length cells - 1) → j < length cells - 1
      before apart_too = omega (arith, apart_too, (are.owned m j e).0)

  owned-rest : (m j : ℕ) → place_at rest_places m ≡ suc j → (j < length rest) × ((cell_at none rest j).owner ≡ m)
  owned-rest m j e = elim (cases_eq m n) [
    | inl same ↦ zero-suc j (sym gone ∙ (ap (place_at rest_places) (sym same) ∙ e))
    | inr apart ↦ elim (cases_eq m last.owner) [
      | inl is-last ↦
          let not : last.owner ≢ n = λ s. apart (is-last ∙ s) in
          let here : j ≡ k = omega (arith, sym e ∙ (ap (place_at rest_places) is-last ∙ moved not)) in
          (omega (arith, here, last-apart not, rest-length), ap (λ i. (cell_at none rest i).owner) here ∙ (ap (λ (d : Cell X). d.owner) (cell-moved (last-apart not)) ∙ sym is-last))
      | inr other ↦
          let was : place_at places m ≡ suc j = sym (others m apart other) ∙ e in
          let place = stands m j apart other was in
          (omega (arith, place.1, rest-length), ap (λ (d : Cell X). d.owner) (cell-stays j place.0 place.1) ∙ (are.owned m j was).1)
    ]
  ]

  placed-rest : (j : ℕ) → j < length rest → place_at rest_places (cell_at none rest j).owner ≡ suc j
  placed-rest j below =
      let within : j < length cells - 1 = omega (arith, below, rest-length) in
      elim (cases_eq j k) [
        | inl here ↦
            let low : k < length cells - 1 = omega (arith, within, here) in
            ap (λ i. place_at rest_places (cell_at none rest i).owner) here
            ∙ (ap (λ (d : Cell X). place_at rest_places d.owner) (cell-moved low) ∙ (moved (apart-last low) ∙ ap suc (sym here)))
        | inr apart ↦
            let its : place_at places (cell_at none cells j).owner ≡ suc j = are.placed j (omega (arith, within)) in
            ap (λ (d : Cell X). place_at rest_places d.owner) (cell-stays j apart within)
            ∙ (others (cell_at none cells j).owner
            (λ same. apart (omega (arith, sym its ∙ (ap (place_at places) same ∙ at))))
            (λ same. omega (arith, within, sym its ∙ (ap (place_at places) same ∙ last-place)))
            ∙ its)
      ]

  pub taken-cells : AreCells none rest rest_places
  taken-cells = record { owned = owned-rest; placed = placed-rest }

  -- the value at a place of another number
  kept-value : (m place : ℕ) → m ≢ n → m ≢ last.owner → place_at places m ≡ place → value_at none rest place ≡ value_at none cells place
  kept-value m zero apart other e = refl
  kept-value m (suc j) apart other e = let place = stands m j apart other e in ap (λ (d : Cell X). d.value) (cell-stays j place.0 place.1)

  other-value : (m : ℕ) → m ≢ n → value_at none rest (place_at rest_places m) ≡ value_at none cells (place_at places m)
  other-value m apart = elim (cases_eq m last.owner) [
    | inl is-last ↦
        let not : last.owner ≢ n = λ s. apart (is-last ∙ s) in
        ap (λ i. value_at none rest (place_at rest_places i)) is-last
        ∙ (ap (value_at none rest) (moved not) ∙ (ap (λ (d : Cell X). d.value) (cell-moved (last-apart not))
        ∙ (sym (ap (value_at none cells) last-place) ∙ ap (λ i. value_at none cells (place_at places i)) (sym is-last))))
    | inr other ↦ ap (value_at none rest) (others m apart other) ∙ kept-value m (place_at places m) apart other refl
  ]

  pub taken-values : values_of none rest rest_places ≡ slice_set (values_of none cells places) n none
  taken-values =
      let items : length (values_of none cells places) ≡ length places = length-map places (value_at none cells) in
      values_are none rest rest_places (slice_set (values_of none cells places) n none)
      (length-set (values_of none cells places) n none ∙ (items ∙ sym (length-set (slice_set places last.owner (suc k)) n 0 ∙ length-set places last.owner (suc k))))
      (λ m within.
      set-item none (values_of none cells places) n m none (omega (arith, items, n-within)) (value_at none rest (place_at rest_places m))
      (λ same. ap (λ i. value_at none rest (place_at rest_places i)) same ∙ ap (value_at none rest) gone)
      (λ apart. other-value m apart ∙ sym (item-place none cells places m)))

-- the same with the place as it is read
module _ {X : Type 0} (none : X) (cells : List (Cell X)) (places : List ℕ) (are : AreCells none cells places) (n place : ℕ) (at : place_at places n ≡ place) (some : place ≢ 0) where
  counted : suc (place - 1) ≡ place
  counted = omega (arith, some)

  pub taken-cells-at : AreCells none (cells_without none (place - 1) cells) (slice_set (slice_set places (last_cell none cells).owner place) n 0)
  taken-cells-at =
      subst (λ p. AreCells none (cells_without none (place - 1) cells) (slice_set (slice_set places (last_cell none cells).owner p) n 0)) counted
      (taken-cells none cells places are n (place - 1) (at ∙ sym counted))

  pub taken-values-at : values_of none (cells_without none (place - 1) cells) (slice_set (slice_set places (last_cell none cells).owner place) n 0) ≡ slice_set (values_of none cells places) n none
  taken-values-at =
      subst (λ p. values_of none (cells_without none (place - 1) cells) (slice_set (slice_set places (last_cell none cells).owner p) n 0) ≡ slice_set (values_of none cells places) n none) counted
      (taken-values none cells places are n (place - 1) (at ∙ sym counted))
