-- Groups in pages, as numbers and pages are added and groups written.
use Rattle.std.proofs.Common.{◌≡◌, ℕ, ◌+◌, ◌-◌, ◌*◌, ◌/◌, ◌%◌, ◌^◌, ◌<◌, ◌≤◌, ◌⊎◌, inl, inr, refl, sym, ap, ◌∙◌, subst, Bool, true, false, cond, ◌&&◌, eqb, List, ◌++◌, length, get_or, set, take, replicate, arith, get_or-set_same, get_or-set_other, length-set}
use Rattle.std.proofs.lemmas.Bool.{cases_lt, eqb-false, eqb-true}
use Rattle.std.proofs.lemmas.Nat.{mul-add-lt}
use Rattle.std.proofs.lemmas.List.{get_or-append-add, get_or-replicate, get_or_append_left, get_or_past, length-append, length-replicate, take_all}
use Rattle.area_sums.specs.declared.group.Group.{Group}
use Rattle.area_sums.specs.Groups.{both, group_at, no_group, with_more}
use Rattle.area_sums.specs.PageLayout.{ArePages}

-- the group at a place of a page whose number stands at a spot
abbrev pub read : List ℕ → List Group → ℕ → ℕ → Group
read numbers groups spot r = group_at groups (get_or numbers spot 0 * 64 + r)

-- so many numbers of no page
abbrev pub zeros : ℕ → List ℕ
zeros n = replicate n 0

zeros-length : (n : ℕ) → length (zeros n) ≡ n
zeros-length n = let none : ℕ = 0 in length-replicate n none

zeros-read : (n k : ℕ) → get_or (zeros n) k 0 ≡ 0
zeros-read n k = by (cases_lt k n)
  where
    by : (k < n) ⊎ (n ≤ k) → get_or (zeros n) k 0 ≡ 0
    by (inl less) = let none : ℕ = 0 in get_or-replicate n k none none less
    by (inr past) = get_or_past (zeros n) k 0 (omega (arith, zeros-length n))

-- equal or not
equal_or : (a b : ℕ) → (a ≡ b) ⊎ (a ≡ b → ⊥)
equal_or a b = by (eqb a b) refl
  where
    by : (t : Bool) → eqb a b ≡ t → (a ≡ b) ⊎ (a ≡ b → ⊥)
    by true e = inl (eqb-true a b e)
    by false e = inr (eqb-false a b e)

-- row and column of a spot
pub same_row : (w a b c d : ℕ) → b < w → d < w → a * w + b ≡ c * w + d → (a ≡ c) × (b ≡ d)
same_row w a b c d left right e = by (cases_lt a c) (cases_lt c a)
  where
    by : (a < c) ⊎ (c ≤ a) → (c < a) ⊎ (a ≤ c) → (a ≡ c) × (b ≡ d)
    by (inl less) any = absurd (omega (arith, e, mul-add-lt a w b c less left))
    by (inr more) (inl less) = absurd (omega (arith, e, mul-add-lt c w d a less right))
    by (inr more) (inr most) =
        let same : a ≡ c = omega arith in
        (same, omega (arith, e, ap (λ m. m * w) same))

-- a spot is among those of the rows
pub spot-within : (rows places row place : ℕ) → row < rows → place < places → row * places + place < rows * places
spot-within rows places row place early low = omega (arith, mul-add-lt row places place rows early low)

-- and a row after the last has no number
pub row-beyond : (rows places row place : ℕ) → rows ≤ row → rows * places ≤ row * places + place
row-beyond rows places row place late = by (cases_lt rows row)
  where
    by : (rows < row) ⊎ (row ≤ rows) → rows * places ≤ row * places + place
    by (inr same) = let e : rows ≡ row = omega arith in omega (arith, ap (λ m. m * places) e)
    by (inl less) = at (cases_lt 0 places)
      where
        at : (0 < places) ⊎ (places ≤ 0) → rows * places ≤ row * places + place
        at (inl some) = omega (arith, mul-add-lt rows places 0 row less some)
        at (inr none) =
            let e : places ≡ 0 = omega arith in
            omega (arith, ap (λ m. rows * m) e)

-- no page but the empty one
pub pages-none : (places : ℕ) (numbers : List ℕ) (groups : List Group) → length numbers ≡ 0 → groups ≡ replicate 64 no_group
    → ArePages places 0 numbers groups
pages-none places numbers groups none empty = record {
  few = omega arith;
  each = omega (arith, none);
  whole = omega (arith, size);
  within = λ k. omega (arith, size, get_or_past numbers k 0 (omega (arith, none)));
  apart = λ j k some same. absurd (omega (arith, some, get_or_past numbers j 0 (omega (arith, none))));
  none = λ k low. ap (λ gs. group_at gs k) empty ∙ get_or-replicate 64 k no_group no_group low;
}
  where
    size : length groups ≡ 64
    size = ap length empty ∙ length-replicate 64 no_group

module _ (places rows : ℕ) (numbers : List ℕ) (groups : List Group) (h : ArePages places rows numbers groups) where
  -- a spot without a number reads nothing
  pub read-none : (spot r : ℕ) → get_or numbers spot 0 ≡ 0 → r < 64 → read numbers groups spot r ≡ no_group
  read-none spot r none low = let e : get_or numbers spot 0 * 64 + r ≡ r = omega (arith, none) in ap (group_at groups) e ∙ h.none r low

  -- numbers for more rows, all 0
  module _ (more : ℕ) (new : List ℕ) (few : more ≤ 2 ^ 26) (grows : rows ≤ more) (is : new ≡ take (more * places) numbers ++ zeros (more * places - length numbers)) where
    wide : length numbers ≤ more * places
    wide = omega (arith, h.each, row-beyond rows places more 0 grows)

    whole_is : new ≡ numbers ++ zeros (more * places - length numbers)
    whole_is = is ∙ ap (λ ns. ns ++ zeros (more * places - length numbers)) (take_all (more * places) numbers wide)

    pub same-number : (spot : ℕ) → get_or new spot 0 ≡ get_or numbers spot 0
    same-number spot = ap (λ ns. get_or ns spot 0) whole_is ∙ by (cases_lt spot (length numbers))
      where
        by : (spot < length numbers) ⊎ (length numbers ≤ spot) → get_or (numbers ++ zeros (more * places - length numbers)) spot 0 ≡ get_or numbers spot 0
        by (inl less) = get_or_append_left numbers (zeros (more * places - length numbers)) 0 spot less
        by (inr past) =
            let k : ℕ = spot - length numbers in
            let e : length numbers + k ≡ spot = omega arith in
            subst (λ i. get_or (numbers ++ zeros (more * places - length numbers)) i 0 ≡ get_or numbers spot 0) e
            (get_or-append-add numbers (zeros (more * places - length numbers)) k 0 ∙ zeros-read (more * places - length numbers) k ∙ sym (get_or_past numbers spot 0 past))

    pub pages-more : ArePages places more new groups
    pages-more = record {
      few = few;
      each = omega (
        arith,
        ap length whole_is,
        length-append numbers (zeros (more * places - length numbers)),
        zeros-length (more * places - length numbers),
        wide,
      );
      whole = h.whole;
      within = λ k. omega (arith, h.within k, same-number k);
      apart = λ j k some same. h.apart j k (omega (arith, some, same-number j)) (sym (same-number j) ∙ same ∙ same-number k);
      none = h.none;
    }

  -- an empty page, whose number is written where there was none
  module _ (spot number : ℕ) (early : spot < length numbers) (none : get_or numbers spot 0 ≡ 0) (is : number * 64 ≡ length groups) where
    here : get_or (set numbers spot number) spot 0 ≡ number
    here = get_or-set_same numbers spot number 0 early

    elsewhere : (j : ℕ) → (j ≡ spot → ⊥) → get_or (set numbers spot number) j 0 ≡ get_or numbers j 0
    elsewhere j differ = get_or-set_other numbers spot j number 0 differ

    -- the new number is not 0, and above all others
    pub number-some : 0 < number
    number-some = omega (arith, is, h.within 0)

    number-new : (j : ℕ) → get_or numbers j 0 < number
    number-new j = omega (arith, is, h.within j)

    pub has_number : 0 < get_or (set numbers spot number) spot 0
    has_number = omega (arith, here, number-some)

    longer : length (groups ++ replicate 64 no_group) ≡ length groups + 64
    longer = length-append groups (replicate 64 no_group) ∙ ap (λ n. length groups + n) (length-replicate 64 no_group)

    pub pages-page : ArePages places rows (set numbers spot number) (groups ++ replicate 64 no_group)
    pages-page = record {
      few = h.few;
      each = omega (arith, h.each, length-set {A = ℕ});
      whole = omega (arith, h.whole, longer);
      within = λ k. within_at k (equal_or k spot);
      apart = λ j k some same. apart_at j k some same (equal_or j spot) (equal_or k spot);
      none = λ k low. get_or_append_left groups (replicate 64 no_group) no_group k (omega (arith, h.within 0)) ∙ h.none k low;
    }
      where
        within_at : (k : ℕ) → (k ≡ spot) ⊎ (k ≡ spot → ⊥) → get_or (set numbers spot number) k 0 * 64 + 64 ≤ length (groups ++ replicate 64 no_group)
        within_at k (inl e) = omega (arith, ap (λ j. get_or (set numbers spot number) j 0) e, here, is, longer)
        within_at k (inr differ) = omega (arith, elsewhere k differ, h.within k, longer)

        apart_at : (j k : ℕ) → 0 < get_or (set numbers spot number) j 0 → get_or (set numbers spot number) j 0 ≡ get_or (set numbers spot number) k 0
            → (j ≡ spot) ⊎ (j ≡ spot → ⊥) → (k ≡ spot) ⊎ (k ≡ spot → ⊥) → j ≡ k
        apart_at j k some same (inl e) (inl f) = e ∙ sym f
        apart_at j k some same (inl e) (inr differ) =
            absurd (omega (arith, ap (λ i. get_or (set numbers spot number) i 0) e, here, same, elsewhere k differ, number-new k))
        apart_at j k some same (inr differ) (inl f) =
            absurd (omega (arith, ap (λ i. get_or (set numbers spot number) i 0) f, here, same, elsewhere j differ, number-new j))
        apart_at j k some same (inr differ) (inr other) =
            h.apart j k (omega (arith, some, elsewhere j differ)) (sym (elsewhere j differ) ∙ same ∙ elsewhere k other)

    -- no group changes
    pub read-page : (j r : ℕ) → r < 64 → read (set numbers spot number) (groups ++ replicate 64 no_group) j r ≡ read numbers groups j r
    read-page j r low = by (equal_or j spot)
      where
        by : (j ≡ spot) ⊎ (j ≡ spot → ⊥) → read (set numbers spot number) (groups ++ replicate 64 no_group) j r ≡ read numbers groups j r
        by (inl e) =
            let now : get_or (set numbers spot number) j 0 ≡ number = ap (λ i. get_or (set numbers spot number) i 0) e ∙ here in
            let last : get_or (set numbers spot number) j 0 * 64 + r ≡ length groups + r = omega (arith, now, is) in
            ap (group_at (groups ++ replicate 64 no_group)) last
            ∙ get_or-append-add groups (replicate 64 no_group) r no_group
            ∙ get_or-replicate 64 r no_group no_group low
            ∙ sym (read-none j r (ap (λ i. get_or numbers i 0) e ∙ none) low)
        by (inr differ) =
            ap (λ n. group_at (groups ++ replicate 64 no_group) (n * 64 + r)) (elsewhere j differ)
            ∙ get_or_append_left groups (replicate 64 no_group) no_group (get_or numbers j 0 * 64 + r) (omega (arith, h.within j))

  -- a group is written, in a page of its own
  module _ (spot r : ℕ) (g : Group) (some : 0 < get_or numbers spot 0) (low : r < 64) where
    -- it is within its page
    pub read-within : get_or numbers spot 0 * 64 + r < length groups
    read-within = omega (arith, h.within spot)

    pub pages-write : ArePages places rows numbers (set groups (get_or numbers spot 0 * 64 + r) g)
    pages-write = record {
      few = h.few;
      each = h.each;
      whole = omega (arith, h.whole, length-set {A = Group});
      within = λ k. omega (arith, h.within k, length-set {A = Group});
      apart = h.apart;
      none = λ k first.
          get_or-set_other groups (get_or numbers spot 0 * 64 + r) k g no_group (λ e. omega (arith, e, some)) ∙ h.none k first;
    }

    pub read-same : (j s : ℕ) → j ≡ spot → s ≡ r → read numbers (set groups (get_or numbers spot 0 * 64 + r) g) j s ≡ g
    read-same j s e f =
        let same : get_or numbers j 0 * 64 + s ≡ get_or numbers spot 0 * 64 + r = omega (arith, ap (λ i. get_or numbers i 0) e, f) in
        ap (group_at (set groups (get_or numbers spot 0 * 64 + r) g)) same
        ∙ get_or-set_same groups (get_or numbers spot 0 * 64 + r) g no_group read-within

    pub read-other : (j s : ℕ) → s < 64 → (j ≡ spot → s ≡ r → ⊥) → read numbers (set groups (get_or numbers spot 0 * 64 + r) g) j s ≡ read numbers groups j s
    read-other j s first differ =
        get_or-set_other groups (get_or numbers spot 0 * 64 + r) (get_or numbers j 0 * 64 + s) g no_group
        (λ e.
        let number : get_or numbers spot 0 ≡ get_or numbers j 0 = omega (arith, e) in
        let rest : s ≡ r = omega (arith, e) in
        differ (sym (h.apart spot j some number)) rest)

-- a group that has more is that of its place and class, and no other changes
module _ (places rows : ℕ) (numbers : List ℕ) (groups : List Group) (h : ArePages places rows numbers groups) (place class : ℕ) (more : Group)
    (within : place < places) (some : 0 < get_or numbers (class / 64 * places + place) 0) where
  -- the group of a place and a class
  abbrev pub cell : List Group → ℕ → ℕ → Group
  cell gs p c = read numbers gs (c / 64 * places + p) (c % 64)

  abbrev pub written : List Group
  written = set groups (get_or numbers (class / 64 * places + place) 0 * 64 + class % 64) (both (cell groups place class) more)

  pub write-more : (p c : ℕ) → p < places → cell written p c ≡ with_more (cell groups) place class more p c
  write-more p c low = by (eqb class c) (eqb place p) refl refl
    where
      other : (class ≡ c → place ≡ p → ⊥) → cell written p c ≡ cell groups p c
      other differ =
          read-other places rows numbers groups h (class / 64 * places + place) (class % 64) (both (cell groups place class) more) some (omega arith)
          (c / 64 * places + p) (c % 64) (omega arith)
          (λ spots rests.
          let parts = same_row places (c / 64) p (class / 64) place low within spots in
          differ (omega (arith, parts.0, rests)) (sym parts.1))

      by : (a b : Bool) → eqb class c ≡ a → eqb place p ≡ b
          → cell written p c ≡ cond (a && b) (both (cell groups p c) more) (cell groups p c)
      by true true e f =
          let same : class ≡ c = eqb-true class c e in
          let there : place ≡ p = eqb-true place p f in
          subst (λ k. cell written p k ≡ both (cell groups p k) more) same
          (subst (λ q. cell written q class ≡ both (cell groups q class) more) there
          (read-same places rows numbers groups h (class / 64 * places + place) (class % 64) (both (cell groups place class) more) some (omega arith)
          (class / 64 * places + place) (class % 64) refl refl))
      by true false e f = other (λ _ g. eqb-false place p f g)
      by false b e f = other (λ g _. eqb-false class c e g)
