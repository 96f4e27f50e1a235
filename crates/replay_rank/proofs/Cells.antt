-- What is read from an array of what is held, and written into it, by its pairs.
use Rattle.std.proofs.Common.{◌≡◌, ℕ, zero, suc, ◌+◌, ◌<◌, ◌≤◌, ◌≢◌, ◌-◌, ◌∙◌, sym, refl, ap, ⊎_elim, Bool, true, false, cond, ltb, List, [], ◌∷◌, ◌++◌, length, length-append, arith, Some, None, Option, IsSome}
use Rattle.std.specs.Prelude.{replicate, slice_set, slice_index_or}
use Rattle.std.specs.declared.cmp.Ordering.TheVariants.{Less}
use Rattle.std.specs.BTreeMap.{is_at, insert_entry}
use Rattle.std.specs.List.{AllByRecursion}
use Rattle.std.specs.List.Sorted.{IsStrictlySortedBy}
use Rattle.std.specs.Map.{keys_of, lookup, remove_entry}
use Rattle.std.specs.Ordering.{nat_cmp, match_ordering}
use Rattle.std.proofs.lemmas.Bool.{cases_lt, eq-eqb, ne_eqb, lt-ltb, le-ltb}
use Rattle.std.proofs.lemmas.List.{get_or_past, length-replicate}
use Rattle.sparse_list.specs.Sparse.{Sparse, item_at, up_to}
use Rattle.policy_model.proofs.Comparisons.{at-eqb, cmp-less, cmp-equal, cmp-greater}
use Rattle.replay_rank.specs.declared.holdings.Held.{Held}
use Rattle.replay_rank.specs.HeldPairs.{pairs_from}

module _ {X : Type 0} where
  -- ---- what is read
  none-below : (cells : List (Held X)) (i k : ℕ) → k < i → lookup (is_at (nat_cmp k)) (pairs_from i cells) ≡ None
  none-below [] i k low = refl
  none-below (h ∷ rest) i k low = at (ltb 0 h.size) (none-below rest (i + 1) k (omega arith))
    where
      at : (t : Bool) → lookup (is_at (nat_cmp k)) (pairs_from (i + 1) rest) ≡ None → lookup (is_at (nat_cmp k)) (cond t ((i, h) ∷ pairs_from (i + 1) rest) (pairs_from (i + 1) rest)) ≡ None
      at true more = ap (λ b. cond b (Some h) (lookup (is_at (nat_cmp k)) (pairs_from (i + 1) rest))) (at-eqb k i ∙ ne_eqb i k (λ same. omega arith)) ∙ more
      at false more = more

  skipped : (h : Held X) (i k : ℕ) (rest : List (ℕ × Held X)) → i < k → (t : Bool) → lookup (is_at (nat_cmp k)) (cond t ((i, h) ∷ rest) rest) ≡ lookup (is_at (nat_cmp k)) rest
  skipped h i k rest past true = ap (λ b. cond b (Some h) (lookup (is_at (nat_cmp k)) rest)) (at-eqb k i ∙ ne_eqb i k (λ same. omega arith))
  skipped h i k rest past false = refl

  -- the cell of a number that is in the array
  pub lookup-cell : (cells : List (Held X)) (i j k : ℕ) (d : Held X) → k ≡ i + j → j < length cells → lookup (is_at (nat_cmp k)) (pairs_from i cells) ≡ cond (ltb 0 (slice_index_or cells j d).size) (Some (slice_index_or cells j d)) None
  lookup-cell [] i j k d e within = absurd (omega arith)
  lookup-cell (h ∷ rest) i zero k d e within = at (ltb 0 h.size)
    where
      at : (t : Bool) → lookup (is_at (nat_cmp k)) (cond t ((i, h) ∷ pairs_from (i + 1) rest) (pairs_from (i + 1) rest)) ≡ cond t (Some h) None
      at true = ap (λ b. cond b (Some h) (lookup (is_at (nat_cmp k)) (pairs_from (i + 1) rest))) (at-eqb k i ∙ eq-eqb i k (omega arith))
      at false = none-below rest (i + 1) k (omega arith)
  lookup-cell (h ∷ rest) i (suc j) k d e within =
      skipped h i k (pairs_from (i + 1) rest) (omega arith) (ltb 0 h.size) ∙ lookup-cell rest (i + 1) j k d (omega arith) (omega arith)

  -- a number past the array
  pub lookup-past : (cells : List (Held X)) (i j k : ℕ) → k ≡ i + j → length cells ≤ j → lookup (is_at (nat_cmp k)) (pairs_from i cells) ≡ None
  lookup-past [] i j k e past = refl
  lookup-past (h ∷ rest) i zero k e past = absurd (omega arith)
  lookup-past (h ∷ rest) i (suc j) k e past =
      skipped h i k (pairs_from (i + 1) rest) (omega arith) (ltb 0 h.size) ∙ lookup-past rest (i + 1) j k (omega arith) (omega arith)

  -- what is read of any number, if that for none has no size
  module _ (s : Sparse (Held X)) (k : ℕ) (empty : s.none.size ≡ 0) where
    read : lookup (is_at (nat_cmp k)) (pairs_from 0 s.items) ≡ cond (ltb 0 (item_at s k).size) (Some (item_at s k)) None
    read =
        ⊎_elim (λ (within : k < length s.items). lookup-cell s.items 0 k k s.none (omega arith) within)
        (λ (past : length s.items ≤ k).
        lookup-past s.items 0 k k (omega arith) past
        ∙ sym (ap (λ (h : Held X). cond (ltb 0 h.size) (Some h) None) (get_or_past s.items k s.none past) ∙ ap (λ t. cond t (Some s.none) None) (le-ltb 0 s.none.size (omega (arith, empty)))))
        (cases_lt k (length s.items))

    pub item-empty : (item_at s k).size ≡ 0 → None ≡ lookup (is_at (nat_cmp k)) (pairs_from 0 s.items)
    item-empty no_size = sym (read ∙ ap (λ t. cond t (Some (item_at s k)) None) (le-ltb 0 (item_at s k).size (omega (arith, no_size))))

    pub item-held : ((item_at s k).size ≡ 0 → ⊥) → Some (item_at s k) ≡ lookup (is_at (nat_cmp k)) (pairs_from 0 s.items)
    item-held some =
        ⊎_elim (λ (above : 0 < (item_at s k).size). sym (read ∙ ap (λ t. cond t (Some (item_at s k)) None) (lt-ltb 0 (item_at s k).size above)))
        (λ (low : (item_at s k).size ≤ 0). absurd (some (omega (arith, low))))
        (cases_lt 0 (item_at s k).size)

    -- what is held is another value than that for none
    pub item-there : IsSome (lookup (is_at (nat_cmp k)) (pairs_from 0 s.items)) → item_at s k ≢ s.none
    item-there some same = nothing (lookup (is_at (nat_cmp k)) (pairs_from 0 s.items)) (item-empty (ap (λ (h : Held X). h.size) same ∙ empty)) some
      where
        nothing : (o : Option (Held X)) → None ≡ o → IsSome o → ⊥
        nothing None e some = cc
        nothing (Some x) e some = cc

  -- the cell of an object that is held is in the array
  pub cell-there : (cells : List (Held X)) (k : ℕ) → IsSome (lookup (is_at (nat_cmp k)) (pairs_from 0 cells)) → k < length cells
  cell-there cells k some =
      ⊎_elim (λ (within : k < length cells). within)
      (λ (past : length cells ≤ k). absurd (nothing (lookup (is_at (nat_cmp k)) (pairs_from 0 cells)) (lookup-past cells 0 k k (omega arith) past) some))
      (cases_lt k (length cells))
    where
      nothing : (o : Option (Held X)) → o ≡ None → IsSome o → ⊥
      nothing None e some = cc
      nothing (Some x) e some = cc

  -- ---- the numbers rise
  keys-above : (cells : List (Held X)) (i j : ℕ) → j < i → AllByRecursion (λ y. nat_cmp j y ≡ Less) (keys_of (pairs_from i cells))
  keys-above [] i j low = tt
  keys-above (h ∷ rest) i j low = at (ltb 0 h.size) (keys-above rest (i + 1) j (omega arith))
    where
      at : (t : Bool) → AllByRecursion (λ y. nat_cmp j y ≡ Less) (keys_of (pairs_from (i + 1) rest)) → AllByRecursion (λ y. nat_cmp j y ≡ Less) (keys_of (cond t ((i, h) ∷ pairs_from (i + 1) rest) (pairs_from (i + 1) rest)))
      at true more = (cmp-less j i low, more)
      at false more = more

  pub keys-rise : (cells : List (Held X)) (i : ℕ) → IsStrictlySortedBy nat_cmp (keys_of (pairs_from i cells))
  unfolding IsStrictlySortedBy
  keys-rise [] i = tt
  keys-rise (h ∷ rest) i = at (ltb 0 h.size) (keys-rise rest (i + 1))
    where
      at : (t : Bool) → IsStrictlySortedBy nat_cmp (keys_of (pairs_from (i + 1) rest)) → IsStrictlySortedBy nat_cmp (keys_of (cond t ((i, h) ∷ pairs_from (i + 1) rest) (pairs_from (i + 1) rest)))
      at true more = (keys-above rest (i + 1) i (omega arith), more)
      at false more = more

  -- ---- what is written
  -- cells of size 0 at the end
  nothing-more : (n i : ℕ) (none : Held X) → none.size ≡ 0 → pairs_from i (replicate n none) ≡ []
  nothing-more zero i none empty = refl
  nothing-more (suc n) i none empty =
      ap (λ t. cond t ((i, none) ∷ pairs_from (i + 1) (replicate n none)) (pairs_from (i + 1) (replicate n none))) (le-ltb 0 none.size (omega arith)) ∙ nothing-more n (i + 1) none empty

  pub pairs-longer : (cells : List (Held X)) (n i : ℕ) (none : Held X) → none.size ≡ 0 → pairs_from i (cells ++ replicate n none) ≡ pairs_from i cells
  pairs-longer [] n i none empty = nothing-more n i none empty
  pairs-longer (h ∷ rest) n i none empty = ap (λ ps. cond (ltb 0 h.size) ((i, h) ∷ ps) ps) (pairs-longer rest n (i + 1) none empty)

  -- the first pair is of a number at least i
  insert-first : (cells : List (Held X)) (i k : ℕ) (held : Held X) → k < i → insert_entry nat_cmp (pairs_from i cells) k held ≡ (k, held) ∷ pairs_from i cells
  insert-first [] i k held low = refl
  insert-first (h ∷ rest) i k held low = at (ltb 0 h.size) (insert-first rest (i + 1) k held (omega arith))
    where
      at : (t : Bool) → insert_entry nat_cmp (pairs_from (i + 1) rest) k held ≡ (k, held) ∷ pairs_from (i + 1) rest
          → insert_entry nat_cmp (cond t ((i, h) ∷ pairs_from (i + 1) rest) (pairs_from (i + 1) rest)) k held ≡ (k, held) ∷ cond t ((i, h) ∷ pairs_from (i + 1) rest) (pairs_from (i + 1) rest)
      at true more = ap (λ o. match_ordering o ((k, held) ∷ (i, h) ∷ pairs_from (i + 1) rest) ((i, held) ∷ pairs_from (i + 1) rest) ((i, h) ∷ insert_entry nat_cmp (pairs_from (i + 1) rest) k held)) (cmp-less k i low)
      at false more = more

  -- a cell of a size above 0 is written
  pub pairs-put : (cells : List (Held X)) (i j k : ℕ) (held : Held X) → k ≡ i + j → j < length cells → 1 ≤ held.size → pairs_from i (slice_set cells j held) ≡ insert_entry nat_cmp (pairs_from i cells) k held
  pairs-put [] i j k held e within some = absurd (omega arith)
  pairs-put (h ∷ rest) i zero k held e within some =
      ap (λ t. cond t ((i, held) ∷ pairs_from (i + 1) rest) (pairs_from (i + 1) rest)) (lt-ltb 0 held.size some)
      ∙ at (ltb 0 h.size)
    where
      same : k ≡ i
      same = omega arith

      at : (t : Bool) → (i, held) ∷ pairs_from (i + 1) rest ≡ insert_entry nat_cmp (cond t ((i, h) ∷ pairs_from (i + 1) rest) (pairs_from (i + 1) rest)) k held
      at true = sym (ap (λ o. match_ordering o ((k, held) ∷ (i, h) ∷ pairs_from (i + 1) rest) ((i, held) ∷ pairs_from (i + 1) rest) ((i, h) ∷ insert_entry nat_cmp (pairs_from (i + 1) rest) k held)) (cmp-equal k i same))
      at false = ap (λ (n : ℕ). (n, held) ∷ pairs_from (i + 1) rest) (sym same) ∙ sym (insert-first rest (i + 1) k held (omega arith))
  pairs-put (h ∷ rest) i (suc j) k held e within some = at (ltb 0 h.size) (pairs-put rest (i + 1) j k held (omega arith) (omega arith) some)
    where
      at : (t : Bool) → pairs_from (i + 1) (slice_set rest j held) ≡ insert_entry nat_cmp (pairs_from (i + 1) rest) k held
          → cond t ((i, h) ∷ pairs_from (i + 1) (slice_set rest j held)) (pairs_from (i + 1) (slice_set rest j held)) ≡ insert_entry nat_cmp (cond t ((i, h) ∷ pairs_from (i + 1) rest) (pairs_from (i + 1) rest)) k held
      at true more =
          ap (λ ps. (i, h) ∷ ps) more
          ∙ sym (ap (λ o. match_ordering o ((k, held) ∷ (i, h) ∷ pairs_from (i + 1) rest) ((i, held) ∷ pairs_from (i + 1) rest) ((i, h) ∷ insert_entry nat_cmp (pairs_from (i + 1) rest) k held)) (cmp-greater k i (omega arith)))
      at false more = more

  -- a value of a size above 0 is put
  pub pairs-put-up : (s : Sparse (Held X)) (k : ℕ) (held : Held X) → s.none.size ≡ 0 → 1 ≤ held.size → pairs_from 0 (slice_set (up_to k s) k held) ≡ insert_entry nat_cmp (pairs_from 0 s.items) k held
  pairs-put-up s k held empty some =
      pairs-put (up_to k s) 0 k k held (omega arith) (omega (arith, length-append s.items (replicate (k + 1 - length s.items) s.none), length-replicate (k + 1 - length s.items) s.none)) some
      ∙ ap (λ ps. insert_entry nat_cmp ps k held) (pairs-longer s.items (k + 1 - length s.items) 0 s.none empty)

  remove-none : (cells : List (Held X)) (i k : ℕ) → k < i → remove_entry (is_at (nat_cmp k)) (pairs_from i cells) ≡ pairs_from i cells
  remove-none [] i k low = refl
  remove-none (h ∷ rest) i k low = at (ltb 0 h.size) (remove-none rest (i + 1) k (omega arith))
    where
      at : (t : Bool) → remove_entry (is_at (nat_cmp k)) (pairs_from (i + 1) rest) ≡ pairs_from (i + 1) rest
          → remove_entry (is_at (nat_cmp k)) (cond t ((i, h) ∷ pairs_from (i + 1) rest) (pairs_from (i + 1) rest)) ≡ cond t ((i, h) ∷ pairs_from (i + 1) rest) (pairs_from (i + 1) rest)
      at true more =
          ap (λ b. cond b (pairs_from (i + 1) rest) ((i, h) ∷ remove_entry (is_at (nat_cmp k)) (pairs_from (i + 1) rest))) (at-eqb k i ∙ ne_eqb i k (λ same. omega arith))
          ∙ ap (λ ps. (i, h) ∷ ps) more
      at false more = more

  -- a cell of size 0 is written
  pub pairs-removed : (cells : List (Held X)) (i j k : ℕ) (none : Held X) → k ≡ i + j → none.size ≡ 0 → pairs_from i (slice_set cells j none) ≡ remove_entry (is_at (nat_cmp k)) (pairs_from i cells)
  pairs-removed [] i j k none e empty = refl
  pairs-removed (h ∷ rest) i zero k none e empty =
      ap (λ t. cond t ((i, none) ∷ pairs_from (i + 1) rest) (pairs_from (i + 1) rest)) (le-ltb 0 none.size (omega arith))
      ∙ at (ltb 0 h.size)
    where
      at : (t : Bool) → pairs_from (i + 1) rest ≡ remove_entry (is_at (nat_cmp k)) (cond t ((i, h) ∷ pairs_from (i + 1) rest) (pairs_from (i + 1) rest))
      at true = sym (ap (λ b. cond b (pairs_from (i + 1) rest) ((i, h) ∷ remove_entry (is_at (nat_cmp k)) (pairs_from (i + 1) rest))) (at-eqb k i ∙ eq-eqb i k (omega arith)))
      at false = sym (remove-none rest (i + 1) k (omega arith))
  pairs-removed (h ∷ rest) i (suc j) k none e empty = at (ltb 0 h.size) (pairs-removed rest (i + 1) j k none (omega arith) empty)
    where
      at : (t : Bool) → pairs_from (i + 1) (slice_set rest j none) ≡ remove_entry (is_at (nat_cmp k)) (pairs_from (i + 1) rest)
          → cond t ((i, h) ∷ pairs_from (i + 1) (slice_set rest j none)) (pairs_from (i + 1) (slice_set rest j none)) ≡ remove_entry (is_at (nat_cmp k)) (cond t ((i, h) ∷ pairs_from (i + 1) rest) (pairs_from (i + 1) rest))
      at true more =
          ap (λ ps. (i, h) ∷ ps) more
          ∙ sym (ap (λ b. cond b (pairs_from (i + 1) rest) ((i, h) ∷ remove_entry (is_at (nat_cmp k)) (pairs_from (i + 1) rest))) (at-eqb k i ∙ ne_eqb i k (λ same. omega arith)))
      at false more = more
