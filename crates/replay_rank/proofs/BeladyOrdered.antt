-- The pairs of Belady's rule are ranked by their next requests, and the farthest goes first.
use Rattle.std.proofs.Common.{◌≡◌, ℕ, ◌<◌, ◌≤◌, ◌⊎◌, inl, inr, ◌∙◌, sym, refl, ap, subst, ⊎_elim, Bool, true, false, cond, eqb, List, [], ◌∷◌, Some, None, is_some, is_lt}
use Rattle.std.specs.BTreeMap.{is_at, insert_entry}
use Rattle.std.specs.BinaryHeap.{IsHeap, IsUpperBound}
use Rattle.std.specs.List.{AllByRecursion, filter}
use Rattle.std.specs.List.Sorted.{IsStrictlySortedBy, IsPermutation}
use Rattle.std.specs.Map.{keys_of, lookup, remove_entry}
use Rattle.std.specs.Ordering.{nat_cmp, ordering_then}
use Rattle.std.proofs.lemmas.Bool.{cases_order, eqb-true, eqb-false, eq-eqb}
use Rattle.policy_model.specs.declared.names.PolicyName.TheVariants.{Belady}
use Rattle.policy_model.specs.States.{Entry, has_entry}
use Rattle.policy_model.specs.Steps.{remove_foremost, is_farther, touched, touch}
use Rattle.policy_model.proofs.Comparisons.{cmp-less, cmp-equal}
use Rattle.policy_model.proofs.Entries.{Apart}
use Rattle.policy_model.proofs.Sound.{Apart-touch}
use Rattle.replay_rank.specs.declared.holdings.Held.{Held}
use Rattle.replay_rank.specs.BeladyEntries.{entries_of, next_of, never, key_cmp, has_next, is_current, AreOrdered}
use Rattle.replay_rank.proofs.Pairs.{has_entry-lookup, sizes-found, entries-renewed, lookup-inserted, lookup-removed}
use Rattle.replay_rank.proofs.Items.{Ranks, GoesBefore, removes, item_vain, item_left, item_more, item_put, item_renewed, items_kept}
use Rattle.replay_rank.proofs.Foremost.{far}

abbrev pub by_next : Ranks (Held ℕ) ℕ (ℕ × ℕ)
by_next = record {
  fill = λ h. record { object = 0; size = h.size; mark = false; count = 0; last = 0; next = next_of h.kept; rank = 0 };
  rank_of = λ h. h.kept;
  same_rank = eqb;
  no_later = eqb;
  key_of = λ i. i;
  item_cmp = key_cmp;
  refl_later = λ r. eq-eqb r r refl;
  exact_rank = λ r s. eqb-true r s;
}

-- a key that is not below another, and of another object, is before it
key-before : (r o s j : ℕ) → is_lt (key_cmp (r, o) (s, j)) ≡ false → eqb j o ≡ false → (s < r) ⊎ ((s ≡ r) × (j < o))
key-before r o s j above other =
    ⊎_elim
    (λ (same : r ≡ s).
    let second : is_lt (nat_cmp o j) ≡ false = sym (ap (λ c. is_lt (ordering_then c (nat_cmp o j))) (cmp-equal r s same)) ∙ above in
    ⊎_elim
    (λ (tie : o ≡ j). absurd (eqb-false j o other (sym tie)))
    (λ order. ⊎_elim
    (λ (low : o < j). let less : is_lt (nat_cmp o j) ≡ true = ap is_lt (cmp-less o j low) in cc)
    (λ (high : j < o). inr (sym same, high))
    order)
    (cases_order o j))
    (λ order. ⊎_elim
    (λ (low : r < s). let less : is_lt (key_cmp (r, o) (s, j)) ≡ true = ap (λ c. is_lt (ordering_then c (nat_cmp o j))) (cmp-less r s low) in cc)
    (λ (high : s < r). inl high)
    order)
    (cases_order r s)

module _ (pairs : List (ℕ × Held ℕ)) (items : List (ℕ × ℕ)) (ordered : AreOrdered pairs items) where
  pub ranks_left : (k : ℕ) (j : ℕ) (g : Held ℕ) → lookup (is_at (nat_cmp j)) (remove_entry (is_at (nat_cmp k)) pairs) ≡ Some g → g.kept ≤ never
  ranks_left k j g e = at (eqb k j) (sym (lookup-removed by_next.fill pairs k j ordered.stand.apart) ∙ e)
    where
      at : (t : Bool) → cond t None (lookup (is_at (nat_cmp j)) pairs) ≡ Some g → g.kept ≤ never
      at true e = cc
      at false e = ordered.ranks j g e

  ranks_inserted : (k : ℕ) (held : Held ℕ) → held.kept ≤ never → (j : ℕ) (g : Held ℕ) → lookup (is_at (nat_cmp j)) (insert_entry nat_cmp pairs k held) ≡ Some g → g.kept ≤ never
  ranks_inserted k held most j g e = at (eqb k j) (sym (lookup-inserted pairs k j held) ∙ e)
    where
      at : (t : Bool) → cond t (Some held) (lookup (is_at (nat_cmp j)) pairs) ≡ Some g → g.kept ≤ never
      at true e = let same : held ≡ g = cc in subst (λ (h : Held ℕ). h.kept ≤ never) same most
      at false e = ordered.ranks j g e

  -- ---- an item comes out
  module _ (rest : List (ℕ × ℕ)) (q : ℕ × ℕ) (moves : IsPermutation items (q ∷ rest)) (heap : IsHeap key_cmp rest) where
    -- of no next request
    pub belady_vain : ((g : Held ℕ) → lookup (is_at (nat_cmp q.1)) pairs ≡ Some g → eqb q.0 g.kept ≡ false) → AreOrdered pairs rest
    belady_vain none = record { stand = item_vain by_next pairs items ordered.stand rest q moves heap none; ranks = ordered.ranks }

    pub belady_left : AreOrdered (remove_entry (is_at (nat_cmp q.1)) pairs) rest
    belady_left = record { stand = item_left by_next pairs items ordered.stand rest q moves heap; ranks = ranks_left q.1 }

  -- the items of next requests are kept
  pub belady_kept : (after : List (ℕ × ℕ)) → IsPermutation (filter (is_current pairs) items) after → IsHeap key_cmp after → AreOrdered pairs after
  belady_kept after moves heap = record { stand = items_kept by_next pairs items ordered.stand (is_current pairs) passes after moves heap; ranks = ordered.ranks }
    where
      passes : (i : ℕ × ℕ) (g : Held ℕ) → lookup (is_at (nat_cmp i.1)) pairs ≡ Some g → eqb i.0 g.kept ≡ true → is_current pairs i ≡ true
      passes i g e same = ap (λ o. has_next o i.0) e ∙ eq-eqb g.kept i.0 (sym (eqb-true i.0 g.kept same))

  -- ---- an item goes in
  module _ (i : ℕ × ℕ) (after : List (ℕ × ℕ)) (moves : IsPermutation (i ∷ items) after) (heap : IsHeap key_cmp after) where
    pub belady_more : AreOrdered pairs after
    belady_more = record { stand = item_more by_next pairs items ordered.stand i after moves heap; ranks = ordered.ranks }

    pub belady_put : (k : ℕ) (held : Held ℕ) → i ≡ (held.kept, k) → has_entry (entries_of pairs) k ≡ false → held.kept ≤ never → AreOrdered (insert_entry nat_cmp pairs k held) after
    belady_put k held own absent most = record { stand = item_put by_next pairs items ordered.stand i after moves heap k held own absent; ranks = ranks_inserted k held most }

  module _ (k : ℕ) (held : Held ℕ) (is : lookup (is_at (nat_cmp k)) pairs ≡ Some held) where
    -- the first item, if it is of its object's next request, is that of the farthest
    pub belady_removes : (q : ℕ × ℕ) → (held.kept, k) ≡ q → IsUpperBound key_cmp q items → entries_of (remove_entry (is_at (nat_cmp k)) pairs) ≡ remove_foremost is_farther (entries_of pairs)
    belady_removes q own bound =
        removes by_next (λ h. h.kept ≤ never) is_farther pairs items ordered.stand.apart ordered.stand.covered ordered.ranks q bound k held is goes
      where
        goes : (i : ℕ × ℕ) (g : Held ℕ) → is_lt (key_cmp q i) ≡ false → eqb i.0 g.kept ≡ true → g.kept ≤ never → eqb i.1 k ≡ false
            → GoesBefore by_next (λ h. h.kept ≤ never) is_farther pairs items ordered.stand.apart ordered.stand.covered ordered.ranks q bound k held is i.1 g
        goes i g above same most other =
            let before : (i.0 < held.kept) ⊎ ((i.0 ≡ held.kept) × (i.1 < k)) = key-before held.kept k i.0 i.1 (subst (λ (key : ℕ × ℕ). is_lt (key_cmp key i) ≡ false) (sym own) above) other in
            far k i.1 held.kept g.kept (ordered.ranks k held is) most (subst (λ n. (n < held.kept) ⊎ ((n ≡ held.kept) × (i.1 < k))) (eqb-true i.0 g.kept same) before)

    -- a hit
    module _ (renewed : Held ℕ) (sorted : IsStrictlySortedBy nat_cmp (keys_of pairs)) (same_size : renewed.size ≡ held.size) where
      pub belady_entries : (now : ℕ) → entries_of (insert_entry nat_cmp pairs k renewed) ≡ touch Belady now (next_of renewed.kept) k (entries_of pairs)
      belady_entries now =
          entries-renewed by_next.fill (touched Belady now (next_of renewed.kept)) k renewed pairs sorted ordered.stand.apart (has_entry-lookup by_next.fill pairs k ∙ ap is_some is)
          (makes pairs (sizes-found by_next.fill pairs k held ordered.stand.apart is))
        where
          with_size : ℕ × Held ℕ → ℕ → Entry
          with_size p size = record { object = p.0; size = size; mark = false; count = 0; last = 0; next = next_of renewed.kept; rank = 0 }

          makes : (ps : List (ℕ × Held ℕ)) → AllByRecursion (λ e. e.object ≡ k → e.size ≡ held.size) (entries_of ps) → AllByRecursion (λ p. eqb p.0 k ≡ true → with_size p renewed.size ≡ with_size p p.1.size) ps
          makes [] sizes = tt
          makes (p ∷ ps) sizes = ((λ same. ap (with_size p) (same_size ∙ sym (sizes.0 (eqb-true p.0 k same)))), makes ps sizes.1)

      -- the renewed pair has an item of its own
      pub belady_renewed : renewed.kept ≤ never → (i : ℕ × ℕ) → i ≡ (renewed.kept, k) → (after : List (ℕ × ℕ)) → IsPermutation (i ∷ items) after → IsHeap key_cmp after → AreOrdered (insert_entry nat_cmp pairs k renewed) after
      belady_renewed most i own after moves heap =
          let apart : Apart (entries_of (insert_entry nat_cmp pairs k renewed)) = subst Apart (sym (belady_entries 0)) (Apart-touch Belady 0 (next_of renewed.kept) k (entries_of pairs) ordered.stand.apart) in
          record { stand = item_renewed by_next pairs items ordered.stand i after moves heap k renewed own apart; ranks = ranks_inserted k renewed most }
