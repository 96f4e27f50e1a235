-- The pairs of GDSF and LFUDA are ranked by rank and last use, and the least goes first.
use Rattle.std.proofs.Common.{◌≡◌, ℕ, suc, ◌+◌, ◌<◌, ◌∙◌, sym, refl, ap, subst, true, false, eqb, List, [], ◌∷◌, length, arith, Some, None, is_some, is_lt}
use Rattle.std.specs.declared.cmp.Reverse.{Reverse}
use Rattle.std.specs.BTreeMap.{is_at, insert_entry}
use Rattle.std.specs.BinaryHeap.{IsHeap, IsUpperBound}
use Rattle.std.specs.List.{AllByRecursion}
use Rattle.std.specs.List.Sorted.{IsStrictlySortedBy, IsPermutation}
use Rattle.std.specs.Map.{keys_of, lookup, remove_entry}
use Rattle.std.specs.Ordering.{nat_cmp}
use Rattle.std.proofs.lemmas.Bool.{eqb-true, lt-leb}
use Rattle.policy_model.specs.States.{Entry, used}
use Rattle.policy_model.specs.Steps.{until_fits, change, without_entry}
use Rattle.policy_model.specs.Aging.{age, age_at, is_below, over_floor, stock_used}
use Rattle.policy_model.proofs.Entries.{Apart}
use Rattle.policy_model.proofs.Parts.{Apart-change, until-over}
use Rattle.replay_rank.specs.declared.holdings.Held.{Held}
use Rattle.replay_rank.specs.declared.aging.Ranked.{Ranked}
use Rattle.replay_rank.specs.LfuEntries.{same_rank, at_most, Key, key_cmp, item_cmp}
use Rattle.replay_rank.specs.AgingEntries.{entry_of, entries_of, rank_of, AreOrdered}
use Rattle.replay_rank.proofs.Foremost.{IsBeaten, Among, foremost-beats}
use Rattle.replay_rank.proofs.Pairs.{pair_entry, pair_entries, has_entry-lookup, each-found, entries-removed, entries-renewed}
use Rattle.replay_rank.proofs.Items.{Ranks, GoesBefore, is_first, items_stay, item_renewed}
use Rattle.replay_rank.proofs.LfuOrdered.{exact_use, at_most-refl, at_most-trans, item-before, before-later, less}

abbrev pub by_rank : Ranks (Held Ranked) (ℕ × ℕ) (Reverse Key)
by_rank = record {
  fill = λ h. record { object = 0; size = h.size; mark = false; count = h.kept.count; last = h.kept.last; next = None; rank = h.kept.rank };
  rank_of = rank_of;
  same_rank = same_rank;
  no_later = at_most;
  key_of = λ i. i.0;
  item_cmp = item_cmp;
  refl_later = at_most-refl;
  exact_rank = exact_use;
}

-- one turn of making room
pub aging_turn : (before after : List (ℕ × Held Ranked)) (floor risen capacity size : ℕ) → over_floor risen (entries_of after) ≡ age_at floor (entries_of before) → length after + 1 ≡ length before → capacity < used (entries_of before) + size
    → until_fits age stock_used capacity size (length after) (over_floor risen (entries_of after)) ≡ until_fits age stock_used capacity size (length before) (over_floor floor (entries_of before))
aging_turn before after floor risen capacity size aged fewer full =
    let turns : length before ≡ suc (length after) = omega arith in
    ap (until_fits age stock_used capacity size (length after)) aged
    ∙ sym (until-over age stock_used capacity size (length after) (over_floor floor (entries_of before)) (lt-leb (used (entries_of before) + size) capacity full))
    ∙ ap (λ m. until_fits age stock_used capacity size m (over_floor floor (entries_of before))) (sym turns)

module _ (pairs : List (ℕ × Held Ranked)) (items : List (Reverse Key)) (ordered : AreOrdered pairs items) where
  module _ (k : ℕ) (held : Held Ranked) (is : lookup (is_at (nat_cmp k)) pairs ≡ Some held) where
    -- the first item, if it is of its object's rank, is that of the entry of the least rank
    pub aging_removes : (q : Reverse Key) → (rank_of held, k) ≡ q.0 → IsUpperBound item_cmp q items → (floor : ℕ) → over_floor held.kept.rank (entries_of (remove_entry (is_at (nat_cmp k)) pairs)) ≡ age_at floor (entries_of pairs)
    aging_removes q own bound floor =
        let first = is_first by_rank (λ _. Unit {0}) is_below pairs items ordered.apart ordered.covered (λ _ _ _. tt) q bound k held is goes in
        ap (over_floor held.kept.rank) (entries-removed by_rank.fill pairs k ordered.apart) ∙ sym (aged pairs first.0 first.1)
      where
        goes : (i : Reverse Key) (g : Held Ranked) → is_lt (item_cmp q i) ≡ false → at_most i.0.0 (rank_of g) ≡ true → Unit {0} → eqb i.0.1 k ≡ false
            → GoesBefore by_rank (λ _. Unit {0}) is_below pairs items ordered.apart ordered.covered (λ _ _ _. tt) q bound k held is i.0.1 g
        goes i g above later fine other =
            less (rank_of held) k (rank_of g) i.0.1
            (before-later (rank_of held) k i.0.0 (rank_of g) i.0.1 (item-before (rank_of held) k i.0.0 i.0.1 (subst (λ (key : Key). is_lt (key_cmp i.0 key) ≡ false) (sym own) above) other) later)

        aged : (ps : List (ℕ × Held Ranked)) → AllByRecursion (IsBeaten is_below (pair_entry by_rank.fill (k, held))) (pair_entries by_rank.fill ps) → Among is_below (pair_entry by_rank.fill (k, held)) (pair_entries by_rank.fill ps)
            → age_at floor (pair_entries by_rank.fill ps) ≡ over_floor held.kept.rank (without_entry k (pair_entries by_rank.fill ps))
        aged [] each is_among = absurd is_among
        aged (p ∷ ps) each is_among =
            ap (λ (e : Entry). over_floor e.rank (without_entry e.object (pair_entries by_rank.fill (p ∷ ps))))
            (foremost-beats is_below (pair_entry by_rank.fill (k, held)) (pair_entry by_rank.fill p) (pair_entries by_rank.fill ps) each.0 each.1 is_among)

    -- a hit
    module _ (now : Held Ranked) (sorted : IsStrictlySortedBy nat_cmp (keys_of pairs)) where
      pub aging_entries : (by : Entry → Entry) → by (entry_of (k, held)) ≡ entry_of (k, now) → entries_of (insert_entry nat_cmp pairs k now) ≡ change by k (entries_of pairs)
      aging_entries by made =
          entries-renewed by_rank.fill by k now pairs sorted ordered.apart (has_entry-lookup by_rank.fill pairs k ∙ ap is_some is)
          (makes pairs (each-found by_rank.fill (λ h. h ≡ held) pairs k held ordered.apart is refl))
        where
          makes : (ps : List (ℕ × Held Ranked)) → AllByRecursion (λ p. eqb p.0 k ≡ true → p.1 ≡ held) ps → AllByRecursion (λ p. eqb p.0 k ≡ true → entry_of (p.0, now) ≡ by (entry_of p)) ps
          makes [] each = tt
          makes (p ∷ ps) each = (
            (λ same.
                let of_held : Held Ranked → Entry = λ h. by (entry_of (p.0, h)) in
                let at_object : ℕ → Type 0 = λ i. entry_of (i, now) ≡ by (entry_of (i, held)) in
                subst at_object (sym (eqb-true p.0 k same)) (sym made) ∙ ap of_held (sym (each.0 same))),
            makes ps each.1,
          )

      apart_renewed : Apart (entries_of (insert_entry nat_cmp pairs k now))
      apart_renewed =
          let by : Entry → Entry = λ e. record (entry_of (k, now)) { object = e.object } in
          subst Apart (sym (aging_entries by refl)) (Apart-change by (λ e. refl) k (entries_of pairs) ordered.apart)

      -- the items stay where the rank goes no earlier
      pub aging_raised : at_most (rank_of held) (rank_of now) ≡ true → AreOrdered (insert_entry nat_cmp pairs k now) items
      aging_raised later = items_stay by_rank pairs items ordered k held now is (λ r first. at_most-trans r (rank_of held) (rank_of now) first later) apart_renewed

      -- and else there is one more
      pub aging_lowered : (i : Reverse Key) → i.0 ≡ (rank_of now, k) → (after : List (Reverse Key)) → IsPermutation (i ∷ items) after → IsHeap item_cmp after → AreOrdered (insert_entry nat_cmp pairs k now) after
      aging_lowered i own after moves heap = item_renewed by_rank pairs items ordered i after moves heap k now own apart_renewed
