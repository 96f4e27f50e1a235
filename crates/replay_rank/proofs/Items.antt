-- The items of a heap stand for the entries that are held, and follow them as they change.
use Rattle.std.proofs.Common.{◌≡◌, ℕ, ◌+◌, ◌<◌, inl, inr, ◌∙◌, sym, refl, ap, subst, Bool, true, false, ◌||◌, ◌&&◌, cond, eqb, List, [], ◌∷◌, length, arith, Some, None, Option, is_some, is_lt}
use Rattle.std.specs.declared.cmp.Ordering.{Ordering}
use Rattle.std.specs.BTreeMap.{is_at, insert_entry}
use Rattle.std.specs.BinaryHeap.{IsHeap, IsUpperBound}
use Rattle.std.specs.List.{AllByRecursion, filter, list_any, sum_by}
use Rattle.std.specs.List.Sorted.{IsPermutation}
use Rattle.std.specs.Map.{lookup, remove_entry}
use Rattle.std.specs.Ordering.{nat_cmp}
use Rattle.std.proofs.lemmas.Bool.{eqb-true, eq-eqb, or_left, or_right, and_parts, and_left, and_right, and_from, both_ways}
use Rattle.std.proofs.lemmas.List.{length-map}
use Rattle.std.proofs.lemmas.List.Sorted.{IsPermutation-refl, list_any-IsPermutation, length_permutation, sum_by_pushed, sum_by_popped}
use Rattle.policy_model.specs.States.{Entry, used, has_entry}
use Rattle.policy_model.specs.Steps.{without_entry, remove_foremost}
use Rattle.policy_model.proofs.Comparisons.{at-eqb}
use Rattle.policy_model.proofs.Entries.{Apart, Apart-put_in, Apart-without, length-without}
use Rattle.policy_model.proofs.Sound.{sum-without}
use Rattle.replay_rank.specs.HeldPairs.{Covers, StandFor}
use Rattle.replay_rank.proofs.Pairs.{pair_entry, pair_entries, has_entry-lookup, sizes-found, entries-put, entries-removed, lookup-inserted, lookup-removed, lookups-own}
use Rattle.replay_rank.proofs.Foremost.{IsBeaten, Among, foremost-beats}

-- what is held of an object, as an entry but for its number, its rank, and the items of a heap that stand for it
pub record Ranks (H R I : Type 0) : Type 0 where
  pub fill : H → Entry
  pub rank_of : H → R
  pub same_rank : R → R → Bool
  pub no_later : R → R → Bool
  pub key_of : I → R × ℕ
  pub item_cmp : I → I → Ordering
  pub refl_later : (r : R) → no_later r r ≡ true
  pub exact_rank : (r s : R) → same_rank r s ≡ true → r ≡ s

-- an item that passes, of those that all have a property
pub passing : {I : Type 0} (P : I → Type 0) (f : I → Bool) (items : List I) → AllByRecursion P items → list_any f items ≡ true → (i : I) × (P i × (f i ≡ true))
passing P f [] each some = cc
passing {I = I} P f (i ∷ items) each some = at (f i) refl (passing P f items each.1)
  where
    at : (t : Bool) → f i ≡ t → (list_any f items ≡ true → (j : I) × (P j × (f j ≡ true))) → (j : I) × (P j × (f j ≡ true))
    at true e more = (i, (each.0, e))
    at false e more = more (sym (ap (λ b. b || list_any f items) e) ∙ some)

none_some : {H : Type 0} (o : Option H) (g : H) → o ≡ None → o ≡ Some g → ⊥
none_some o g e f = cc

pub one_found : {H : Type 0} (o : Option H) (g h : H) → o ≡ Some g → o ≡ Some h → g ≡ h
one_found o g h e f = cc

module _ {H R I : Type 0} (by : Ranks H R I) where
  -- whether an item stands for an object that has this rank
  abbrev pub stands : ℕ → H → I → Bool
  stands k h i = by.no_later (by.key_of i).0 (by.rank_of h) && eqb (by.key_of i).1 k

  abbrev pub Covered : List (ℕ × H) → List I → Type 0
  Covered pairs items = Covers by.rank_of by.no_later by.key_of pairs items

  own_stands : (k : ℕ) (h : H) (i : I) → by.key_of i ≡ (by.rank_of h, k) → stands k h i ≡ true
  own_stands k h i e = subst (λ (q : R × ℕ). (by.no_later q.0 (by.rank_of h) && eqb q.1 k) ≡ true) (sym e) (and_from _ _ (by.refl_later (by.rank_of h)) (eq-eqb k k refl))

  moved : (items after : List I) → IsPermutation items after → (k : ℕ) (h : H) → list_any (stands k h) items ≡ true → list_any (stands k h) after ≡ true
  moved items after moves k h e = sym (list_any-IsPermutation (stands k h) items after moves) ∙ e

  -- ---- a pair is put in or renewed
  covered_put : (pairs : List (ℕ × H)) (items after : List I) (k : ℕ) (h : H) → Covered pairs items → IsPermutation items after → list_any (stands k h) items ≡ true → Covered (insert_entry nat_cmp pairs k h) after
  covered_put pairs items after k h covered moves here = λ j g e. at j g (eqb k j) refl (sym (lookup-inserted pairs k j h) ∙ e)
    where
      at : (j : ℕ) (g : H) (t : Bool) → eqb k j ≡ t → cond (eqb k j) (Some h) (lookup (is_at (nat_cmp j)) pairs) ≡ Some g → list_any (stands j g) after ≡ true
      at j g true same e =
          let found : Some h ≡ Some g = sym (ap (λ b. cond b (Some h) (lookup (is_at (nat_cmp j)) pairs)) same) ∙ e in
          let one : h ≡ g = cc in
          subst (λ (n : ℕ). list_any (stands n g) after ≡ true) (eqb-true k j same)
          (subst (λ (x : H). list_any (stands k x) after ≡ true) one (moved items after moves k h here))
      at j g false other e =
          moved items after moves j g (covered j g (sym (ap (λ b. cond b (Some h) (lookup (is_at (nat_cmp j)) pairs)) other) ∙ e))

  -- with an item of its own
  covered_pushed : (pairs : List (ℕ × H)) (items after : List I) (k : ℕ) (h : H) (i : I) → Covered pairs items → IsPermutation (i ∷ items) after → by.key_of i ≡ (by.rank_of h, k) → Covered (insert_entry nat_cmp pairs k h) after
  covered_pushed pairs items after k h i covered moves own =
      covered_put pairs (i ∷ items) after k h (λ j g e. or_right (stands j g i) (list_any (stands j g) items) (covered j g e)) moves (or_left (stands k h i) (list_any (stands k h) items) (own_stands k h i own))

  -- an item more
  covered_more : (pairs : List (ℕ × H)) (items after : List I) (i : I) → Covered pairs items → IsPermutation (i ∷ items) after → Covered pairs after
  covered_more pairs items after i covered moves = λ j g e. moved (i ∷ items) after moves j g (or_right (stands j g i) (list_any (stands j g) items) (covered j g e))

  -- where the rank went no earlier
  covered_later : (pairs : List (ℕ × H)) (items : List I) (k : ℕ) (former h : H) → Covered pairs items → lookup (is_at (nat_cmp k)) pairs ≡ Some former
      → ((r : R) → by.no_later r (by.rank_of former) ≡ true → by.no_later r (by.rank_of h) ≡ true) → list_any (stands k h) items ≡ true
  covered_later pairs items k former h covered is later = some items (covered k former is)
    where
      some : (is : List I) → list_any (stands k former) is ≡ true → list_any (stands k h) is ≡ true
      some [] e = cc
      some (i ∷ rest) e = at (stands k former i) refl (some rest)
        where
          at : (t : Bool) → stands k former i ≡ t → (list_any (stands k former) rest ≡ true → list_any (stands k h) rest ≡ true) → list_any (stands k h) (i ∷ rest) ≡ true
          at true s more =
              let parts : (by.no_later (by.key_of i).0 (by.rank_of former) ≡ true) × (eqb (by.key_of i).1 k ≡ true) = and_parts _ _ s in
              or_left (stands k h i) (list_any (stands k h) rest) (and_from _ _ (later (by.key_of i).0 parts.0) parts.1)
          at false s more = or_right (stands k h i) (list_any (stands k h) rest) (more (sym (ap (λ b. b || list_any (stands k former) rest) s) ∙ e))

  -- ---- an item comes out
  module _ (pairs : List (ℕ × H)) (items rest : List I) (q : I) (covered : Covered pairs items) (moves : IsPermutation items (q ∷ rest)) where
    others : (j : ℕ) (g : H) → eqb (by.key_of q).1 j ≡ false → lookup (is_at (nat_cmp j)) pairs ≡ Some g → list_any (stands j g) rest ≡ true
    others j g other e =
        sym (ap (λ b. b || list_any (stands j g) rest) (and_right (by.no_later (by.key_of q).0 (by.rank_of g)) (eqb (by.key_of q).1 j) other)) ∙ moved items (q ∷ rest) moves j g (covered j g e)

    -- that stands for nothing
    covered_gone : ((g : H) → lookup (is_at (nat_cmp (by.key_of q).1)) pairs ≡ Some g → by.no_later (by.key_of q).0 (by.rank_of g) ≡ false) → Covered pairs rest
    covered_gone none = λ j g e. at j g (eqb (by.key_of q).1 j) refl e
      where
        at : (j : ℕ) (g : H) (t : Bool) → eqb (by.key_of q).1 j ≡ t → lookup (is_at (nat_cmp j)) pairs ≡ Some g → list_any (stands j g) rest ≡ true
        at j g true same e =
            let own : by.no_later (by.key_of q).0 (by.rank_of g) ≡ false = none g (subst (λ (n : ℕ). lookup (is_at (nat_cmp n)) pairs ≡ Some g) (sym (eqb-true (by.key_of q).1 j same)) e) in
            sym (ap (λ b. b || list_any (stands j g) rest) (and_left (by.no_later (by.key_of q).0 (by.rank_of g)) (eqb (by.key_of q).1 j) own)) ∙ moved items (q ∷ rest) moves j g (covered j g e)
        at j g false other e = others j g other e

    -- and its object goes
    covered_left : Apart (pair_entries by.fill pairs) → Covered (remove_entry (is_at (nat_cmp (by.key_of q).1)) pairs) rest
    covered_left apart = λ j g e. at j g (eqb (by.key_of q).1 j) refl (sym (lookup-removed by.fill pairs (by.key_of q).1 j apart) ∙ e)
      where
        at : (j : ℕ) (g : H) (t : Bool) → eqb (by.key_of q).1 j ≡ t → cond (eqb (by.key_of q).1 j) None (lookup (is_at (nat_cmp j)) pairs) ≡ Some g → list_any (stands j g) rest ≡ true
        at j g true same e =
            let nothing : None ≡ Some g = sym (ap (λ b. cond b None (lookup (is_at (nat_cmp j)) pairs)) same) ∙ e in
            cc
        at j g false other e = others j g other (sym (ap (λ b. cond b None (lookup (is_at (nat_cmp j)) pairs)) other) ∙ e)

    -- and one of its object's rank goes in
    covered_again : (h : H) → lookup (is_at (nat_cmp (by.key_of q).1)) pairs ≡ Some h → (i : I) → by.key_of i ≡ (by.rank_of h, (by.key_of q).1) → (after : List I) → IsPermutation (i ∷ rest) after → Covered pairs after
    covered_again h is i own after back = λ j g e. moved (i ∷ rest) after back j g (at j g (eqb (by.key_of q).1 j) refl e)
      where
        at : (j : ℕ) (g : H) (t : Bool) → eqb (by.key_of q).1 j ≡ t → lookup (is_at (nat_cmp j)) pairs ≡ Some g → (stands j g i || list_any (stands j g) rest) ≡ true
        at j g true same e =
            let one : h ≡ g = one_found (lookup (is_at (nat_cmp j)) pairs) h g (subst (λ (n : ℕ). lookup (is_at (nat_cmp n)) pairs ≡ Some h) (eqb-true (by.key_of q).1 j same) is) e in
            or_left (stands j g i) (list_any (stands j g) rest) (own_stands j g i (own ∙ ap (λ (x : H). (by.rank_of x, (by.key_of q).1)) one ∙ ap (λ (n : ℕ). (by.rank_of g, n)) (eqb-true (by.key_of q).1 j same)))
        at j g false other e = or_right (stands j g i) (list_any (stands j g) rest) (others j g other e)

  -- ---- items that are thrown away
  -- in another order
  pub covered_moved : (pairs : List (ℕ × H)) (items after : List I) → Covered pairs items → IsPermutation items after → Covered pairs after
  covered_moved pairs items after covered moves = λ j g e. moved items after moves j g (covered j g e)

  -- those that stand for something are kept
  pub covered_kept : (pairs : List (ℕ × H)) (items : List I) → Covered pairs items → (test : I → Bool)
      → ((i : I) (g : H) → lookup (is_at (nat_cmp (by.key_of i).1)) pairs ≡ Some g → by.no_later (by.key_of i).0 (by.rank_of g) ≡ true → test i ≡ true) → Covered pairs (filter test items)
  covered_kept pairs items covered test passes = λ j g e. some j g e items (covered j g e)
    where
      some : (j : ℕ) (g : H) → lookup (is_at (nat_cmp j)) pairs ≡ Some g → (is : List I) → list_any (stands j g) is ≡ true → list_any (stands j g) (filter test is) ≡ true
      some j g e [] any = cc
      some j g e (i ∷ is) any = at (test i) (stands j g i) refl refl (some j g e is)
        where
          at : (t s : Bool) → test i ≡ t → stands j g i ≡ s → (list_any (stands j g) is ≡ true → list_any (stands j g) (filter test is) ≡ true) → list_any (stands j g) (cond t (i ∷ filter test is) (filter test is)) ≡ true
          at true true kept here more = or_left (stands j g i) (list_any (stands j g) (filter test is)) here
          at true false kept here more = or_right (stands j g i) (list_any (stands j g) (filter test is)) (more (sym (ap (λ b. b || list_any (stands j g) is) here) ∙ any))
          at false true kept here more =
              let parts : (by.no_later (by.key_of i).0 (by.rank_of g) ≡ true) × (eqb (by.key_of i).1 j ≡ true) = and_parts _ _ here in
              absurd (both_ways (test i) kept (passes i g (subst (λ (n : ℕ). lookup (is_at (nat_cmp n)) pairs ≡ Some g) (sym (eqb-true (by.key_of i).1 j parts.1)) e) parts.0))
          at false false kept here more = more (sym (ap (λ b. b || list_any (stands j g) is) here) ∙ any)

  -- ---- a heap of items
  abbrev pub IsOrdered : List (ℕ × H) → List I → Type 0
  IsOrdered pairs items = StandFor (pair_entry by.fill) by.rank_of by.no_later by.key_of by.item_cmp pairs items

  module _ (pairs : List (ℕ × H)) (items : List I) (ordered : IsOrdered pairs items) where
    -- an item comes out
    module _ (rest : List I) (q : I) (moves : IsPermutation items (q ∷ rest)) (heap : IsHeap by.item_cmp rest) where
      -- that stands for nothing
      pub item_vain : ((g : H) → lookup (is_at (nat_cmp (by.key_of q).1)) pairs ≡ Some g → by.no_later (by.key_of q).0 (by.rank_of g) ≡ false) → IsOrdered pairs rest
      item_vain none = record { apart = ordered.apart; heap = heap; covered = covered_gone pairs items rest q ordered.covered moves none }

      -- of an object that is not held
      pub item_gone : lookup (is_at (nat_cmp (by.key_of q).1)) pairs ≡ None → IsOrdered pairs rest
      item_gone none = item_vain (λ g e. absurd (none_some (lookup (is_at (nat_cmp (by.key_of q).1)) pairs) g none e))

      -- and one of its object's rank goes in
      pub item_again : (held : H) → lookup (is_at (nat_cmp (by.key_of q).1)) pairs ≡ Some held → (i : I) → by.key_of i ≡ (by.rank_of held, (by.key_of q).1)
          → (after : List I) → IsPermutation (i ∷ rest) after → IsHeap by.item_cmp after → IsOrdered pairs after
      item_again held is i own after back heap_after = record { apart = ordered.apart; heap = heap_after; covered = covered_again pairs items rest q ordered.covered moves held is i own after back }

      -- and its object goes
      pub item_left : IsOrdered (remove_entry (is_at (nat_cmp (by.key_of q).1)) pairs) rest
      item_left = record {
        apart = subst Apart (sym (entries-removed by.fill pairs (by.key_of q).1 ordered.apart)) (Apart-without (by.key_of q).1 (pair_entries by.fill pairs) ordered.apart);
        heap = heap;
        covered = covered_left pairs items rest q ordered.covered moves ordered.apart;
      }

    -- an item goes in
    module _ (i : I) (after : List I) (moves : IsPermutation (i ∷ items) after) (heap : IsHeap by.item_cmp after) where
      -- and nothing else
      pub item_more : IsOrdered pairs after
      item_more = record { apart = ordered.apart; heap = heap; covered = covered_more pairs items after i ordered.covered moves }

      module _ (k : ℕ) (held : H) (own : by.key_of i ≡ (by.rank_of held, k)) where
        -- with its object
        pub item_put : has_entry (pair_entries by.fill pairs) k ≡ false → IsOrdered (insert_entry nat_cmp pairs k held) after
        item_put absent = record {
          apart = subst Apart (sym (entries-put by.fill pairs k held absent)) (Apart-put_in (pair_entries by.fill pairs) (pair_entry by.fill (k, held)) ordered.apart absent);
          heap = heap;
          covered = covered_pushed pairs items after k held i ordered.covered moves own;
        }

        -- and its object is renewed
        pub item_renewed : Apart (pair_entries by.fill (insert_entry nat_cmp pairs k held)) → IsOrdered (insert_entry nat_cmp pairs k held) after
        item_renewed apart = record { apart = apart; heap = heap; covered = covered_pushed pairs items after k held i ordered.covered moves own }

    -- an object is renewed, whose rank goes no earlier
    pub items_stay : (k : ℕ) (former held : H) → lookup (is_at (nat_cmp k)) pairs ≡ Some former → ((r : R) → by.no_later r (by.rank_of former) ≡ true → by.no_later r (by.rank_of held) ≡ true)
        → Apart (pair_entries by.fill (insert_entry nat_cmp pairs k held)) → IsOrdered (insert_entry nat_cmp pairs k held) items
    items_stay k former held is later apart = record {
      apart = apart;
      heap = ordered.heap;
      covered = covered_put pairs items items k held ordered.covered (IsPermutation-refl items) (covered_later pairs items k former held ordered.covered is later);
    }

    -- the items that stand for something are kept
    pub items_kept : (test : I → Bool) → ((i : I) (g : H) → lookup (is_at (nat_cmp (by.key_of i).1)) pairs ≡ Some g → by.no_later (by.key_of i).0 (by.rank_of g) ≡ true → test i ≡ true)
        → (after : List I) → IsPermutation (filter test items) after → IsHeap by.item_cmp after → IsOrdered pairs after
    items_kept test passes after moves heap = record { apart = ordered.apart; heap = heap; covered = covered_moved pairs (filter test items) after (covered_kept pairs items ordered.covered test passes) moves }

  -- ---- how much is left to settle: the items, and once more those that are not of their object's rank
  of_found : R → Option H → ℕ
  of_found r None = 1
  of_found r (Some h) = cond (by.same_rank r (by.rank_of h)) 0 1

  staleness : List (ℕ × H) → I → ℕ
  staleness pairs i = of_found (by.key_of i).0 (lookup (is_at (nat_cmp (by.key_of i).1)) pairs)

  pub unsettled : List (ℕ × H) → List I → ℕ
  unsettled pairs items = length items + sum_by (staleness pairs) items

  module _ (pairs : List (ℕ × H)) (items rest : List I) (q : I) (moves : IsPermutation items (q ∷ rest)) where
    pub fewer_gone : unsettled pairs rest < unsettled pairs items
    unfolding unsettled
    fewer_gone = omega (arith, length_permutation items (q ∷ rest) moves, sum_by_popped (staleness pairs) q items rest moves)

    pub fewer_again : (h : H) → lookup (is_at (nat_cmp (by.key_of q).1)) pairs ≡ Some h → by.same_rank (by.key_of q).0 (by.rank_of h) ≡ false
        → ((r : R) → by.same_rank r r ≡ true)
        → (i : I) → by.key_of i ≡ (by.rank_of h, (by.key_of q).1) → (after : List I) → IsPermutation (i ∷ rest) after → unsettled pairs after < unsettled pairs items
    unfolding unsettled staleness of_found
    fewer_again h is other refl_same i own after back =
        let was : staleness pairs q ≡ 1 = ap (of_found (by.key_of q).0) is ∙ ap (λ b. cond b 0 1) other in
        let now : staleness pairs i ≡ 0 =
        ap (λ (k : R × ℕ). of_found k.0 (lookup (is_at (nat_cmp k.1)) pairs)) own ∙ ap (of_found (by.rank_of h)) is ∙ ap (λ b. cond b 0 1) (refl_same (by.rank_of h)) in
        omega (
          arith,
          was,
          now,
          length_permutation items (q ∷ rest) moves,
          sum_by_popped (staleness pairs) q items rest moves,
          length_permutation (i ∷ rest) after back,
          sum_by_pushed (staleness pairs) i rest after back,
        )

  -- no items, no pairs
  pub some_item : (pairs : List (ℕ × H)) (items : List I) → Covered pairs items → 0 < used (pair_entries by.fill pairs) → 0 < length items
  some_item [] items covered some = absurd (omega arith)
  some_item (p ∷ ps) [] covered some =
      let here : lookup (is_at (nat_cmp p.0)) (p ∷ ps) ≡ Some p.1 = ap (λ b. cond b (Some p.1) (lookup (is_at (nat_cmp p.0)) ps)) (at-eqb p.0 p.0 ∙ eq-eqb p.0 p.0 refl) in
      let none : false ≡ true = covered p.0 p.1 here in
      cc
  some_item (p ∷ ps) (i ∷ items) covered some = omega arith

  -- ---- an item that no other goes before, if it is of its object's rank
  module _ (Fine : H → Type 0) (ahead : Entry → Entry → Bool) (pairs : List (ℕ × H)) (items : List I) (apart : Apart (pair_entries by.fill pairs)) (covered : Covered pairs items)
      (fine : (j : ℕ) (g : H) → lookup (is_at (nat_cmp j)) pairs ≡ Some g → Fine g)
      (q : I) (bound : IsUpperBound by.item_cmp q items) (k : ℕ) (held : H) (is : lookup (is_at (nat_cmp k)) pairs ≡ Some held) where
    abbrev pub GoesBefore : ℕ → H → Type 0
    GoesBefore j g = (ahead (pair_entry by.fill (k, held)) (pair_entry by.fill (j, g)) ≡ true) × (ahead (pair_entry by.fill (j, g)) (pair_entry by.fill (k, held)) ≡ false)

    module _ (goes : (i : I) (g : H) → is_lt (by.item_cmp q i) ≡ false → by.no_later (by.key_of i).0 (by.rank_of g) ≡ true → Fine g → eqb (by.key_of i).1 k ≡ false → GoesBefore (by.key_of i).1 g) where
      pub beats : (ps : List (ℕ × H)) → AllByRecursion (λ p. lookup (is_at (nat_cmp p.0)) pairs ≡ Some p.1) ps → AllByRecursion (IsBeaten ahead (pair_entry by.fill (k, held))) (pair_entries by.fill ps)
      beats [] own = tt
      beats (p ∷ ps) own = (at (eqb p.0 k) refl, beats ps own.1)
        where
          at : (t : Bool) → eqb p.0 k ≡ t → IsBeaten ahead (pair_entry by.fill (k, held)) (pair_entry by.fill p)
          at true e =
              let same : held ≡ p.1 = one_found (lookup (is_at (nat_cmp k)) pairs) held p.1 is (subst (λ (n : ℕ). lookup (is_at (nat_cmp n)) pairs ≡ Some p.1) (eqb-true p.0 k e) own.0) in
              let of_object : ℕ → Entry = λ i. pair_entry by.fill (i, held) in
              let of_held : H → Entry = λ h. pair_entry by.fill (p.0, h) in
              inl (ap of_object (sym (eqb-true p.0 k e)) ∙ ap of_held same)
          at false e =
              let witness = passing (λ i. is_lt (by.item_cmp q i) ≡ false) (stands p.0 p.1) items bound (covered p.0 p.1 own.0) in
              let parts : (by.no_later (by.key_of witness.0).0 (by.rank_of p.1) ≡ true) × (eqb (by.key_of witness.0).1 p.0 ≡ true) = and_parts _ _ witness.1.1 in
              let object : (by.key_of witness.0).1 ≡ p.0 = eqb-true (by.key_of witness.0).1 p.0 parts.1 in
              inr (subst (λ (n : ℕ). GoesBefore n p.1) object (goes witness.0 p.1 witness.1.0 parts.0 (fine p.0 p.1 own.0) (ap (λ (n : ℕ). eqb n k) object ∙ e)))

      -- it is one of the entries
      among : (ps : List (ℕ × H)) → lookup (is_at (nat_cmp k)) ps ≡ Some held → Among ahead (pair_entry by.fill (k, held)) (pair_entries by.fill ps)
      among [] at = cc
      among (p ∷ ps) at = split (eqb p.0 k) refl (among ps)
        where
          split : (t : Bool) → eqb p.0 k ≡ t → (lookup (is_at (nat_cmp k)) ps ≡ Some held → Among ahead (pair_entry by.fill (k, held)) (pair_entries by.fill ps)) → Among ahead (pair_entry by.fill (k, held)) (pair_entries by.fill (p ∷ ps))
          split true e more =
              let first : Some p.1 ≡ Some held = sym (ap (λ b. cond b (Some p.1) (lookup (is_at (nat_cmp k)) ps)) (at-eqb k p.0 ∙ e)) ∙ at in
              let same : held ≡ p.1 = cc in
              let of_object : ℕ → Entry = λ i. pair_entry by.fill (i, held) in
              let of_held : H → Entry = λ h. pair_entry by.fill (p.0, h) in
              inl (ap of_object (sym (eqb-true p.0 k e)) ∙ ap of_held same)
          split false e more = inr (more (sym (ap (λ b. cond b (Some p.1) (lookup (is_at (nat_cmp k)) ps)) (at-eqb k p.0 ∙ e)) ∙ at))

      goes_first : (ps : List (ℕ × H)) → AllByRecursion (IsBeaten ahead (pair_entry by.fill (k, held))) (pair_entries by.fill ps) → Among ahead (pair_entry by.fill (k, held)) (pair_entries by.fill ps)
          → remove_foremost ahead (pair_entries by.fill ps) ≡ without_entry k (pair_entries by.fill ps)
      goes_first [] each is_among = absurd is_among
      goes_first (p ∷ ps) each is_among =
          ap (λ (e : Entry). without_entry e.object (pair_entries by.fill (p ∷ ps))) (foremost-beats ahead (pair_entry by.fill (k, held)) (pair_entry by.fill p) (pair_entries by.fill ps) each.0 each.1 is_among)

      pub is_first : AllByRecursion (IsBeaten ahead (pair_entry by.fill (k, held))) (pair_entries by.fill pairs) × Among ahead (pair_entry by.fill (k, held)) (pair_entries by.fill pairs)
      is_first = (beats pairs (lookups-own by.fill pairs apart), among pairs is)

      pub removes : pair_entries by.fill (remove_entry (is_at (nat_cmp k)) pairs) ≡ remove_foremost ahead (pair_entries by.fill pairs)
      removes = entries-removed by.fill pairs k apart ∙ sym (goes_first pairs is_first.0 is_first.1)

  -- ---- what is removed
  pub used-left : (pairs : List (ℕ × H)) (k : ℕ) (held : H) → Apart (pair_entries by.fill pairs) → lookup (is_at (nat_cmp k)) pairs ≡ Some held
      → used (pair_entries by.fill (remove_entry (is_at (nat_cmp k)) pairs)) + (by.fill held).size ≡ used (pair_entries by.fill pairs)
  used-left pairs k held apart is =
      omega (
        arith,
        ap used (entries-removed by.fill pairs k apart),
        sum-without k (by.fill held).size (pair_entries by.fill pairs) apart (has_entry-lookup by.fill pairs k ∙ ap is_some is) (sizes-found by.fill pairs k held apart is),
      )

  pub fewer-left : (pairs : List (ℕ × H)) (k : ℕ) (held : H) → Apart (pair_entries by.fill pairs) → lookup (is_at (nat_cmp k)) pairs ≡ Some held → length (remove_entry (is_at (nat_cmp k)) pairs) + 1 ≡ length pairs
  fewer-left pairs k held apart is =
      omega (
        arith,
        length-map (remove_entry (is_at (nat_cmp k)) pairs) (pair_entry by.fill),
        length-map pairs (pair_entry by.fill),
        ap length (entries-removed by.fill pairs k apart),
        length-without k (pair_entries by.fill pairs) apart (has_entry-lookup by.fill pairs k ∙ ap is_some is),
      )
