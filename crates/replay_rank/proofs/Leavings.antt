-- What is held once an object has left whose items stay in the heap.
use Rattle.std.proofs.Common.{◌≡◌, ℕ, ◌+◌, ◌-◌, ◌≤◌, ◌∙◌, sym, ap, subst, refl, Bool, true, false, ◌&&◌, ◌||◌, cond, eqb, List, [], ◌∷◌, All, arith, Some, None, Option}
use Rattle.std.specs.BTreeMap.{is_at}
use Rattle.std.specs.BinaryHeap.{IsHeap}
use Rattle.std.specs.List.{AllByRecursion, dedup, dedup_from, filter, list_any}
use Rattle.std.specs.List.Sorted.{IsPermutation}
use Rattle.std.specs.Map.{lookup, remove_entry}
use Rattle.std.specs.Ordering.{nat_cmp}
use Rattle.std.proofs.lemmas.Bool.{eqb-true, or_left, or_right, and_parts, and_from, cond_both}
use Rattle.std.proofs.lemmas.List.Elements.{All-from_recursion, recursion_from_All}
use Rattle.std.proofs.lemmas.List.Filters.{All-dedup}
use Rattle.std.proofs.lemmas.List.Sorted.{All-permutation}
use Rattle.policy_model.specs.States.{used, IsFit}
use Rattle.policy_model.specs.Steps.{without_entry}
use Rattle.policy_model.proofs.Entries.{Apart, Apart-without}
use Rattle.policy_model.proofs.Leavings.{fit-without}
use Rattle.replay_rank.proofs.Pairs.{pair_entries, entries-removed, lookup-removed, removed-none}
use Rattle.replay_rank.proofs.Items.{Ranks, stands, Covered, covered_moved, covered_kept, IsOrdered, used-left}

module _ {H R I : Type 0} (by : Ranks H R I) (pairs : List (ℕ × H)) (items : List I) (ordered : IsOrdered by pairs items) (k : ℕ) where
  abbrev found : Option H
  found = lookup (is_at (nat_cmp k)) pairs

  abbrev rest : List (ℕ × H)
  rest = remove_entry (is_at (nat_cmp k)) pairs

  rest_ordered : IsOrdered by rest items
  rest_ordered = record {
    apart = subst Apart (sym (entries-removed by.fill pairs k ordered.apart)) (Apart-without k (pair_entries by.fill pairs) ordered.apart);
    heap = ordered.heap;
    covered = λ j g e. at j g (eqb k j) (sym (lookup-removed by.fill pairs k j ordered.apart) ∙ e);
  }
    where
      at : (j : ℕ) (g : H) (t : Bool) → cond t None (lookup (is_at (nat_cmp j)) pairs) ≡ Some g → list_any (λ i. by.no_later (by.key_of i).0 (by.rank_of g) && eqb (by.key_of i).1 j) items ≡ true
      at j g true e = cc
      at j g false e = ordered.covered j g e

  -- so many bytes are gone
  module _ (gone : ℕ) (none : found ≡ None → gone ≡ 0) (some : (held : H) → found ≡ Some held → gone ≡ (by.fill held).size) where
    rest-used : used (pair_entries by.fill rest) + gone ≡ used (pair_entries by.fill pairs)
    rest-used = at found refl
      where
        at : (o : Option H) → found ≡ o → used (pair_entries by.fill rest) + gone ≡ used (pair_entries by.fill pairs)
        at None is = omega (arith, none is, ap (λ ps. used (pair_entries by.fill ps)) (removed-none (is_at (nat_cmp k)) pairs is))
        at (Some held) is = omega (arith, some held is, used-left by pairs k held ordered.apart is)

    module _ (capacity in_use : ℕ) (counted : in_use ≡ used (pair_entries by.fill pairs)) where
      pub gone-few : gone ≤ in_use
      gone-few = omega (arith, counted, rest-used)

      module _ (left : List (ℕ × H)) (is : left ≡ rest) where
        pub left-entries : pair_entries by.fill left ≡ without_entry k (pair_entries by.fill pairs)
        left-entries = ap (pair_entries by.fill) is ∙ entries-removed by.fill pairs k ordered.apart

        pub left-used : in_use - gone ≡ used (pair_entries by.fill left)
        left-used = omega (arith, counted, rest-used, ap (λ ps. used (pair_entries by.fill ps)) is)

        pub left-fits : IsFit capacity (pair_entries by.fill pairs) → IsFit capacity (pair_entries by.fill left)
        left-fits fits = subst (IsFit capacity) (sym left-entries) (fit-without capacity k (pair_entries by.fill pairs) fits)

        pub left-ordered : IsOrdered by left items
        left-ordered = subst (λ ps. IsOrdered by ps items) (sym is) rest_ordered

-- ---- items that are thrown away
module _ {H R I : Type 0} (by : Ranks H R I) where
  -- of several of one object the first is kept, if each stands for its object
  module _ (pairs : List (ℕ × H)) (Stands : I → Type 0) (fit : (i : I) (g : H) → Stands i → lookup (is_at (nat_cmp (by.key_of i).1)) pairs ≡ Some g → by.no_later (by.key_of i).0 (by.rank_of g) ≡ true) where
    abbrev pub one_object : I → I → Bool
    one_object i k = eqb (by.key_of i).1 (by.key_of k).1

    abbrev of_object : ℕ → I → Bool
    of_object j i = eqb (by.key_of i).1 j

    any-dedup_from : (j : ℕ) (k : I) (is : List I) → list_any (of_object j) (dedup_from one_object k is) ≡ list_any (of_object j) (k ∷ is)
    any-dedup_from j k [] = refl
    any-dedup_from j k (i ∷ is) = at (one_object i k) refl (any-dedup_from j k is) (any-dedup_from j i is)
      where
        twice : (a b : Bool) → (a || b) ≡ (a || (a || b))
        twice true b = refl
        twice false b = refl

        at : (t : Bool) → one_object i k ≡ t → list_any (of_object j) (dedup_from one_object k is) ≡ list_any (of_object j) (k ∷ is) → list_any (of_object j) (dedup_from one_object i is) ≡ list_any (of_object j) (i ∷ is)
            → list_any (of_object j) (cond t (dedup_from one_object k is) (k ∷ dedup_from one_object i is)) ≡ list_any (of_object j) (k ∷ i ∷ is)
        at true same first second =
            first ∙ twice (of_object j k) (list_any (of_object j) is) ∙ ap (λ n. of_object j k || (eqb n j || list_any (of_object j) is)) (sym (eqb-true (by.key_of i).1 (by.key_of k).1 same))
        at false other first second = ap (λ b. of_object j k || b) second

    any-dedup : (j : ℕ) (is : List I) → list_any (of_object j) (dedup one_object is) ≡ list_any (of_object j) is
    any-dedup j [] = refl
    any-dedup j (i ∷ is) = any-dedup_from j i is

    -- one of the object, and one that stands for it
    weaker : (j : ℕ) (g : H) (is : List I) → list_any (stands by j g) is ≡ true → list_any (of_object j) is ≡ true
    weaker j g [] any = any
    weaker j g (i ∷ is) any = at (stands by j g i) refl (weaker j g is)
      where
        at : (t : Bool) → stands by j g i ≡ t → (list_any (stands by j g) is ≡ true → list_any (of_object j) is ≡ true) → list_any (of_object j) (i ∷ is) ≡ true
        at true here more =
            let parts : (by.no_later (by.key_of i).0 (by.rank_of g) ≡ true) × (eqb (by.key_of i).1 j ≡ true) = and_parts _ _ here in
            or_left (of_object j i) (list_any (of_object j) is) parts.1
        at false other more = or_right (of_object j i) (list_any (of_object j) is) (more (sym (ap (λ b. b || list_any (stands by j g) is) other) ∙ any))

    stronger : (j : ℕ) (g : H) → lookup (is_at (nat_cmp j)) pairs ≡ Some g → (is : List I) → AllByRecursion Stands is → list_any (of_object j) is ≡ true → list_any (stands by j g) is ≡ true
    stronger j g e [] each any = any
    stronger j g e (i ∷ is) each any = at (of_object j i) refl (stronger j g e is each.1)
      where
        at : (t : Bool) → of_object j i ≡ t → (list_any (of_object j) is ≡ true → list_any (stands by j g) is ≡ true) → list_any (stands by j g) (i ∷ is) ≡ true
        at true here more =
            let found : lookup (is_at (nat_cmp (by.key_of i).1)) pairs ≡ Some g = subst (λ (n : ℕ). lookup (is_at (nat_cmp n)) pairs ≡ Some g) (sym (eqb-true (by.key_of i).1 j here)) e in
            or_left (stands by j g i) (list_any (stands by j g) is) (and_from _ _ (fit i g each.0 found) here)
        at false other more = or_right (stands by j g i) (list_any (stands by j g) is) (more (sym (ap (λ b. b || list_any (of_object j) is) other) ∙ any))

    pub covered_once : (items : List I) → Covered by pairs items → AllByRecursion Stands (dedup one_object items) → Covered by pairs (dedup one_object items)
    covered_once items covered each = λ j g e. stronger j g e (dedup one_object items) each (any-dedup j items ∙ weaker j g items (covered j g e))

  -- of the items that pass, one of each object, in a heap of their own
  module _ (pairs : List (ℕ × H)) (items : List I) (ordered : IsOrdered by pairs items) (test : I → Bool)
      (passes : (i : I) (g : H) → lookup (is_at (nat_cmp (by.key_of i).1)) pairs ≡ Some g → by.no_later (by.key_of i).0 (by.rank_of g) ≡ true → test i ≡ true)
      (fit : (i : I) (g : H) → test i ≡ true → lookup (is_at (nat_cmp (by.key_of i).1)) pairs ≡ Some g → by.no_later (by.key_of i).0 (by.rank_of g) ≡ true) where
    abbrev Passes : I → Type 0
    Passes i = test i ≡ true

    filter-passes : (is : List I) → AllByRecursion Passes (filter test is)
    filter-passes [] = tt
    filter-passes (i ∷ is) = cond_both (test i) (i ∷ filter test is) (filter test is) (AllByRecursion Passes) (λ pass. (pass, filter-passes is)) (λ _. filter-passes is)

    pub dedup-passes : (kept sorted : List I) → kept ≡ filter test items → IsPermutation kept sorted → AllByRecursion Passes (dedup (one_object pairs Passes fit) sorted)
    dedup-passes kept sorted of_test moves =
        let same : I → I → Bool = one_object pairs Passes fit in
        let moved : IsPermutation (filter test items) sorted = subst (λ is. IsPermutation is sorted) of_test moves in
        let all : All Passes sorted = All-permutation Passes (filter test items) sorted moved (All-from_recursion Passes (filter test items) (filter-passes items)) in
        recursion_from_All Passes (dedup same sorted) (All-dedup same Passes sorted all)

    pub items_once : (kept sorted once after : List I) → kept ≡ filter test items → IsPermutation kept sorted → once ≡ dedup (one_object pairs Passes fit) sorted → IsPermutation once after → IsHeap by.item_cmp after → IsOrdered by pairs after
    items_once kept sorted once after of_test moves of_object moves_after heap =
        let same : I → I → Bool = one_object pairs Passes fit in
        let moved : IsPermutation (filter test items) sorted = subst (λ is. IsPermutation is sorted) of_test moves in
        let each : AllByRecursion Passes (dedup same sorted) = dedup-passes kept sorted of_test moves in
        let covered : Covered by pairs (dedup same sorted) =
        covered_once pairs Passes fit sorted (covered_moved by pairs (filter test items) sorted (covered_kept by pairs items ordered.covered test passes) moved) each in
        record {
          apart = ordered.apart;
          heap = heap;
          covered = covered_moved by pairs (dedup same sorted) after covered (subst (λ is. IsPermutation is after) of_object moves_after);
        }
