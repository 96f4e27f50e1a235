-- The pairs of a map from objects, and the entries that they are.
use Rattle.std.proofs.Common.{◌≡◌, ℕ, ◌<◌, ◌∙◌, sym, refl, ap, subst, ⊎_elim, Bool, true, false, not, ◌||◌, cond, eqb, List, [], ◌∷◌, map, arith, Some, None, Option, is_some}
use Rattle.std.specs.declared.cmp.Ordering.{Ordering}
use Rattle.std.specs.declared.cmp.Ordering.TheVariants.{Less, Equal, Greater}
use Rattle.std.specs.BTreeMap.{is_at, insert_entry}
use Rattle.std.specs.List.{AllByRecursion}
use Rattle.std.specs.List.Sorted.{IsStrictlySortedBy}
use Rattle.std.specs.Map.{keys_of, lookup, remove_entry}
use Rattle.std.specs.Ordering.{nat_cmp, match_ordering}
use Rattle.std.proofs.lemmas.Bool.{cases_order, eqb-true, eqb-false, eq-eqb, ne_eqb, lt-ltb, le-ltb, or_parts, or_from, both_ways}
use Rattle.std.proofs.lemmas.Map.Keys.{sorted_head, sorted_tail}
use Rattle.policy_model.specs.States.{Entry, has_entry}
use Rattle.policy_model.specs.Steps.{without_entry, put_in, change}
use Rattle.policy_model.proofs.Comparisons.{at-eqb, eqb-sym, cmp-less, cmp-equal, cmp-greater}
use Rattle.policy_model.proofs.Entries.{Apart, without-none}

-- what is looked up after one was put in or renewed
pub lookup-inserted : {X : Type 0} (pairs : List (ℕ × X)) (k q : ℕ) (x : X) → lookup (is_at (nat_cmp q)) (insert_entry nat_cmp pairs k x) ≡ cond (eqb k q) (Some x) (lookup (is_at (nat_cmp q)) pairs)
lookup-inserted [] k q x = ap (λ b. cond b (Some x) None) (at-eqb q k)
lookup-inserted (p ∷ rest) k q x =
    let whole : Ordering → Option _ = λ o. lookup (is_at (nat_cmp q)) (match_ordering o ((k, x) ∷ p ∷ rest) ((p.0, x) ∷ rest) (p ∷ insert_entry nat_cmp rest k x)) in
    ⊎_elim
    (λ (same : k ≡ p.0). ap whole (cmp-equal k p.0 same) ∙ ap (λ b. cond b (Some x) (lookup (is_at (nat_cmp q)) rest)) (at-eqb q p.0 ∙ ap (λ j. eqb j q) (sym same)) ∙ instead same (eqb k q) refl)
    (λ order. ⊎_elim
    (λ (low : k < p.0). ap whole (cmp-less k p.0 low) ∙ ap (λ b. cond b (Some x) (lookup (is_at (nat_cmp q)) (p ∷ rest))) (at-eqb q k))
    (λ (high : p.0 < k). ap whole (cmp-greater k p.0 high) ∙ ap (λ o. cond (is_at (nat_cmp q) p.0) (Some p.1) o) (lookup-inserted rest k q x) ∙ behind high (eqb k q) refl)
    order)
    (cases_order k p.0)
  where
    instead : k ≡ p.0 → (t : Bool) → eqb k q ≡ t → cond (eqb k q) (Some x) (lookup (is_at (nat_cmp q)) rest) ≡ cond (eqb k q) (Some x) (cond (is_at (nat_cmp q) p.0) (Some p.1) (lookup (is_at (nat_cmp q)) rest))
    instead same true e =
        ap (λ b. cond b (Some x) (lookup (is_at (nat_cmp q)) rest)) e ∙ ap (λ b. cond b (Some x) (cond (is_at (nat_cmp q) p.0) (Some p.1) (lookup (is_at (nat_cmp q)) rest))) (sym e)
    instead same false e =
        ap (λ o. cond (eqb k q) (Some x) o) (sym (ap (λ b. cond b (Some p.1) (lookup (is_at (nat_cmp q)) rest)) (at-eqb q p.0 ∙ ap (λ j. eqb j q) (sym same) ∙ e)))

    behind : p.0 < k → (t : Bool) → eqb k q ≡ t
        → cond (is_at (nat_cmp q) p.0) (Some p.1) (cond (eqb k q) (Some x) (lookup (is_at (nat_cmp q)) rest)) ≡ cond (eqb k q) (Some x) (cond (is_at (nat_cmp q) p.0) (Some p.1) (lookup (is_at (nat_cmp q)) rest))
    behind high true e =
        let same : k ≡ q = eqb-true k q e in
        let other : is_at (nat_cmp q) p.0 ≡ false = at-eqb q p.0 ∙ ne_eqb p.0 q (λ one. omega arith) in
        ap (λ b. cond b (Some p.1) (cond (eqb k q) (Some x) (lookup (is_at (nat_cmp q)) rest))) other
        ∙ ap (λ b. cond b (Some x) (lookup (is_at (nat_cmp q)) rest)) e
        ∙ ap (λ b. cond b (Some x) (cond (is_at (nat_cmp q) p.0) (Some p.1) (lookup (is_at (nat_cmp q)) rest))) (sym e)
    behind high false e =
        ap (λ b. cond (is_at (nat_cmp q) p.0) (Some p.1) (cond b (Some x) (lookup (is_at (nat_cmp q)) rest))) e
        ∙ ap (λ b. cond b (Some x) (cond (is_at (nat_cmp q) p.0) (Some p.1) (lookup (is_at (nat_cmp q)) rest))) (sym e)

-- nothing is taken out of pairs that have nothing at a number
pub removed-none : {X : Type 0} (test : ℕ → Bool) (pairs : List (ℕ × X)) → lookup test pairs ≡ None → remove_entry test pairs ≡ pairs
removed-none test [] none = refl
removed-none test (p ∷ rest) none = at (test p.0) refl (removed-none test rest)
  where
    at : (t : Bool) → test p.0 ≡ t → (lookup test rest ≡ None → remove_entry test rest ≡ rest) → remove_entry test (p ∷ rest) ≡ p ∷ rest
    at true e more =
        let some : Some p.1 ≡ None = sym (ap (λ b. cond b (Some p.1) (lookup test rest)) e) ∙ none in
        cc
    at false e more = ap (λ b. cond b rest (p ∷ remove_entry test rest)) e ∙ ap (λ ps. p ∷ ps) (more (sym (ap (λ b. cond b (Some p.1) (lookup test rest)) e) ∙ none))

-- the fill is the entry of what is kept of an object, but for its number
module _ {X : Type 0} (fill : X → Entry) where
  abbrev pub pair_entry : ℕ × X → Entry
  pair_entry p = record (fill p.1) { object = p.0 }

  abbrev pub pair_entries : List (ℕ × X) → List Entry
  pair_entries pairs = map pair_entry pairs

  -- ---- the entry of an object
  pub has_entry-lookup : (pairs : List (ℕ × X)) (k : ℕ) → has_entry (pair_entries pairs) k ≡ is_some (lookup (is_at (nat_cmp k)) pairs)
  has_entry-lookup [] k = refl
  has_entry-lookup (p ∷ rest) k = ap (λ b. b || has_entry (pair_entries rest) k) (sym (at-eqb k p.0)) ∙ ap (λ b. is_at (nat_cmp k) p.0 || b) (has_entry-lookup rest k) ∙ at (is_at (nat_cmp k) p.0)
    where
      at : (t : Bool) → (t || is_some (lookup (is_at (nat_cmp k)) rest)) ≡ is_some (cond t (Some p.1) (lookup (is_at (nat_cmp k)) rest))
      at true = refl
      at false = refl

  -- what is found is what each entry of the object has
  pub each-found : (P : X → Type 0) (pairs : List (ℕ × X)) (k : ℕ) (x : X) → Apart (pair_entries pairs) → lookup (is_at (nat_cmp k)) pairs ≡ Some x → P x → AllByRecursion (λ p. eqb p.0 k ≡ true → P p.1) pairs
  each-found P [] k x apart found here = tt
  each-found P (p ∷ rest) k x apart found here = at (eqb p.0 k) refl (each-found P rest k x apart.1)
    where
      others : (pairs : List (ℕ × X)) → has_entry (pair_entries pairs) k ≡ false → AllByRecursion (λ q. eqb q.0 k ≡ true → P q.1) pairs
      others [] none = tt
      others (q ∷ qs) none = let parts : (eqb q.0 k ≡ false) × (has_entry (pair_entries qs) k ≡ false) = or_parts _ _ none in ((λ same. absurd (both_ways (eqb q.0 k) parts.0 same)), others qs parts.1)

      at : (t : Bool) → eqb p.0 k ≡ t → (lookup (is_at (nat_cmp k)) rest ≡ Some x → P x → AllByRecursion (λ q. eqb q.0 k ≡ true → P q.1) rest) → AllByRecursion (λ q. eqb q.0 k ≡ true → P q.1) (p ∷ rest)
      at true e more =
          let first : Some p.1 ≡ Some x = sym (ap (λ b. cond b (Some p.1) (lookup (is_at (nat_cmp k)) rest)) (at-eqb k p.0 ∙ e)) ∙ found in
          let same : x ≡ p.1 = cc in
          ((λ _. subst P same here), others rest (ap (has_entry (pair_entries rest)) (sym (eqb-true p.0 k e)) ∙ apart.0))
      at false e more =
          ((λ same. absurd (both_ways (eqb p.0 k) e same)), more (sym (ap (λ b. cond b (Some p.1) (lookup (is_at (nat_cmp k)) rest)) (at-eqb k p.0 ∙ e)) ∙ found) here)

  pub sizes-found : (pairs : List (ℕ × X)) (k : ℕ) (x : X) → Apart (pair_entries pairs) → lookup (is_at (nat_cmp k)) pairs ≡ Some x → AllByRecursion (λ e. e.object ≡ k → e.size ≡ (fill x).size) (pair_entries pairs)
  sizes-found pairs k x apart found = of pairs (each-found (λ h. (fill h).size ≡ (fill x).size) pairs k x apart found refl)
    where
      of : (ps : List (ℕ × X)) → AllByRecursion (λ p. eqb p.0 k ≡ true → (fill p.1).size ≡ (fill x).size) ps → AllByRecursion (λ e. e.object ≡ k → e.size ≡ (fill x).size) (pair_entries ps)
      of [] each = tt
      of (p ∷ ps) each = ((λ same. each.0 (eq-eqb p.0 k same)), of ps each.1)

  -- ---- the pairs without an object
  pub entries-removed : (pairs : List (ℕ × X)) (k : ℕ) → Apart (pair_entries pairs) → pair_entries (remove_entry (is_at (nat_cmp k)) pairs) ≡ without_entry k (pair_entries pairs)
  entries-removed [] k apart = refl
  entries-removed (p ∷ rest) k apart = at (eqb p.0 k) refl (entries-removed rest k apart.1)
    where
      at : (t : Bool) → eqb p.0 k ≡ t → pair_entries (remove_entry (is_at (nat_cmp k)) rest) ≡ without_entry k (pair_entries rest)
          → pair_entries (cond (is_at (nat_cmp k) p.0) rest (p ∷ remove_entry (is_at (nat_cmp k)) rest)) ≡ cond (not (eqb p.0 k)) (pair_entry p ∷ without_entry k (pair_entries rest)) (without_entry k (pair_entries rest))
      at true e more =
          let none : has_entry (pair_entries rest) k ≡ false = ap (has_entry (pair_entries rest)) (sym (eqb-true p.0 k e)) ∙ apart.0 in
          ap (λ b. pair_entries (cond b rest (p ∷ remove_entry (is_at (nat_cmp k)) rest))) (at-eqb k p.0 ∙ e)
          ∙ sym (without-none k (pair_entries rest) none)
          ∙ ap (λ b. cond (not b) (pair_entry p ∷ without_entry k (pair_entries rest)) (without_entry k (pair_entries rest))) (sym e)
      at false e more =
          ap (λ b. pair_entries (cond b rest (p ∷ remove_entry (is_at (nat_cmp k)) rest))) (at-eqb k p.0 ∙ e)
          ∙ ap (λ es. pair_entry p ∷ es) more
          ∙ ap (λ b. cond (not b) (pair_entry p ∷ without_entry k (pair_entries rest)) (without_entry k (pair_entries rest))) (sym e)

  -- ---- what is looked up
  pub lookup-removed : (pairs : List (ℕ × X)) (k q : ℕ) → Apart (pair_entries pairs) → lookup (is_at (nat_cmp q)) (remove_entry (is_at (nat_cmp k)) pairs) ≡ cond (eqb k q) None (lookup (is_at (nat_cmp q)) pairs)
  lookup-removed [] k q apart = at (eqb k q)
    where
      nothing : Option X
      nothing = None

      at : (t : Bool) → nothing ≡ cond t None nothing
      at true = refl
      at false = refl
  lookup-removed (p ∷ rest) k q apart = at (eqb p.0 k) (eqb k q) refl refl (lookup-removed rest k q apart.1)
    where
      at : (t u : Bool) → eqb p.0 k ≡ t → eqb k q ≡ u → lookup (is_at (nat_cmp q)) (remove_entry (is_at (nat_cmp k)) rest) ≡ cond (eqb k q) None (lookup (is_at (nat_cmp q)) rest)
          → lookup (is_at (nat_cmp q)) (cond (is_at (nat_cmp k) p.0) rest (p ∷ remove_entry (is_at (nat_cmp k)) rest)) ≡ cond (eqb k q) None (cond (is_at (nat_cmp q) p.0) (Some p.1) (lookup (is_at (nat_cmp q)) rest))
      at true true e f more =
          let object : p.0 ≡ q = eqb-true p.0 k e ∙ eqb-true k q f in
          let none : has_entry (pair_entries rest) q ≡ false = ap (has_entry (pair_entries rest)) (sym object) ∙ apart.0 in
          ap (λ b. lookup (is_at (nat_cmp q)) (cond b rest (p ∷ remove_entry (is_at (nat_cmp k)) rest))) (at-eqb k p.0 ∙ e)
          ∙ none_found (lookup (is_at (nat_cmp q)) rest) (sym (has_entry-lookup rest q) ∙ none)
          ∙ ap (λ b. cond b None (cond (is_at (nat_cmp q) p.0) (Some p.1) (lookup (is_at (nat_cmp q)) rest))) (sym f)
        where
          none_found : (o : Option X) → is_some o ≡ false → o ≡ None
          none_found None e = refl
          none_found (Some x) e = cc
      at true false e f more =
          let other : eqb p.0 q ≡ false = ap (λ j. eqb j q) (eqb-true p.0 k e) ∙ f in
          ap (λ b. lookup (is_at (nat_cmp q)) (cond b rest (p ∷ remove_entry (is_at (nat_cmp k)) rest))) (at-eqb k p.0 ∙ e)
          ∙ ap (λ b. cond b (Some p.1) (lookup (is_at (nat_cmp q)) rest)) (sym (at-eqb q p.0 ∙ other))
          ∙ ap (λ b. cond b None (cond (is_at (nat_cmp q) p.0) (Some p.1) (lookup (is_at (nat_cmp q)) rest))) (sym f)
      at false true e f more =
          let other : eqb p.0 q ≡ false = ap (eqb p.0) (sym (eqb-true k q f)) ∙ e in
          ap (λ b. lookup (is_at (nat_cmp q)) (cond b rest (p ∷ remove_entry (is_at (nat_cmp k)) rest))) (at-eqb k p.0 ∙ e)
          ∙ ap (λ b. cond b (Some p.1) (lookup (is_at (nat_cmp q)) (remove_entry (is_at (nat_cmp k)) rest))) (at-eqb q p.0 ∙ other)
          ∙ more
          ∙ ap (λ b. cond b None (lookup (is_at (nat_cmp q)) rest)) f
          ∙ ap (λ b. cond b None (cond (is_at (nat_cmp q) p.0) (Some p.1) (lookup (is_at (nat_cmp q)) rest))) (sym f)
      at false false e f more =
          ap (λ b. lookup (is_at (nat_cmp q)) (cond b rest (p ∷ remove_entry (is_at (nat_cmp k)) rest))) (at-eqb k p.0 ∙ e)
          ∙ ap (λ o. cond (is_at (nat_cmp q) p.0) (Some p.1) o) (more ∙ ap (λ b. cond b None (lookup (is_at (nat_cmp q)) rest)) f)
          ∙ ap (λ b. cond b None (cond (is_at (nat_cmp q) p.0) (Some p.1) (lookup (is_at (nat_cmp q)) rest))) (sym f)

  -- each pair is found by its number
  pub lookups-own : (pairs : List (ℕ × X)) → Apart (pair_entries pairs) → AllByRecursion (λ p. lookup (is_at (nat_cmp p.0)) pairs ≡ Some p.1) pairs
  lookups-own [] apart = tt
  lookups-own (p ∷ rest) apart = (
    ap (λ b. cond b (Some p.1) (lookup (is_at (nat_cmp p.0)) rest)) (at-eqb p.0 p.0 ∙ eq-eqb p.0 p.0 refl),
    behind rest apart.0 (lookups-own rest apart.1),
  )
    where
      behind : (ps : List (ℕ × X)) → has_entry (pair_entries ps) p.0 ≡ false → AllByRecursion (λ q. lookup (is_at (nat_cmp q.0)) rest ≡ Some q.1) ps → AllByRecursion (λ q. lookup (is_at (nat_cmp q.0)) (p ∷ rest) ≡ Some q.1) ps
      behind [] none own = tt
      behind (q ∷ ps) none own =
          let parts : (eqb q.0 p.0 ≡ false) × (has_entry (pair_entries ps) p.0 ≡ false) = or_parts _ _ none in
          (ap (λ b. cond b (Some p.1) (lookup (is_at (nat_cmp q.0)) rest)) (at-eqb q.0 p.0 ∙ (eqb-sym p.0 q.0 ∙ parts.0)) ∙ own.0, behind ps parts.1 own.1)

  -- ---- a pair that is put in
  pub entries-put : (pairs : List (ℕ × X)) (k : ℕ) (x : X) → has_entry (pair_entries pairs) k ≡ false → pair_entries (insert_entry nat_cmp pairs k x) ≡ put_in (pair_entry (k, x)) (pair_entries pairs)
  entries-put [] k x none = refl
  entries-put (p ∷ rest) k x none =
      let parts : (eqb p.0 k ≡ false) × (has_entry (pair_entries rest) k ≡ false) = or_parts _ _ none in
      ⊎_elim
      (λ (same : k ≡ p.0). absurd (eqb-false p.0 k parts.0 (sym same)))
      (λ apart. ⊎_elim
      (λ (low : k < p.0).
      ap (λ o. pair_entries (match_ordering o ((k, x) ∷ p ∷ rest) ((p.0, x) ∷ rest) (p ∷ insert_entry nat_cmp rest k x))) (cmp-less k p.0 low)
      ∙ ap (λ b. cond b (pair_entry (k, x) ∷ pair_entry p ∷ pair_entries rest) (pair_entry p ∷ put_in (pair_entry (k, x)) (pair_entries rest))) (sym (lt-ltb k p.0 low)))
      (λ (high : p.0 < k).
      ap (λ o. pair_entries (match_ordering o ((k, x) ∷ p ∷ rest) ((p.0, x) ∷ rest) (p ∷ insert_entry nat_cmp rest k x))) (cmp-greater k p.0 high)
      ∙ ap (λ es. pair_entry p ∷ es) (entries-put rest k x parts.1)
      ∙ ap (λ b. cond b (pair_entry (k, x) ∷ pair_entry p ∷ pair_entries rest) (pair_entry p ∷ put_in (pair_entry (k, x)) (pair_entries rest))) (sym (le-ltb k p.0 (omega arith))))
      apart)
      (cases_order k p.0)

  -- keys that are all above a number
  pub above-none : (pairs : List (ℕ × X)) (j k : ℕ) → k < j → AllByRecursion (λ x. nat_cmp j x ≡ Less) (keys_of pairs) → has_entry (pair_entries pairs) k ≡ false
  above-none [] j k low each = refl
  above-none (p ∷ rest) j k low each = or_from _ _ (ne_eqb p.0 k (λ same. absurd (not_less j p.0 (omega arith) each.0))) (above-none rest j k low each.1)
    where
      not_less : (a b : ℕ) → b < a → nat_cmp a b ≡ Less → ⊥
      not_less a b high less = let greater : nat_cmp a b ≡ Greater = cmp-greater a b high in cc

  -- a pair that was removed is put in again
  pub put-removed : (pairs : List (ℕ × X)) (k : ℕ) (x : X) → IsStrictlySortedBy nat_cmp (keys_of pairs) → lookup (is_at (nat_cmp k)) pairs ≡ Some x
      → put_in (pair_entry (k, x)) (pair_entries (remove_entry (is_at (nat_cmp k)) pairs)) ≡ pair_entries pairs
  put-removed [] k x sorted found = cc
  put-removed (p ∷ rest) k x sorted found = at (eqb p.0 k) refl (put-removed rest k x (sorted_tail nat_cmp p.0 (keys_of rest) sorted))
    where
      less-true : (a b : ℕ) → nat_cmp a b ≡ Less → a < b
      less-true a b less =
          ⊎_elim
          (λ (same : a ≡ b). absurd (let equal : nat_cmp a b ≡ Equal = cmp-equal a b same in cc))
          (λ order. ⊎_elim
          (λ (low : a < b). low)
          (λ (high : b < a). absurd (let greater : nat_cmp a b ≡ Greater = cmp-greater a b high in cc))
          order)
          (cases_order a b)

      found-above : (ps : List (ℕ × X)) → AllByRecursion (λ y. nat_cmp p.0 y ≡ Less) (keys_of ps) → lookup (is_at (nat_cmp k)) ps ≡ Some x → p.0 < k
      found-above [] each is = cc
      found-above (q ∷ qs) each is = here (eqb q.0 k) refl (found-above qs each.1)
        where
          here : (t : Bool) → eqb q.0 k ≡ t → (lookup (is_at (nat_cmp k)) qs ≡ Some x → p.0 < k) → p.0 < k
          here true e more = subst (λ n. p.0 < n) (eqb-true q.0 k e) (less-true p.0 q.0 each.0)
          here false e more = more (sym (ap (λ b. cond b (Some q.1) (lookup (is_at (nat_cmp k)) qs)) (at-eqb k q.0 ∙ e)) ∙ is)

      put-first : (ps : List (ℕ × X)) → AllByRecursion (λ y. nat_cmp k y ≡ Less) (keys_of ps) → put_in (pair_entry (k, x)) (pair_entries ps) ≡ pair_entry (k, x) ∷ pair_entries ps
      put-first [] each = refl
      put-first (q ∷ qs) each = ap (λ b. cond b (pair_entry (k, x) ∷ pair_entry q ∷ pair_entries qs) (pair_entry q ∷ put_in (pair_entry (k, x)) (pair_entries qs))) (lt-ltb k q.0 (less-true k q.0 each.0))

      at : (t : Bool) → eqb p.0 k ≡ t → (lookup (is_at (nat_cmp k)) rest ≡ Some x → put_in (pair_entry (k, x)) (pair_entries (remove_entry (is_at (nat_cmp k)) rest)) ≡ pair_entries rest)
          → put_in (pair_entry (k, x)) (pair_entries (cond (is_at (nat_cmp k) p.0) rest (p ∷ remove_entry (is_at (nat_cmp k)) rest))) ≡ pair_entry p ∷ pair_entries rest
      at true e more =
          let first : Some p.1 ≡ Some x = sym (ap (λ b. cond b (Some p.1) (lookup (is_at (nat_cmp k)) rest)) (at-eqb k p.0 ∙ e)) ∙ found in
          let same : x ≡ p.1 = cc in
          let object : p.0 ≡ k = eqb-true p.0 k e in
          ap (λ b. put_in (pair_entry (k, x)) (pair_entries (cond b rest (p ∷ remove_entry (is_at (nat_cmp k)) rest)))) (at-eqb k p.0 ∙ e)
          ∙ put-first rest (subst (λ n. AllByRecursion (λ y. nat_cmp n y ≡ Less) (keys_of rest)) object (sorted_head nat_cmp p.0 (keys_of rest) sorted))
          ∙ ap (λ (n : ℕ). pair_entry (n, x) ∷ pair_entries rest) (sym object)
          ∙ ap (λ (y : X). pair_entry (p.0, y) ∷ pair_entries rest) same
      at false e more =
          let later : lookup (is_at (nat_cmp k)) rest ≡ Some x = sym (ap (λ b. cond b (Some p.1) (lookup (is_at (nat_cmp k)) rest)) (at-eqb k p.0 ∙ e)) ∙ found in
          let high : p.0 < k = found-above rest (sorted_head nat_cmp p.0 (keys_of rest) sorted) later in
          ap (λ b. put_in (pair_entry (k, x)) (pair_entries (cond b rest (p ∷ remove_entry (is_at (nat_cmp k)) rest)))) (at-eqb k p.0 ∙ e)
          ∙ ap (λ b. cond b (pair_entry (k, x) ∷ pair_entry p ∷ pair_entries (remove_entry (is_at (nat_cmp k)) rest)) (pair_entry p ∷ put_in (pair_entry (k, x)) (pair_entries (remove_entry (is_at (nat_cmp k)) rest))))
          (le-ltb k p.0 (omega arith))
          ∙ ap (λ es. pair_entry p ∷ es) (more later)

  -- ---- a pair that is renewed
  module _ (by : Entry → Entry) (k : ℕ) where
    change-none : (entries : List Entry) → has_entry entries k ≡ false → change by k entries ≡ entries
    change-none [] none = refl
    change-none (e ∷ rest) none =
        let parts : (eqb e.object k ≡ false) × (has_entry rest k ≡ false) = or_parts _ _ none in
        ap (λ b. cond b (by e) e ∷ change by k rest) parts.0 ∙ ap (λ es. e ∷ es) (change-none rest parts.1)

    -- a hit that makes of each entry of the object what is put in
    pub entries-renewed : (x : X) (pairs : List (ℕ × X)) → IsStrictlySortedBy nat_cmp (keys_of pairs) → Apart (pair_entries pairs) → has_entry (pair_entries pairs) k ≡ true
        → AllByRecursion (λ p. eqb p.0 k ≡ true → pair_entry (p.0, x) ≡ by (pair_entry p)) pairs
        → pair_entries (insert_entry nat_cmp pairs k x) ≡ change by k (pair_entries pairs)
    entries-renewed x [] sorted apart there makes = cc
    entries-renewed x (p ∷ rest) sorted apart there makes =
        ⊎_elim
        (λ (same : k ≡ p.0).
        let none : has_entry (pair_entries rest) k ≡ false = ap (has_entry (pair_entries rest)) same ∙ apart.0 in
        ap (λ o. pair_entries (match_ordering o ((k, x) ∷ p ∷ rest) ((p.0, x) ∷ rest) (p ∷ insert_entry nat_cmp rest k x))) (cmp-equal k p.0 same)
        ∙ ap (λ (e : Entry). e ∷ pair_entries rest) (makes.0 (eq-eqb p.0 k (sym same)))
        ∙ ap (λ es. by (pair_entry p) ∷ es) (sym (change-none (pair_entries rest) none))
        ∙ ap (λ b. cond b (by (pair_entry p)) (pair_entry p) ∷ change by k (pair_entries rest)) (sym (eq-eqb p.0 k (sym same))))
        (λ order. ⊎_elim
        (λ (low : k < p.0).
        let none : has_entry (pair_entries (p ∷ rest)) k ≡ false = or_from _ _ (ne_eqb p.0 k (λ same. omega arith)) (above-none rest p.0 k low (sorted_head nat_cmp p.0 (keys_of rest) sorted)) in
        absurd (both_ways (has_entry (pair_entries (p ∷ rest)) k) none there))
        (λ (high : p.0 < k).
        let other : eqb p.0 k ≡ false = ne_eqb p.0 k (λ same. omega arith) in
        let later : has_entry (pair_entries rest) k ≡ true = ap (λ b. b || has_entry (pair_entries rest) k) (sym other) ∙ there in
        ap (λ o. pair_entries (match_ordering o ((k, x) ∷ p ∷ rest) ((p.0, x) ∷ rest) (p ∷ insert_entry nat_cmp rest k x))) (cmp-greater k p.0 high)
        ∙ ap (λ es. pair_entry p ∷ es) (entries-renewed x rest (sorted_tail nat_cmp p.0 (keys_of rest) sorted) apart.1 later makes.1)
        ∙ ap (λ b. cond b (by (pair_entry p)) (pair_entry p) ∷ change by k (pair_entries rest)) (sym other))
        order)
        (cases_order k p.0)

    -- a hit that changes nothing
    pub entries-same : (pairs : List (ℕ × X)) → AllByRecursion (λ p. eqb p.0 k ≡ true → by (pair_entry p) ≡ pair_entry p) pairs → change by k (pair_entries pairs) ≡ pair_entries pairs
    entries-same [] each = refl
    entries-same (p ∷ ps) each =
        ap (λ es. cond (eqb p.0 k) (by (pair_entry p)) (pair_entry p) ∷ es) (entries-same ps each.1) ∙ at (eqb p.0 k) refl
      where
        at : (t : Bool) → eqb p.0 k ≡ t → cond t (by (pair_entry p)) (pair_entry p) ∷ pair_entries ps ≡ pair_entry p ∷ pair_entries ps
        at true e = ap (λ (f : Entry). f ∷ pair_entries ps) (each.0 e)
        at false e = refl
