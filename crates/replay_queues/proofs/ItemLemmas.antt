-- Pairs of a queue and their entries, as the byte of an object changes.
use Rattle.std.proofs.Common.{◌≡◌, ℕ, ◌<◌, ◌≤◌, ◌∙◌, sym, refl, ap, ⊎_elim, Bool, true, false, ◌||◌, cond, eqb, List, [], ◌∷◌, ◌++◌, length, drop, get_or, set, sum_by, arith}
use Rattle.std.proofs.lemmas.Bool.{eqb-true, eqb-false, or_parts, or_from, cases_lt}
use Rattle.std.proofs.lemmas.List.{map-append, get_or-set_same, get_or-set_other, get_or_past}
use Rattle.std.proofs.lemmas.List.Sums.{sum_by-cons}
use Rattle.policy_model.specs.States.{Entry, used, has_entry, Apart}
use Rattle.policy_model.specs.Steps.{change}
use Rattle.policy_model.proofs.Comparisons.{eqb-sym}
use Rattle.cache_model.proofs.Eligible.{or_false}
use Rattle.replay_queues.specs.Items.{has_item, entries_by}

-- ---- the byte of an object, after a change
pub here : (cells : List ℕ) (k v : ℕ) → k < length cells → get_or (set cells k v) k 0 ≡ v
here cells k v within = get_or-set_same cells k v 0 within

pub other : (cells : List ℕ) (k v q : ℕ) → eqb q k ≡ false → get_or (set cells k v) q 0 ≡ get_or cells q 0
other cells k v q differs = get_or-set_other cells k q v 0 (eqb-false q k differs)

-- an object whose byte is not 0 is one of those that there are bytes for
pub within_cells : (cells : List ℕ) (k : ℕ) → 0 < get_or cells k 0 → k < length cells
within_cells cells k some =
    ⊎_elim (λ (within : k < length cells). within) (λ (past : length cells ≤ k). absurd (omega (arith, get_or_past cells k 0 past))) (cases_lt k (length cells))

-- ---- the pairs
pub or_swap : (a b : Bool) → (a || b) ≡ (b || a)
or_swap true true = refl
or_swap true false = refl
or_swap false true = refl
or_swap false false = refl

pub or_assoc : (a b c : Bool) → (a || (b || c)) ≡ (a || b || c)
or_assoc true b c = refl
or_assoc false b c = refl

pub has_item-append : (xs ys : List (ℕ × ℕ)) (q : ℕ) → has_item (xs ++ ys) q ≡ (has_item xs q || has_item ys q)
has_item-append [] ys q = refl
has_item-append (x ∷ xs) ys q = ap (λ b. eqb x.0 q || b) (has_item-append xs ys q) ∙ or_assoc (eqb x.0 q) (has_item xs q) (has_item ys q)

pub has_item-push : (items : List (ℕ × ℕ)) (p : ℕ × ℕ) (q : ℕ) → has_item (items ++ p ∷ []) q ≡ (has_item items q || eqb p.0 q)
has_item-push items p q = has_item-append items (p ∷ []) q ∙ ap (λ b. has_item items q || b) (or_false (eqb p.0 q))

-- ---- their entries, where an entry is of the object of its pair
module _ (entry : ℕ → ℕ × ℕ → Entry) (same_object : (c : ℕ) (p : ℕ × ℕ) → (entry c p).object ≡ p.0) where
  pub has_entry-items : (cells : List ℕ) (items : List (ℕ × ℕ)) (k : ℕ) → has_entry (entries_by entry cells items) k ≡ has_item items k
  has_entry-items cells [] k = refl
  has_entry-items cells (p ∷ rest) k =
      ap (λ o. eqb o k || has_entry (entries_by entry cells rest) k) (same_object (get_or cells p.0 0) p)
      ∙ ap (λ b. eqb p.0 k || b) (has_entry-items cells rest k)

  -- the byte of an object that is not there says nothing
  pub agree : (cells : List ℕ) (k v : ℕ) (items : List (ℕ × ℕ)) → has_item items k ≡ false → entries_by entry (set cells k v) items ≡ entries_by entry cells items
  agree cells k v [] none = refl
  agree cells k v (p ∷ rest) none =
      let parts : (eqb p.0 k ≡ false) × (has_item rest k ≡ false) = or_parts _ _ none in
      ap (λ c. entry c p ∷ entries_by entry (set cells k v) rest) (other cells k v p.0 parts.0)
      ∙ ap (λ es. entry (get_or cells p.0 0) p ∷ es) (agree cells k v rest parts.1)

  -- a byte that changes an entry as the rule does
  pub changed : (cells : List ℕ) (k v : ℕ) (by : Entry → Entry) → k < length cells → ((p : ℕ × ℕ) → entry v p ≡ by (entry (get_or cells k 0) p))
      → (items : List (ℕ × ℕ)) → entries_by entry (set cells k v) items ≡ change by k (entries_by entry cells items)
  changed cells k v by within is [] = refl
  changed cells k v by within is (p ∷ rest) =
      ap (λ es. entry (get_or (set cells k v) p.0 0) p ∷ es) (changed cells k v by within is rest)
      ∙ ap (λ e. e ∷ change by k (entries_by entry cells rest)) (at (eqb p.0 k) refl)
      ∙ ap (λ o. cond (eqb o k) (by (entry (get_or cells p.0 0) p)) (entry (get_or cells p.0 0) p) ∷ change by k (entries_by entry cells rest)) (sym (same_object (get_or cells p.0 0) p))
    where
      at : (b : Bool) → eqb p.0 k ≡ b → entry (get_or (set cells k v) p.0 0) p ≡ cond b (by (entry (get_or cells p.0 0) p)) (entry (get_or cells p.0 0) p)
      at true e =
          let same : p.0 ≡ k = eqb-true p.0 k e in
          ap (λ o. entry (get_or (set cells k v) o 0) p) same ∙ ap (λ c. entry c p) (here cells k v within) ∙ is p ∙ ap (λ o. by (entry (get_or cells o 0) p)) (sym same)
      at false e = ap (λ c. entry c p) (other cells k v p.0 e)

  pub entries-push : (cells : List ℕ) (items : List (ℕ × ℕ)) (p : ℕ × ℕ) → entries_by entry cells (items ++ p ∷ []) ≡ entries_by entry cells items ++ entry (get_or cells p.0 0) p ∷ []
  entries-push cells items p = map-append (λ (q : ℕ × ℕ). entry (get_or cells q.0 0) q) items (p ∷ [])

-- the pairs, by the first of them
pub items-first : (items : List (ℕ × ℕ)) (p : ℕ × ℕ) → 0 < length items → p ≡ get_or items 0 p → items ≡ p ∷ drop 1 items
items-first [] p some is = absurd (omega arith)
items-first (x ∷ rest) p some is = ap (λ y. y ∷ rest) (sym is)

-- ---- entries that are apart
pub has_entry-append : (xs ys : List Entry) (k : ℕ) → has_entry (xs ++ ys) k ≡ (has_entry xs k || has_entry ys k)
has_entry-append [] ys k = refl
has_entry-append (x ∷ xs) ys k = ap (λ b. eqb x.object k || b) (has_entry-append xs ys k) ∙ or_assoc (eqb x.object k) (has_entry xs k) (has_entry ys k)

-- an entry is of another object than those before it and those after it
pub apart-middle : (xs : List Entry) (e : Entry) (ys : List Entry) → Apart (xs ++ e ∷ ys) → (has_entry xs e.object ≡ false) × (has_entry ys e.object ≡ false)
apart-middle [] e ys apart = (refl, apart.0)
apart-middle (x ∷ xs) e ys apart =
    let later : (has_entry xs e.object ≡ false) × (has_entry ys e.object ≡ false) = apart-middle xs e ys apart.1 in
    let none : (has_entry xs x.object ≡ false) × ((eqb e.object x.object || has_entry ys x.object) ≡ false) = or_parts _ _ (sym (has_entry-append xs (e ∷ ys) x.object) ∙ apart.0) in
    let apart_here : eqb e.object x.object ≡ false = (or_parts _ _ none.1).0 in
    (or_from (eqb x.object e.object) (has_entry xs e.object) (eqb-sym x.object e.object ∙ apart_here) later.0, later.1)

-- ---- the bytes of the pairs
abbrev pub item_bytes : List (ℕ × ℕ) → ℕ
item_bytes items = sum_by (λ p. p.1) items

pub used-items : (entry : ℕ → ℕ × ℕ → Entry) → ((c : ℕ) (p : ℕ × ℕ) → (entry c p).size ≡ p.1) → (cells : List ℕ) (items : List (ℕ × ℕ)) → used (entries_by entry cells items) ≡ item_bytes items
used-items entry same_size cells [] = refl
used-items entry same_size cells (p ∷ rest) =
    omega (
      arith,
      used-items entry same_size cells rest,
      same_size (get_or cells p.0 0) p,
      sum_by-cons (λ (e : Entry). e.size) (entry (get_or cells p.0 0) p) (entries_by entry cells rest),
      sum_by-cons (λ (q : ℕ × ℕ). q.1) p rest,
    )
