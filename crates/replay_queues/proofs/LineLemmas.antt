-- Lines, as a number cuts them and as one of their members leaves.
use Rattle.std.proofs.Common.{◌≡◌, ℕ, ◌∙◌, sym, refl, ap, Bool, true, false, not, ◌||◌, cond, eqb, List, [], ◌∷◌, ◌++◌, drop, get_or, set, arith}
use Rattle.std.proofs.lemmas.Bool.{eqb-true, eq-eqb, or_parts, cond_both, not-true}
use Rattle.std.proofs.lemmas.List.{map-append}
use Rattle.std.proofs.lemmas.List.Elements.{filter-append}
use Rattle.std.proofs.lemmas.List.Sums.{sum_by-cons}
use Rattle.policy_model.specs.States.{Member, Entry, has_member, members_size}
use Rattle.policy_model.specs.Steps.{without_entry}
use Rattle.policy_model.specs.Leaving.{without_member}
use Rattle.policy_model.proofs.Comparisons.{eqb-sym}
use Rattle.linked_nodes.specs.declared.nodes.Node.{Node}
use Rattle.replay_queues.specs.Items.{has_item, items_of, entries_by}
use Rattle.replay_queues.specs.Lines.{before_object, from_object, first_of}
use Rattle.replay_queues.specs.Rings.{is_among, Links, members_at}
use Rattle.replay_queues.proofs.ItemLemmas.{other, or_assoc, item_bytes}
use Rattle.replay_queues.proofs.RingLemmas.{after}

-- ---- the two parts
pub parts-are : (k : ℕ) (ms : List Member) → before_object k ms ++ from_object k ms ≡ ms
parts-are k [] = refl
parts-are k (m ∷ rest) = at (eqb m.object k) (parts-are k rest)
  where
    at : (t : Bool) → before_object k rest ++ from_object k rest ≡ rest → cond t [] (m ∷ before_object k rest) ++ cond t (m ∷ rest) (from_object k rest) ≡ m ∷ rest
    at true more = refl
    at false more = ap (λ ms. m ∷ ms) more

-- a number that is not in the first part, and that the second begins with, cuts between them
module _ (none k : ℕ) (a : List Member) (begins : first_of none a ≡ k) where
  here : (rest : List Member) → first_of none rest ≡ k → (before_object k rest ≡ []) × (from_object k rest ≡ rest)
  here [] is = (refl, refl)
  here (m ∷ rest) is = (ap (λ t. cond t [] (m ∷ before_object k rest)) (eq-eqb m.object k is), ap (λ t. cond t (m ∷ rest) (from_object k rest)) (eq-eqb m.object k is))

  pub cuts-here : (b : List Member) → has_member b k ≡ false → (before_object k (b ++ a) ≡ b) × (from_object k (b ++ a) ≡ a)
  cuts-here [] absent = here a begins
  cuts-here (m ∷ rest) absent =
      let parts : (eqb m.object k ≡ false) × (has_member rest k ≡ false) = or_parts _ _ absent in
      let later : (before_object k (rest ++ a) ≡ rest) × (from_object k (rest ++ a) ≡ a) = cuts-here rest parts.1 in (
        ap (λ t. cond t [] (m ∷ before_object k (rest ++ a))) parts.0 ∙ ap (λ ms. m ∷ ms) later.0,
        ap (λ t. cond t (m ∷ rest ++ a) (from_object k (rest ++ a))) parts.0 ∙ later.1,
      )

-- ---- without a member
pub members-but-none : (k : ℕ) (ms : List Member) → has_member ms k ≡ false → without_member k ms ≡ ms
members-but-none k [] none = refl
members-but-none k (m ∷ rest) none =
    let parts : (eqb m.object k ≡ false) × (has_member rest k ≡ false) = or_parts _ _ none in
    ap (λ b. cond (not b) (m ∷ without_member k rest) (without_member k rest)) parts.0 ∙ ap (λ ms. m ∷ ms) (members-but-none k rest parts.1)

pub members-but-append : (k : ℕ) (xs ys : List Member) → without_member k (xs ++ ys) ≡ without_member k xs ++ without_member k ys
members-but-append k xs ys = filter-append (λ (m : Member). not (eqb m.object k)) xs ys

-- ---- the pairs of members
pub has_item-of : (ms : List Member) (k : ℕ) → has_item (items_of ms) k ≡ has_member ms k
has_item-of [] k = refl
has_item-of (m ∷ rest) k = ap (λ b. eqb m.object k || b) (has_item-of rest k)

pub items_of-append : (xs ys : List Member) → items_of (xs ++ ys) ≡ items_of xs ++ items_of ys
items_of-append xs ys = map-append (λ (m : Member). (m.object, m.size)) xs ys

-- the entries of those that stay, whatever the byte of the other becomes
pub entries-but : (entry : ℕ → ℕ × ℕ → Entry) → ((c : ℕ) (p : ℕ × ℕ) → (entry c p).object ≡ p.0) → (cells : List ℕ) (k v : ℕ) (ms : List Member)
    → entries_by entry (set cells k v) (items_of (without_member k ms)) ≡ without_entry k (entries_by entry cells (items_of ms))
entries-but entry same_object cells k v [] = refl
entries-but entry same_object cells k v (m ∷ rest) =
    at (eqb m.object k) refl (entries-but entry same_object cells k v rest)
    ∙ ap (λ o. cond (not (eqb o k)) (entry (slice_at m.object) (m.object, m.size) ∷ left) left) (sym (same_object (slice_at m.object) (m.object, m.size)))
  where
    slice_at : ℕ → ℕ
    slice_at q = get_or cells q 0

    left : List Entry
    left = without_entry k (entries_by entry cells (items_of rest))

    at : (t : Bool) → eqb m.object k ≡ t → entries_by entry (set cells k v) (items_of (without_member k rest)) ≡ left
        → entries_by entry (set cells k v) (items_of (cond (not t) (m ∷ without_member k rest) (without_member k rest))) ≡ cond (not t) (entry (slice_at m.object) (m.object, m.size) ∷ left) left
    at true is more = more
    at false is more = ap (λ c. entry c (m.object, m.size) ∷ entries_by entry (set cells k v) (items_of (without_member k rest))) (other cells k v m.object is) ∙ ap (λ es. entry (slice_at m.object) (m.object, m.size) ∷ es) more

-- ---- who stands after a number
pub first-after : (nodes : List Node) (first : ℕ) (numbers : List ℕ) (last : ℕ) → Links nodes first numbers last → after nodes first ≡ first_of last (members_at nodes numbers)
first-after nodes first [] last l = l.0
first-after nodes first (k ∷ rest) last l = l.0

pub next-after : (nodes : List Node) (first : ℕ) (numbers : List ℕ) (last k : ℕ) → Links nodes first numbers last → is_among numbers k ≡ true
    → after nodes k ≡ first_of last (drop 1 (from_object k (members_at nodes numbers)))
next-after nodes first [] last k l there = cc
next-after nodes first (j ∷ rest) last k l there = at (eqb j k) refl (next-after nodes j rest last k l.2)
  where
    at : (t : Bool) → eqb j k ≡ t → (is_among rest k ≡ true → after nodes k ≡ first_of last (drop 1 (from_object k (members_at nodes rest))))
        → after nodes k ≡ first_of last (drop 1 (cond (eqb j k) (members_at nodes (j ∷ rest)) (from_object k (members_at nodes rest))))
    at true is more =
        ap (after nodes) (sym (eqb-true j k is)) ∙ first-after nodes j rest last l.2
        ∙ ap (λ t. first_of last (drop 1 (cond t (members_at nodes (j ∷ rest)) (from_object k (members_at nodes rest))))) (sym is)
    at false is more =
        more (ap (λ t. t || is_among rest k) (sym is) ∙ there)
        ∙ ap (λ t. first_of last (drop 1 (cond t (members_at nodes (j ∷ rest)) (from_object k (members_at nodes rest))))) (sym is)

-- ---- which members there are
pub has_member-append : (xs ys : List Member) (k : ℕ) → has_member (xs ++ ys) k ≡ (has_member xs k || has_member ys k)
has_member-append [] ys k = refl
has_member-append (x ∷ xs) ys k = ap (λ b. eqb x.object k || b) (has_member-append xs ys k) ∙ or_assoc (eqb x.object k) (has_member xs k) (has_member ys k)

pub has_member-gone : (k : ℕ) (ms : List Member) → has_member (without_member k ms) k ≡ false
has_member-gone k [] = refl
has_member-gone k (m ∷ rest) =
    cond_both (not (eqb m.object k)) (m ∷ without_member k rest) (without_member k rest) (λ ms. has_member ms k ≡ false)
    (λ other. ap (λ b. b || has_member (without_member k rest) k) (not-true (eqb m.object k) other) ∙ has_member-gone k rest) (λ _. has_member-gone k rest)

pub has_member-others : (k q : ℕ) (ms : List Member) → eqb q k ≡ false → has_member (without_member k ms) q ≡ has_member ms q
has_member-others k q [] other = refl
has_member-others k q (m ∷ rest) other = at (eqb m.object k) refl (has_member-others k q rest other)
  where
    at : (t : Bool) → eqb m.object k ≡ t → has_member (without_member k rest) q ≡ has_member rest q
        → has_member (cond (not t) (m ∷ without_member k rest) (without_member k rest)) q ≡ (eqb m.object q || has_member rest q)
    at true is more =
        more ∙ ap (λ b. b || has_member rest q) (sym (ap (λ j. eqb j q) (eqb-true m.object k is) ∙ eqb-sym k q ∙ other))
    at false is more = ap (λ b. eqb m.object q || b) more

pub item_bytes-of : (ms : List Member) → item_bytes (items_of ms) ≡ members_size ms
item_bytes-of [] = refl
item_bytes-of (m ∷ rest) =
    omega (arith, item_bytes-of rest, sum_by-cons (λ (q : ℕ × ℕ). q.1) (m.object, m.size) (items_of rest), sum_by-cons (λ (n : Member). n.size) m rest)
