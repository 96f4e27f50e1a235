-- Items of which each object has one, in the order of the objects, are no more than what is held.
use Rattle.std.proofs.Common.{◌≡◌, ℕ, suc, ◌+◌, ◌<◌, ◌≤◌, ◌∙◌, sym, refl, ap, subst, Bool, true, false, not, ◌||◌, cond, eqb, List, [], ◌∷◌, length, get_or, arith}
use Rattle.std.specs.List.{AllByRecursion, dedup, dedup_from}
use Rattle.std.specs.List.Sorted.{IsNonDecreasingBy}
use Rattle.std.proofs.lemmas.Bool.{eqb-true, eqb-false, ne_eqb}
use Rattle.policy_model.specs.States.{Entry, has_entry, Apart}
use Rattle.policy_model.specs.Steps.{without_entry}
use Rattle.policy_model.proofs.Entries.{Apart-without, length-without}

-- another object is still there
has_entry-other : (k j : ℕ) (entries : List Entry) → eqb k j ≡ false → has_entry entries j ≡ true → has_entry (without_entry k entries) j ≡ true
has_entry-other k j [] other there = there
has_entry-other k j (e ∷ rest) other there = at (eqb e.object k) (eqb e.object j) refl refl (has_entry-other k j rest other)
  where
    at : (t u : Bool) → eqb e.object k ≡ t → eqb e.object j ≡ u → (has_entry rest j ≡ true → has_entry (without_entry k rest) j ≡ true)
        → has_entry (cond (not (eqb e.object k)) (e ∷ without_entry k rest) (without_entry k rest)) j ≡ true
    at true true gone here more =
        let same : k ≡ j = sym (eqb-true e.object k gone) ∙ eqb-true e.object j here in
        absurd (eqb-false k j other same)
    at true false gone here more =
        ap (λ b. has_entry (cond (not b) (e ∷ without_entry k rest) (without_entry k rest)) j) gone ∙ more (sym (ap (λ b. b || has_entry rest j) here) ∙ there)
    at false true gone here more =
        ap (λ b. has_entry (cond (not b) (e ∷ without_entry k rest) (without_entry k rest)) j) gone ∙ ap (λ b. b || has_entry (without_entry k rest) j) here
    at false false gone here more =
        ap (λ b. has_entry (cond (not b) (e ∷ without_entry k rest) (without_entry k rest)) j) gone
        ∙ ap (λ b. b || has_entry (without_entry k rest) j) here
        ∙ more (sym (ap (λ b. b || has_entry rest j) here) ∙ there)

module _ {I : Type 0} (object_of : I → ℕ) where
  -- each number is at least that before it, and above it
  abbrev Rises : ℕ → List I → Type 0
  Rises n [] = Unit {0}
  Rises n (i ∷ is) = (n ≤ object_of i) × Rises (object_of i) is

  abbrev pub Climbs : ℕ → List I → Type 0
  Climbs n [] = Unit {0}
  Climbs n (i ∷ is) = (n ≤ object_of i) × Climbs (object_of i + 1) is

  rises : (n : ℕ) (is : List I) → ((j : ℕ) (d : I) → j < length is → n ≤ object_of (get_or is j d)) → IsNonDecreasingBy object_of is → Rises n is
  rises n [] low up = tt
  rises n (i ∷ is) low up = (low 0 i (omega arith), rises (object_of i) is (λ j d within. up 0 (suc j) d (omega arith) (omega arith)) (λ a b d below within. up (suc a) (suc b) d (omega arith) (omega arith)))

  climbs-less : (m n : ℕ) (is : List I) → m ≤ n → Climbs n is → Climbs m is
  climbs-less m n [] less up = tt
  climbs-less m n (i ∷ is) less up = (let low : n ≤ object_of i = up.0 in omega (arith, less), up.1)

  abbrev same : I → I → Bool
  same i k = eqb (object_of i) (object_of k)

  climbs-dedup_from : (k : I) (is : List I) → Rises (object_of k) is → Climbs (object_of k) (dedup_from same k is)
  climbs-dedup_from k [] up = (omega arith, tt)
  climbs-dedup_from k (i ∷ is) up = at (same i k) refl (climbs-dedup_from k is) (climbs-dedup_from i is up.1)
    where
      low : object_of k ≤ object_of i
      low = up.0

      at : (t : Bool) → same i k ≡ t → (Rises (object_of k) is → Climbs (object_of k) (dedup_from same k is)) → Climbs (object_of i) (dedup_from same i is)
          → Climbs (object_of k) (cond t (dedup_from same k is) (k ∷ dedup_from same i is))
      at true e more next = more (subst (λ n. Rises n is) (eqb-true (object_of i) (object_of k) e) up.1)
      at false e more next =
          let apart : (object_of i ≡ object_of k) → ⊥ = eqb-false (object_of i) (object_of k) e in
          (omega arith, climbs-less (object_of k + 1) (object_of i) (dedup_from same i is) (omega (arith, low, apart)) next)

  pub climbs-dedup : (is : List I) → IsNonDecreasingBy object_of is → Climbs 0 (dedup same is)
  climbs-dedup [] up = tt
  climbs-dedup (i ∷ is) up =
      climbs-less 0 (object_of i) (dedup_from same i is) (omega arith)
      (climbs-dedup_from i is (rises (object_of i) is (λ j d within. up 0 (suc j) d (omega arith) (omega arith)) (λ a b d below within. up (suc a) (suc b) d (omega arith) (omega arith))))

  -- the others are still there once one is gone
  still : (entries : List Entry) (k n : ℕ) (is : List I) → k < n → Climbs n is → AllByRecursion (λ i. has_entry entries (object_of i) ≡ true) is
      → AllByRecursion (λ i. has_entry (without_entry k entries) (object_of i) ≡ true) is
  still entries k n [] less up each = tt
  still entries k n (i ∷ is) less up each =
      let low : n ≤ object_of i = up.0 in
      (has_entry-other k (object_of i) entries (ne_eqb k (object_of i) (λ one. omega (arith, low, less))) each.0, still entries k (object_of i + 1) is (omega (arith, low, less)) up.1 each.1)

  pub one_each-few : (n : ℕ) (is : List I) (entries : List Entry) → Climbs n is → Apart entries → AllByRecursion (λ i. has_entry entries (object_of i) ≡ true) is → length is ≤ length entries
  one_each-few n [] entries up apart each = omega arith
  one_each-few n (i ∷ is) entries up apart each =
      omega (
        arith,
        length-without (object_of i) entries apart each.0,
        one_each-few (object_of i + 1) is (without_entry (object_of i) entries) up.1 (Apart-without (object_of i) entries apart) (still entries (object_of i) (object_of i + 1) is (omega arith) up.1 each.1),
      )
