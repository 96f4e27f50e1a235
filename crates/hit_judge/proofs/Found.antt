-- The first number of a range that passes a test.
use Rattle.std.proofs.Common.{◌≡◌, ◌≢◌, ℕ, zero, suc, ◌+◌, ◌<◌, ◌≤◌, ◌∙◌, sym, refl, ap, Bool, true, false, cond, find, Some, None, arith, ⊎_elim}
use Rattle.std.specs.List.{range_with_len}
use Rattle.std.proofs.lemmas.Bool.{cases_eq}

-- no number passes
pub find-range_none : (p : ℕ → Bool) (a n : ℕ) → ((k : ℕ) → a ≤ k → k < a + n → p k ≡ false) → find p (range_with_len a n) ≡ None
find-range_none p a zero fails = refl
find-range_none p a (suc n) fails =
    ap (λ t. cond t (Some a) (find p (range_with_len (a + 1) n))) (fails a (omega arith) (omega arith))
    ∙ find-range_none p (a + 1) n (λ k low high. fails k (omega arith) (omega arith))

-- number m passes, and none before it
pub find-range_first : (p : ℕ → Bool) (m a n : ℕ) → a ≤ m → m < a + n → p m ≡ true → ((k : ℕ) → a ≤ k → k < m → p k ≡ false)
    → find p (range_with_len a n) ≡ Some m
find-range_first p m a zero low high passes fails = absurd (omega arith)
find-range_first p m a (suc n) low high passes fails =
    ⊎_elim
    (λ (e : a ≡ m). ap (λ t. cond t (Some a) (find p (range_with_len (a + 1) n))) (ap p e ∙ passes) ∙ ap Some e)
    (λ (ne : a ≢ m).
    ap (λ t. cond t (Some a) (find p (range_with_len (a + 1) n))) (fails a (omega arith) (omega arith))
    ∙ find-range_first p m (a + 1) n (omega arith) (omega arith) passes (λ k l h. fails k (omega arith) h))
    (cases_eq a m)

-- if none is found, none passes
pub none-find_range : (p : ℕ → Bool) (a n : ℕ) → find p (range_with_len a n) ≡ None → (k : ℕ) → a ≤ k → k < a + n → p k ≡ false
none-find_range p a zero none k low high = absurd (omega arith)
none-find_range p a (suc n) none k low high = at (p a) refl none (λ later past. none-find_range p (a + 1) n later k (omega arith) (omega arith))
  where
    at : (t : Bool) → p a ≡ t → cond t (Some a) (find p (range_with_len (a + 1) n)) ≡ None → (find p (range_with_len (a + 1) n) ≡ None → a < k → p k ≡ false) → p k ≡ false
    at true passes found later = cc
    at false fails none later = ⊎_elim (λ (e : a ≡ k). ap p (sym e) ∙ fails) (λ (ne : a ≢ k). later none (omega arith)) (cases_eq a k)
