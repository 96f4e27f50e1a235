-- Numbers of a range that pass a test, taken one after another, from lists in order.
use Rattle.std.proofs.Common.{◌≡◌, ◌≢◌, ◌∙◌, ℕ, zero, suc, ◌+◌, ◌-◌, ◌<◌, ◌≤◌, ap, sym, refl, subst, Bool, true, false, cond, arith, List, [], ◌∷◌, ◌++◌, length, filter, drop, get_or, append-nil, ⊎_elim}
use Rattle.std.specs.List.{range_with_len}
use Rattle.std.proofs.lemmas.Bool.{cases_eq}
use Rattle.std.proofs.lemmas.List.Elements.{filter-append}
use Rattle.cache_model.proofs.Eligible.{range-suc}

-- of the n numbers from a on, those that pass the test
abbrev pub passing : (ℕ → Bool) → ℕ → ℕ → List ℕ
passing p a n = filter p (range_with_len a n)

-- the first, or what is past all
abbrev pub head_or : ℕ → List ℕ → ℕ
head_or past [] = past
head_or past (x ∷ xs) = x

pub head_or-drop : (past : ℕ) (xs : List ℕ) (k : ℕ) → get_or xs k past ≡ head_or past (drop k xs)
head_or-drop past [] zero = refl
head_or-drop past [] (suc k) = refl
head_or-drop past (x ∷ xs) zero = refl
head_or-drop past (x ∷ xs) (suc k) = head_or-drop past xs k

-- the first is in the range, or past it
pub head_low : (p : ℕ → Bool) (a n past : ℕ) → a + n ≡ past → a ≤ head_or past (passing p a n)
head_low p a zero past all = omega arith
head_low p a (suc n) past all = at (head_low p (a + 1) n past (omega arith)) (p a)
  where
    at : a + 1 ≤ head_or past (passing p (a + 1) n) → (t : Bool) → a ≤ head_or past (cond t (a ∷ passing p (a + 1) n) (passing p (a + 1) n))
    at later true = omega arith
    at later false = omega arith

pub head_high : (p : ℕ → Bool) (a n past : ℕ) → a + n ≡ past → head_or past (passing p a n) ≤ past
head_high p a zero past all = omega arith
head_high p a (suc n) past all = at (head_high p (a + 1) n past (omega arith)) (p a)
  where
    at : head_or past (passing p (a + 1) n) ≤ past → (t : Bool) → head_or past (cond t (a ∷ passing p (a + 1) n) (passing p (a + 1) n)) ≤ past
    at later true = omega arith
    at later false = later

-- where some pass, the first is in the range
pub head_within : (p : ℕ → Bool) (a n past : ℕ) → a + n ≡ past → 0 < length (passing p a n) → head_or past (passing p a n) < past
head_within p a zero past all some = absurd (omega arith)
head_within p a (suc n) past all some = at (λ more. head_within p (a + 1) n past (omega arith) more) (p a) some
  where
    at : (0 < length (passing p (a + 1) n) → head_or past (passing p (a + 1) n) < past) → (t : Bool) → 0 < length (cond t (a ∷ passing p (a + 1) n) (passing p (a + 1) n)) → head_or past (cond t (a ∷ passing p (a + 1) n) (passing p (a + 1) n)) < past
    at later true more = omega arith
    at later false more = later more

-- before the first none passes
pub none_before : (p : ℕ → Bool) (a n past k : ℕ) → a + n ≡ past → a ≤ k → k < head_or past (passing p a n) → p k ≡ false
none_before p a zero past k all low high = absurd (omega arith)
none_before p a (suc n) past k all low high = at (λ next before. none_before p (a + 1) n past k (omega arith) next before) (p a) refl high
  where
    at : (a + 1 ≤ k → k < head_or past (passing p (a + 1) n) → p k ≡ false) → (t : Bool) → p a ≡ t → k < head_or past (cond t (a ∷ passing p (a + 1) n) (passing p (a + 1) n)) → p k ≡ false
    at later true is before = absurd (omega arith)
    at later false is before =
        ⊎_elim (λ (here : a ≡ k). ap p (sym here) ∙ is)
        (λ (other : a ≢ k). later (omega arith) before)
        (cases_eq a k)

-- what passes from a on is what passes from x on, if x is no later than the first
pub passing_from : (p : ℕ → Bool) (a n past x : ℕ) → a + n ≡ past → a ≤ x → x < past → x ≤ head_or past (passing p a n)
    → passing p a n ≡ cond (p x) (x ∷ passing p (x + 1) (past - (x + 1))) (passing p (x + 1) (past - (x + 1)))
passing_from p a zero past x all low within early = absurd (omega arith)
passing_from p a (suc n) past x all low within early =
    ⊎_elim
    (λ (here : a ≡ x).
    let Is : ℕ → Type 0 = λ y. passing p a (suc n) ≡ cond (p y) (y ∷ passing p (y + 1) (past - (y + 1))) (passing p (y + 1) (past - (y + 1))) in
    let left : n ≡ past - (a + 1) = omega arith in
    subst Is here (ap (λ m. cond (p a) (a ∷ passing p (a + 1) m) (passing p (a + 1) m)) left))
    (λ (later : a ≢ x). at (λ next before. passing_from p (a + 1) n past x (omega arith) next within before) (p a) (omega arith) early)
    (cases_eq a x)
  where
    at : (a + 1 ≤ x → x ≤ head_or past (passing p (a + 1) n) → passing p (a + 1) n ≡ cond (p x) (x ∷ passing p (x + 1) (past - (x + 1))) (passing p (x + 1) (past - (x + 1))))
        → (t : Bool) → a < x → x ≤ head_or past (cond t (a ∷ passing p (a + 1) n) (passing p (a + 1) n))
        → cond t (a ∷ passing p (a + 1) n) (passing p (a + 1) n) ≡ cond (p x) (x ∷ passing p (x + 1) (past - (x + 1))) (passing p (x + 1) (past - (x + 1)))
    at rest true later before = absurd (omega arith)
    at rest false later before = rest (omega arith) before

-- where x is the first, the others pass from the number after it on
pub taken : (p : ℕ → Bool) (a n past x : ℕ) → a + n ≡ past → a ≤ x → x < past → head_or past (passing p a n) ≡ x → passing p a n ≡ x ∷ passing p (x + 1) (past - (x + 1))
taken p a n past x all low within first = at (p x) (passing_from p a n past x all low within (omega arith))
  where
    at : (t : Bool) → passing p a n ≡ cond t (x ∷ passing p (x + 1) (past - (x + 1))) (passing p (x + 1) (past - (x + 1))) → passing p a n ≡ x ∷ passing p (x + 1) (past - (x + 1))
    at true is = is
    at false is = absurd (omega (arith, ap (head_or past) is, head_low p (x + 1) (past - (x + 1)) past (omega arith)))

-- where x is before the first, nothing is taken
pub kept : (p : ℕ → Bool) (a n past x : ℕ) → a + n ≡ past → a ≤ x → x < head_or past (passing p a n) → passing p a n ≡ passing p (x + 1) (past - (x + 1))
kept p a n past x all low before = at (p x) (passing_from p a n past x all low (omega (arith, head_high p a n past all)) (omega arith))
  where
    at : (t : Bool) → passing p a n ≡ cond t (x ∷ passing p (x + 1) (past - (x + 1))) (passing p (x + 1) (past - (x + 1))) → passing p a n ≡ passing p (x + 1) (past - (x + 1))
    at true is = absurd (omega (arith, ap (head_or past) is))
    at false is = is

-- with one more number
pub passing_more : (p : ℕ → Bool) (x : ℕ) → passing p 0 (x + 1) ≡ passing p 0 x ++ cond (p x) (x ∷ []) []
passing_more p x =
    let next : x + 1 ≡ suc x = omega arith in
    ap (λ n. passing p 0 n) next ∙ ap (filter p) (range-suc 0 x x (omega arith)) ∙ filter-append p (range_with_len 0 x) (x ∷ [])

-- numbers that do not pass add nothing
pub passing_none : (p : ℕ → Bool) (a d : ℕ) → ((k : ℕ) → a ≤ k → k < a + d → p k ≡ false) → passing p 0 (a + d) ≡ passing p 0 a
passing_none p a zero none = let e : a + 0 ≡ a = omega arith in ap (λ n. passing p 0 n) e
passing_none p a (suc d) none =
    let e : a + suc d ≡ (a + d) + 1 = omega arith in
    ap (λ n. passing p 0 n) e
    ∙ passing_more p (a + d)
    ∙ ap (λ t. passing p 0 (a + d) ++ cond t ((a + d) ∷ []) []) (none (a + d) (omega arith) (omega arith))
    ∙ append-nil (passing p 0 (a + d))
    ∙ passing_none p a d (λ k low high. none k low (omega arith))
