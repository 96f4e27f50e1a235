-- Numbers in a list, by how often they stand there.
use Rattle.std.proofs.Common.{◌≡◌, ◌≢◌, ◌∙◌, ℕ, zero, suc, ◌+◌, ◌<◌, ◌≤◌, ap, refl, Bool, true, false, cond, eqb, arith, List, [], ◌∷◌, length, filter, get_or, sum_by, ⊎_elim}
use Rattle.std.specs.List.{range_with_len}
use Rattle.std.proofs.lemmas.Bool.{cases_Bool, cases_eq, cases_lt, eq-eqb, false≢true, ne_eqb}
use Rattle.std.proofs.lemmas.List.Sums.{sum_by-cons}
use Rattle.cache_model.proofs.Sums.{sum_by-filter}
use Rattle.window_arcs.specs.Current.{IsOutside}

-- how often the number stands in the list
abbrev pub times : ℕ → List ℕ → ℕ
times i xs = sum_by (λ j. cond (eqb j i) 1 0) xs

same_is_one : (j i : ℕ) → j ≡ i → ◌≡◌ {A = ℕ} (cond (eqb j i) 1 0) 1
same_is_one j i same = ap {B = ℕ} (λ (b : Bool). cond b 1 0) (eq-eqb j i same)

other_is_none : (j i : ℕ) → j ≢ i → ◌≡◌ {A = ℕ} (cond (eqb j i) 1 0) 0
other_is_none j i other = ap {B = ℕ} (λ (b : Bool). cond b 1 0) (ne_eqb j i other)

times-cons : (i x : ℕ) (xs : List ℕ) → times i (x ∷ xs) ≡ cond (eqb x i) 1 0 + times i xs
times-cons i x xs = sum_by-cons (λ (j : ℕ). cond (eqb j i) 1 0) x xs

-- what stands at a place stands in the list
pub times_at : (i : ℕ) (xs : List ℕ) (j : ℕ) → j < length xs → get_or xs j 0 ≡ i → 0 < times i xs
times_at i [] j within here = absurd (omega arith)
times_at i (x ∷ xs) zero within here = omega (arith, times-cons i x xs, same_is_one x i here)
times_at i (x ∷ xs) (suc j) within here = omega (arith, times-cons i x xs, times_at i xs j (omega arith) here)

-- and what stands in the list stands at a place
pub place_of_member : (i : ℕ) (xs : List ℕ) → 0 < times i xs → (j : ℕ) × (j < length xs) × (get_or xs j 0 ≡ i)
place_of_member i [] some = absurd (omega arith)
place_of_member i (x ∷ xs) some =
    ⊎_elim
    (λ (here : x ≡ i). (zero, omega arith, here))
    (λ (other : x ≢ i).
    let later = place_of_member i xs (omega (arith, some, times-cons i x xs, other_is_none x i other)) in
    (suc later.0, omega (arith, later.1), later.2))
    (cases_eq x i)

-- a number that isn't there is outside
pub outside : (i : ℕ) (xs : List ℕ) → times i xs ≡ 0 → IsOutside xs i
outside i xs none = λ j within here. omega (arith, times_at i xs j within here, none)

-- a number at two places stands there twice
pub times_twice : (i : ℕ) (xs : List ℕ) (j k : ℕ) → j < k → k < length xs → get_or xs j 0 ≡ i → get_or xs k 0 ≡ i → 1 < times i xs
times_twice i [] j k order within first second = absurd (omega arith)
times_twice i (x ∷ xs) j zero order within first second = absurd (omega arith)
times_twice i (x ∷ xs) zero (suc k) order within first second = omega (arith, times-cons i x xs, same_is_one x i first, times_at i xs k (omega arith) second)
times_twice i (x ∷ xs) (suc j) (suc k) order within first second = omega (arith, times-cons i x xs, times_twice i xs j k (omega arith) (omega arith) first second)

-- sums agree where the terms do
pub sum_by-agree_in : (f g : ℕ → ℕ) (xs : List ℕ) → ((j : ℕ) → j < length xs → f (get_or xs j 0) ≡ g (get_or xs j 0)) → sum_by f xs ≡ sum_by g xs
sum_by-agree_in f g [] same = refl
sum_by-agree_in f g (x ∷ xs) same =
    omega (arith, sum_by-cons f x xs, sum_by-cons g x xs, same 0 (omega arith), sum_by-agree_in f g xs (λ j within. same (suc j) (omega arith)))

-- and a sum of no greater terms is no greater
pub sum_by-le_in : (f g : ℕ → ℕ) (xs : List ℕ) → ((j : ℕ) → j < length xs → f (get_or xs j 0) ≤ g (get_or xs j 0)) → sum_by f xs ≤ sum_by g xs
sum_by-le_in f g [] low = omega arith
sum_by-le_in f g (x ∷ xs) low =
    omega (arith, sum_by-cons f x xs, sum_by-cons g x xs, low 0 (omega arith), sum_by-le_in f g xs (λ j within. low (suc j) (omega arith)))

-- what stands beside a number
abbrev pub beside : List ℕ → List ℕ → ℕ → ℕ
beside [] vs i = 0
beside (x ∷ xs) [] i = 0
beside (x ∷ xs) (v ∷ vs) i = cond (eqb x i) v (beside xs vs i)

pub beside_none : (xs vs : List ℕ) (i : ℕ) → times i xs ≡ 0 → beside xs vs i ≡ 0
beside_none [] vs i none = refl
beside_none (x ∷ xs) [] i none = refl
beside_none (x ∷ xs) (v ∷ vs) i none =
    ⊎_elim
    (λ (here : x ≡ i). absurd (omega (arith, none, times-cons i x xs, same_is_one x i here)))
    (λ (other : x ≢ i). ap (λ (b : Bool). cond b v (beside xs vs i)) (ne_eqb x i other) ∙ beside_none xs vs i (omega (arith, none, times-cons i x xs)))
    (cases_eq x i)

-- if no number stands there twice
pub beside_at : (xs vs : List ℕ) (j : ℕ) → length vs ≡ length xs → ((i : ℕ) → times i xs ≤ 1) → j < length xs → beside xs vs (get_or xs j 0) ≡ get_or vs j 0
beside_at [] vs j same once within = absurd (omega arith)
beside_at (x ∷ xs) [] j same once within = absurd (omega arith)
beside_at (x ∷ xs) (v ∷ vs) zero same once within = ap (λ (b : Bool). cond b v (beside xs vs x)) (eq-eqb x x refl)
beside_at (x ∷ xs) (v ∷ vs) (suc j) same once within =
    let i : ℕ = get_or xs j 0 in
    let other : x ≢ i = λ here. omega (arith, once i, times-cons i x xs, same_is_one x i here, times_at i xs j (omega arith) refl) in
    ap (λ (b : Bool). cond b v (beside xs vs i)) (ne_eqb x i other)
    ∙ beside_at xs vs j (omega arith) (λ k. omega (arith, once k, times-cons k x xs)) (omega arith)

-- the numbers of a range that pass a test
module _ (p : ℕ → Bool) (i : ℕ) where
  abbrev counts : ℕ → ℕ
  counts x = cond (p x) (cond (eqb x i) 1 0) 0

  counts_other : (x : ℕ) → x ≢ i → counts x ≡ 0
  counts_other x other =
      ⊎_elim
      (λ (passes : p x ≡ true). ap (λ (b : Bool). cond b (cond (eqb x i) 1 0) 0) passes ∙ other_is_none x i other)
      (λ (fails : p x ≡ false). ap (λ (b : Bool). cond b (cond (eqb x i) 1 0) 0) fails)
      (cases_Bool (p x))

  counts_same : (x : ℕ) → x ≡ i → p i ≡ true → counts x ≡ 1
  counts_same x same passes = ap (λ (b : Bool). cond b (cond (eqb x i) 1 0) 0) (ap p same ∙ passes) ∙ same_is_one x i same

  counts_fails : (x : ℕ) → x ≡ i → p i ≡ false → counts x ≡ 0
  counts_fails x same fails = ap (λ (b : Bool). cond b (cond (eqb x i) 1 0) 0) (ap p same ∙ fails)

  none_from : (a n : ℕ) → i < a → sum_by counts (range_with_len a n) ≡ 0
  none_from a zero low = refl
  none_from a (suc n) low = omega (arith, sum_by-cons counts a (range_with_len (a + 1) n), counts_other a (λ e. omega arith), none_from (a + 1) n (omega arith))

  passing_there : (a n : ℕ) → a ≤ i → i < a + n → p i ≡ true → sum_by counts (range_with_len a n) ≡ 1
  passing_there a zero low high passes = absurd (omega arith)
  passing_there a (suc n) low high passes =
      ⊎_elim
      (λ (here : a ≡ i). omega (arith, sum_by-cons counts a (range_with_len (a + 1) n), counts_same a here passes, none_from (a + 1) n (omega arith)))
      (λ (other : a ≢ i). omega (arith, sum_by-cons counts a (range_with_len (a + 1) n), counts_other a other, passing_there (a + 1) n (omega arith) (omega arith) passes))
      (cases_eq a i)

  failing_none : (a n : ℕ) → p i ≡ false → sum_by counts (range_with_len a n) ≡ 0
  failing_none a zero fails = refl
  failing_none a (suc n) fails =
      ⊎_elim
      (λ (here : a ≡ i). omega (arith, sum_by-cons counts a (range_with_len (a + 1) n), counts_fails a here fails, failing_none (a + 1) n fails))
      (λ (other : a ≢ i). omega (arith, sum_by-cons counts a (range_with_len (a + 1) n), counts_other a other, failing_none (a + 1) n fails))
      (cases_eq a i)

  past_none : (a n : ℕ) → a + n ≤ i → sum_by counts (range_with_len a n) ≡ 0
  past_none a zero high = refl
  past_none a (suc n) high = omega (arith, sum_by-cons counts a (range_with_len (a + 1) n), counts_other a (λ e. omega arith), past_none (a + 1) n (omega arith))

  -- one that passes stands there once
  pub times_there : (n : ℕ) → i < n → p i ≡ true → times i (filter p (range_with_len 0 n)) ≡ 1
  times_there n within passes = sum_by-filter (λ j. cond (eqb j i) 1 0) p (range_with_len 0 n) ∙ passing_there 0 n (omega arith) (omega arith) passes

  -- and any other doesn't
  pub times_failing : (n : ℕ) → p i ≡ false → times i (filter p (range_with_len 0 n)) ≡ 0
  times_failing n fails = sum_by-filter (λ j. cond (eqb j i) 1 0) p (range_with_len 0 n) ∙ failing_none 0 n fails

  pub times_past : (n : ℕ) → n ≤ i → times i (filter p (range_with_len 0 n)) ≡ 0
  times_past n past = sum_by-filter (λ j. cond (eqb j i) 1 0) p (range_with_len 0 n) ∙ past_none 0 n (omega arith)

  pub times_once : (n : ℕ) → times i (filter p (range_with_len 0 n)) ≤ 1
  times_once n =
      ⊎_elim
      (λ (within : i < n).
      ⊎_elim (λ (passes : p i ≡ true). omega (arith, times_there n within passes)) (λ (fails : p i ≡ false). omega (arith, times_failing n fails)) (cases_Bool (p i)))
      (λ (past : n ≤ i). omega (arith, times_past n past))
      (cases_lt i n)

  pub times_passes : (n : ℕ) → 0 < times i (filter p (range_with_len 0 n)) → (i < n) × (p i ≡ true)
  times_passes n some =
      ⊎_elim
      (λ (within : i < n).
      ⊎_elim (λ (passes : p i ≡ true). (within, passes)) (λ (fails : p i ≡ false). absurd (omega (arith, some, times_failing n fails))) (cases_Bool (p i)))
      (λ (past : n ≤ i). absurd (omega (arith, some, times_past n past)))
      (cases_lt i n)

-- a filter passes what it has
pub passes_in : (p : ℕ → Bool) (xs : List ℕ) (j : ℕ) → j < length (filter p xs) → p (get_or (filter p xs) j 0) ≡ true
passes_in p [] j within = absurd (omega arith)
passes_in p (x ∷ xs) j within = at (λ k low. passes_in p xs k low) (p x) refl j within
  where
    at : ((k : ℕ) → k < length (filter p xs) → p (get_or (filter p xs) k 0) ≡ true)
        → (t : Bool) → p x ≡ t → (k : ℕ) → k < length (cond t (x ∷ filter p xs) (filter p xs)) → p (get_or (cond t (x ∷ filter p xs) (filter p xs)) k 0) ≡ true
    at rest true is zero low = is
    at rest true is (suc k) low = rest k (omega arith)
    at rest false is k low = rest k low

-- and stands in what it filters
pub place_in : (p : ℕ → Bool) (xs : List ℕ) (j : ℕ) → j < length (filter p xs) → (k : ℕ) × (k < length xs) × (get_or xs k 0 ≡ get_or (filter p xs) j 0)
place_in p [] j within = absurd (omega arith)
place_in p (x ∷ xs) j within = at (λ k low. place_in p xs k low) (p x) j within
  where
    at : ((k : ℕ) → k < length (filter p xs) → (m : ℕ) × (m < length xs) × (get_or xs m 0 ≡ get_or (filter p xs) k 0))
        → (t : Bool) → (k : ℕ) → k < length (cond t (x ∷ filter p xs) (filter p xs)) → (m : ℕ) × (m < length (x ∷ xs)) × (get_or (x ∷ xs) m 0 ≡ get_or (cond t (x ∷ filter p xs) (filter p xs)) k 0)
    at rest true zero low = (0, omega arith, refl)
    at rest true (suc k) low = let later = rest k (omega arith) in (suc later.0, omega (arith, later.1), later.2)
    at rest false k low = let later = rest k low in (suc later.0, omega (arith, later.1), later.2)

-- what passes stands in the filter
pub place_of_passing : (p : ℕ → Bool) (xs : List ℕ) (k : ℕ) → k < length xs → p (get_or xs k 0) ≡ true → (j : ℕ) × (j < length (filter p xs)) × (get_or (filter p xs) j 0 ≡ get_or xs k 0)
place_of_passing p [] k within passes = absurd (omega arith)
place_of_passing p (x ∷ xs) zero within passes = at (p x) passes
  where
    at : (t : Bool) → t ≡ true → (j : ℕ) × (j < length (cond t (x ∷ filter p xs) (filter p xs))) × (get_or (cond t (x ∷ filter p xs) (filter p xs)) j 0 ≡ x)
    at true is = (0, omega arith, refl)
    at false is = absurd (false≢true is)
place_of_passing p (x ∷ xs) (suc k) within passes = at (p x) (place_of_passing p xs k (omega arith) passes)
  where
    at : (t : Bool) → (j : ℕ) × (j < length (filter p xs)) × (get_or (filter p xs) j 0 ≡ get_or xs k 0) → (j : ℕ) × (j < length (cond t (x ∷ filter p xs) (filter p xs))) × (get_or (cond t (x ∷ filter p xs) (filter p xs)) j 0 ≡ get_or xs k 0)
    at true later = (suc later.0, omega (arith, later.1), later.2)
    at false later = later
