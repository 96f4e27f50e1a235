-- The eligible interval that starts at a request: the one to the next request of its object.
use Rattle.std.proofs.Common.{◌≡◌, ◌≢◌, ℕ, suc, zero, ◌+◌, ◌-◌, ◌<◌, ◌≤◌, ◌∙◌, sym, refl, ap, Bool, true, false, not, ◌&&◌, ◌||◌, cond, nat_lt, nat_le, List, [], ◌∷◌, length, arith, ⊎_elim, append-nil, ◌++◌, map, flat_map, filter, get_or, slice_range}
use Rattle.std.specs.List.{range_with_len, list_any}
use Rattle.std.proofs.lemmas.Bool.{cases_lt, cases_eq, lt-ltb, le-ltb, le-leb, lt-leb, and_left, and_right, and_from}
use Rattle.std.proofs.lemmas.List.Concat.{flat_map-append}
use Rattle.std.proofs.lemmas.List.Folds.{list_any_at, list_any_none, list_any-append}
use Rattle.std.proofs.lemmas.List.Elements.{All-from_get_or}
use Rattle.std.proofs.lemmas.List.Edits.{length-between, get_or-between, between_more}
use Rattle.cache_model.specs.declared.objects.Object.{Object}
use Rattle.cache_model.specs.Claim.{Terms, counts, same_object, request_at, no_object}
use Rattle.cache_model.specs.declared.intervals.Interval.{Interval}
use Rattle.cache_model.specs.Intervals.{is_eligible, interval_of, eligible_from}
use Rattle.cache_model.specs.Objects.{IsNext, IsLast}

-- no number of a range passes the test
pub filter-range_none : (p : ℕ → Bool) (a n : ℕ) → ((k : ℕ) → a ≤ k → k < a + n → p k ≡ false) → filter p (range_with_len a n) ≡ []
filter-range_none p a zero none = refl
filter-range_none p a (suc n) none =
    ap (λ t. cond t (a ∷ filter p (range_with_len (a + 1) n)) (filter p (range_with_len (a + 1) n))) (none a (omega arith) (omega arith))
    ∙ filter-range_none p (a + 1) n (λ k low high. none k (omega arith) (omega arith))

-- one number of a range passes the test
pub filter-range_one : (p : ℕ → Bool) (b a n : ℕ) → a ≤ b → b < a + n → p b ≡ true → ((k : ℕ) → a ≤ k → k < a + n → k ≢ b → p k ≡ false)
    → filter p (range_with_len a n) ≡ b ∷ []
filter-range_one p b a zero low high pass others = absurd (omega arith)
filter-range_one p b a (suc n) low high pass others =
    ⊎_elim
    (λ (e : a ≡ b).
    ap (λ t. cond t (a ∷ filter p (range_with_len (a + 1) n)) (filter p (range_with_len (a + 1) n))) (ap p e ∙ pass)
    ∙ ap (λ xs. a ∷ xs) (filter-range_none p (a + 1) n (λ k l h. others k (omega arith) (omega arith) (λ e'. omega arith)))
    ∙ ap (λ x. x ∷ []) e)
    (λ (ne : a ≢ b).
    ap (λ t. cond t (a ∷ filter p (range_with_len (a + 1) n)) (filter p (range_with_len (a + 1) n))) (others a (omega arith) (omega arith) ne)
    ∙ filter-range_one p b (a + 1) n (omega arith) (omega arith) pass (λ k l h other. others k (omega arith) (omega arith) other))
    (cases_eq a b)

-- a test that fails at each of the places from i to before j
pub list_any-range_false : {X : Type 0} (p : X → Bool) (xs : List X) (d : X) (i j : ℕ) → j ≤ length xs → ((k : ℕ) → i ≤ k → k < j → p (get_or xs k d) ≡ false) → list_any p (slice_range xs i j) ≡ false
list_any-range_false p xs d i j within none =
    list_any_none p (slice_range xs i j)
    (All-from_get_or (λ x. p x ≡ false) (slice_range xs i j) d (λ k lt.
    let size : length (slice_range xs i j) ≡ j - i = length-between xs i j within in
    let e : get_or (slice_range xs i j) k d ≡ get_or xs (i + k) d = get_or-between xs i j k d (omega arith) in
    ap p e ∙ none (i + k) (omega arith) (omega arith)))

pub list_any-range_true : {X : Type 0} (p : X → Bool) (xs : List X) (d : X) (i j k : ℕ) → i ≤ k → k < j → j ≤ length xs → p (get_or xs k d) ≡ true → list_any p (slice_range xs i j) ≡ true
list_any-range_true p xs d i j k low high within pass =
    let size : length (slice_range xs i j) ≡ j - i = length-between xs i j within in
    let place : i + (k - i) ≡ k = omega arith in
    let e : get_or (slice_range xs i j) (k - i) d ≡ get_or xs k d = get_or-between xs i j (k - i) d (omega arith) ∙ ap (λ n. get_or xs n d) place in
    list_any_at p (slice_range xs i j) (k - i) d (omega arith) (ap p e ∙ pass)

pub or_false : (b : Bool) → (b || false) ≡ b
or_false true = refl
or_false false = refl

-- one more place
pub list_any-range_more : {X : Type 0} (p : X → Bool) (xs : List X) (d : X) (i j : ℕ) → i ≤ j → j < length xs → list_any p (slice_range xs i (j + 1)) ≡ (list_any p (slice_range xs i j) || p (get_or xs j d))
list_any-range_more p xs d i j low high = ap (list_any p) (between_more xs i j d low high) ∙ list_any-append p (slice_range xs i j) (get_or xs j d ∷ []) ∙ ap (λ t. list_any p (slice_range xs i j) || t) (or_false (p (get_or xs j d)))

-- whether the pair is eligible, for an object that fits or not
abbrev pub is_next : List Object → ℕ → ℕ → Bool
is_next trace a b = nat_lt a b && same_object (request_at trace a) (request_at trace b) && not (list_any (same_object (request_at trace a)) (slice_range trace (a + 1) b))

pub is_next_yes : (trace : List Object) (a b : ℕ) → IsNext trace a b → is_next trace a b ≡ true
is_next_yes trace a b n =
    and_from _ _ (and_from _ _ (lt-ltb a b n.before) n.same)
    (ap not (list_any-range_false (same_object (request_at trace a)) trace no_object (a + 1) b (omega arith) (λ k low high. n.others k (omega arith) high)))

pub is_next_no : (trace : List Object) (a b k : ℕ) → IsNext trace a b → k < length trace → k ≢ b → is_next trace a k ≡ false
is_next_no trace a b k n lt ne =
    ⊎_elim
    (λ (h : a < k). ⊎_elim
    (λ (early : k < b). and_left _ _ (and_right (nat_lt a k) _ (n.others k h early)))
    (λ (late : b ≤ k). and_right _ _ (ap not (list_any-range_true (same_object (request_at trace a)) trace no_object (a + 1) k b (omega arith) (omega arith) (omega arith) n.same)))
    (cases_lt k b))
    (λ (h : k ≤ a). and_left _ _ (and_left (nat_lt a k) _ (le-ltb a k h)))
    (cases_lt a k)

pub eligible_next : (terms : Terms) (trace : List Object) (a b : ℕ) → IsNext trace a b
    → filter (is_eligible terms trace a) (range_with_len 0 (length trace)) ≡ cond (nat_le (request_at trace a).size terms.capacity && counts terms b) (b ∷ []) []
eligible_next terms trace a b n = at (nat_le (request_at trace a).size terms.capacity) (counts terms b) refl
  where
    passes : Bool → ℕ → Bool
    passes fits k = is_next trace a k && fits && counts terms k

    -- b alone is the next request, and it does not count
    none : (fits counted : Bool) → counts terms b ≡ counted → (fits && counted) ≡ false → (k : ℕ) → k < length trace → passes fits k ≡ false
    none fits counted e neither k lt =
        ⊎_elim
        (λ (here : k ≡ b). ap (λ j. is_next trace a j && fits && counts terms j) here ∙ ap (λ t. is_next trace a b && fits && t) e ∙ shut (is_next trace a b) fits counted neither)
        (λ (ne : k ≢ b). and_left _ _ (and_left _ fits (is_next_no trace a b k n lt ne)))
        (cases_eq k b)
      where
        shut : (s t u : Bool) → (t && u) ≡ false → (s && t && u) ≡ false
        shut true t u h = h
        shut false t u h = refl

    at : (fits counted : Bool) → counts terms b ≡ counted → filter (passes fits) (range_with_len 0 (length trace)) ≡ cond (fits && counted) (b ∷ []) []
    at true true e = filter-range_one (passes true) b 0 (length trace) (omega arith) (omega arith) (and_from _ _ (and_from _ true (is_next_yes trace a b n) refl) e)
        (λ k low high ne. and_left _ _ (and_left _ true (is_next_no trace a b k n (omega arith) ne)))
    at true false e = filter-range_none (passes true) 0 (length trace) (λ k low high. none true false e refl k (omega arith))
    at false counted e = filter-range_none (passes false) 0 (length trace) (λ k low high. none false counted e refl k (omega arith))

-- no later request is of the object
pub eligible_last : (terms : Terms) (trace : List Object) (a : ℕ) → IsLast trace a
    → filter (is_eligible terms trace a) (range_with_len 0 (length trace)) ≡ []
eligible_last terms trace a none =
    filter-range_none (is_eligible terms trace a) 0 (length trace)
    (λ k low high. and_left _ (counts terms k) (and_left _ (nat_le (request_at trace a).size terms.capacity) (and_left _ _ (at k (omega arith)))))
  where
    at : (k : ℕ) → k < length trace → (nat_lt a k && same_object (request_at trace a) (request_at trace k)) ≡ false
    at k lt = ⊎_elim (λ (h : a < k). and_right (nat_lt a k) _ (none k h lt)) (λ (h : k ≤ a). and_left (nat_lt a k) _ (le-ltb a k h)) (cases_lt a k)

pub eligible_from_next : (terms : Terms) (trace : List Object) (a b : ℕ) → IsNext trace a b
    → eligible_from terms trace a ≡ cond (nat_le (request_at trace a).size terms.capacity && counts terms b) (interval_of terms.objective trace a b ∷ []) []
eligible_from_next terms trace a b n =
    ap (map (interval_of terms.objective trace a)) (eligible_next terms trace a b n) ∙ at (nat_le (request_at trace a).size terms.capacity && counts terms b)
  where
    at : (t : Bool) → map (interval_of terms.objective trace a) (cond t (b ∷ []) []) ≡ cond t (interval_of terms.objective trace a b ∷ []) []
    at true = refl
    at false = refl

-- the object fits, and its next request counts
pub eligible_from_one : (terms : Terms) (trace : List Object) (a b : ℕ) → IsNext trace a b → (request_at trace a).size ≤ terms.capacity → counts terms b ≡ true
    → eligible_from terms trace a ≡ interval_of terms.objective trace a b ∷ []
eligible_from_one terms trace a b n fits counted =
    eligible_from_next terms trace a b n
    ∙ ap (λ t. cond t (interval_of terms.objective trace a b ∷ []) []) (and_from _ _ (le-leb (request_at trace a).size terms.capacity fits) counted)

-- the next request doesn't count
pub eligible_from_uncounted : (terms : Terms) (trace : List Object) (a b : ℕ) → IsNext trace a b → counts terms b ≡ false → eligible_from terms trace a ≡ []
eligible_from_uncounted terms trace a b n uncounted =
    eligible_from_next terms trace a b n
    ∙ ap (λ t. cond t (interval_of terms.objective trace a b ∷ []) []) (and_right (nat_le (request_at trace a).size terms.capacity) _ uncounted)

pub eligible_from_last : (terms : Terms) (trace : List Object) (a : ℕ) → IsLast trace a → eligible_from terms trace a ≡ []
eligible_from_last terms trace a last = ap (map (interval_of terms.objective trace a)) (eligible_last terms trace a last)

pub range-suc : (a n j : ℕ) → a + n ≡ j → range_with_len a (suc n) ≡ range_with_len a n ++ j ∷ []
range-suc a zero j e = let e' : a ≡ j = omega arith in ap (λ k. k ∷ []) e'
range-suc a (suc n) j e = ap (λ xs. a ∷ xs) (range-suc (a + 1) n j (omega arith))

-- one more request
pub flat_map-range_more : {X : Type 0} (f : ℕ → List X) (n : ℕ) → flat_map f (range_with_len 0 (n + 1)) ≡ flat_map f (range_with_len 0 n) ++ f n
flat_map-range_more f n =
    let e : n + 1 ≡ suc n = omega arith in
    ap (λ k. flat_map f (range_with_len 0 k)) e ∙ ap (flat_map f) (range-suc 0 n n (omega arith))
    ∙ flat_map-append f (range_with_len 0 n) (n ∷ []) ∙ ap (λ xs. flat_map f (range_with_len 0 n) ++ xs) (append-nil (f n))

-- one more request, whose interval is given
pub eligible_more : (terms : Terms) (trace : List Object) (a : ℕ) (items more piece : List Interval)
    → items ≡ flat_map (eligible_from terms trace) (range_with_len 0 a) → eligible_from terms trace a ≡ piece → more ≡ items ++ piece
    → more ≡ flat_map (eligible_from terms trace) (range_with_len 0 (a + 1))
eligible_more terms trace a items more piece so_far row e = e ∙ ap (λ xs. xs ++ piece) so_far ∙ ap (λ xs. flat_map (eligible_from terms trace) (range_with_len 0 a) ++ xs) (sym row) ∙ sym (flat_map-range_more (eligible_from terms trace) a)

-- an object that does not fit
pub eligible_from_too_large : (terms : Terms) (trace : List Object) (a : ℕ) → terms.capacity < (request_at trace a).size → eligible_from terms trace a ≡ []
eligible_from_too_large terms trace a large =
    ap (map (interval_of terms.objective trace a))
    (filter-range_none (is_eligible terms trace a) 0 (length trace)
    (λ k low high. and_left _ (counts terms k) (and_right (is_next trace a k) _ (lt-leb (request_at trace a).size terms.capacity large))))
