-- What each request adds to the load and to the score of the contents of keeps.
use Rattle.std.proofs.Common.{◌≡◌, ◌≢◌, ℕ, suc, zero, ◌+◌, ◌<◌, ◌≤◌, ◌∙◌, sym, refl, ap, subst, Bool, true, false, not, ◌&&◌, ◌||◌, cond, nat_le, List, [], ◌∷◌, length, arith, inl, inr, ◌⊎◌, ⊎_elim, Any, Contains, sum_by, zip, drop, filter, slice_range}
use Rattle.std.specs.List.{range_with_len, list_any}
use Rattle.std.proofs.Math.Dec.{leb-suc-zero, leb-suc-suc}
use Rattle.std.proofs.lemmas.Bool.{cases_Bool, cases_lt, cases_eq, both_ways, and_parts, and_from, and_right, le-leb}
use Rattle.std.proofs.lemmas.List.Elements.{All-map}
use Rattle.std.proofs.lemmas.List.FromFn.{get_or-map-range_with_len}
use Rattle.std.proofs.lemmas.List.Folds.{list_any_at, list_any_none, Any-from_list_any}
use Rattle.std.proofs.lemmas.List.Sums.{sum_by-cons, get_or-le-sum_by}
use Rattle.cache_model.specs.declared.objects.Object.{Object}
use Rattle.cache_model.specs.declared.objects.Objective.{Objective}
use Rattle.cache_model.specs.Claim.{Terms, counts, terms_from, same_object, gain_of, total_size, holds, before_request, score, IsAllowed, request_at, no_object, is_kept, is_held, is_latest, held_before, contents_of}
use Rattle.cache_model.specs.Objects.{IsFirst, IsNext}
use Rattle.cache_model.specs.Keeps.{latest_sum, load_after}
use Rattle.cache_model.proofs.Duality.{same_object-true}
use Rattle.cache_model.proofs.Pairs.{same_object-sym}
use Rattle.cache_model.proofs.Sums.{sum_by-range, sum_by-agree, sum_by-nothing}
use Rattle.cache_model.proofs.Eligible.{list_any-range_false, list_any-range_true, list_any-range_more, or_false}
use Rattle.cache_model.proofs.Streams.{sum_by-range_agree, sum_by-range_one, sum_by-range_last}
use Rattle.cache_model.proofs.Keeps.{All-filter_range, Contains-filter_range, contents_of_keeps}
use Rattle.cache_model.proofs.Latest.{held-latest}

-- a request is the first of its object, or has one before it
pub first_or_next : (trace : List Object) (t : ℕ) → t < length trace → IsFirst trace t ⊎ ((a : ℕ) × IsNext trace a t)
first_or_next trace t within = search t (omega arith) (λ k low high. absurd (omega arith))
  where
    search : (n : ℕ) → n ≤ t → ((k : ℕ) → n ≤ k → k < t → same_object (request_at trace t) (request_at trace k) ≡ false) → IsFirst trace t ⊎ ((a : ℕ) × IsNext trace a t)
    search zero low others = inl (λ k high. others k (omega arith) high)
    search (suc n) low others =
        ⊎_elim
        (λ (same : same_object (request_at trace t) (request_at trace n) ≡ true).
        let here : request_at trace t ≡ request_at trace n = same_object-true (request_at trace t) (request_at trace n) same in
        inr (
          n,
          record {
            before = omega arith;
            within = within;
            same = same_object-sym (request_at trace n) (request_at trace t) ∙ same;
            others = λ k after before. ap (λ y. same_object y (request_at trace k)) (sym here) ∙ others k (omega arith) before;
          },
        ))
        (λ (differs : same_object (request_at trace t) (request_at trace n) ≡ false).
        search n (omega arith) (λ k after before.
        ⊎_elim
        (λ (e : n ≡ k). ap (λ j. same_object (request_at trace t) (request_at trace j)) (sym e) ∙ differs)
        (λ (ne : n ≢ k). others k (omega arith) before)
        (cases_eq n k)))
        (cases_Bool (same_object (request_at trace t) (request_at trace n)))

-- a test or false is the test
module _ (trace : List Object) (t : ℕ) (within : t < length trace) where
  -- a request of another object stays the latest, or not
  is_latest-other : (a : ℕ) → a < t → same_object (request_at trace a) (request_at trace t) ≡ false → is_latest trace (t + 1) a ≡ is_latest trace t a
  is_latest-other a low differs =
      let p : Object → Bool = same_object (request_at trace a) in
      ap not
      (list_any-range_more p trace no_object (a + 1) t (omega arith) within
      ∙ ap (λ b. list_any p (slice_range trace (a + 1) t) || b) differs ∙ or_false _)

  -- a later request of the object takes its place
  is_latest-past : (a b j : ℕ) → a < b → b < j → j ≤ length trace → same_object (request_at trace a) (request_at trace b) ≡ true → is_latest trace j a ≡ false
  is_latest-past a b j low high end same =
      ap not (list_any-range_true (same_object (request_at trace a)) trace no_object (a + 1) j b (omega arith) high end same)

  -- a request is the latest of its object right after it
  pub is_latest-own : is_latest trace (t + 1) t ≡ true
  is_latest-own =
      ap not (list_any-range_false (same_object (request_at trace t)) trace no_object (t + 1) (t + 1) (omega arith) (λ k low high. absurd (omega arith)))

  -- the request before this one of its object is the latest until here
  is_latest-previous : (a : ℕ) → IsNext trace a t → is_latest trace t a ≡ true
  is_latest-previous a n =
      ap not (list_any-range_false (same_object (request_at trace a)) trace no_object (a + 1) t (omega arith) (λ k low high. n.others k (omega arith) high))

  -- another request of the object stands before that one
  before_previous : (a k : ℕ) → IsNext trace a t → k ≢ a → k < t → same_object (request_at trace k) (request_at trace t) ≡ true
      → (k < a) × (same_object (request_at trace k) (request_at trace a) ≡ true)
  before_previous a k n ne low same =
      let at : request_at trace a ≡ request_at trace t = same_object-true (request_at trace a) (request_at trace t) n.same in
      let kt : request_at trace k ≡ request_at trace t = same_object-true (request_at trace k) (request_at trace t) same in
      let ka : same_object (request_at trace k) (request_at trace a) ≡ true = ap (same_object (request_at trace k)) at ∙ same in
      ⊎_elim
      (λ (late : a < k). absurd (both_ways (same_object (request_at trace a) (request_at trace k)) (n.others k late low) (same_object-sym (request_at trace a) (request_at trace k) ∙ ka)))
      (λ (early : k ≤ a). (omega arith, ka))
      (cases_lt a k)

  module _ (g : ℕ → ℕ) where
    -- what request a adds to the sum before request j
    term : ℕ → ℕ → ℕ
    term j a = cond (is_latest trace j a) (g a) 0

    -- the request itself is in the sum
    all_terms : latest_sum trace g (t + 1) ≡ sum_by (term (t + 1)) (range_with_len 0 t) + g t
    unfolding term
    all_terms =
        let e : t + 1 ≡ suc t = omega arith in
        let own : term (t + 1) t ≡ g t = ap (λ b. cond b (g t) 0) is_latest-own in
        ap (λ k. sum_by (term (t + 1)) (range_with_len 0 k)) e ∙ sum_by-range_last (term (t + 1)) t ∙ ap (λ k. sum_by (term (t + 1)) (range_with_len 0 t) + k) own

    -- a request of another object adds what it did
    other_term : (a : ℕ) → a < t → same_object (request_at trace a) (request_at trace t) ≡ false → term t a ≡ term (t + 1) a
    unfolding term
    other_term a low differs = ap (λ b. cond b (g a) 0) (sym (is_latest-other a low differs))

    -- a request with a later one of its object adds nothing
    past_term : (a b j : ℕ) → a < b → b < j → j ≤ length trace → same_object (request_at trace a) (request_at trace b) ≡ true → term j a ≡ 0
    unfolding term
    past_term a b j low high end same = ap (λ s. cond s (g a) 0) (is_latest-past a b j low high end same)

    -- the request before this one of its object is in the sum until here
    previous_term : (a : ℕ) → IsNext trace a t → term t a ≡ g a
    unfolding term
    previous_term a n = ap (λ s. cond s (g a) 0) (is_latest-previous a n)

    -- the first request of an object adds its amount
    pub latest_sum-first : IsFirst trace t → latest_sum trace g (t + 1) ≡ latest_sum trace g t + g t
    unfolding term
    latest_sum-first first =
        let same : sum_by (term t) (range_with_len 0 t) ≡ sum_by (term (t + 1)) (range_with_len 0 t) =
        sum_by-range_agree (term t) (term (t + 1)) 0 t (λ k low high. other_term k (omega arith) (same_object-sym (request_at trace k) (request_at trace t) ∙ first k (omega arith))) in
        omega (arith, all_terms, same)

    -- a later request of an object puts its amount in place of that of the request before it
    pub latest_sum-next : (a : ℕ) → IsNext trace a t → latest_sum trace g (t + 1) + g a ≡ latest_sum trace g t + g t
    unfolding term
    latest_sum-next a n =
        let low : a < t = n.before in
        let exchange : sum_by (term t) (range_with_len 0 t) ≡ sum_by (term (t + 1)) (range_with_len 0 t) + g a =
        sum_by-range_one (term t) (term (t + 1)) a (g a) 0 t (omega arith) (omega arith)
        (omega (arith, previous_term a n, past_term a t (t + 1) low (omega arith) (omega arith) n.same))
        (λ k l h ne. others k (omega arith) ne) in
        omega (arith, all_terms, exchange)
      where
        others : (k : ℕ) → k < t → k ≢ a → term t k ≡ term (t + 1) k
        others k lk ne =
            ⊎_elim
            (λ (same : same_object (request_at trace k) (request_at trace t) ≡ true).
            let earlier : (k < a) × (same_object (request_at trace k) (request_at trace a) ≡ true) = before_previous a k n ne lk same in
            past_term k a t earlier.0 n.before (omega arith) earlier.1 ∙ sym (past_term k t (t + 1) lk (omega arith) (omega arith) same))
            (λ (differs : same_object (request_at trace k) (request_at trace t) ≡ false). other_term k lk differs)
            (cases_Bool (same_object (request_at trace k) (request_at trace t)))

  module _ (keeps : List Bool) where
    -- none of the requests that are held before t is of its object
    none_held : ((k : ℕ) → k < t → is_held trace keeps t k ≡ true → same_object (request_at trace t) (request_at trace k) ≡ false)
        → holds (held_before trace keeps t) (request_at trace t) ≡ false
    none_held each =
        let P : Object → Type 0 = λ x. same_object (request_at trace t) x ≡ false in
        list_any_none (same_object (request_at trace t)) (held_before trace keeps t)
        (All-map P (request_at trace) (filter (is_held trace keeps t) (range_with_len 0 t))
        (All-filter_range (λ k. P (request_at trace k)) (is_held trace keeps t) 0 t (λ k low high held. each k (omega arith) held)))

    -- the first request of an object is no hit
    pub holds-first : IsFirst trace t → holds (held_before trace keeps t) (request_at trace t) ≡ false
    holds-first first = none_held (λ k low held. first k low)

    -- a later request of an object is a hit where the request before it is kept
    pub holds-next : (a : ℕ) → IsNext trace a t → holds (held_before trace keeps t) (request_at trace t) ≡ is_kept keeps a
    holds-next a n =
        ⊎_elim
        (λ (kept : is_kept keeps a ≡ true).
        member (Contains-filter_range (request_at trace) (is_held trace keeps t) a 0 t (omega arith) (let low : a < t = n.before in omega arith) (and_from _ _ kept (is_latest-previous a n))) ∙ sym kept)
        (λ (bypassed : is_kept keeps a ≡ false). none_held (others bypassed) ∙ sym bypassed)
        (cases_Bool (is_kept keeps a))
      where
        member : Contains (held_before trace keeps t) (request_at trace a) → holds (held_before trace keeps t) (request_at trace t) ≡ true
        member (i, low, e) =
            list_any_at (same_object (request_at trace t)) (held_before trace keeps t) i (request_at trace a) low
            (ap (same_object (request_at trace t)) e ∙ same_object-sym (request_at trace t) (request_at trace a) ∙ n.same)

        others : is_kept keeps a ≡ false → (k : ℕ) → k < t → is_held trace keeps t k ≡ true → same_object (request_at trace t) (request_at trace k) ≡ false
        others bypassed k low held =
            let parts : (is_kept keeps k ≡ true) × (is_latest trace t k ≡ true) = and_parts _ _ held in
            let ne : k ≢ a = λ e. both_ways (is_kept keeps a) bypassed (ap (is_kept keeps) (sym e) ∙ parts.0) in
            ⊎_elim
            (λ (same : same_object (request_at trace k) (request_at trace t) ≡ true).
            let earlier : (k < a) × (same_object (request_at trace k) (request_at trace a) ≡ true) = before_previous a k n ne low same in
            absurd (both_ways (is_latest trace t k) (is_latest-past k a t earlier.0 n.before (omega arith) earlier.1) parts.1))
            (λ (differs : same_object (request_at trace k) (request_at trace t) ≡ false). same_object-sym (request_at trace t) (request_at trace k) ∙ differs)
            (cases_Bool (same_object (request_at trace k) (request_at trace t)))

    -- a hit's size leaves the load, and a kept request's enters it
    pub load_after-request : load_after trace keeps t + cond (holds (held_before trace keeps t) (request_at trace t)) (request_at trace t).size 0
        ≡ total_size (held_before trace keeps t) + cond (is_kept keeps t) (request_at trace t).size 0
    load_after-request =
        ⊎_elim
        (λ (first : IsFirst trace t).
        let miss : cond (holds (held_before trace keeps t) (request_at trace t)) (request_at trace t).size 0 ≡ 0 = ap (λ b. cond b (request_at trace t).size 0) (holds-first first) in
        omega (arith, miss, held-latest trace keeps (t + 1), held-latest trace keeps t, latest_sum-first kept_size first))
        (λ (found : (a : ℕ) × IsNext trace a t). again found.0 found.1)
        (first_or_next trace t within)
      where
        kept_size : ℕ → ℕ
        kept_size a = cond (is_kept keeps a) (request_at trace a).size 0

        again : (a : ℕ) → IsNext trace a t
            → load_after trace keeps t + cond (holds (held_before trace keeps t) (request_at trace t)) (request_at trace t).size 0
            ≡ total_size (held_before trace keeps t) + cond (is_kept keeps t) (request_at trace t).size 0
        again a n =
            let same : request_at trace a ≡ request_at trace t = same_object-true (request_at trace a) (request_at trace t) n.same in
            let leaves : cond (holds (held_before trace keeps t) (request_at trace t)) (request_at trace t).size 0 ≡ kept_size a =
            ap (λ b. cond b (request_at trace t).size 0) (holds-next a n) ∙ ap (λ (x : Object). cond (is_kept keeps a) x.size 0) (sym same) in
            omega (arith, leaves, held-latest trace keeps (t + 1), held-latest trace keeps t, latest_sum-next kept_size a n)

-- an object that is held is within the load
pub size-le-total_size : (held : List Object) (x : Object) → holds held x ≡ true → x.size ≤ total_size held
size-le-total_size held x h = at (Any-from_list_any (same_object x) held h)
  where
    at : Any (λ y. same_object x y ≡ true) held → x.size ≤ total_size held
    at (k, y, low, e, same) =
        let here : x ≡ y = same_object-true x y same in
        omega (arith, ap (λ (z : Object). z.size) here, ap (λ (z : Object). z.size) e, get_or-le-sum_by (λ (z : Object). z.size) held k y low)

-- keeps whose load is within the capacity after each request are allowed contents
pub allowed-from_loads : (trace : List Object) (capacity : ℕ) (keeps : List Bool)
    → ((t : ℕ) → t < length trace → load_after trace keeps t ≤ capacity)
    → IsAllowed capacity trace (contents_of trace keeps)
allowed-from_loads trace capacity keeps fits = contents_of_keeps trace capacity keeps each
  where
    each : (t : ℕ) → t ≤ length trace → total_size (held_before trace keeps t) ≤ capacity
    each zero within = omega arith
    each (suc t) within =
        let e : t + 1 ≡ suc t = omega arith in
        subst (λ j. total_size (held_before trace keeps j) ≤ capacity) e (fits t (omega arith))

-- what request t earns
abbrev pub earned_at : Terms → List Object → List Bool → ℕ → ℕ
earned_at terms trace keeps t =
    cond (counts terms t && holds (held_before trace keeps t) (request_at trace t)) (gain_of terms.objective (request_at trace t)) 0

-- the contents of keeps before request t
pub before_request-contents_of : (trace : List Object) (keeps : List Bool) (t : ℕ) → t ≤ length trace → before_request (contents_of trace keeps) t ≡ held_before trace keeps t
before_request-contents_of trace keeps t within = get_or-map-range_with_len (held_before trace keeps) 0 (length trace + 1) t t [] (omega arith) (omega arith)

-- the score of the contents of keeps is what each request earns, summed
pub score-requests : (terms : Terms) (trace : List Object) (keeps : List Bool)
    → score terms trace (contents_of trace keeps) ≡ sum_by (earned_at terms trace keeps) (range_with_len 0 (length trace))
score-requests terms trace keeps =
    sum_by-range_agree
    (λ t. cond (counts terms t && holds (before_request (contents_of trace keeps) t) (request_at trace t)) (gain_of terms.objective (request_at trace t)) 0)
    (earned_at terms trace keeps) 0 (length trace)
    (λ t low high. ap (λ held. cond (counts terms t && holds held (request_at trace t)) (gain_of terms.objective (request_at trace t)) 0)
    (before_request-contents_of trace keeps t (omega arith)))

-- one more request
pub earned-more : (terms : Terms) (trace : List Object) (keeps : List Bool) (t : ℕ)
    → sum_by (earned_at terms trace keeps) (range_with_len 0 (t + 1)) ≡ sum_by (earned_at terms trace keeps) (range_with_len 0 t) + earned_at terms trace keeps t
earned-more terms trace keeps t =
    let e : t + 1 ≡ suc t = omega arith in
    ap (λ n. sum_by (earned_at terms trace keeps) (range_with_len 0 n)) e ∙ sum_by-range_last (earned_at terms trace keeps) t

-- what a pair of a request and its contents earns
abbrev pair_earns : Objective → Object × List Object → ℕ
pair_earns o = λ (x, held). cond (holds held x) (gain_of o x) 0

-- what request t earns if all past the warm-up count
abbrev earned_past : Objective → ℕ → List Object → List (List Object) → ℕ → ℕ
earned_past o m trace contents t = cond ((nat_le m t && true) && holds (before_request contents t) (request_at trace t)) (gain_of o (request_at trace t)) 0

earned_past-suc : (o : Objective) (m n : ℕ) (later : List Object) (nexts : List (List Object)) (t : ℕ) → nat_le m (suc t) ≡ nat_le n t
    → cond ((nat_le m (suc t) && true) && holds (before_request nexts t) (request_at later t)) (gain_of o (request_at later t)) 0 ≡ earned_past o n later nexts t
earned_past-suc o m n later nexts t e = ap (λ b. cond ((b && true) && holds (before_request nexts t) (request_at later t)) (gain_of o (request_at later t)) 0) e

none_left : {X Y : Type 0} (f : X × Y → ℕ) (m : ℕ) (xs : List X) → sum_by f (drop m (zip xs [])) ≡ 0
none_left f zero [] = refl
none_left f (suc m) [] = refl
none_left f zero (x ∷ xs) = refl
none_left f (suc m) (x ∷ xs) = refl

earned_past-zip : (o : Objective) (m : ℕ) (trace : List Object) (contents : List (List Object))
    → sum_by (earned_past o m trace contents) (range_with_len 0 (length trace)) ≡ sum_by (pair_earns o) (drop m (zip trace contents))
earned_past-zip o zero [] contents = refl
earned_past-zip o (suc m) [] contents = refl
earned_past-zip o m (r ∷ later) [] =
    sum_by-nothing (earned_past o m (r ∷ later) []) (range_with_len 0 (length (r ∷ later)))
    (λ t. ap (λ b. cond b (gain_of o (request_at (r ∷ later) t)) 0) (and_right (nat_le m t && true) false refl))
    ∙ sym (none_left (pair_earns o) m (r ∷ later))
earned_past-zip o zero (r ∷ later) (held ∷ nexts) =
    sum_by-range (earned_past o 0 (r ∷ later) (held ∷ nexts)) (length later)
    ∙ omega (
      arith,
      sum_by-cons (pair_earns o) (r, held) (zip later nexts),
      ap (λ b. cond ((b && true) && holds held r) (gain_of o r) 0) (le-leb 0 0 (omega arith)),
      sum_by-agree (λ t. earned_past o 0 (r ∷ later) (held ∷ nexts) (suc t)) (earned_past o 0 later nexts) (range_with_len 0 (length later))
          (λ t. earned_past-suc o 0 0 later nexts t (le-leb 0 (suc t) (omega arith) ∙ sym (le-leb 0 t (omega arith)))),
      earned_past-zip o 0 later nexts,
    )
earned_past-zip o (suc m) (r ∷ later) (held ∷ nexts) =
    sum_by-range (earned_past o (suc m) (r ∷ later) (held ∷ nexts)) (length later)
    ∙ omega (
      arith,
      ap (λ b. cond ((b && true) && holds held r) (gain_of o r) 0) (leb-suc-zero m),
      sum_by-agree (λ t. earned_past o (suc m) (r ∷ later) (held ∷ nexts) (suc t)) (earned_past o m later nexts) (range_with_len 0 (length later))
          (λ t. earned_past-suc o (suc m) m later nexts t (leb-suc-suc m t)),
      earned_past-zip o m later nexts,
    )

-- where every request counts, the score is the sum over the requests and their contents from the warm-up on
pub score-zip : (o : Objective) (c m : ℕ) (trace : List Object) (contents : List (List Object))
    → score (terms_from o c m []) trace contents ≡ sum_by (λ (x, held). cond (holds held x) (gain_of o x) 0) (drop m (zip trace contents))
score-zip o c m trace contents = earned_past-zip o m trace contents
