-- One more request of the pass: the marks, its stack distance and the counts.
use Rattle.std.proofs.Common.{◌≡◌, ℕ, zero, suc, ◌+◌, ◌-◌, ◌<◌, ◌≤◌, ◌^◌, ◌∙◌, sym, refl, ap, subst, ⊎_elim, Bool, true, false, not, ◌||◌, cond, ltb, leb, List, [], ◌∷◌, ◌++◌, length, take, drop, set, get_or, replicate, reverse, arith, append_assoc, Some, None, count_by, sum_by, min}
use Rattle.std.specs.List.{range_with_len}
use Rattle.std.specs.Prelude.{slice_range}
use Rattle.std.proofs.lemmas.Bool.{cases_Bool, cases_lt, or_parts, le-ltb, lt-ltb, le-leb, lt-leb}
use Rattle.std.proofs.lemmas.List.{length-append, length-drop, length-replicate, length-set, length-take-le, take_more, take_all, take_at, take-append-drop, drop_more, drop-append-le, get_or-drop, get_or-take, reverse-append, set_at, set-append_left, get_or-set_same, get_or-set_other}
use Rattle.std.proofs.lemmas.List.FromFn.{length-range_with_len}
use Rattle.std.proofs.lemmas.List.Sums.{sum_by-cons, sum_by-take-le, sum_by_more, count_by-le-length}
use Rattle.cache_model.specs.declared.objects.Object.{Object}
use Rattle.cache_model.specs.Claim.{only_fills, same_object, request_at, no_object}
use Rattle.cache_model.specs.Objects.{objects_of, IsFirst, IsNext}
use Rattle.cache_model.proofs.Duality.{same_object-true}
use Rattle.cache_model.proofs.Pairs.{same_object-sym, ltb-suc}
use Rattle.cache_model.proofs.Scores.{first_or_next}
use Rattle.cache_model.proofs.Streams.{sum_by-range_agree}
use Rattle.stack_curve.specs.Counts.{latest_of, marks_at, sum_to, AreCounts}
use Rattle.stack_curve.specs.Distances.{counted_distance, earlier, since, different, stack_distance, is_within, curve_hits}
use Rattle.stack_curve.proofs.Different.{asks_for, kinds, kinds-last, kinds-reverse, asks-last, asks-reverse, asks-first, asks-next, asks-none, asks-at, different-kinds, different-since, since-here, since-other}
use Rattle.stack_curve.proofs.LruCurve.{hits-more}

-- which requests are the latest of their objects
length-latest : (xs : List Object) → length (latest_of xs) ≡ length xs
length-latest [] = refl
length-latest (x ∷ xs) = omega (arith, length-latest xs)

count-latest : (xs : List Object) → count_by (λ on. on) (latest_of xs) ≡ kinds xs
count-latest [] = refl
count-latest (x ∷ xs) = sum_by-cons (λ (on : Bool). cond on 1 0) (not (asks_for x xs)) (latest_of xs) ∙ ap (λ n. cond (not (asks_for x xs)) 1 0 + n) (count-latest xs) ∙ at (asks_for x xs) (kinds xs)
  where
    at : (b : Bool) (k : ℕ) → cond (not b) 1 0 + k ≡ cond b k (1 + k)
    at true k = omega arith
    at false k = refl

drop-latest : (n : ℕ) (xs : List Object) → drop n (latest_of xs) ≡ latest_of (drop n xs)
drop-latest zero xs = refl
drop-latest (suc n) [] = refl
drop-latest (suc n) (x ∷ xs) = drop-latest n xs

latest-new : (x : Object) (xs : List Object) → asks_for x xs ≡ false → latest_of (xs ++ x ∷ []) ≡ latest_of xs ++ true ∷ []
latest-new x [] none = refl
latest-new x (y ∷ ys) none =
    let parts : (same_object x y ≡ false) × (asks_for x ys ≡ false) = or_parts _ _ none in
    ap (λ b. not b ∷ latest_of (ys ++ x ∷ [])) (asks-last y x ys ∙ ap (λ b. asks_for y ys || b) (same_object-sym y x ∙ parts.0) ∙ or_false (asks_for y ys))
    ∙ ap (λ bs. not (asks_for y ys) ∷ bs) (latest-new x ys parts.1)
  where
    or_false : (b : Bool) → (b || false) ≡ b
    or_false true = refl
    or_false false = refl

or_true : (b : Bool) → (b || true) ≡ true
or_true true = refl
or_true false = refl

latest-again : (x : Object) (xs : List Object) (a : ℕ) → a < length xs → same_object x (request_at xs a) ≡ true → asks_for x (drop (suc a) xs) ≡ false
    → latest_of (xs ++ x ∷ []) ≡ set (latest_of xs) a false ++ true ∷ []
latest-again x [] a within same later = absurd (omega arith)
latest-again x (y ∷ ys) zero within same later =
    ap (λ b. not b ∷ latest_of (ys ++ x ∷ [])) (asks-last y x ys ∙ ap (λ b. asks_for y ys || b) (same_object-sym y x ∙ same) ∙ or_true (asks_for y ys))
    ∙ ap (λ bs. false ∷ bs) (latest-new x ys later)
latest-again x (y ∷ ys) (suc a) within same later =
    ap (λ b. not b ∷ latest_of (ys ++ x ∷ []))
    (⊎_elim
    (λ (here : same_object y x ≡ true).
    let e : y ≡ x = same_object-true y x here in
    let there : asks_for y ys ≡ true = ap (λ z. asks_for z ys) e ∙ asks-at x ys a (omega arith) same in
    asks-last y x ys ∙ ap (λ b. b || same_object y x) there ∙ sym there)
    (λ (other : same_object y x ≡ false). asks-last y x ys ∙ ap (λ b. asks_for y ys || b) other ∙ or_false (asks_for y ys))
    (cases_Bool (same_object y x)))
    ∙ ap (λ bs. not (asks_for y ys) ∷ bs) (latest-again x ys a (omega arith) same later)
  where
    or_false : (b : Bool) → (b || false) ≡ b
    or_false true = refl
    or_false false = refl

-- the requests after the latest one for x
since-seam : (x y : Object) (ms ns : List Object) → asks_for x ms ≡ false → same_object x y ≡ true → since x (ms ++ y ∷ ns) ≡ ms
since-seam x y [] ns none same = since-here x y ns same
since-seam x y (m ∷ ms) ns none same =
    let parts : (same_object x m ≡ false) × (asks_for x ms ≡ false) = or_parts _ _ none in
    since-other x m (ms ++ y ∷ ns) parts.0 ∙ ap (λ zs. m ∷ zs) (since-seam x y ms ns parts.1 same)

-- a count goes up by one
sum_take-raised : (counts : List ℕ) (d k : ℕ) → d < length counts
    → sum_by (λ n. n) (take k (set counts d (get_or counts d 0 + 1))) ≡ sum_by (λ n. n) (take k counts) + cond (ltb d k) 1 0
sum_take-raised [] d k within = absurd (omega arith)
sum_take-raised (c ∷ cs) d zero within = omega (arith, ap {B = ℕ} (λ b. cond b 1 0) (le-ltb d 0 (omega arith)))
sum_take-raised (c ∷ cs) zero (suc k) within =
    omega (arith, sum_by-cons (λ (n : ℕ). n) (c + 1) (take k cs), sum_by-cons (λ (n : ℕ). n) c (take k cs), ap {B = ℕ} (λ b. cond b 1 0) (lt-ltb 0 (suc k) (omega arith)))
sum_take-raised (c ∷ cs) (suc d) (suc k) within =
    omega (
      arith,
      sum_by-cons (λ (n : ℕ). n) c (take k (set cs d (get_or cs d 0 + 1))),
      sum_by-cons (λ (n : ℕ). n) c (take k cs),
      sum_take-raised cs d k (omega arith),
      ap {B = ℕ} (λ b. cond b 1 0) (ltb-suc d k),
    )

kinds-drop : (n : ℕ) (xs : List Object) → kinds (drop n xs) ≤ kinds xs
kinds-drop zero xs = omega arith
kinds-drop (suc n) [] = omega arith
kinds-drop (suc n) (x ∷ xs) = at (asks_for x xs) (kinds-drop n xs)
  where
    at : (b : Bool) → kinds (drop n xs) ≤ kinds xs → kinds (drop n xs) ≤ cond b (kinds xs) (1 + kinds xs)
    at true few = few
    at false few = omega arith

module _ (trace : List Object) where
  kinds-more : (t : ℕ) → t < length trace → kinds (take t trace) ≤ kinds (take (t + 1) trace)
  kinds-more t within =
      subst (λ xs. kinds (take t trace) ≤ kinds xs) (sym (take_more trace t no_object within))
      (subst (λ n. kinds (take t trace) ≤ n) (sym (kinds-last (take t trace) (request_at trace t))) (at (asks_for (request_at trace t) (take t trace))))
    where
      at : (b : Bool) → kinds (take t trace) ≤ cond b (kinds (take t trace)) (1 + kinds (take t trace))
      at true = omega arith
      at false = omega arith

  kinds-all : (n t : ℕ) → t + n ≡ length trace → kinds (take t trace) ≤ different trace
  kinds-all zero t end = omega (arith, ap kinds (take_all t trace (omega arith)), different-kinds trace)
  kinds-all (suc n) t end = omega (arith, kinds-more t (omega arith), kinds-all n (t + 1) (omega arith))

  -- the marks
  pub marks-start : (marks : List Bool) (n : ℕ) → n ≡ length trace → marks ≡ replicate n false → marks ≡ marks_at trace 0
  marks-start marks n end none = let e : n ≡ length trace - 0 = omega arith in none ∙ ap (λ k. replicate k false) e

  pub length-marks : (t : ℕ) → t ≤ length trace → length (marks_at trace t) ≡ length trace
  length-marks t within =
      omega (arith, length-append (latest_of (take t trace)) (replicate (length trace - t) false), length-latest (take t trace), length-take-le t trace within, length-replicate (length trace - t) false)

  module _ (t : ℕ) (within : t < length trace) where
    past : List Object
    past = take t trace

    unmarked : replicate (length trace - t) false ≡ false ∷ replicate (length trace - (t + 1)) false
    unmarked = let e : length trace - t ≡ suc (length trace - (t + 1)) = omega arith in ap (λ n. replicate n false) e

    mark_own : (marks : List Bool) → length marks ≡ t → set (marks ++ replicate (length trace - t) false) t true ≡ (marks ++ true ∷ []) ++ replicate (length trace - (t + 1)) false
    mark_own marks long =
        ap (λ bs. set (marks ++ bs) t true) unmarked
        ∙ set_at marks false (replicate (length trace - (t + 1)) false) true t long
        ∙ sym (append_assoc marks (true ∷ []) (replicate (length trace - (t + 1)) false))

    -- a request of a new object is marked
    pub marks-new : IsFirst trace t → set (marks_at trace t) t true ≡ marks_at trace (t + 1)
    marks-new first =
        mark_own (latest_of (take t trace)) (length-latest (take t trace) ∙ length-take-le t trace (omega arith))
        ∙ ap (λ bs. bs ++ replicate (length trace - (t + 1)) false) (sym (latest-new (request_at trace t) (take t trace) (asks-first trace t within first)) ∙ ap latest_of (sym (take_more trace t no_object within)))

    module _ (a : ℕ) (next : IsNext trace a t) where
      -- both requests are for one object
      pub same-latest : same_object (request_at trace t) (request_at (take t trace) a) ≡ true
      same-latest = let low : a < t = next.before in ap (same_object (request_at trace t)) (get_or-take t trace a no_object low) ∙ same_object-sym (request_at trace t) (request_at trace a) ∙ next.same

      latest : request_at trace t ≡ request_at trace a
      latest = sym (same_object-true (request_at trace a) (request_at trace t) next.same)

      -- no request between them is
      pub none-later : asks_for (request_at trace t) (drop (a + 1) (take t trace)) ≡ false
      none-later =
          let low : a < t = next.before in
          let short : length (take t trace) ≡ t = length-take-le t trace (omega arith) in
          asks-none (request_at trace t) (drop (a + 1) (take t trace)) (λ k inside.
          let place : ℕ = a + 1 + k in
          let bound : k < t - (a + 1) = omega (arith, length-drop (a + 1) (take t trace)) in
          ap (same_object (request_at trace t)) (get_or-drop (a + 1) (take t trace) k no_object ∙ get_or-take t trace place no_object (omega arith))
          ∙ ap (λ y. same_object y (request_at trace place)) latest
          ∙ next.others place (omega arith) (omega arith))

      -- the mark of the object moves
      pub marks-again : set (set (marks_at trace t) a false) t true ≡ marks_at trace (t + 1)
      marks-again =
          let low : a < t = next.before in
          let long : length (latest_of (take t trace)) ≡ t = length-latest (take t trace) ∙ length-take-le t trace (omega arith) in
          ap (λ bs. set bs t true) (set-append_left (latest_of (take t trace)) (replicate (length trace - t) false) a false (omega arith))
          ∙ mark_own (set (latest_of (take t trace)) a false) (length-set (latest_of (take t trace)) a false ∙ long)
          ∙ ap (λ bs. bs ++ replicate (length trace - (t + 1)) false)
          (sym (latest-again (request_at trace t) (take t trace) a (omega (arith, length-take-le t trace (omega arith))) same-latest (let e : suc a ≡ a + 1 = omega arith in ap (λ n. asks_for (request_at trace t) (drop n (take t trace))) e ∙ none-later)) ∙ ap latest_of (sym (take_more trace t no_object within)))

      -- the marks between two requests
      pub between : count_by (λ on. on) (slice_range (marks_at trace t) (a + 1) t) ≡ kinds (drop (a + 1) (take t trace))
      between =
          let low : a < t = next.before in
          let long : length (latest_of (take t trace)) ≡ t = length-latest (take t trace) ∙ length-take-le t trace (omega arith) in
          ap (λ bs. count_by (λ on. on) (take (t - (a + 1)) bs)) (drop-append-le (a + 1) (latest_of (take t trace)) (replicate (length trace - t) false) (omega arith))
          ∙ ap (count_by (λ on. on)) (take_at (drop (a + 1) (latest_of (take t trace))) (replicate (length trace - t) false) (t - (a + 1)) (omega (arith, length-drop (a + 1) (latest_of (take t trace)))))
          ∙ ap (count_by (λ on. on)) (drop-latest (a + 1) (take t trace))
          ∙ count-latest (drop (a + 1) (take t trace))

      -- the requests from the latest one of the object on
      pub cut-latest : drop a (take t trace) ≡ request_at (take t trace) a ∷ drop (a + 1) (take t trace)
      cut-latest = let low : a < t = next.before in drop_more (take t trace) a no_object (omega (arith, length-take-le t trace (omega arith)))

      -- the requests after the latest one of the object
      pub since-latest : since (request_at trace t) (earlier trace t) ≡ reverse (drop (a + 1) (take t trace))
      since-latest =
          let x : Object = request_at trace t in
          let y : Object = request_at (take t trace) a in
          let rest : List Object = drop (a + 1) (take t trace) in
          ap (λ xs. since x (reverse xs)) (sym (take-append-drop a (take t trace)) ∙ ap (λ xs. take a (take t trace) ++ xs) cut-latest)
          ∙ ap (since x) (reverse-append (take a (take t trace)) (y ∷ rest))
          ∙ ap (λ xs. since x (xs ++ reverse (take a (take t trace)))) (reverse-append (y ∷ []) rest)
          ∙ ap (since x) (append_assoc (reverse rest) (y ∷ []) (reverse (take a (take t trace))))
          ∙ since-seam x y (reverse rest) (reverse (take a (take t trace))) (asks-reverse x rest ∙ none-later) same-latest

      -- the stack distance
      pub distance : stack_distance trace t ≡ Some (1 + kinds (drop (a + 1) (take t trace)))
      distance =
          let x : Object = request_at trace t in
          ap (λ b. cond b (Some (different (x ∷ since x (earlier trace t)))) None) (asks-reverse x (take t trace) ∙ asks-next trace a t within next)
          ∙ ap Some (different-since x (earlier trace t) ∙ ap (λ xs. 1 + kinds xs) since-latest ∙ ap (λ n. 1 + n) (kinds-reverse (drop (a + 1) (take t trace))))

      pub distance-few : 1 + kinds (drop (a + 1) (take t trace)) ≤ length (objects_of trace)
      distance-few =
          let y : Object = request_at (take t trace) a in
          let rest : List Object = drop (a + 1) (take t trace) in
          let e : request_at trace t ≡ y = same_object-true (request_at trace t) y same-latest in
          omega (
            arith,
            kinds-drop a (take t trace),
            ap kinds cut-latest,
            ap (λ b. cond b (kinds rest) (1 + kinds rest)) (ap (λ z. asks_for z rest) (sym e) ∙ none-later),
            kinds-all (length trace - t) t (omega arith),
          )

    pub no_distance : IsFirst trace t → stack_distance trace t ≡ None
    no_distance first = ap (λ b. cond b (Some (different (request_at trace t ∷ since (request_at trace t) (earlier trace t)))) None) (asks-reverse (request_at trace t) (take t trace) ∙ asks-first trace t within first)

    -- the counts
    pub counted-none : (fills : List Bool) (counts : List ℕ) → counted_distance trace fills t ≡ None → AreCounts trace fills t counts → AreCounts trace fills (t + 1) counts
    counted-none fills counts none so_far = record {
      places = so_far.places;
      sums = λ k low. omega (arith, so_far.sums k low, hits-more trace fills k t, ap {B = ℕ} (λ o. cond (is_within k o) 1 0) none);
    }

    pub counted-some : (fills : List Bool) (counts : List ℕ) (d : ℕ) → d ≤ length (objects_of trace) → counted_distance trace fills t ≡ Some d → AreCounts trace fills t counts
        → AreCounts trace fills (t + 1) (set counts d (get_or counts d 0 + 1))
    counted-some fills counts d few some so_far = record {
      places = length-set counts d (get_or counts d 0 + 1) ∙ so_far.places;
      sums = λ k low. omega (
        arith,
        sum_take-raised counts d (k + 1) (omega (arith, so_far.places)),
        so_far.sums k (omega (arith, length-set counts d (get_or counts d 0 + 1))),
        hits-more trace fills k t,
        ap {B = ℕ} (λ o. cond (is_within k o) 1 0) some,
        one d k,
      );
    }
      where
        one : (m k : ℕ) → cond {A = ℕ} (ltb m (k + 1)) 1 0 ≡ cond (leb m k) 1 0
        one m k =
            ⊎_elim
            (λ (more : k < m). ap {B = ℕ} (λ b. cond b 1 0) (le-ltb m (k + 1) (omega arith)) ∙ sym (ap {B = ℕ} (λ b. cond b 1 0) (lt-leb m k more)))
            (λ (less : m ≤ k). ap {B = ℕ} (λ b. cond b 1 0) (lt-ltb m (k + 1) (omega arith)) ∙ sym (ap {B = ℕ} (λ b. cond b 1 0) (le-leb m k less)))
            (cases_lt k m)

    pub count-fits : (fills : List Bool) (counts : List ℕ) (d : ℕ) → d ≤ length (objects_of trace) → AreCounts trace fills t counts → get_or counts d 0 ≤ t
    count-fits fills counts d few so_far =
        omega (
          arith,
          so_far.sums d (omega (arith, so_far.places)),
          sum_by_more (λ (n : ℕ). n) counts d 0 (omega (arith, so_far.places)),
          count_by-le-length (λ u. is_within d (counted_distance trace fills u)) (range_with_len 0 t),
          length-range_with_len 0 t,
        )

  sum_zeros : (n : ℕ) → sum_by (λ c. c) (replicate n 0) ≡ 0
  sum_zeros zero = refl
  sum_zeros (suc n) = omega (arith, sum_by-cons (λ (c : ℕ). c) 0 (replicate n 0), sum_zeros n)

  pub counts-start : (fills : List Bool) (counts : List ℕ) (objects : ℕ) → objects ≡ length (objects_of trace) → counts ≡ replicate (objects + 1) 0 → AreCounts trace fills 0 counts
  counts-start fills counts objects all none = record {
    places = omega (arith, ap length none, length-replicate {A = ℕ} (objects + 1) 0);
    sums = λ k low. omega (arith, sum_by-take-le (λ (c : ℕ). c) counts (k + 1), ap (sum_by (λ c. c)) none, sum_zeros (objects + 1));
  }

  -- no distance passes the number of objects
  clipped : (slots t : ℕ) → t < length trace → length (objects_of trace) ≤ slots → is_within (length (objects_of trace)) (stack_distance trace t) ≡ is_within slots (stack_distance trace t)
  clipped slots t within all =
      ⊎_elim
      (λ (first : IsFirst trace t).
      ap (is_within (length (objects_of trace))) (no_distance t within first) ∙ sym (ap (is_within slots) (no_distance t within first)))
      (λ (again : (a : ℕ) × IsNext trace a t).
      let d : ℕ = 1 + kinds (drop (again.0 + 1) (take t trace)) in
      let few : d ≤ length (objects_of trace) = distance-few t within again.0 again.1 in
      ap (is_within (length (objects_of trace))) (distance t within again.0 again.1) ∙ le-leb d (length (objects_of trace)) few
      ∙ sym (ap (is_within slots) (distance t within again.0 again.1) ∙ le-leb d slots (omega arith)))
      (first_or_next trace t within)

  counted-clipped : (fills : List Bool) (slots t : ℕ) → t < length trace → length (objects_of trace) ≤ slots
      → is_within (length (objects_of trace)) (counted_distance trace fills t) ≡ is_within slots (counted_distance trace fills t)
  counted-clipped fills slots t within all = at (only_fills fills t)
    where
      at : (b : Bool) → is_within (length (objects_of trace)) (cond b None (stack_distance trace t)) ≡ is_within slots (cond b None (stack_distance trace t))
      at true = refl
      at false = clipped slots t within all

  pub curve-clipped : (fills : List Bool) (slots : ℕ) → curve_hits trace fills (min slots (length (objects_of trace))) ≡ curve_hits trace fills slots
  curve-clipped fills slots =
      ⊎_elim
      (λ (few : slots < length (objects_of trace)). let e : min slots (length (objects_of trace)) ≡ slots = omega arith in ap (curve_hits trace fills) e)
      (λ (all : length (objects_of trace) ≤ slots).
      let e : min slots (length (objects_of trace)) ≡ length (objects_of trace) = omega arith in
      ap (curve_hits trace fills) e
      ∙ sum_by-range_agree (λ t. cond (is_within (length (objects_of trace)) (counted_distance trace fills t)) 1 0) (λ t. cond (is_within slots (counted_distance trace fills t)) 1 0) 0 (length trace)
      (λ t low high. ap {B = ℕ} (λ b. cond b 1 0) (counted-clipped fills slots t (omega arith) all)))
      (cases_lt slots (length (objects_of trace)))

-- each count becomes the sum of those up to it
pub record IsSummed (counts sums : List ℕ) (k : ℕ) : Type 0 where
  pub places : length sums ≡ length counts
  pub before : (j : ℕ) → j < k → j < length counts → get_or sums j 0 ≡ sum_to counts j
  pub after : (j : ℕ) → k ≤ j → get_or sums j 0 ≡ get_or counts j 0

pub summed-start : (counts : List ℕ) → IsSummed counts counts 1
summed-start counts = record {
  places = refl;
  before = λ j low within. let e : j ≡ 0 = omega arith in rw e (omega (arith, sum_by_more (λ (n : ℕ). n) counts 0 0 (omega arith)));
  after = λ j low. refl;
}

pub sum-next : (counts sums : List ℕ) (k : ℕ) → 1 ≤ k → k < length counts → IsSummed counts sums k → get_or sums k 0 + get_or sums (k - 1) 0 ≡ sum_to counts k
sum-next counts sums k low within so_far =
    let e : k - 1 + 1 ≡ k = omega arith in
    omega (
      arith,
      so_far.after k (omega arith),
      so_far.before (k - 1) (omega arith) (omega arith),
      ap (λ n. sum_by (λ c. c) (take n counts)) e,
      sum_by_more (λ (n : ℕ). n) counts k 0 within,
    )

pub summed-fits : (counts sums : List ℕ) (k : ℕ) → 1 ≤ k → k < length counts → sum_by (λ c. c) counts < 2 ^ 32 → IsSummed counts sums k → get_or sums k 0 + get_or sums (k - 1) 0 < 2 ^ 32
summed-fits counts sums k low within small so_far = omega (arith, sum-next counts sums k low within so_far, sum_by-take-le (λ (c : ℕ). c) counts (k + 1))

pub summed-next : (counts sums : List ℕ) (k : ℕ) → 1 ≤ k → k < length counts → IsSummed counts sums k → IsSummed counts (set sums k (get_or sums k 0 + get_or sums (k - 1) 0)) (k + 1)
summed-next counts sums k low within so_far =
    let new : ℕ = get_or sums k 0 + get_or sums (k - 1) 0 in
    record {
      places = length-set sums k new ∙ so_far.places;
      before = λ j less inside.
          ⊎_elim
          (λ (early : j < k). get_or-set_other sums k j new 0 (omega arith) ∙ so_far.before j early inside)
          (λ (late : k ≤ j). let e : k ≡ j = omega arith in
          subst (λ i. get_or (set sums k new) i 0 ≡ sum_to counts i) e (get_or-set_same sums k new 0 (omega (arith, so_far.places)) ∙ sum-next counts sums k low within so_far))
          (cases_lt j k);
      after = λ j more. get_or-set_other sums k j new 0 (omega arith) ∙ so_far.after j (omega arith);
    }

-- what the marks tell of a request
pub distance_of : (trace : List Object) (t a count : ℕ) (marks : List Bool) → t < length trace → IsNext trace a t → marks ≡ marks_at trace t
    → count ≡ count_by (λ on. on) (slice_range marks (a + 1) t) → (stack_distance trace t ≡ Some (count + 1)) × (count + 1 ≤ length (objects_of trace))
distance_of trace t a count marks within next marked counted =
    let k : ℕ = kinds (drop (a + 1) (take t trace)) in
    let here : count ≡ k = counted ∙ ap (λ bs. count_by (λ on. on) (slice_range bs (a + 1) t)) marked ∙ between trace t within a next in
    let more : 1 + k ≡ count + 1 = omega arith in
    (distance trace t within a next ∙ ap Some more, omega (arith, distance-few trace t within a next))

pub marks-long : (trace : List Object) (t : ℕ) (marks : List Bool) → t ≤ length trace → marks ≡ marks_at trace t → length marks ≡ length trace
marks-long trace t marks within marked = ap length marked ∙ length-marks trace t within
