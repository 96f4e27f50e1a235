-- The load of the contents of keeps is the load of the intervals that are taken; rounded keeps are maximal.
use Rattle.std.proofs.Common.{◌≡◌, ℕ, suc, zero, ◌+◌, ◌-◌, ◌<◌, ◌≤◌, ◌∙◌, sym, refl, ap, subst, Bool, true, false, not, ◌&&◌, ◌||◌, ◌==◌, cond, nat_lt, nat_le, List, [], ◌∷◌, length, arith, ⊎_elim, All, Any, sum_by, zip, filter, get_or, slice_range}
use Rattle.std.specs.List.{range_with_len, list_any, list_all, AllZip}
use Rattle.std.proofs.lemmas.Bool.{cases_Bool, cases_lt, and_left, and_right, and_from, lt-ltb, le-ltb, le-leb, lt-leb, leb-false, eqb-true, or_left, or_right, or_parts, and_cases, true≢false}
use Rattle.std.proofs.lemmas.List.Folds.{Any-from_list_any}
use Rattle.std.proofs.lemmas.List.Elements.{All-head, All-tail, All-nil, All-cons}
use Rattle.std.proofs.lemmas.List.Sums.{sum_by-cons}
use Rattle.cache_model.specs.declared.objects.Object.{Object}
use Rattle.cache_model.specs.declared.intervals.Interval.{Interval}
use Rattle.cache_model.specs.Claim.{Terms, counts, same_object, total_size, request_at, no_object, is_kept, is_held, held_before}
use Rattle.cache_model.specs.Intervals.{interval_of, eligible_from, eligible_intervals}
use Rattle.cache_model.specs.Objects.{IsNext}
use Rattle.cache_model.specs.Schedules.{covers}
use Rattle.cache_model.specs.Rounding.{load_beside, fits_beside, IsRounded, taken_load, IsMaximal}
use Rattle.cache_model.specs.Laws.{IsEligible}
use Rattle.cache_model.proofs.Sums.{sum_by-map, sum_by-filter, sum_by-flat_map}
use Rattle.cache_model.proofs.Streams.{sum_by-range_agree, sum_by-range_last}
use Rattle.cache_model.proofs.Eligible.{eligible_from_one, list_any-range_false, list_any-range_true}
use Rattle.cache_model.proofs.Members.{All-eligible_from, All-eligible_intervals}

-- what is 0 at each element sums to 0
pub sum_by-none : {X : Type 0} (f : X → ℕ) (xs : List X) → All (λ x. f x ≡ 0) xs → sum_by f xs ≡ 0
sum_by-none f [] none = refl
sum_by-none f (x ∷ xs) none = omega (arith, sum_by-cons f x xs, All-head (λ x. f x ≡ 0) x xs none, sum_by-none f xs (All-tail (λ x. f x ≡ 0) x xs none))

-- a sum that ends early
pub sum_by-range_upto : (f : ℕ → ℕ) (m k : ℕ) → ((a : ℕ) → m ≤ a → f a ≡ 0) → sum_by f (range_with_len 0 (m + k)) ≡ sum_by f (range_with_len 0 m)
sum_by-range_upto f m zero none = let e : m + 0 ≡ m = omega arith in ap (λ j. sum_by f (range_with_len 0 j)) e
sum_by-range_upto f m (suc k) none =
    let e : m + suc k ≡ suc (m + k) = omega arith in
    ap (λ j. sum_by f (range_with_len 0 j)) e
    ∙ omega (arith, sum_by-range_last f (m + k), none (m + k) (omega arith), sum_by-range_upto f m k none)

module _ (terms : Terms) (trace : List Object) (keeps : List Bool) (t : ℕ) where
  -- what an interval adds to the load of step t
  share : Interval → ℕ
  share i = cond (covers t i && is_kept keeps i.start) i.size 0

  held_share : ℕ → ℕ
  held_share a = cond (is_held trace keeps (t + 1) a) (request_at trace a).size 0

  not_kept : (a : ℕ) → is_kept keeps a ≡ false → held_share a ≡ sum_by share (eligible_from terms trace a)
  unfolding share held_share
  not_kept a e =
      ap (λ s. cond s (request_at trace a).size 0) (and_left _ _ e)
      ∙ sym (sum_by-none share (eligible_from terms trace a)
      (λ k d lt. let i : Interval = get_or (eligible_from terms trace a) k d in let from : i.start ≡ a = (All-eligible_from terms trace a k d lt).1 in
      ap (λ s. cond s i.size 0) (and_right (covers t i) _ (ap (is_kept keeps) from ∙ e))))

  kept : (a b : ℕ) → a ≤ t → t < length trace → IsNext trace a b → (request_at trace a).size ≤ terms.capacity → counts terms b ≡ true → is_kept keeps a ≡ true
      → held_share a ≡ sum_by share (eligible_from terms trace a)
  unfolding share held_share
  kept a b low high n fits counted e =
      let size : ℕ = (request_at trace a).size in
      let i : Interval = interval_of terms.objective trace a b in
      let of_start : eligible_from terms trace a ≡ i ∷ [] = eligible_from_one terms trace a b n fits counted in
      let one : sum_by share (eligible_from terms trace a) ≡ cond (covers t i && is_kept keeps a) size 0 = ap (sum_by share) of_start ∙ (omega (arith, sum_by-cons share i [])) in
      let p : Object → Bool = same_object (request_at trace a) in
      ⊎_elim
      (λ (before : t < b).
      let none : list_any p (slice_range trace (a + 1) (t + 1)) ≡ false =
      list_any-range_false p trace no_object (a + 1) (t + 1) (omega arith) (λ k l h. n.others k (omega arith) (omega arith)) in
      ap (λ s. cond s size 0) (and_from _ _ e (ap not none))
      ∙ sym (one ∙ ap (λ s. cond s size 0) (and_from _ _ (and_from _ _ (le-leb a t low) (lt-ltb t b before)) e)))
      (λ (after : b ≤ t).
      let again : list_any p (slice_range trace (a + 1) (t + 1)) ≡ true =
      list_any-range_true p trace no_object (a + 1) (t + 1) b (let l : a < b = n.before in omega arith) (omega arith) (omega arith) n.same in
      ap (λ s. cond s size 0) (and_right _ _ (ap not again))
      ∙ sym (one ∙ ap (λ s. cond s size 0) (and_left _ _ (and_right _ _ (le-ltb t b after)))))
      (cases_lt t b)

  each_share : ((a : ℕ) → list_any (λ i. i.start == a) (eligible_intervals terms trace) ≡ false → is_kept keeps a ≡ false)
      → t < length trace → (a : ℕ) → a ≤ t → held_share a ≡ sum_by share (eligible_from terms trace a)
  each_share only high a low =
      ⊎_elim
      (λ (starts : list_any (λ i. i.start == a) (eligible_intervals terms trace) ≡ true).
      ⊎_elim
      (λ (e : is_kept keeps a ≡ true). found e (Any-from_list_any (λ i. i.start == a) (eligible_intervals terms trace) starts))
      (λ (e : is_kept keeps a ≡ false). not_kept a e)
      (cases_Bool (is_kept keeps a)))
      (λ (none : list_any (λ i. i.start == a) (eligible_intervals terms trace) ≡ false). not_kept a (only a none))
      (cases_Bool (list_any (λ i. i.start == a) (eligible_intervals terms trace)))
    where
      found : is_kept keeps a ≡ true → Any (λ i. (i.start == a) ≡ true) (eligible_intervals terms trace) → held_share a ≡ sum_by share (eligible_from terms trace a)
      found e (k, i, lt, at, starts) =
          let el : IsEligible terms trace i = subst (IsEligible terms trace) at (All-eligible_intervals terms trace k i lt) in
          let here : i.start ≡ a = eqb-true i.start a starts in
          kept a i.end low high (subst (λ j. IsNext trace j i.end) here el.next) (subst (λ j. (request_at trace j).size ≤ terms.capacity) here el.fits) el.counts e

  later_share : (a : ℕ) → t + 1 ≤ a → sum_by share (eligible_from terms trace a) ≡ 0
  unfolding share
  later_share a late =
      sum_by-none share (eligible_from terms trace a)
      (λ k d lt. let i : Interval = get_or (eligible_from terms trace a) k d in let from : i.start ≡ a = (All-eligible_from terms trace a k d lt).1 in
      ap (λ s. cond s i.size 0) (and_left _ _ (and_left _ _ (lt-leb i.start t (omega arith)))))

  -- the contents after request t hold what the intervals that are taken hold over step t
  pub held-load : ((a : ℕ) → list_any (λ i. i.start == a) (eligible_intervals terms trace) ≡ false → is_kept keeps a ≡ false)
      → t < length trace → total_size (held_before trace keeps (t + 1)) ≡ taken_load (eligible_intervals terms trace) keeps t
  unfolding share held_share
  held-load only high =
      let of_start : ℕ → ℕ = λ a. sum_by share (eligible_from terms trace a) in
      let size : length trace ≡ (t + 1) + (length trace - (t + 1)) = omega arith in
      sum_by-map (λ (x : Object). x.size) (request_at trace) (filter (is_held trace keeps (t + 1)) (range_with_len 0 (t + 1)))
      ∙ sum_by-filter (λ a. (request_at trace a).size) (is_held trace keeps (t + 1)) (range_with_len 0 (t + 1))
      ∙ sum_by-range_agree held_share of_start 0 (t + 1) (λ a low lt. each_share only high a (omega arith))
      ∙ sym (sum_by-range_upto of_start (t + 1) (length trace - (t + 1)) later_share)
      ∙ ap (λ n. sum_by of_start (range_with_len 0 n)) (sym size)
      ∙ sym (sum_by-flat_map share (eligible_from terms trace) (range_with_len 0 (length trace)))

-- ---- rounded keeps are maximal

-- a test fails at some number of a list where another then passes
list_any-from_not_all : (p q : ℕ → Bool) (xs : List ℕ) → ((x : ℕ) → p x ≡ false → q x ≡ true) → list_all p xs ≡ false → list_any q xs ≡ true
list_any-from_not_all p q [] turns h = absurd (true≢false h)
list_any-from_not_all p q (x ∷ xs) turns h =
    ⊎_elim (λ (e : p x ≡ false). or_left (q x) _ (turns x e)) (λ (e : list_all p xs ≡ false). or_right (q x) _ (list_any-from_not_all p q xs turns e)) (and_cases (p x) (list_all p xs) h)

load_beside-le : (ahead : Interval → Interval → Bool) (keeps : List Bool) (i : Interval) (t : ℕ) (intervals : List Interval) (full : List Bool) → AllZip (λ j flagged. flagged ≡ true → is_kept keeps j.start ≡ true) intervals full
    → load_beside ahead intervals full keeps i t ≤ taken_load intervals keeps t
load_beside-le ahead keeps i t [] full flagged = omega arith
load_beside-le ahead keeps i t (j ∷ intervals) [] flagged = absurd flagged
load_beside-le ahead keeps i t (j ∷ intervals) (f ∷ full) flagged =
    omega (
      arith,
      load_beside-le ahead keeps i t intervals full flagged.1,
      sum_by-cons (λ (j, flagged). cond (covers t j && (flagged || (ahead j i && is_kept keeps j.start))) j.size 0) (j, f) (zip intervals full),
      sum_by-cons (λ (j : Interval). cond (covers t j && is_kept keeps j.start) j.size 0) j intervals,
      at (covers t j) f (ahead j i) (is_kept keeps j.start) flagged.0,
    )
  where
    at : (covered flag earlier kept : Bool) → (flag ≡ true → kept ≡ true) → cond (covered && (flag || (earlier && kept))) j.size 0 ≤ cond (covered && kept) j.size 0
    at false flag earlier kept h = omega arith
    at true true earlier kept h = let e : cond kept j.size 0 ≡ j.size = ap (λ s. cond s j.size 0) (h refl) in omega arith
    at true false true kept h = omega arith
    at true false false kept h = omega arith

AllZip-first : {A B : Type 0} (R : A → B → Type 0) (P : A → Type 0) → ((a : A) (b : B) → R a b → P a) → (xs : List A) (ys : List B) → AllZip R xs ys → All P xs
AllZip-first R P f [] [] h = All-nil P
AllZip-first R P f [] (y ∷ ys) h = absurd h
AllZip-first R P f (x ∷ xs) [] h = absurd h
AllZip-first R P f (x ∷ xs) (y ∷ ys) h = All-cons P x xs (f x y h.0) (AllZip-first R P f xs ys h.1)

AllZip-weaker : {A B : Type 0} (R S : A → B → Type 0) → ((a : A) (b : B) → R a b → S a b) → (xs : List A) (ys : List B) → AllZip R xs ys → AllZip S xs ys
AllZip-weaker R S f [] [] h = tt
AllZip-weaker R S f [] (y ∷ ys) h = h
AllZip-weaker R S f (x ∷ xs) [] h = h
AllZip-weaker R S f (x ∷ xs) (y ∷ ys) h = (f x y h.0, AllZip-weaker R S f xs ys h.1)

pub rounded_is_maximal : (ahead : Interval → Interval → Bool) (intervals : List Interval) (capacity steps : ℕ) (full keeps : List Bool) → IsRounded ahead intervals capacity steps full keeps → IsMaximal intervals capacity keeps
rounded_is_maximal ahead intervals capacity steps full keeps r =
    let flagged : AllZip (λ j flag. flag ≡ true → is_kept keeps j.start ≡ true) intervals full =
    AllZip-weaker (λ i flag. is_kept keeps i.start ≡ (flag || fits_beside ahead intervals capacity full keeps i)) (λ j flag. flag ≡ true → is_kept keeps j.start ≡ true)
    (λ i flag e h. e ∙ or_left flag _ h) intervals full r.taken in
    AllZip-first (λ i flag. is_kept keeps i.start ≡ (flag || fits_beside ahead intervals capacity full keeps i))
    (λ i. is_kept keeps i.start ≡ false → list_any (λ t. nat_lt capacity (i.size + taken_load intervals keeps t)) (range_with_len i.start (i.end - i.start)) ≡ true)
    (λ i flag e no_keep.
    list_any-from_not_all (λ t. nat_le (i.size + load_beside ahead intervals full keeps i t) capacity) (λ t. nat_lt capacity (i.size + taken_load intervals keeps t))
    (range_with_len i.start (i.end - i.start))
    (λ t over. lt-ltb capacity (i.size + taken_load intervals keeps t)
    (omega (arith, leb-false (i.size + load_beside ahead intervals full keeps i t) capacity over, load_beside-le ahead keeps i t intervals full flagged)))
    (or_parts flag _ (sym e ∙ no_keep)).1)
    intervals full r.taken
