-- The first request that has a flow it may not have, as the least of the latest requests with a flow.
use Rattle.std.proofs.Common.{◌≡◌, ℕ, suc, zero, ◌+◌, ◌<◌, ◌≤◌, ◌∙◌, sym, refl, ap, subst, Bool, true, false, not, ◌&&◌, cond, nat_lt, min, List, [], ◌∷◌, length, map, filter, find, fold, get_or, arith, All, None, Some, ⊎_elim, ◌⊎◌, inl, inr, is_some, true≢false, unwrap_or}
use Rattle.std.specs.Prelude.{MatchOption}
use Rattle.std.specs.declared.option.Option.{Option}
use Rattle.std.proofs.lemmas.Map.Keys.{IsDistinct-head, IsDistinct-tail}
use Rattle.std.proofs.lemmas.Map.Entries.{lookup_head, lookup_tail}
use Rattle.std.specs.List.{AllByRecursion, IsDistinct, range_with_len, reduce}
use Rattle.std.specs.Map.{keys_of, lookup, values_of}
use Rattle.std.proofs.lemmas.Bool.{and_from, and_parts, both_ways, cases_Bool, cases_lt, cases_eq}
use Rattle.std.proofs.lemmas.List.Elements.{All-cons, All-head, All-tail, All-nil, All-weaker}
use Rattle.cache_model.specs.declared.objects.Object.{Object}
use Rattle.cache_model.specs.declared.certificates.Header.{Header}
use Rattle.cache_model.specs.declared.certificates.Record.{Record}
use Rattle.cache_model.specs.Claim.{same_object, request_at, no_object, is_latest}
use Rattle.cache_model.specs.Objects.{IsNew}
use Rattle.cache_model.specs.Certificates.{flow_at}
use Rattle.cache_model.proofs.Duality.{same_object-true, same_object-refl}
use Rattle.cache_model.proofs.Eligible.{list_any-range_false, list_any-range_true}
use Rattle.cert_checker.specs.declared.summary.Seen.{Seen}
use Rattle.cert_checker.specs.Rules.{first_unused}
use Rattle.cert_checker.specs.Summaries.{IsSeen, StandsFor, Summary}

-- the first number of a range that passes a test
pub find-range_first : (p : ℕ → Bool) (m a n : ℕ) → a ≤ m → m < a + n → p m ≡ true → ((k : ℕ) → a ≤ k → k < m → p k ≡ false) → find p (range_with_len a n) ≡ Some m
find-range_first p m a zero low high passes none = absurd (omega arith)
find-range_first p m a (suc n) low high passes none =
    ⊎_elim
    (λ (e : a ≡ m). ap (λ t. cond t (Some a) (find p (range_with_len (a + 1) n))) (ap p e ∙ passes) ∙ ap Some e)
    (λ (ne : a ≡ m → ⊥).
    ap (λ t. cond t (Some a) (find p (range_with_len (a + 1) n))) (none a (omega arith) (omega arith))
    ∙ find-range_first p m (a + 1) n (omega arith) (omega arith) passes (λ k l h. none k (omega arith) h))
    (cases_eq a m)

-- no number of a range passes a test
pub find-range_none : (p : ℕ → Bool) (a n : ℕ) → ((k : ℕ) → a ≤ k → k < a + n → p k ≡ false) → find p (range_with_len a n) ≡ None
find-range_none p a zero none = refl
find-range_none p a (suc n) none =
    ap (λ t. cond t (Some a) (find p (range_with_len (a + 1) n))) (none a (omega arith) (omega arith))
    ∙ find-range_none p (a + 1) n (λ k l h. none k (omega arith) (omega arith))

-- the least of some numbers is one of them, and none is less
fold_min-one : (P : ℕ → Type 0) (x : ℕ) (xs : List ℕ) → P x → All P xs → P (fold min x xs)
fold_min-one P x [] here all = here
fold_min-one P x (y ∷ xs) here all = fold_min-one P (min x y) xs (at (cases_lt x y)) (All-tail P y xs all)
  where
    at : (x < y) ⊎ (y ≤ x) → P (min x y)
    at (inl low) = let e : x ≡ min x y = omega arith in subst P e here
    at (inr high) = let e : y ≡ min x y = omega arith in subst P e (All-head P y xs all)

fold_min-le : (x : ℕ) (xs : List ℕ) → fold min x xs ≤ x
fold_min-le x [] = omega arith
fold_min-le x (y ∷ xs) = omega (arith, fold_min-le (min x y) xs)

-- the number is one of the list
abbrev IsOne : List ℕ → ℕ → Type 0
IsOne xs m = (k : ℕ) × (k < length xs) × (get_or xs k 0 ≡ m)

fold_min-least : (x : ℕ) (xs : List ℕ) (k : ℕ) → k < length (x ∷ xs) → fold min x xs ≤ get_or (x ∷ xs) k 0
fold_min-least x xs zero low = fold_min-le x xs
fold_min-least x [] (suc k) low = absurd (omega arith)
fold_min-least x (y ∷ xs) (suc zero) low = omega (arith, fold_min-le (min x y) xs)
fold_min-least x (y ∷ xs) (suc (suc k)) low = fold_min-least (min x y) xs (suc k) (omega arith)

-- the least of all numbers of a range that pass a test is the first that does
pub reduce_min-find : (p : ℕ → Bool) (n : ℕ) (xs : List ℕ) → All (λ m. (m < n) × (p m ≡ true)) xs → ((m : ℕ) → m < n → p m ≡ true → IsOne xs m)
    → reduce min xs ≡ find p (range_with_len 0 n)
reduce_min-find p n [] all each =
    sym (find-range_none p 0 n (λ k low high.
    ⊎_elim
    (λ (passes : p k ≡ true). absurd (let one : IsOne [] k = each k (omega arith) passes in let none : one.0 < 0 = one.1 in omega arith))
    (λ (fails : p k ≡ false). fails)
    (cases_Bool (p k))))
reduce_min-find p n (x ∷ xs) all each =
    let m : ℕ = fold min x xs in
    let P : ℕ → Type 0 = λ k. (k < n) × (p k ≡ true) in
    let here : P (fold min x xs) = fold_min-one P x xs (All-head P x xs all) (All-tail P x xs all) in
    sym (find-range_first p (fold min x xs) 0 n (omega arith) (let high : fold min x xs < n = here.0 in omega arith) here.1 (λ k low below.
    ⊎_elim
    (λ (passes : p k ≡ true).
    let high : fold min x xs < n = here.0 in
    let one : IsOne (x ∷ xs) k = each k (omega arith) passes in
    let least : fold min x xs ≤ get_or (x ∷ xs) one.0 0 = fold_min-least x xs one.0 one.1 in
    let same : get_or (x ∷ xs) one.0 0 ≡ k = one.2 in
    absurd (omega arith))
    (λ (fails : p k ≡ false). fails)
    (cases_Bool (p k))))

-- what has a flow
abbrev pub has_flow : Seen → Bool
has_flow seen = nat_lt 0 seen.flow

-- the latest requests that have a flow
abbrev pub latest_with_flow : List Seen → List ℕ
latest_with_flow values = map (λ (seen : Seen). seen.latest) (filter has_flow values)

with_flow-all : (P : ℕ → Type 0) (vs : List Seen) → All (λ (v : Seen). has_flow v ≡ true → P v.latest) vs → All P (latest_with_flow vs)
with_flow-all P [] all = All-nil P
with_flow-all P (v ∷ vs) all =
    let Q : Seen → Type 0 = λ v. has_flow v ≡ true → P v.latest in
    at (has_flow v) refl (All-head Q v vs all) (with_flow-all P vs (All-tail Q v vs all))
  where
    at : (t : Bool) → has_flow v ≡ t → (has_flow v ≡ true → P v.latest) → All P (latest_with_flow vs)
        → All P (map (λ (seen : Seen). seen.latest) (cond t (v ∷ filter has_flow vs) (filter has_flow vs)))
    at true e here rest = All-cons P v.latest (latest_with_flow vs) (here e) rest
    at false e here rest = rest

one-later : (x m : ℕ) (xs : List ℕ) → IsOne xs m → IsOne (x ∷ xs) m
one-later x m xs (k, low, e) = (suc k, omega arith, e)

-- what a look-up finds is among the values
with_flow-found : (test : Object → Bool) (es : List (Object × Seen)) (v : Seen) → lookup test es ≡ Some v → has_flow v ≡ true → IsOne (latest_with_flow (values_of es)) v.latest
with_flow-found test [] v found flows = absurd (none_some found)
  where
    none_some : None ≡ Some v → ⊥
    none_some e = true≢false (sym (ap is_some e))
with_flow-found test (e ∷ es) v found flows = at (test e.0) refl (λ later. with_flow-found test es v later flows)
  where
    same_value : Some e.1 ≡ Some v → e.1 ≡ v
    same_value eq = ap (λ o. unwrap_or o e.1) eq

    own : e.1 ≡ v → IsOne (map (λ (seen : Seen). seen.latest) (cond (has_flow e.1) (e.1 ∷ filter has_flow (values_of es)) (filter has_flow (values_of es)))) v.latest
    own eq =
        let kept : has_flow e.1 ≡ true = ap has_flow eq ∙ flows in
        subst (λ t. IsOne (map (λ (seen : Seen). seen.latest) (cond t (e.1 ∷ filter has_flow (values_of es)) (filter has_flow (values_of es)))) v.latest) (sym kept)
        (zero, omega arith, ap (λ (w : Seen). w.latest) eq)

    later : (t : Bool) → IsOne (latest_with_flow (values_of es)) v.latest
        → IsOne (map (λ (seen : Seen). seen.latest) (cond t (e.1 ∷ filter has_flow (values_of es)) (filter has_flow (values_of es)))) v.latest
    later true one = one-later e.1.latest v.latest (latest_with_flow (values_of es)) one
    later false one = one

    at : (t : Bool) → test e.0 ≡ t → (lookup test es ≡ Some v → IsOne (latest_with_flow (values_of es)) v.latest) → IsOne (latest_with_flow (values_of (e ∷ es))) v.latest
    at true passes rest = own (same_value (sym (ap (λ b. cond b (Some e.1) (lookup test es)) passes) ∙ found))
    at false fails rest = later (has_flow e.1) (rest (sym (ap (λ b. cond b (Some e.1) (lookup test es)) fails) ∙ found))

-- each value is what a look-up of its key finds
all_found : (P : Object → Seen → Type 0) (es : List (Object × Seen)) → IsDistinct same_object (keys_of es)
    → ((x : Object) (v : Seen) → lookup (same_object x) es ≡ Some v → P x v) → All (λ v. (x : Object) × P x v) (values_of es)
all_found P [] unique each = All-nil (λ v. (x : Object) × P x v)
all_found P (e ∷ es) unique each =
    All-cons (λ v. (x : Object) × P x v) e.1 (values_of es)
    (e.0, each e.0 e.1 (lookup_head (same_object e.0) e es (same_object-refl e.0)))
    (all_found P es (IsDistinct-tail same_object e.0 (keys_of es) unique) (λ x v found.
    each x v
    (⊎_elim
    (λ (same : same_object x e.0 ≡ true). absurd (apart x v found (same_object-true x e.0 same)))
    (λ (differs : same_object x e.0 ≡ false). lookup_tail (same_object x) e es differs ∙ found)
    (cases_Bool (same_object x e.0)))))
  where
    absent : (fs : List (Object × Seen)) (v : Seen) → AllByRecursion (λ y. same_object e.0 y ≡ false) (keys_of fs) → lookup (same_object e.0) fs ≡ Some v → ⊥
    absent [] v none found = true≢false (sym (ap is_some found))
    absent (f ∷ fs) v none found = absent fs v none.1 (sym (lookup_tail (same_object e.0) f fs none.0) ∙ found)

    apart : (x : Object) (v : Seen) → lookup (same_object x) es ≡ Some v → x ≡ e.0 → ⊥
    apart x v found same = absent es v (IsDistinct-head same_object e.0 (keys_of es) unique) (ap (λ y. lookup (same_object y) es) (sym same) ∙ found)

module _ (h : Header) (fills : List Bool) (trace : List Object) (records : List Record) (s : Summary) (st : StandsFor h fills trace records s) (unique : IsDistinct same_object (keys_of s.entries)) where
  has_unused : ℕ → Bool
  has_unused a = is_latest trace (length trace) a && nat_lt 0 (flow_at records a)

  seen_unused : (x : Object) (v : Seen) → IsSeen trace records x v → has_flow v ≡ true → (v.latest < length trace) × (has_unused v.latest ≡ true)
  unfolding has_unused
  seen_unused x v is flows =
      let low : v.latest < length trace = is.latest.within in
      let here : x ≡ request_at trace v.latest = same_object-true x (request_at trace v.latest) is.latest.same in
      let last : is_latest trace (length trace) v.latest ≡ true =
      ap not (list_any-range_false (same_object (request_at trace v.latest)) trace no_object (v.latest + 1) (length trace) (omega arith)
      (λ k after high. ap (λ y. same_object y (request_at trace k)) (sym here) ∙ is.latest.others k (omega arith) high)) in
      (low, and_from _ _ last (ap (nat_lt 0) (sym is.flow) ∙ flows))

  -- the latest request of an object is the one that is kept
  kept_latest : (a : ℕ) → a < length trace → has_unused a ≡ true → (b : Option Seen) → MatchOption b (IsNew trace (request_at trace a)) (IsSeen trace records (request_at trace a))
      → (v : Seen) × (b ≡ Some v) × (v.latest ≡ a) × (has_flow v ≡ true)
  unfolding has_unused
  kept_latest a low is None new = absurd (both_ways _ (new a low) (same_object-refl (request_at trace a)))
  kept_latest a low is (Some v) seen =
      let parts : (is_latest trace (length trace) a ≡ true) × (nat_lt 0 (flow_at records a) ≡ true) = and_parts _ _ is in
      let high : v.latest < length trace = seen.latest.within in
      let own : request_at trace a ≡ request_at trace v.latest = same_object-true (request_at trace a) (request_at trace v.latest) seen.latest.same in
      let same : v.latest ≡ a =
      ⊎_elim
      (λ (before : v.latest < a). absurd (both_ways _ (seen.latest.others a before low) (same_object-refl (request_at trace a))))
      (λ (not_before : a ≤ v.latest).
      ⊎_elim
      (λ (after : a < v.latest).
      let some_later : is_latest trace (length trace) a ≡ false =
      ap not (list_any-range_true (same_object (request_at trace a)) trace no_object (a + 1) (length trace) v.latest (omega arith) high (omega arith) seen.latest.same) in
      absurd (both_ways _ some_later parts.0))
      (λ (fails : v.latest ≤ a). omega arith)
      (cases_lt a v.latest))
      (cases_lt v.latest a) in
      (v, refl, same, ap (nat_lt 0) (seen.flow ∙ ap (flow_at records) same) ∙ parts.1)

  -- the least of the kept requests that have a flow
  pub first_unused-least : reduce min (latest_with_flow (values_of s.entries)) ≡ first_unused trace records
  unfolding has_unused
  first_unused-least =
      let P : ℕ → Type 0 = λ m. (m < length trace) × (has_unused m ≡ true) in
      let Q : Seen → Type 0 = λ v. (x : Object) × IsSeen trace records x v in
      let known : All Q (values_of s.entries) =
      all_found (IsSeen trace records) s.entries unique (λ x v found. subst (λ b. MatchOption b (IsNew trace x) (IsSeen trace records x)) found (st.seen x)) in
      reduce_min-find has_unused (length trace) (latest_with_flow (values_of s.entries))
      (with_flow-all P (values_of s.entries) (All-weaker Q (λ v. has_flow v ≡ true → P v.latest) (λ v q flows. seen_unused q.0 v q.1 flows) (values_of s.entries) known))
      (λ m low is.
      let kept = kept_latest m low is (lookup (same_object (request_at trace m)) s.entries) (st.seen (request_at trace m)) in
      subst (IsOne (latest_with_flow (values_of s.entries))) kept.2 (with_flow-found (same_object (request_at trace m)) s.entries kept.0 kept.1 kept.3))
