-- What is said of the first requests and records does not change with those that follow.
use Rattle.std.proofs.Common.{◌≡◌, ℕ, suc, zero, ◌+◌, ◌-◌, ◌<◌, ◌≤◌, ◌∙◌, refl, ap, Bool, true, false, not, ◌&&◌, ◌==◌, cond, nat_lt, find, None, Some, List, ◌∷◌, ◌++◌, length, map, filter, take, drop, slice_range, get_or, sum, arith}
use Rattle.std.specs.declared.option.Option.{Option}
use Rattle.std.specs.List.{range_with_len, list_any}
use Rattle.std.proofs.lemmas.List.{get_or_append_left, length-drop, length-map, map-append, take-append-le, drop-append-le}
use Rattle.cache_model.specs.declared.objects.Object.{Object}
use Rattle.cache_model.specs.declared.certificates.Header.{Header}
use Rattle.cache_model.specs.declared.certificates.Record.{Record}
use Rattle.cache_model.specs.Claim.{Terms, counts, counts_past, same_object, gain_of, holds, total_size, request_at, no_object, is_kept, is_held, is_latest, held_before}
use Rattle.cache_model.specs.Keeps.{latest_sum, load_after}
use Rattle.cache_model.specs.Certificates.{flow_at, keeps_of, prices_of, unpriced}
use Rattle.cache_model.proofs.Streams.{sum_by-range_agree}
use Rattle.cache_model.proofs.Scores.{earned_at}
use Rattle.cert_checker.specs.declared.rules.Figures.{Figures}
use Rattle.cert_checker.specs.Rules.{first_some, record_rules, record_at, was_requested, has_flow_until, unused_before, figures_at, record_fault}

-- a part of a list that ends within its prefix
pub slice_range-prefix : {X : Type 0} (xs ys : List X) (i j : ℕ) → i ≤ length xs → j ≤ length xs → slice_range (xs ++ ys) i j ≡ slice_range xs i j
slice_range-prefix xs ys i j low high =
    ap (take (j - i)) (drop-append-le i xs ys low) ∙ take-append-le (j - i) (drop i xs) ys (omega (arith, length-drop i xs))

-- two filters of a range that agree there, and two maps of what they keep
pub map-filter_agree : {X : Type 0} (f g : ℕ → X) (p q : ℕ → Bool) (a n : ℕ)
    → ((k : ℕ) → k < a + n → f k ≡ g k) → ((k : ℕ) → k < a + n → p k ≡ q k)
    → map f (filter p (range_with_len a n)) ≡ map g (filter q (range_with_len a n))
map-filter_agree f g p q a zero values tests = refl
map-filter_agree f g p q a (suc n) values tests =
    ap (λ t. map f (cond t (a ∷ filter p (range_with_len (a + 1) n)) (filter p (range_with_len (a + 1) n)))) (tests a (omega arith))
    ∙ at (q a) (map-filter_agree f g p q (a + 1) n (λ k high. values k (omega arith)) (λ k high. tests k (omega arith)))
  where
    at : (t : Bool) → map f (filter p (range_with_len (a + 1) n)) ≡ map g (filter q (range_with_len (a + 1) n))
        → map f (cond t (a ∷ filter p (range_with_len (a + 1) n)) (filter p (range_with_len (a + 1) n)))
        ≡ map g (cond t (a ∷ filter q (range_with_len (a + 1) n)) (filter q (range_with_len (a + 1) n)))
    at true rest = ap (λ x. x ∷ map f (filter p (range_with_len (a + 1) n))) (values a (omega arith)) ∙ ap (λ xs. g a ∷ xs) rest
    at false rest = rest

module _ (trace ys : List Object) where
  pub request_at-prefix : (a : ℕ) → a < length trace → request_at (trace ++ ys) a ≡ request_at trace a
  request_at-prefix a low = get_or_append_left trace ys no_object a low

  pub is_latest-prefix : (t a : ℕ) → a < t → t ≤ length trace → is_latest (trace ++ ys) t a ≡ is_latest trace t a
  is_latest-prefix t a low high =
      ap (λ x. not (list_any (same_object x) (slice_range (trace ++ ys) (a + 1) t))) (request_at-prefix a (omega arith))
      ∙ ap (λ xs. not (list_any (same_object (request_at trace a)) xs)) (slice_range-prefix trace ys (a + 1) t (omega arith) high)

  pub latest_sum-prefix : (f g : ℕ → ℕ) (t : ℕ) → t ≤ length trace → ((a : ℕ) → a < t → f a ≡ g a) → latest_sum (trace ++ ys) f t ≡ latest_sum trace g t
  latest_sum-prefix f g t high same =
      sum_by-range_agree (λ a. cond (is_latest (trace ++ ys) t a) (f a) 0) (λ a. cond (is_latest trace t a) (g a) 0) 0 t
      (λ a low lt. ap (λ b. cond b (f a) 0) (is_latest-prefix t a (omega arith) high) ∙ ap (λ n. cond (is_latest trace t a) n 0) (same a (omega arith)))

  pub held_before-prefix : (keeps bits : List Bool) (t : ℕ) → t ≤ length trace → ((a : ℕ) → a < t → is_kept bits a ≡ is_kept keeps a)
      → held_before (trace ++ ys) bits t ≡ held_before trace keeps t
  held_before-prefix keeps bits t high same =
      map-filter_agree (request_at (trace ++ ys)) (request_at trace) (is_held (trace ++ ys) bits t) (is_held trace keeps t) 0 t
      (λ k lt. request_at-prefix k (omega arith))
      (λ k lt. ap (λ b. b && is_latest (trace ++ ys) t k) (same k (omega arith)) ∙ ap (λ b. is_kept keeps k && b) (is_latest-prefix t k (omega arith) high))

  pub earned_at-prefix : (terms : Terms) (keeps bits : List Bool) (t : ℕ) → t < length trace → ((a : ℕ) → a < t → is_kept bits a ≡ is_kept keeps a)
      → earned_at terms (trace ++ ys) bits t ≡ earned_at terms trace keeps t
  earned_at-prefix terms keeps bits t high same =
      let earned : List Object → Object → ℕ = λ held x. cond (counts terms t && holds held x) (gain_of terms.objective x) 0 in
      ap (earned (held_before (trace ++ ys) bits t)) (request_at-prefix t high)
      ∙ ap (λ held. earned held (request_at trace t)) (held_before-prefix keeps bits t (omega arith) same)

module _ (records ss : List Record) where
  pub is_kept-prefix : (a : ℕ) → a < length records → is_kept (keeps_of (records ++ ss)) a ≡ is_kept (keeps_of records) a
  is_kept-prefix a low =
      ap (λ ks. get_or ks a false) (map-append (λ (r : Record). r.keep) records ss)
      ∙ get_or_append_left (keeps_of records) (keeps_of ss) false a (omega (arith, length-map records (λ (r : Record). r.keep)))

  pub flow_at-prefix : (a : ℕ) → a < length records → flow_at (records ++ ss) a ≡ flow_at records a
  flow_at-prefix a low =
      ap (λ fs. get_or fs a 0) (map-append (λ (r : Record). r.flow) records ss)
      ∙ get_or_append_left (map (λ (r : Record). r.flow) records) (map (λ (r : Record). r.flow) ss) 0 a (omega (arith, length-map records (λ (r : Record). r.flow)))

  pub prices_of-append : prices_of (records ++ ss) ≡ prices_of records ++ prices_of ss
  prices_of-append = map-append (λ (r : Record). r.price) records ss

  pub take-prices : (k : ℕ) → k ≤ length records → take k (prices_of (records ++ ss)) ≡ take k (prices_of records)
  take-prices k low = ap (take k) prices_of-append ∙ take-append-le k (prices_of records) (prices_of ss) (omega (arith, length-map records (λ (r : Record). r.price)))

  pub slice_range-prices : (i j : ℕ) → i ≤ length records → j ≤ length records → slice_range (prices_of (records ++ ss)) i j ≡ slice_range (prices_of records) i j
  slice_range-prices i j low high =
      let size : length (prices_of records) ≡ length records = length-map records (λ (r : Record). r.price) in
      ap (λ ps. slice_range ps i j) prices_of-append ∙ slice_range-prefix (prices_of records) (prices_of ss) i j (omega (arith, size)) (omega (arith, size))

-- what is found in a range by two tests that agree
find-range_agree : (p q : ℕ → Bool) (a n : ℕ) → ((k : ℕ) → a ≤ k → k < a + n → p k ≡ q k) → find p (range_with_len a n) ≡ find q (range_with_len a n)
find-range_agree p q a zero same = refl
find-range_agree p q a (suc n) same =
    ap (λ t. cond t (Some a) (find p (range_with_len (a + 1) n))) (same a (omega arith) (omega arith))
    ∙ ap (cond (q a) (Some a)) (find-range_agree p q (a + 1) n (λ k low high. same k (omega arith) (omega arith)))

-- the figures, and the rule that fails, are those of the lists so far
module _ (h : Header) (fills : List Bool) (trace ys : List Object) (records ss : List Record) (t : ℕ) (within : t < length trace) (recorded : t < length records) where
  was_requested-prefix : was_requested (trace ++ ys) t ≡ was_requested trace t
  was_requested-prefix =
      ap (λ x. list_any (same_object x) (take t (trace ++ ys))) (request_at-prefix trace ys t within)
      ∙ ap (list_any (same_object (request_at trace t))) (take-append-le t trace ys (omega arith))

  load_after-prefix : load_after (trace ++ ys) (keeps_of (records ++ ss)) t ≡ load_after trace (keeps_of records) t
  load_after-prefix =
      ap total_size (held_before-prefix trace ys (keeps_of records) (keeps_of (records ++ ss)) (t + 1) (omega arith) (λ a low. is_kept-prefix records ss a (omega arith)))

  has_flow_until-prefix : (k : ℕ) → k < t → has_flow_until (trace ++ ys) (records ++ ss) t k ≡ has_flow_until trace records t k
  has_flow_until-prefix k low =
      ap (λ x. same_object x (request_at (trace ++ ys) k) && is_latest (trace ++ ys) t k && nat_lt 0 (flow_at (records ++ ss) k)) (request_at-prefix trace ys t within)
      ∙ ap (λ y. same_object (request_at trace t) y && is_latest (trace ++ ys) t k && nat_lt 0 (flow_at (records ++ ss) k)) (request_at-prefix trace ys k (omega arith))
      ∙ ap (λ b. same_object (request_at trace t) (request_at trace k) && b && nat_lt 0 (flow_at (records ++ ss) k)) (is_latest-prefix trace ys t k low (omega arith))
      ∙ ap (λ f. same_object (request_at trace t) (request_at trace k) && is_latest trace t k && nat_lt 0 f) (flow_at-prefix records ss k (omega arith))

  unused_before-prefix : unused_before h fills (trace ++ ys) (records ++ ss) t ≡ unused_before h fills trace records t
  unused_before-prefix =
      ap (λ o. cond (counts_past h.warmup fills t) None o)
      (find-range_agree (has_flow_until (trace ++ ys) (records ++ ss) t) (has_flow_until trace records t) 0 t (λ k low high. has_flow_until-prefix k (omega arith)))

  figures_at-prefix : figures_at h fills (trace ++ ys) (records ++ ss) t ≡ figures_at h fills trace records t
  figures_at-prefix =
      let F : ℕ → Bool → Option ℕ → ℕ → ℕ → Figures = λ prices again unused load flows. record { prices = prices; last = t + 1 == h.requests; counts = again && counts_past h.warmup fills t; unused = unused; load = load; flows = flows } in
      let again : Bool = was_requested (trace ++ ys) t in
      let unused : Option ℕ = unused_before h fills (trace ++ ys) (records ++ ss) t in
      let load : ℕ = load_after (trace ++ ys) (keeps_of (records ++ ss)) t in
      let flows : ℕ = latest_sum (trace ++ ys) (flow_at (records ++ ss)) (t + 1) in
      let prices : ℕ = sum (take (t + 1) (prices_of records)) in
      ap (λ ps. F (sum ps) again unused load flows) (take-prices records ss (t + 1) (omega arith))
      ∙ ap (λ b. F prices b unused load flows) was_requested-prefix
      ∙ ap (λ o. F prices (was_requested trace t) o load flows) unused_before-prefix
      ∙ ap (λ n. F prices (was_requested trace t) (unused_before h fills trace records t) n flows) load_after-prefix
      ∙ ap (F prices (was_requested trace t) (unused_before h fills trace records t) (load_after trace (keeps_of records) t))
      (latest_sum-prefix trace ys (flow_at (records ++ ss)) (flow_at records) (t + 1) (omega arith) (λ a low. flow_at-prefix records ss a (omega arith)))

  pub record_fault-prefix : record_fault h fills (trace ++ ys) (records ++ ss) t ≡ record_fault h fills trace records t
  record_fault-prefix =
      ap (λ x. first_some (record_rules h x (record_at (records ++ ss) t) (figures_at h fills (trace ++ ys) (records ++ ss) t))) (request_at-prefix trace ys t within)
      ∙ ap (λ r. first_some (record_rules h (request_at trace t) r (figures_at h fills (trace ++ ys) (records ++ ss) t))) (get_or_append_left records ss (unpriced false) t recorded)
      ∙ ap (λ f. first_some (record_rules h (request_at trace t) (record_at records t) f)) figures_at-prefix
