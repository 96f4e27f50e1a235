-- One more request and its record: what the figures and the sums become.
use Rattle.std.proofs.Common.{◌≡◌, ℕ, suc, ◌+◌, ◌-◌, ◌*◌, ◌/◌, ◌<◌, ◌≤◌, ◌∙◌, sym, refl, ap, Bool, true, false, not, ◌&&◌, ◌==◌, cond, nat_le, nat_lt, List, [], ◌∷◌, ◌++◌, length, map, zip, take, drop, slice_range, get_or, sum, sum_by, arith, None, Some}
use Rattle.std.specs.Prelude.{MatchOption}
use Rattle.std.specs.declared.option.Option.{Option}
use Rattle.std.specs.Option.{is_some}
use Rattle.std.specs.List.{range_with_len, list_any}
use Rattle.std.proofs.lemmas.List.{get_or_push, length-append, length-drop, length-map, map-append, take-append-le, take_all}
use Rattle.std.proofs.lemmas.List.Elements.{All-from_get_or}
use Rattle.std.proofs.lemmas.List.Folds.{list_any_at, list_any_none}
use Rattle.std.proofs.lemmas.List.Sums.{sum_by-cons, sum_by_push, sum_by-take-drop}
use Rattle.cache_model.specs.declared.objects.Object.{Object}
use Rattle.cache_model.specs.declared.intervals.Interval.{Interval}
use Rattle.cache_model.specs.declared.certificates.Header.{Header}
use Rattle.cache_model.specs.declared.certificates.Record.{Record}
use Rattle.cache_model.specs.Claim.{counts_past, same_object, gain_of, holds, score, total_size, request_at, no_object, contents_of, is_kept, is_latest, held_before, terms_of}
use Rattle.cache_model.specs.Objects.{IsLatest, IsNew}
use Rattle.cache_model.specs.Intervals.{interval_of, surplus}
use Rattle.cache_model.specs.Keeps.{latest_sum, load_after}
use Rattle.cache_model.specs.Laws.{IsEligible}
use Rattle.cache_model.specs.Schedules.{flow_value}
use Rattle.cache_model.specs.Units.{weight}
use Rattle.cache_model.specs.Certificates.{eligible_of, flow_at, flow_of, keeps_of, prices_of, unpriced}
use Rattle.cache_model.proofs.Duality.{same_object-true}
use Rattle.cache_model.proofs.Streams.{sum_by-range_agree, eligible_push_first, eligible_push_again}
use Rattle.cache_model.proofs.Latest.{held-latest, latest_sum_push_first, latest_sum_push_again}
use Rattle.cache_model.proofs.Members.{All-eligible_intervals}
use Rattle.cache_model.proofs.DifferentObjects.{request_at-pushed, length-pushed, IsFirst-pushed, IsNext-pushed}
use Rattle.cache_model.proofs.Scores.{earned_at, earned-more, score-requests, holds-first, holds-next}
use Rattle.cert_checker.specs.declared.rules.Figures.{Figures}
use Rattle.cert_checker.specs.declared.summary.Seen.{Seen}
use Rattle.cert_checker.specs.declared.summary.Sums.{Sums}
use Rattle.cert_checker.specs.declared.summary.Added.{Added}
use Rattle.cert_checker.specs.Rules.{figures_at, record_at, unused_before, was_requested}
use Rattle.cert_checker.specs.Steps.{added, added_by, added_if, AreNext, flow_before, size_before, unused_flow}
use Rattle.cert_checker.proofs.Warmup.{find-first, find-next}
use Rattle.cert_checker.specs.Summaries.{AreSums, IsSeen}
use Rattle.cert_checker.proofs.Prefixes.{earned_at-prefix, flow_at-prefix, is_kept-prefix, request_at-prefix, slice_range-prices, prices_of-append}

-- two sums over a list whose terms agree
pub sum_by-all_agree : {X : Type 0} (f g : X → ℕ) (xs : List X) → ((k : ℕ) (d : X) → k < length xs → f (get_or xs k d) ≡ g (get_or xs k d)) → sum_by f xs ≡ sum_by g xs
sum_by-all_agree f g [] same = refl
sum_by-all_agree f g (x ∷ xs) same =
    omega (arith, sum_by-cons f x xs, sum_by-cons g x xs, same 0 x (omega arith), sum_by-all_agree f g xs (λ k d low. same (suc k) d (omega arith)))

-- what is added where two tests pass
both_tests : (a b : Bool) (v : ℕ) → cond (a && b) v 0 ≡ cond b (cond a v 0) 0
both_tests true true v = refl
both_tests true false v = refl
both_tests false true v = refl
both_tests false false v = refl

one_after : (a b : Bool) (v : ℕ) → cond (a && b) v 0 ≡ cond a (cond b v 0) 0
one_after true b v = refl
one_after false b v = refl

-- nothing, whether it counts or not
none_counts : (b : Bool) (n : ℕ) → cond b n n ≡ n
none_counts true n = refl
none_counts false n = refl

-- the parts of what is added if it counts
surplus_if : (b : Bool) (more : Added) → (added_if b more).surplus ≡ cond b more.surplus 0
surplus_if true more = refl
surplus_if false more = refl

value_if : (b : Bool) (more : Added) → (added_if b more).value ≡ cond b more.value 0
value_if true more = refl
value_if false more = refl

gain_if : (b : Bool) (more : Added) → (added_if b more).gain ≡ cond b more.gain 0
gain_if true more = refl
gain_if false more = refl

-- a test on what another test gives
one_test : (a b : Bool) (v : ℕ) → cond a None (cond b (Some v) None) ≡ cond (not a && b) (Some v) None
one_test true b v = refl
one_test false b v = refl

no_test : (a : Bool) (o : Option ℕ) → cond a o o ≡ o
no_test true o = refl
no_test false o = refl

-- the value of an interval's flow
abbrev pub value_in : Header → List Record → Interval → ℕ
value_in h records i = (h.denominator * i.gain / weight h.unit i) * flow_at records i.start

flow_value-map : (u d : ℕ) (f : Interval → ℕ) (xs : List Interval) → flow_value xs u d (map f xs) ≡ sum_by (λ i. (d * i.gain / weight u i) * f i) xs
flow_value-map u d f [] = refl
flow_value-map u d f (i ∷ xs) =
    omega (arith, flow_value-map u d f xs, sum_by-cons (λ (i, f). (d * i.gain / weight u i) * f) (i, f i) (zip xs (map f xs)), sum_by-cons (λ i. (d * i.gain / weight u i) * f i) i xs)

-- the value of the flows is a sum over the intervals
pub flow_of-sum : (h : Header) (fills : List Bool) (trace : List Object) (records : List Record) → flow_of trace fills h records ≡ sum_by (value_in h records) (eligible_of trace fills h)
flow_of-sum h fills trace records = flow_value-map h.unit h.denominator (λ i. flow_at records i.start) (eligible_of trace fills h)

module _ (h : Header) (fills : List Bool) (trace : List Object) (records : List Record) (x : Object) (r : Record) (one : length records ≡ length trace) where
  abbrev n : ℕ
  n = length trace

  -- whether the request counts
  abbrev counted : Bool
  counted = counts_past h.warmup fills n

  abbrev trace' : List Object
  trace' = trace ++ x ∷ []

  abbrev records' : List Record
  records' = records ++ r ∷ []

  pub record_at-pushed : record_at records' n ≡ r
  record_at-pushed = get_or_push records r (unpriced false) n one

  pub is_kept-pushed : is_kept (keeps_of records') n ≡ r.keep
  is_kept-pushed =
      ap (λ ks. get_or ks n false) (map-append (λ (r : Record). r.keep) records (r ∷ []))
      ∙ get_or_push (keeps_of records) r.keep false n (length-map records (λ (r : Record). r.keep) ∙ one)

  pub flow_at-pushed : flow_at records' n ≡ r.flow
  flow_at-pushed =
      ap (λ fs. get_or fs n 0) (map-append (λ (r : Record). r.flow) records (r ∷ []))
      ∙ get_or_push (map (λ (r : Record). r.flow) records) r.flow 0 n (length-map records (λ (r : Record). r.flow) ∙ one)

  pub prices-pushed : sum (prices_of records') ≡ sum (prices_of records) + r.price
  prices-pushed = ap sum (prices_of-append records (r ∷ [])) ∙ sum_by_push (λ (n : ℕ). n) (prices_of records) r.price

  length-prices : length (prices_of records') ≡ n + 1
  length-prices = omega (arith, length-map records' (λ (r : Record). r.price), length-append records (r ∷ []), one)

  pub all_prices : sum (take (n + 1) (prices_of records')) ≡ sum (prices_of records) + r.price
  all_prices = ap sum (take_all (n + 1) (prices_of records') (omega (arith, length-prices))) ∙ prices-pushed

  same_keeps : (t : ℕ) → t ≤ n → (a : ℕ) → a < t → is_kept (keeps_of records') a ≡ is_kept (keeps_of records) a
  same_keeps t high a low = is_kept-prefix records (r ∷ []) a (omega (arith, one))

  -- the amounts of the latest requests
  module _ (f g : ℕ → ℕ) (same : (a : ℕ) → a < n → f a ≡ g a) where
    latest_sum-agree : latest_sum trace f n ≡ latest_sum trace g n
    latest_sum-agree =
        sum_by-range_agree (λ a. cond (is_latest trace n a) (f a) 0) (λ a. cond (is_latest trace n a) (g a) 0) 0 n
        (λ a low lt. ap (λ m. cond (is_latest trace n a) m 0) (same a (omega arith)))

    pub latest_sum-new : IsNew trace x → latest_sum trace' f (n + 1) ≡ latest_sum trace g n + f n
    latest_sum-new new = latest_sum_push_first trace x f new ∙ ap (λ m. m + f n) latest_sum-agree

    pub latest_sum-again : (a : ℕ) → IsLatest trace x a → latest_sum trace' f (n + 1) + g a ≡ latest_sum trace g n + f n
    latest_sum-again a l =
        let low : a < n = l.within in
        omega (arith, latest_sum_push_again trace x f a l, latest_sum-agree, same a low)

  kept_size : List Object → List Bool → ℕ → ℕ
  kept_size ts keeps a = cond (is_kept keeps a) (request_at ts a).size 0

  kept_size-same : (a : ℕ) → a < n → kept_size trace' (keeps_of records') a ≡ kept_size trace (keeps_of records) a
  unfolding kept_size
  kept_size-same a low =
      ap (λ b. cond b (request_at trace' a).size 0) (same_keeps n (omega arith) a low)
      ∙ ap (λ (y : Object). cond (is_kept (keeps_of records) a) y.size 0) (request_at-prefix trace (x ∷ []) a low)

  kept_size-pushed : kept_size trace' (keeps_of records') n ≡ cond r.keep x.size 0
  unfolding kept_size
  kept_size-pushed =
      ap (λ b. cond b (request_at trace' n).size 0) is_kept-pushed
      ∙ ap (λ (y : Object). cond r.keep y.size 0) (request_at-pushed trace x)

  load-held : (ts : List Object) (keeps : List Bool) (t : ℕ) → total_size (held_before ts keeps t) ≡ latest_sum ts (kept_size ts keeps) t
  unfolding kept_size
  load-held ts keeps t = held-latest ts keeps t

  -- with what the checker has of the object
  module _ (before : Option Seen) (known : MatchOption before (IsNew trace x) (IsSeen trace records x)) where
    pub load-pushed : load_after trace' (keeps_of records') n + size_before x before ≡ total_size (held_before trace (keeps_of records) n) + cond r.keep x.size 0
    unfolding kept_size
    load-pushed = at before known
      where
        at : (b : Option Seen) → MatchOption b (IsNew trace x) (IsSeen trace records x)
            → load_after trace' (keeps_of records') n + size_before x b ≡ total_size (held_before trace (keeps_of records) n) + cond r.keep x.size 0
        at None new =
            omega (
              arith,
              load-held trace' (keeps_of records') (n + 1),
              load-held trace (keeps_of records) n,
              kept_size-pushed,
              latest_sum-new (kept_size trace' (keeps_of records')) (kept_size trace (keeps_of records)) kept_size-same new,
            )
        at (Some seen) is =
            let own : cond seen.keep x.size 0 ≡ kept_size trace (keeps_of records) seen.latest =
            ap (λ b. cond b x.size 0) is.keep ∙ ap (λ (y : Object). cond (is_kept (keeps_of records) seen.latest) y.size 0) (same_object-true x (request_at trace seen.latest) is.latest.same) in
            omega (
              arith,
              own,
              load-held trace' (keeps_of records') (n + 1),
              load-held trace (keeps_of records) n,
              kept_size-pushed,
              latest_sum-again (kept_size trace' (keeps_of records')) (kept_size trace (keeps_of records)) kept_size-same seen.latest is.latest,
            )

    pub flows-pushed : latest_sum trace' (flow_at records') (n + 1) + flow_before before ≡ latest_sum trace (flow_at records) n + r.flow
    flows-pushed = at before known
      where
        same : (a : ℕ) → a < n → flow_at records' a ≡ flow_at records a
        same a low = flow_at-prefix records (r ∷ []) a (omega (arith, one))

        at : (b : Option Seen) → MatchOption b (IsNew trace x) (IsSeen trace records x)
            → latest_sum trace' (flow_at records') (n + 1) + flow_before b ≡ latest_sum trace (flow_at records) n + r.flow
        at None new = omega (arith, flow_at-pushed, latest_sum-new (flow_at records') (flow_at records) same new)
        at (Some seen) is = omega (arith, flow_at-pushed, is.flow, latest_sum-again (flow_at records') (flow_at records) same seen.latest is.latest)

    pub again-pushed : was_requested trace' n ≡ is_some before
    again-pushed =
        ap (λ y. list_any (same_object y) (take n trace')) (request_at-pushed trace x)
        ∙ ap (list_any (same_object x)) (take-append-le n trace (x ∷ []) (omega arith) ∙ take_all n trace (omega arith))
        ∙ at before known
      where
        at : (b : Option Seen) → MatchOption b (IsNew trace x) (IsSeen trace records x) → list_any (same_object x) trace ≡ is_some b
        at None new = list_any_none (same_object x) trace (All-from_get_or (λ y. same_object x y ≡ false) trace no_object new)
        at (Some seen) is = list_any_at (same_object x) trace seen.latest no_object is.latest.within is.latest.same

    unused-pushed : unused_before h fills trace' records' n ≡ unused_flow counted before
    unused-pushed = at before known
      where
        at : (b : Option Seen) → MatchOption b (IsNew trace x) (IsSeen trace records x) → unused_before h fills trace' records' n ≡ unused_flow counted b
        at None new = ap (λ o. cond counted None o) (find-first trace' records' n (IsFirst-pushed trace x new)) ∙ no_test counted None
        at (Some seen) is =
            let low : seen.latest < n = is.latest.within in
            let flow : flow_at records' seen.latest ≡ seen.flow = flow_at-prefix records (r ∷ []) seen.latest (omega (arith, one)) ∙ sym is.flow in
            ap (λ o. cond counted None o) (find-next trace' n seen.latest (IsNext-pushed trace x seen.latest is.latest) records' ∙ ap (λ f. cond (nat_lt 0 f) (Some seen.latest) None) flow)
            ∙ one_test counted (nat_lt 0 seen.flow) seen.latest

    -- the figures of the code are those of the lists
    pub figures-pushed : (sums : Sums) → AreSums h fills trace records sums → (now : Figures) (counts : Bool) → counts ≡ counted → AreNext h counts sums x r before now → now ≡ figures_at h fills trace' records' n
    figures-pushed sums are now counts is_counted next =
        let F : ℕ → Bool → Bool → Option ℕ → ℕ → ℕ → Figures = λ prices last ends unused load flows. record { prices = prices; last = last; counts = ends; unused = unused; load = load; flows = flows } in
        let prices : now.prices ≡ sum (take (n + 1) (prices_of records')) = omega (arith, next.prices, are.prices, all_prices) in
        let load : now.load ≡ load_after trace' (keeps_of records') n = omega (arith, next.load, are.load, load-pushed) in
        let flows : now.flows ≡ latest_sum trace' (flow_at records') (n + 1) = omega (arith, next.flows, are.flows, flows-pushed) in
        let ending : now.counts ≡ (was_requested trace' n && counted) = next.ends ∙ ap (λ b. b && counts) (sym again-pushed) ∙ ap (λ b. was_requested trace' n && b) is_counted in
        let unused : now.unused ≡ unused_before h fills trace' records' n = next.unused ∙ ap (λ b. unused_flow b before) is_counted ∙ sym unused-pushed in
        let all : ℕ = sum (take (n + 1) (prices_of records')) in
        let ends : Bool = was_requested trace' n && counted in
        ap (λ p. F p now.last now.counts now.unused now.load now.flows) prices
        ∙ ap (λ b. F all b now.counts now.unused now.load now.flows) (next.last ∙ ap (λ k. k + 1 == h.requests) are.steps)
        ∙ ap (λ b. F all (n + 1 == h.requests) b now.unused now.load now.flows) ending
        ∙ ap (λ o. F all (n + 1 == h.requests) ends o now.load now.flows) unused
        ∙ ap (λ l. F all (n + 1 == h.requests) ends (unused_before h fills trace' records' n) l now.flows) load
        ∙ ap (F all (n + 1 == h.requests) ends (unused_before h fills trace' records' n) (load_after trace' (keeps_of records') n)) flows

    -- the sums over the intervals that have ended
    module _ (f g : Interval → ℕ) (same : (i : Interval) → IsEligible (terms_of h fills) trace i → f i ≡ g i) where
      eligible-agree : sum_by f (eligible_of trace fills h) ≡ sum_by g (eligible_of trace fills h)
      eligible-agree = sum_by-all_agree f g (eligible_of trace fills h) (λ k d low. same _ (All-eligible_intervals (terms_of h fills) trace k d low))

      pub intervals-new : IsNew trace x → sum_by f (eligible_of trace' fills h) ≡ sum_by g (eligible_of trace fills h)
      intervals-new new = eligible_push_first f (terms_of h fills) trace x new ∙ eligible-agree

      pub intervals-again : (a : ℕ) → IsLatest trace x a
          → sum_by f (eligible_of trace' fills h) ≡ sum_by g (eligible_of trace fills h) + cond (counted) (cond (nat_le x.size h.capacity) (f (interval_of h.objective trace' a n)) 0) 0
      intervals-again a l =
          let more : ℕ = f (interval_of h.objective trace' a n) in
          eligible_push_again f (terms_of h fills) trace x a l
          ∙ ap (λ v. sum_by f (eligible_of trace fills h) + v) (both_tests (nat_le x.size h.capacity) (counted) more)
          ∙ ap (λ m. m + cond (counted) (cond (nat_le x.size h.capacity) more 0) 0) eligible-agree

    -- the interval that ends at the request has its object's size and gain
    ended : (a : ℕ) → IsLatest trace x a → interval_of h.objective trace' a n ≡ record { start = a; end = n; size = x.size; gain = gain_of h.objective x }
    ended a l =
        let first : request_at trace' a ≡ x = request_at-prefix trace (x ∷ []) a l.within ∙ sym (same_object-true x (request_at trace a) l.same) in
        let F : Object → Object → Interval = λ y z. record { start = a; end = n; size = y.size; gain = gain_of h.objective z } in
        ap (λ y. F y (request_at trace' n)) first ∙ ap (F x) (request_at-pushed trace x)

    -- the prices of the steps that it covers
    covered : (a : ℕ) → a < n → sum (slice_range (prices_of records') a n) ≡ sum (prices_of records) - sum (take a (prices_of records))
    covered a low =
        let size : length (prices_of records) ≡ n = length-map records (λ (r : Record). r.price) ∙ one in
        let rest : slice_range (prices_of records') a n ≡ drop a (prices_of records) =
        slice_range-prices records (r ∷ []) a n (omega (arith, one)) (omega (arith, one))
        ∙ take_all (n - a) (drop a (prices_of records)) (omega (arith, length-drop a (prices_of records), size)) in
        omega (arith, ap sum rest, sum_by-take-drop (λ (k : ℕ). k) (prices_of records) a)

    same_surplus : (i : Interval) → IsEligible (terms_of h fills) trace i
        → surplus h.unit h.denominator (prices_of records') i ≡ surplus h.unit h.denominator (prices_of records) i
    same_surplus i e =
        let low : i.start < i.end = e.next.before in
        let high : i.end < n = e.next.within in
        ap (λ ps. h.denominator * i.gain - (i.size / h.unit) * sum ps) (slice_range-prices records (r ∷ []) i.start i.end (omega (arith, one)) (omega (arith, one)))

    pub surpluses-pushed : sum_by (surplus h.unit h.denominator (prices_of records')) (eligible_of trace' fills h)
        ≡ sum_by (surplus h.unit h.denominator (prices_of records)) (eligible_of trace fills h) + (added h counted x (sum (prices_of records)) before).surplus
    surpluses-pushed = at before known
      where
        at : (b : Option Seen) → MatchOption b (IsNew trace x) (IsSeen trace records x)
            → sum_by (surplus h.unit h.denominator (prices_of records')) (eligible_of trace' fills h)
            ≡ sum_by (surplus h.unit h.denominator (prices_of records)) (eligible_of trace fills h) + (added h counted x (sum (prices_of records)) b).surplus
        at None new = omega (arith, intervals-new (surplus h.unit h.denominator (prices_of records')) (surplus h.unit h.denominator (prices_of records)) same_surplus new)
        at (Some seen) is =
            let f : Interval → ℕ = surplus h.unit h.denominator (prices_of records') in
            let own : f (interval_of h.objective trace' seen.latest n) ≡ h.denominator * gain_of h.objective x - (x.size / h.unit) * (sum (prices_of records) - seen.price_before) =
            ap f (ended seen.latest is.latest)
            ∙ ap (λ p. h.denominator * gain_of h.objective x - (x.size / h.unit) * p) (covered seen.latest is.latest.within ∙ ap (λ p. sum (prices_of records) - p) (sym is.price_before)) in
            intervals-again f (surplus h.unit h.denominator (prices_of records)) same_surplus seen.latest is.latest
            ∙ ap (λ v. sum_by (surplus h.unit h.denominator (prices_of records)) (eligible_of trace fills h) + cond (counted) (cond (nat_le x.size h.capacity) v 0) 0) own
            ∙ ap (λ v. sum_by (surplus h.unit h.denominator (prices_of records)) (eligible_of trace fills h) + v) (sym (surplus_if (counted) (added_by h x (sum (prices_of records)) seen)))

    same_value : (i : Interval) → IsEligible (terms_of h fills) trace i → value_in h records' i ≡ value_in h records i
    same_value i e =
        let low : i.start < i.end = e.next.before in
        let high : i.end < n = e.next.within in
        ap (λ f. (h.denominator * i.gain / weight h.unit i) * f) (flow_at-prefix records (r ∷ []) i.start (omega (arith, one)))

    pub values-pushed : flow_of trace' fills h records' ≡ flow_of trace fills h records + (added h counted x (sum (prices_of records)) before).value
    values-pushed = at before known
      where
        at : (b : Option Seen) → MatchOption b (IsNew trace x) (IsSeen trace records x)
            → flow_of trace' fills h records' ≡ flow_of trace fills h records + (added h counted x (sum (prices_of records)) b).value
        at None new = omega (arith, flow_of-sum h fills trace' records', flow_of-sum h fills trace records, intervals-new (value_in h records') (value_in h records) same_value new)
        at (Some seen) is =
            let low : seen.latest < n = is.latest.within in
            let own : value_in h records' (interval_of h.objective trace' seen.latest n) ≡ (h.denominator * gain_of h.objective x / (x.size / h.unit)) * seen.flow =
            ap (value_in h records') (ended seen.latest is.latest)
            ∙ ap (λ f. (h.denominator * gain_of h.objective x / (x.size / h.unit)) * f) (flow_at-prefix records (r ∷ []) seen.latest (omega (arith, one)) ∙ sym is.flow) in
            flow_of-sum h fills trace' records'
            ∙ intervals-again (value_in h records') (value_in h records) same_value seen.latest is.latest
            ∙ ap (λ v. sum_by (value_in h records) (eligible_of trace fills h) + cond (counted) (cond (nat_le x.size h.capacity) v 0) 0) own
            ∙ ap (λ v. sum_by (value_in h records) (eligible_of trace fills h) + v) (sym (value_if (counted) (added_by h x (sum (prices_of records)) seen)))
            ∙ ap (λ s. s + (added h counted x (sum (prices_of records)) (Some seen)).value) (sym (flow_of-sum h fills trace records))

    -- the score
    earned-pushed : earned_at (terms_of h fills) trace' (keeps_of records') n ≡ (added h counted x (sum (prices_of records)) before).gain
    earned-pushed = at before known
      where
        high : n < length trace'
        high = omega (arith, length-pushed trace x)

        here : (b : Bool) → holds (held_before trace' (keeps_of records') n) (request_at trace' n) ≡ b
            → earned_at (terms_of h fills) trace' (keeps_of records') n ≡ cond (counted) (cond b (gain_of h.objective x) 0) 0
        here b e =
            ap (λ k. cond (counted && k) (gain_of h.objective (request_at trace' n)) 0) e ∙ ap (λ y. cond (counted && b) (gain_of h.objective y) 0) (request_at-pushed trace x)
            ∙ one_after counted b (gain_of h.objective x)

        at : (b : Option Seen) → MatchOption b (IsNew trace x) (IsSeen trace records x)
            → earned_at (terms_of h fills) trace' (keeps_of records') n ≡ (added h counted x (sum (prices_of records)) b).gain
        at None new = here false (holds-first trace' n high (keeps_of records') (IsFirst-pushed trace x new)) ∙ none_counts (counted) 0
        at (Some seen) is =
            here seen.keep
            (holds-next trace' n high (keeps_of records') seen.latest (IsNext-pushed trace x seen.latest is.latest)
            ∙ same_keeps n (omega arith) seen.latest is.latest.within ∙ sym is.keep)
            ∙ sym (gain_if (counted) (added_by h x (sum (prices_of records)) seen))

    pub score-pushed : score (terms_of h fills) trace' (contents_of trace' (keeps_of records'))
        ≡ score (terms_of h fills) trace (contents_of trace (keeps_of records)) + (added h counted x (sum (prices_of records)) before).gain
    score-pushed =
        let earned : ℕ → ℕ = earned_at (terms_of h fills) trace' (keeps_of records') in
        let size : length trace' ≡ n + 1 = omega (arith, length-pushed trace x) in
        score-requests (terms_of h fills) trace' (keeps_of records')
        ∙ ap (λ k. sum_by earned (range_with_len 0 k)) size
        ∙ earned-more (terms_of h fills) trace' (keeps_of records') n
        ∙ ap (λ e. sum_by earned (range_with_len 0 n) + e) earned-pushed
        ∙ ap (λ s. s + (added h counted x (sum (prices_of records)) before).gain)
        (sum_by-range_agree earned (earned_at (terms_of h fills) trace (keeps_of records)) 0 n
        (λ k low lt. earned_at-prefix trace (x ∷ []) (terms_of h fills) (keeps_of records) (keeps_of records') k (omega arith) (same_keeps k (omega arith)))
        ∙ sym (score-requests (terms_of h fills) trace (keeps_of records)))
