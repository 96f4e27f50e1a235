-- A checker stands for the requests and records that it was given, one step later too.
use Rattle.std.proofs.Common.{◌≡◌, ℕ, suc, zero, ◌+◌, ◌*◌, ◌^◌, ◌<◌, ◌≤◌, ◌∙◌, sym, refl, ap, subst, Bool, true, false, cond, nat_lt, List, [], ◌∷◌, ◌++◌, length, take, sum, arith, None, Some, ⊎_elim}
use Rattle.std.specs.Prelude.{MatchOption}
use Rattle.std.specs.declared.option.Option.{Option}
use Rattle.std.specs.Map.{keys_of, lookup}
use Rattle.std.proofs.lemmas.Bool.{cases_Bool, cases_lt, lt-ltb, both_ways}
use Rattle.std.proofs.lemmas.List.{get_or-map, length-append, length-map, take_all}
use Rattle.std.proofs.lemmas.List.Elements.{All-push}
use Rattle.std.proofs.lemmas.List.Sums.{sum_by-take-le}
use Rattle.indexmap.specs.IndexMap.{insert_entry}
use Rattle.cache_model.specs.declared.objects.Object.{Object}
use Rattle.cache_model.specs.declared.certificates.Header.{Header}
use Rattle.cache_model.specs.declared.certificates.Record.{Record}
use Rattle.cache_model.specs.Claim.{counts_past, same_object, total_size, request_at, held_before}
use Rattle.cache_model.specs.Objects.{objects_of, IsNew}
use Rattle.cache_model.specs.Keeps.{latest_sum, load_after}
use Rattle.cache_model.specs.Certificates.{flow_at, keeps_of, prices_of, units_of, unpriced, IsRecordInRange}
use Rattle.cache_model.proofs.Duality.{same_object-true}
use Rattle.cache_model.proofs.Pairs.{same_object-sym}
use Rattle.cache_model.proofs.DifferentObjects.{request_at-early, request_at-pushed, length-pushed, IsLatest-early, IsLatest-pushed, objects_of-pushed_new, objects_of-pushed_again}
use Rattle.cache_rules.proofs.Insertion.{Adds-from_lookup, Updates-from_lookup}
use Rattle.cert_checker.specs.declared.rules.Figures.{Figures}
use Rattle.cert_checker.specs.declared.summary.Seen.{Seen}
use Rattle.cert_checker.specs.declared.summary.Sums.{Sums}
use Rattle.cert_checker.specs.Rules.{first_some, figures_at, record_at, record_fault, record_rules, weight_in}
use Rattle.cert_checker.specs.Steps.{added, AreNext, flow_before, seen_at, size_before, sums_after}
use Rattle.cert_checker.specs.Summaries.{AreSums, IsInput, IsSeen, IsSized, StandsFor, Summary}
use Rattle.cert_checker.proofs.Passing.{Passes, Passes-from_none}
use Rattle.cert_checker.proofs.Prefixes.{flow_at-prefix, is_kept-prefix, record_fault-prefix, take-prices}
use Rattle.cert_checker.proofs.Pushed.{figures-pushed, flow_at-pushed, flows-pushed, is_kept-pushed, load-pushed, prices-pushed, record_at-pushed, score-pushed, surpluses-pushed, values-pushed}

-- a keyed list has the key at its end, or keeps its keys
keys-inserted : (entries : List (Object × Seen)) (x : Object) (v : Seen) (trace : List Object) (records : List Record) → keys_of entries ≡ objects_of trace
    → (before : Option Seen) → lookup (same_object x) entries ≡ before → MatchOption before (IsNew trace x) (IsSeen trace records x)
    → keys_of (insert_entry same_object entries x v) ≡ objects_of (trace ++ x ∷ [])
keys-inserted entries x v trace records objects None found new =
    ap keys_of (Adds-from_lookup same_object x v entries found).after
    ∙ keys-push entries
    ∙ ap (λ ks. ks ++ x ∷ []) objects
    ∙ sym (objects_of-pushed_new trace x new)
  where
    keys-push : (es : List (Object × Seen)) → keys_of (es ++ (x, v) ∷ []) ≡ keys_of es ++ x ∷ []
    keys-push [] = refl
    keys-push (e ∷ es) = ap (λ ks. e.0 ∷ ks) (keys-push es)
keys-inserted entries x v trace records objects (Some seen) found is =
    (Updates-from_lookup same_object x v entries seen found).keys ∙ objects ∙ sym (objects_of-pushed_again trace x seen.latest is.latest)

module _ (h : Header) (fills : List Bool) (trace : List Object) (records : List Record) (s : Summary) (st : StandsFor h fills trace records s) where
  -- no rule fails at a request
  pub passes_at : (t : ℕ) → t < length trace → Passes h (request_at trace t) (record_at records t) (figures_at h fills trace records t)
  passes_at t low = Passes-from_none h (request_at trace t) (record_at records t) (figures_at h fills trace records t) (st.no_fault t low)

  -- what is kept is within the limits
  pub record AreWithin : Type 0 where
    pub paid : units_of h * s.sums.prices ≤ 2 ^ 126
    pub load : s.sums.load ≤ h.capacity
    pub flows : s.sums.flows ≤ units_of h

  pub within : AreWithin
  within = at (length trace) refl
    where
      le_from : (a b : ℕ) → nat_lt b a ≡ false → a ≤ b
      le_from a b e = ⊎_elim (λ (above : b < a). absurd (both_ways (nat_lt b a) e (lt-ltb b a above))) (λ (below : a ≤ b). below) (cases_lt b a)

      at : (n : ℕ) → length trace ≡ n → AreWithin
      at zero e =
          let none : sum (take 0 (prices_of records)) ≡ sum (prices_of records) =
          ap sum (take_all 0 (prices_of records) (omega (arith, length-map records (λ (r : Record). r.price), st.input.one_record_each))) in
          record {
            paid = subst (λ p. units_of h * p ≤ 2 ^ 126) (none ∙ sym st.sums.prices) (omega arith);
            load = omega (arith, st.sums.load, ap (λ k. total_size (held_before trace (keeps_of records) k)) e);
            flows = omega (arith, st.sums.flows, ap (latest_sum trace (flow_at records)) e);
          }
      at (suc t) e =
          let last : t + 1 ≡ length trace = omega arith in
          let p : Passes h (request_at trace t) (record_at records t) (figures_at h fills trace records t) = passes_at t (omega arith) in
          let prices : sum (take (t + 1) (prices_of records)) ≡ s.sums.prices =
          ap sum (take_all (t + 1) (prices_of records) (omega (arith, length-map records (λ (r : Record). r.price), st.input.one_record_each))) ∙ sym st.sums.prices in
          record {
            paid = subst (λ p. units_of h * p ≤ 2 ^ 126) prices (le_from (units_of h * sum (take (t + 1) (prices_of records))) (2 ^ 126) p.prices);
            load = subst (λ l. l ≤ h.capacity) (ap (λ k. total_size (held_before trace (keeps_of records) k)) last ∙ sym st.sums.load) (le_from (load_after trace (keeps_of records) t) h.capacity p.load);
            flows = subst (λ l. l ≤ units_of h) (ap (latest_sum trace (flow_at records)) last ∙ sym st.sums.flows) (le_from (latest_sum trace (flow_at records) (t + 1)) (units_of h) p.flows);
          }

  module _ (x : Object) where
    before : Option Seen
    before = lookup (same_object x) s.entries

    -- what the object had is within what there is
    pub size_before-le : size_before x (lookup (same_object x) s.entries) ≤ s.sums.load
    size_before-le =
        omega (arith, st.sums.load, load-pushed h fills trace records x (unpriced false) st.input.one_record_each (lookup (same_object x) s.entries) (st.seen x))

    pub flow_before-le : flow_before (lookup (same_object x) s.entries) ≤ s.sums.flows
    flow_before-le =
        omega (arith, st.sums.flows, flows-pushed h fills trace records x (unpriced false) st.input.one_record_each (lookup (same_object x) s.entries) (st.seen x))

    module _ (seen : Seen) (found : lookup (same_object x) s.entries ≡ Some seen) where
      pub seen-is : IsSeen trace records x seen
      seen-is = subst (λ b. MatchOption b (IsNew trace x) (IsSeen trace records x)) found (st.seen x)

      pub price_before-le : seen.price_before ≤ s.sums.prices
      price_before-le = omega (arith, seen-is.price_before, st.sums.prices, sum_by-take-le (λ (k : ℕ). k) (prices_of records) seen.latest)

      pub flow-le : seen.flow ≤ weight_in h x
      flow-le =
          let a : ℕ = seen.latest in
          let low : a < length trace = seen-is.latest.within in
          let here : x ≡ request_at trace a = same_object-true x (request_at trace a) seen-is.latest.same in
          let flow : seen.flow ≡ (record_at records a).flow =
          seen-is.flow ∙ get_or-map (λ (r : Record). r.flow) records a (unpriced false) 0 (omega (arith, st.input.one_record_each)) in
          let p : Passes h (request_at trace a) (record_at records a) (figures_at h fills trace records a) = passes_at a low in
          let own : nat_lt (weight_in h x) (record_at records a).flow ≡ false = ap (λ y. nat_lt (weight_in h y) (record_at records a).flow) here ∙ p.flow in
          ⊎_elim
          (λ (above : weight_in h x < (record_at records a).flow). absurd (both_ways (nat_lt (weight_in h x) (record_at records a).flow) own (lt-ltb _ _ above)))
          (λ (below : (record_at records a).flow ≤ weight_in h x). omega (arith, flow))
          (cases_lt (weight_in h x) (record_at records a).flow)

    module _ (r : Record) (now : Figures) (counts : Bool) (is_counted : counts ≡ counts_past h.warmup fills (length trace)) (next : AreNext h counts s.sums x r (lookup (same_object x) s.entries) now) where
      -- the rules of the code are those of the lists
      pub record_fault-pushed : record_fault h fills (trace ++ x ∷ []) (records ++ r ∷ []) (length trace) ≡ first_some (record_rules h x r now)
      record_fault-pushed =
          let f : Figures = figures_at h fills (trace ++ x ∷ []) (records ++ r ∷ []) (length trace) in
          ap (λ y. first_some (record_rules h y (record_at (records ++ r ∷ []) (length trace)) f)) (request_at-pushed trace x)
          ∙ ap (λ e. first_some (record_rules h x e f)) (record_at-pushed h fills trace records x r st.input.one_record_each)
          ∙ ap (λ g. first_some (record_rules h x r g))
          (sym (figures-pushed h fills trace records x r st.input.one_record_each (lookup (same_object x) s.entries) (st.seen x) s.sums st.sums now counts is_counted next))

      module _ (sized : IsSized x) (ranged : IsRecordInRange r) (room : s.sums.steps < h.requests) (passes : first_some (record_rules h x r now) ≡ None) where
        input-pushed : IsInput h (trace ++ x ∷ []) (records ++ r ∷ [])
        input-pushed = record {
          header_in_range = st.input.header_in_range;
          sizes_in_range = All-push IsSized trace x st.input.sizes_in_range sized;
          records_in_range = All-push IsRecordInRange records r st.input.records_in_range ranged;
          one_record_each = omega (arith, length-append records (r ∷ []), length-pushed trace x, st.input.one_record_each);
          within = omega (arith, length-pushed trace x, st.sums.steps);
        }

        no_fault-pushed : (t : ℕ) → t < length (trace ++ x ∷ []) → record_fault h fills (trace ++ x ∷ []) (records ++ r ∷ []) t ≡ None
        no_fault-pushed t low =
            ⊎_elim
            (λ (early : t < length trace).
            record_fault-prefix h fills trace (x ∷ []) records (r ∷ []) t early (omega (arith, st.input.one_record_each)) ∙ st.no_fault t early)
            (λ (late : length trace ≤ t).
            let here : t ≡ length trace = omega (arith, length-pushed trace x) in
            ap (record_fault h fills (trace ++ x ∷ []) (records ++ r ∷ [])) here ∙ record_fault-pushed ∙ passes)
            (cases_lt t (length trace))

        sums-pushed : AreSums h fills (trace ++ x ∷ []) (records ++ r ∷ []) (sums_after s.sums now (added h counts x s.sums.prices (lookup (same_object x) s.entries)))
        sums-pushed =
            let one : length records ≡ length trace = st.input.one_record_each in
            let b : Option Seen = lookup (same_object x) s.entries in
            let size : length (trace ++ x ∷ []) ≡ length trace + 1 = omega (arith, length-pushed trace x) in
            let prices : s.sums.prices ≡ sum (prices_of records) = st.sums.prices in
            record {
              steps = omega (arith, st.sums.steps, length-pushed trace x);
              prices = omega (arith, next.prices, st.sums.prices, prices-pushed h fills trace records x r one);
              load = omega (
                arith,
                next.load,
                st.sums.load,
                load-pushed h fills trace records x r one b (st.seen x),
                ap (λ k. total_size (held_before (trace ++ x ∷ []) (keeps_of (records ++ r ∷ [])) k)) size,
              );
              flows = omega (
                arith,
                next.flows,
                st.sums.flows,
                flows-pushed h fills trace records x r one b (st.seen x),
                ap (latest_sum (trace ++ x ∷ []) (flow_at (records ++ r ∷ []))) size,
              );
              surpluses = omega (arith, st.sums.surpluses, surpluses-pushed h fills trace records x r one b (st.seen x), ap (λ p. (added h counts x p (lookup (same_object x) s.entries)).surplus) prices, ap (λ c. (added h c x (sum (prices_of records)) (lookup (same_object x) s.entries)).surplus) is_counted);
              values = omega (arith, st.sums.values, values-pushed h fills trace records x r one b (st.seen x), ap (λ p. (added h counts x p (lookup (same_object x) s.entries)).value) prices, ap (λ c. (added h c x (sum (prices_of records)) (lookup (same_object x) s.entries)).value) is_counted);
              score = omega (arith, st.sums.score, score-pushed h fills trace records x r one b (st.seen x), ap (λ p. (added h counts x p (lookup (same_object x) s.entries)).gain) prices, ap (λ c. (added h c x (sum (prices_of records)) (lookup (same_object x) s.entries)).gain) is_counted);
            }

        -- what is kept of the object of the request
        own_seen : IsSeen (trace ++ x ∷ []) (records ++ r ∷ []) x (seen_at s.sums r)
        own_seen =
            let one : length records ≡ length trace = st.input.one_record_each in
            let n : ℕ = length trace in
            let is : IsSeen (trace ++ x ∷ []) (records ++ r ∷ []) x (record { latest = length trace; price_before = s.sums.prices; keep = r.keep; flow = r.flow }) = record {
              latest = IsLatest-pushed trace x;
              price_before = st.sums.prices
                  ∙ ap sum (sym (take-prices records (r ∷ []) (length trace) (omega (arith, one)) ∙ take_all (length trace) (prices_of records) (omega (arith, one, length-map records (λ (e : Record). e.price)))));
              keep = sym (is_kept-pushed h fills trace records x r one);
              flow = sym (flow_at-pushed h fills trace records x r one);
            } in
            subst (λ k. IsSeen (trace ++ x ∷ []) (records ++ r ∷ []) x (record { latest = k; price_before = s.sums.prices; keep = r.keep; flow = r.flow })) (sym st.sums.steps) is

        -- what is kept of another object
        other_seen : (y : Object) → same_object x y ≡ false → (b : Option Seen) → MatchOption b (IsNew trace y) (IsSeen trace records y)
            → MatchOption b (IsNew (trace ++ x ∷ []) y) (IsSeen (trace ++ x ∷ []) (records ++ r ∷ []) y)
        other_seen y differs None new = λ k low.
            ⊎_elim
            (λ (early : k < length trace). ap (same_object y) (request_at-early trace x k early) ∙ new k early)
            (λ (late : length trace ≤ k).
            let here : k ≡ length trace = omega (arith, length-pushed trace x) in
            ap (λ j. same_object y (request_at (trace ++ x ∷ []) j)) here ∙ ap (same_object y) (request_at-pushed trace x) ∙ same_object-sym y x ∙ differs)
            (cases_lt k (length trace))
        other_seen y differs (Some seen) is =
            let one : length records ≡ length trace = st.input.one_record_each in
            let low : seen.latest < length trace = is.latest.within in
            record {
              latest = IsLatest-early trace x y seen.latest (same_object-sym y x ∙ differs) is.latest;
              price_before = is.price_before ∙ ap sum (sym (take-prices records (r ∷ []) seen.latest (omega (arith, one))));
              keep = is.keep ∙ sym (is_kept-prefix records (r ∷ []) seen.latest (omega (arith, one)));
              flow = is.flow ∙ sym (flow_at-prefix records (r ∷ []) seen.latest (omega (arith, one)));
            }

        module _ (after : List (Object × Seen)) (entered : after ≡ insert_entry same_object s.entries x (seen_at s.sums r))
            (looked : (y : Object) → lookup (same_object y) after ≡ cond (same_object x y) (Some (seen_at s.sums r)) (lookup (same_object y) s.entries)) where
          seen-pushed : (y : Object) → MatchOption (lookup (same_object y) after) (IsNew (trace ++ x ∷ []) y) (IsSeen (trace ++ x ∷ []) (records ++ r ∷ []) y)
          seen-pushed y =
              let Known : Option Seen → Type 0 = λ b. MatchOption b (IsNew (trace ++ x ∷ []) y) (IsSeen (trace ++ x ∷ []) (records ++ r ∷ []) y) in
              ⊎_elim
              (λ (same : same_object x y ≡ true).
              let now_is : lookup (same_object y) after ≡ Some (seen_at s.sums r) = looked y ∙ ap (λ b. cond b (Some (seen_at s.sums r)) (lookup (same_object y) s.entries)) same in
              subst Known (sym now_is) (subst (λ z. IsSeen (trace ++ x ∷ []) (records ++ r ∷ []) z (seen_at s.sums r)) (same_object-true x y same) own_seen))
              (λ (differs : same_object x y ≡ false).
              let now_is : lookup (same_object y) after ≡ lookup (same_object y) s.entries = looked y ∙ ap (λ b. cond b (Some (seen_at s.sums r)) (lookup (same_object y) s.entries)) differs in
              subst Known (sym now_is) (other_seen y differs (lookup (same_object y) s.entries) (st.seen y)))
              (cases_Bool (same_object x y))

          -- the checker stands for one more request and record
          pub StandsFor-pushed : (sums : Sums) → sums ≡ sums_after s.sums now (added h counts x s.sums.prices (lookup (same_object x) s.entries))
              → StandsFor h fills (trace ++ x ∷ []) (records ++ r ∷ []) (record { header = s.header; entries = after; sums = sums })
          StandsFor-pushed sums summed = record {
            header = st.header;
            input = input-pushed;
            no_fault = no_fault-pushed;
            objects = ap keys_of entered ∙ keys-inserted s.entries x (seen_at s.sums r) trace records st.objects (lookup (same_object x) s.entries) refl (st.seen x);
            seen = seen-pushed;
            sums = subst (AreSums h fills (trace ++ x ∷ []) (records ++ r ∷ [])) (sym summed) sums-pushed;
          }
