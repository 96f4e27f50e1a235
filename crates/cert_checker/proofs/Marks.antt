-- What is said of requests depends on their own marks alone.
use Rattle.std.proofs.Common.{◌≡◌, ℕ, zero, suc, ◌+◌, ◌<◌, ◌≤◌, ◌∙◌, sym, refl, ap, Bool, false, not, ◌&&◌, ◌==◌, cond, nat_lt, nat_le, List, ◌++◌, length, map, flat_map, find, take, slice_range, sum, sum_by, arith, None}
use Rattle.std.specs.declared.option.Option.{Option}
use Rattle.std.specs.List.{range_with_len, list_any}
use Rattle.std.proofs.lemmas.Bool.{eq-eqb, ne_eqb}
use Rattle.std.proofs.lemmas.List.FromFn.{get_or-map-range_with_len}
use Rattle.cache_model.specs.declared.objects.Object.{Object}
use Rattle.cache_model.specs.declared.certificates.Header.{Header}
use Rattle.cache_model.specs.declared.certificates.Record.{Record}
use Rattle.cache_model.specs.Claim.{counts, counts_past, only_fills, same_object, gain_of, holds, score, request_at, held_before, contents_of, terms_of}
use Rattle.cache_model.specs.Intervals.{interval_of, is_eligible, eligible_from, surplus}
use Rattle.cache_model.specs.Keeps.{latest_sum, load_after}
use Rattle.cache_model.specs.Certificates.{eligible_of, flow_at, flows_of, keeps_of, prices_of}
use Rattle.cache_model.specs.Schedules.{flow_value}
use Rattle.cache_model.proofs.Streams.{sum_by-range_agree}
use Rattle.cache_model.proofs.Scores.{earned_at, score-requests}
use Rattle.cert_checker.specs.declared.invalid.InvalidKind.{InvalidKind}
use Rattle.cert_checker.specs.Rules.{first_some, has_flow_until, record_at, record_fault, record_rules, was_requested}
use Rattle.cert_checker.specs.Summaries.{StandsFor, Summary}
use Rattle.cert_checker.proofs.Prefixes.{map-filter_agree}

-- the first n marks, and then this one
abbrev pub with_last : List Bool → ℕ → Bool → List Bool
with_last fills n only = map (λ t. cond (t == n) only (only_fills fills t)) (range_with_len 0 (n + 1))

pub with_last-before : (fills : List Bool) (n : ℕ) (only : Bool) (t : ℕ) → t < n → only_fills (with_last fills n only) t ≡ only_fills fills t
with_last-before fills n only t low =
    get_or-map-range_with_len (λ t. cond (t == n) only (only_fills fills t)) 0 (n + 1) t t false (omega arith) (omega arith)
    ∙ ap (λ b. cond b only (only_fills fills t)) (ne_eqb t n (λ e. omega arith))

pub with_last-last : (fills : List Bool) (n : ℕ) (only : Bool) → only_fills (with_last fills n only) n ≡ only
with_last-last fills n only =
    get_or-map-range_with_len (λ t. cond (t == n) only (only_fills fills t)) 0 (n + 1) n n false (omega arith) (omega arith)
    ∙ ap (λ b. cond b only (only_fills fills n)) (eq-eqb n n refl)

-- lists over a range, of elements that agree there
flat_map-agree : {X : Type 0} (f g : ℕ → List X) (a n : ℕ) → ((k : ℕ) → a ≤ k → k < a + n → f k ≡ g k) → flat_map f (range_with_len a n) ≡ flat_map g (range_with_len a n)
flat_map-agree f g a zero same = refl
flat_map-agree f g a (suc n) same =
    ap (λ xs. xs ++ flat_map f (range_with_len (a + 1) n)) (same a (omega arith) (omega arith))
    ∙ ap (λ xs. g a ++ xs) (flat_map-agree f g (a + 1) n (λ k low high. same k (omega arith) (omega arith)))

module _ (h : Header) (f g : List Bool) (trace : List Object) (records : List Record)
    (same : (t : ℕ) → t < length trace → only_fills f t ≡ only_fills g t) where
  same_counts : (t : ℕ) → t < length trace → counts_past h.warmup f t ≡ counts_past h.warmup g t
  same_counts t low = ap (λ b. nat_le h.warmup t && not b) (same t low)

  pub record_fault-marks : (t : ℕ) → t < length trace → record_fault h f trace records t ≡ record_fault h g trace records t
  record_fault-marks t low = ap at (same_counts t low)
    where
      at : Bool → Option InvalidKind
      at counts = first_some (record_rules h (request_at trace t) (record_at records t) (record {
        prices = sum (take (t + 1) (prices_of records));
        last = t + 1 == h.requests;
        counts = was_requested trace t && counts;
        unused = cond counts None (find (has_flow_until trace records t) (range_with_len 0 t));
        load = load_after trace (keeps_of records) t;
        flows = latest_sum trace (flow_at records) (t + 1);
      }))

  eligible-marks : eligible_of trace f h ≡ eligible_of trace g h
  eligible-marks =
      flat_map-agree (eligible_from (terms_of h f) trace) (eligible_from (terms_of h g) trace) 0 (length trace)
      (λ a low high. map-filter_agree (interval_of h.objective trace a) (interval_of h.objective trace a) (is_eligible (terms_of h f) trace a) (is_eligible (terms_of h g) trace a) 0 (length trace)
      (λ k lt. refl)
      (λ b lt. ap (λ c. nat_lt a b && same_object (request_at trace a) (request_at trace b) && not (list_any (same_object (request_at trace a)) (slice_range trace (a + 1) b)) && nat_le (request_at trace a).size h.capacity && c) (same_counts b (omega arith))))

  score-marks : (keeps : List Bool) → score (terms_of h f) trace (contents_of trace keeps) ≡ score (terms_of h g) trace (contents_of trace keeps)
  score-marks keeps =
      score-requests (terms_of h f) trace keeps
      ∙ sum_by-range_agree (earned_at (terms_of h f) trace keeps) (earned_at (terms_of h g) trace keeps) 0 (length trace)
      (λ t low high. ap (λ c. cond (c && holds (held_before trace keeps t) (request_at trace t)) (gain_of h.objective (request_at trace t)) 0) (same_counts t (omega arith)))
      ∙ sym (score-requests (terms_of h g) trace keeps)

  -- a checker that stands for requests with these marks stands for them with the others
  pub StandsFor-marks : (s : Summary) → StandsFor h f trace records s → StandsFor h g trace records s
  StandsFor-marks s st = record {
    header = st.header;
    input = st.input;
    no_fault = λ t low. sym (record_fault-marks t low) ∙ st.no_fault t low;
    objects = st.objects;
    seen = st.seen;
    sums = record {
      steps = st.sums.steps;
      prices = st.sums.prices;
      load = st.sums.load;
      flows = st.sums.flows;
      surpluses = st.sums.surpluses ∙ ap (λ items. sum_by (surplus h.unit h.denominator (prices_of records)) items) eligible-marks;
      values = st.sums.values ∙ ap (λ items. flow_value items h.unit h.denominator (flows_of items records)) eligible-marks;
      score = st.sums.score ∙ score-marks (keeps_of records);
    };
  }
