-- What the records of a certificate state, from its prices, keeps and flows.
use Rattle.std.proofs.Common.{◌≡◌, ◌∙◌, ℕ, ◌<◌, ◌≤◌, ◌^◌, ◌==◌, sym, ap, subst, arith, zero, suc, Bool, true, false, List, [], ◌∷◌, length, map, get_or, sum, All, Some, None, ⊎_elim}
use Rattle.std.specs.declared.option.Option.{Option}
use Rattle.std.specs.List.{AllZip, list_any}
use Rattle.std.proofs.Math.Nat.{div-le_self}
use Rattle.std.proofs.lemmas.Bool.{cases_Bool, cases_lt, true≢false}
use Rattle.std.proofs.lemmas.List.{ext_get_or, get_or-map, get_or_past, length-map}
use Rattle.std.proofs.lemmas.List.FromFn.{length-map-range_with_len, get_or-map-range_with_len}
use Rattle.std.proofs.lemmas.List.Folds.{list_any_at}
use Rattle.std.proofs.lemmas.List.Sums.{get_or-le-sum_by}
use Rattle.cache_model.specs.declared.intervals.Interval.{Interval}
use Rattle.cache_model.specs.declared.certificates.Record.{Record}
use Rattle.cache_model.specs.Certificates.{IsRecordInRange, flow_at, flows_of, keeps_of, prices_of}
use Rattle.cache_model.specs.Units.{weight}
use Rattle.interval_maker.specs.Timelines.{IsInterval, IsTimeline, starting_at, no_interval}
use Rattle.interval_maker.proofs.Places.{position_none}
use Rattle.relaxation.specs.Faults.{amount_of}
use Rattle.relaxation.proofs.Loads.{starting_at_start}
use Rattle.bound_run.specs.BoundsMade.{record_of, records_of}

-- a record past the end
pub none : Record
none = record { price = 0; keep = false; flow = 0 }

-- flows within the weights of sizes up to 2^48 are up to 2^48
flows_small : (steps unit : ℕ) (intervals : List Interval) (flows : List ℕ) (m : ℕ) → ((k : ℕ) → k < length intervals → IsInterval steps (get_or intervals k no_interval)) → AllZip (λ i f. f ≤ weight unit i) intervals flows → get_or flows m 0 ≤ 2 ^ 48
flows_small steps unit [] [] m shaped small = omega (arith, get_or_past {X = ℕ} [] m 0 (omega arith))
flows_small steps unit [] (f ∷ flows) m shaped small = absurd small
flows_small steps unit (i ∷ intervals) [] m shaped small = absurd small
flows_small steps unit (i ∷ intervals) (f ∷ flows) zero shaped small = omega (arith, small.0, div-le_self i.size unit, (shaped 0 (omega arith)).size.1)
flows_small steps unit (i ∷ intervals) (f ∷ flows) (suc m) shaped small = flows_small steps unit intervals flows m (λ k low. shaped (suc k) (omega arith)) small.1

amounts_small : (flows : List ℕ) (o : Option ℕ) → ((m : ℕ) → get_or flows m 0 ≤ 2 ^ 48) → amount_of flows o ≤ 2 ^ 48
amounts_small flows None each = omega arith
amounts_small flows (Some m) each = each m

module _ (prices : List ℕ) (keeps : List Bool) (intervals : List Interval) (flows : List ℕ) where
  abbrev rs : List Record
  rs = records_of prices keeps intervals flows

  abbrev f : ℕ → Record
  f = record_of prices keeps intervals flows

  pub length-records : length rs ≡ length keeps
  length-records = length-map-range_with_len f 0 (length keeps)

  pub record-at : (t : ℕ) (d : Record) → t < length keeps → get_or rs t d ≡ f t
  record-at t d low = get_or-map-range_with_len f 0 (length keeps) t t d low (omega arith)

  pub prices_of-records : length prices ≡ length keeps → prices_of rs ≡ prices
  prices_of-records same =
      let each : length (prices_of rs) ≡ length keeps = length-map rs (λ (r : Record). r.price) ∙ length-records in
      ext_get_or 0 (prices_of rs) prices (each ∙ sym same)
      (λ k low. let here : k < length keeps = omega (arith, each) in get_or-map (λ (r : Record). r.price) rs k none 0 (omega (arith, length-records)) ∙ ap (λ (r : Record). r.price) (record-at k none here))

  pub keeps_of-records : keeps_of rs ≡ keeps
  keeps_of-records =
      let each : length (keeps_of rs) ≡ length keeps = length-map rs (λ (r : Record). r.keep) ∙ length-records in
      ext_get_or false (keeps_of rs) keeps each
      (λ k low. let here : k < length keeps = omega (arith, each) in get_or-map (λ (r : Record). r.keep) rs k none false (omega (arith, length-records)) ∙ ap (λ (r : Record). r.keep) (record-at k none here))

  flow_at-here : (t : ℕ) → t < length keeps → flow_at rs t ≡ amount_of flows (starting_at intervals t)
  flow_at-here t low = get_or-map (λ (r : Record). r.flow) rs t none 0 (omega (arith, length-records)) ∙ ap (λ (r : Record). r.flow) (record-at t none low)

  flow_at-past : (t : ℕ) → length keeps ≤ t → flow_at rs t ≡ 0
  flow_at-past t past = get_or_past (map (λ (r : Record). r.flow) rs) t 0 (omega (arith, length-map rs (λ (r : Record). r.flow), length-records))

  none_starts : (t : ℕ) → list_any (λ i. i.start == t) intervals ≡ false → All (λ i. (i.start == t) ≡ false) intervals
  none_starts t unused = λ k d low.
      ⊎_elim
      (λ (starts : ((get_or intervals k d).start == t) ≡ true). absurd (true≢false (sym (list_any_at (λ i. i.start == t) intervals k d low starts) ∙ unused)))
      (λ (other : ((get_or intervals k d).start == t) ≡ false). other)
      (cases_Bool ((get_or intervals k d).start == t))

  -- where no interval starts there is no flow
  pub flow_at-unused : (t : ℕ) → list_any (λ i. i.start == t) intervals ≡ false → flow_at rs t ≡ 0
  flow_at-unused t unused =
      ⊎_elim
      (λ (low : t < length keeps). flow_at-here t low ∙ ap (amount_of flows) (position_none (λ i. i.start == t) intervals (none_starts t unused)))
      (λ (past : length keeps ≤ t). flow_at-past t past)
      (cases_lt t (length keeps))

  module _ (is_line : IsTimeline (record { steps = length keeps; items = intervals })) (each : length flows ≡ length intervals) where
    -- the flow of each interval is that of the record where it starts
    pub flows_of-records : flows_of intervals rs ≡ flows
    flows_of-records =
        let many : length (flows_of intervals rs) ≡ length intervals = length-map intervals (λ i. flow_at rs i.start) in
        ext_get_or 0 (flows_of intervals rs) flows (many ∙ sym each)
        (λ k low.
        let here : k < length intervals = omega (arith, many) in
        let shaped : IsInterval (length keeps) (get_or intervals k no_interval) = is_line.intervals k no_interval here in
        get_or-map (λ i. flow_at rs i.start) intervals k no_interval 0 here
        ∙ flow_at-here (get_or intervals k no_interval).start (omega (arith, shaped.order, shaped.within))
        ∙ ap (amount_of flows) (starting_at_start (record { steps = length keeps; items = intervals }) k is_line here))

    -- the records are in range, if no price and no flow is large
    pub records_in_range : (unit : ℕ) → length prices ≡ length keeps → sum prices ≤ 2 ^ 126 → AllZip (λ i f. f ≤ weight unit i) intervals flows → All IsRecordInRange rs
    records_in_range unit same paid small = λ k d low.
        let here : k < length keeps = omega (arith, length-records) in
        subst IsRecordInRange (sym (record-at k d here)) (record {
          price = omega (arith, get_or-le-sum_by (λ (n : ℕ). n) prices k 0 (omega arith), paid);
          flow = amounts_small flows (starting_at intervals k) (λ m. flows_small (length keeps) unit intervals flows m (λ j before. is_line.intervals j no_interval before) small);
        })
