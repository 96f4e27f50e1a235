-- What the records of one price and keeps state.
use Rattle.std.proofs.Common.{◌≡◌, ◌∙◌, ℕ, ◌+◌, ◌-◌, ◌<◌, ◌≤◌, ◌^◌, sym, ap, subst, arith, Bool, false, List, length, get_or, All, ⊎_elim}
use Rattle.std.proofs.lemmas.Bool.{cases_lt}
use Rattle.std.proofs.lemmas.List.{ext_get_or, get_or-map, length-map}
use Rattle.std.proofs.lemmas.List.FromFn.{length-map-range_with_len, get_or-map-range_with_len}
use Rattle.cache_model.specs.declared.certificates.Record.{Record}
use Rattle.cache_model.specs.Certificates.{IsRecordInRange, keeps_of, prices_of}
use Rattle.constant_price.specs.Constants.{constant_prices}
use Rattle.constant_price.proofs.Prices.{constant_prices-before, constant_prices-last, length-constant_prices}
use Rattle.ttl_bounds.specs.Records.{record_of, records_of}

-- a record past the end
pub none : Record
none = record { price = 0; keep = false; flow = 0 }

-- no step has more than the price
price-le : (price steps t : ℕ) → t < steps → get_or (constant_prices price steps) t 0 ≤ price
price-le price steps t within =
    ⊎_elim
    (λ (before : t + 1 < steps). omega (arith, constant_prices-before price steps t before))
    (λ (last : steps ≤ t + 1).
    let place : steps - 1 ≡ t = omega (arith, within, last) in
    omega (arith, ap (λ k. get_or (constant_prices price steps) k 0) place, constant_prices-last price steps))
    (cases_lt (t + 1) steps)

module _ (price : ℕ) (keeps : List Bool) where
  abbrev rs : List Record
  rs = records_of price keeps

  pub length-records : length rs ≡ length keeps
  length-records = length-map-range_with_len (record_of price keeps) 0 (length keeps)

  pub record-at : (t : ℕ) (d : Record) → t < length keeps → get_or rs t d ≡ record_of price keeps t
  record-at t d low = get_or-map-range_with_len (record_of price keeps) 0 (length keeps) t t d low (omega arith)

  pub prices_of-records : prices_of rs ≡ constant_prices price (length keeps)
  prices_of-records =
      let each : length (prices_of rs) ≡ length keeps = length-map rs (λ (r : Record). r.price) ∙ length-records in
      ext_get_or 0 (prices_of rs) (constant_prices price (length keeps)) (each ∙ sym (length-constant_prices price (length keeps)))
      (λ k low.
      let here : k < length keeps = omega (arith, each) in
      get_or-map (λ (r : Record). r.price) rs k none 0 (omega (arith, length-records)) ∙ ap (λ (r : Record). r.price) (record-at k none here))

  pub keeps_of-records : keeps_of rs ≡ keeps
  keeps_of-records =
      let each : length (keeps_of rs) ≡ length keeps = length-map rs (λ (r : Record). r.keep) ∙ length-records in
      ext_get_or false (keeps_of rs) keeps each
      (λ k low.
      let here : k < length keeps = omega (arith, each) in
      get_or-map (λ (r : Record). r.keep) rs k none false (omega (arith, length-records)) ∙ ap (λ (r : Record). r.keep) (record-at k none here))

  pub no_flows : All (λ r. r.flow ≡ 0) rs
  no_flows = λ k d low. ap (λ (r : Record). r.flow) (record-at k d (omega (arith, length-records)))

  -- the records are in range, if the price is
  pub records_in_range : price ≤ 2 ^ 96 → All IsRecordInRange rs
  records_in_range small = λ k d low.
      let here : k < length keeps = omega (arith, length-records) in
      subst IsRecordInRange (sym (record-at k d here)) (record { price = omega (arith, price-le price (length keeps) k here, small); flow = omega arith })
