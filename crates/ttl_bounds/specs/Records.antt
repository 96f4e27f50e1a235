-- The header and the records of a certificate with one price.
use Rattle.std.specs.Prelude.{ℕ, Bool, false, List, length, map, slice_index_or}
use Rattle.std.specs.List.{range_with_len}
use Rattle.cache_model.specs.declared.certificates.Header.{Header}
use Rattle.cache_model.specs.declared.certificates.Record.{Record}
use Rattle.cache_model.specs.Claim.{is_kept}
use Rattle.constant_price.specs.Constants.{constant_prices}
use Rattle.ttl_bounds.specs.declared.asked.TtlAsked.{TtlAsked}
use Rattle.ttl_bounds.specs.declared.bounds.TtlBounds.{TtlBounds}

-- the header of these numbers: the form is plain, and no flow is stated
abbrev pub header_with : TtlAsked → ℕ → ℕ → ℕ → ℕ → ℕ → Header
header_with asked requests unit denominator upper lower = record {
  objective = asked.terms.objective;
  capacity = asked.terms.capacity;
  requests = requests;
  unit = unit;
  denominator = denominator;
  exact = false;
  upper = upper;
  flow = 0;
  lower = lower;
  warmup = asked.terms.warmup;
  version = asked.version;
}

-- the record of request t: the price of its step, its keep, and no flow
abbrev pub record_of : ℕ → List Bool → ℕ → Record
record_of price keeps t =
    record { price = slice_index_or (constant_prices price (length keeps)) t 0; keep = is_kept keeps t; flow = 0 }

-- a record for each request
abbrev pub records_of : ℕ → List Bool → List Record
records_of price keeps = map (record_of price keeps) (range_with_len 0 (length keeps))

-- those of bounds
abbrev pub records_in : TtlBounds → List Record
records_in b = records_of b.price b.keeps
