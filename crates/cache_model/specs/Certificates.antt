-- Certificates: when one is valid.
use Rattle.std.specs.Prelude.{◌≡◌, ℕ, ◌-◌, ◌*◌, ◌/◌, ◌^◌, ◌<◌, ◌≤◌, Bool, false, ◌==◌, IsTrue, List, length, map, slice_index_or, sum, All}
use Rattle.std.specs.List.{list_any}
use Prim.Native.Nat.{◌∣◌}
use Rattle.cache_model.specs.declared.objects.Object.{Object}
use Rattle.cache_model.specs.declared.intervals.Interval.{Interval}
use Rattle.cache_model.specs.declared.certificates.Header.{Header}
use Rattle.cache_model.specs.declared.certificates.Record.{Record}
use Rattle.cache_model.specs.declared.version.TheConstants.{CERT_VERSION, SHORT_VERSION}
use Rattle.cache_model.specs.Claim.{IsAllowed, score, contents_of, terms_of}
use Rattle.cache_model.specs.Intervals.{eligible_intervals, bound_of}
use Rattle.cache_model.specs.Schedules.{IsFractionalSchedule, flow_value}
use Rattle.cache_model.specs.Units.{HasWholeCosts}

-- each number of the header is in the range that the text has for it
pub record IsHeaderInRange (h : Header) : Type 0 where
  pub capacity : (1 ≤ h.capacity) × (h.capacity ≤ 2 ^ 56)
  pub requests : h.requests ≤ 2 ^ 25
  pub unit : (1 ≤ h.unit) × (h.unit ≤ h.capacity)
  pub denominator : (1 ≤ h.denominator) × (h.denominator ≤ 2 ^ 48)
  pub upper : h.upper < 2 ^ 127
  pub flow : h.flow < 2 ^ 127
  pub lower : h.lower < 2 ^ 127
  pub warmup : h.warmup ≤ 2 ^ 25
  pub version : (CERT_VERSION ≤ h.version) × (h.version ≤ SHORT_VERSION)

-- each number of a record is in its range
pub record IsRecordInRange (r : Record) : Type 0 where
  pub price : r.price ≤ 2 ^ 126
  pub flow : r.flow ≤ 2 ^ 48

-- a header in range, and as many records in range as it says
pub record IsCertificate (h : Header) (records : List Record) : Type 0 where
  pub header : IsHeaderInRange h
  pub count : length records ≡ h.requests
  pub each : All IsRecordInRange records

-- the record of a keep, with no price and no flow
abbrev pub unpriced : Bool → Record
unpriced keep = record { price = 0; keep = keep; flow = 0 }

-- the price of each step
abbrev pub prices_of : List Record → List ℕ
prices_of records = map (λ r. r.price) records

-- the keep of each request
abbrev pub keeps_of : List Record → List Bool
keeps_of records = map (λ r. r.keep) records

-- the flow that record t states
abbrev pub flow_at : List Record → ℕ → ℕ
flow_at records t = slice_index_or (map (λ r. r.flow) records) t 0

-- the flow of each interval is that of the record where it starts
abbrev pub flows_of : List Interval → List Record → List ℕ
flows_of intervals records = map (λ i. flow_at records i.start) intervals

-- the eligible intervals at the header's terms, for a trace with these marks
abbrev pub eligible_of : List Object → List Bool → Header → List Interval
eligible_of trace fills h = eligible_intervals (terms_of h fills) trace

-- the capacity in units, rounded down
abbrev pub units_of : Header → ℕ
units_of h = h.capacity / h.unit

-- the bound of the records' prices
abbrev pub upper_of : List Object → List Bool → Header → List Record → ℕ
upper_of trace fills h records = bound_of (eligible_of trace fills h) h.unit (units_of h) h.denominator (prices_of records)

-- the value of the records' flows
abbrev pub flow_of : List Object → List Bool → Header → List Record → ℕ
flow_of trace fills h records = flow_value (eligible_of trace fills h) h.unit h.denominator (flows_of (eligible_of trace fills h) records)

-- the keeps are allowed contents, the flows a fractional schedule, and the header has their score, their value and the bound of the prices
pub record IsValid (trace : List Object) (fills : List Bool) (h : Header) (records : List Record) : Type 0 where
  pub certificate : IsCertificate h records
  pub requests : h.requests ≡ length trace
  pub sum_limit : units_of h * sum (prices_of records) ≤ 2 ^ 126
  pub last_price : slice_index_or (prices_of records) (length trace - 1) 0 ≡ 0
  pub unit : All (λ i. h.unit ∣ i.size) (eligible_of trace fills h)
  pub keeps : IsAllowed h.capacity trace (contents_of trace (keeps_of records))
  pub lower : h.lower ≡ score (terms_of h fills) trace (contents_of trace (keeps_of records))
  pub unused_flows : (t : ℕ) → list_any (λ i. i.start == t) (eligible_of trace fills h) ≡ false → flow_at records t ≡ 0
  pub flows : IsFractionalSchedule (eligible_of trace fills h) h.unit (units_of h) (flows_of (eligible_of trace fills h) records)
  pub flow : h.flow ≡ flow_of trace fills h records
  pub upper : h.upper ≡ upper_of trace fills h records
  pub whole_costs : IsTrue h.exact → HasWholeCosts (eligible_of trace fills h) h.unit h.denominator
  pub exact_values : IsTrue h.exact → h.upper ≡ h.flow

-- no prices over any denominator give a smaller bound than the records' prices
abbrev pub IsLeastOverAll : List Object → List Bool → Header → List Record → Type 0
IsLeastOverAll trace fills h records = (e : ℕ) (prices : List ℕ) → length prices ≡ length trace
    → e * upper_of trace fills h records ≤ h.denominator * bound_of (eligible_of trace fills h) h.unit (units_of h) e prices
