-- What a checker keeps, and the requests and records that it stands for.
use Rattle.std.specs.Prelude.{◌≡◌, ℕ, ◌<◌, ◌≤◌, ◌*◌, ◌^◌, Bool, List, length, take, sum, sum_by, All, MatchOption, None}
use Rattle.std.specs.List.{IsDistinct}
use Rattle.std.specs.Map.{keys_of, lookup}
use Rattle.cache_model.specs.declared.objects.Object.{Object}
use Rattle.cache_model.specs.declared.certificates.Header.{Header}
use Rattle.cache_model.specs.declared.certificates.Record.{Record}
use Rattle.cache_model.specs.Claim.{same_object, score, total_size, contents_of, held_before, is_kept, terms_of}
use Rattle.cache_model.specs.Objects.{objects_of, IsLatest, IsNew}
use Rattle.cache_model.specs.Keeps.{latest_sum}
use Rattle.cache_model.specs.Intervals.{surplus}
use Rattle.cache_model.specs.Certificates.{eligible_of, flow_at, flow_of, keeps_of, prices_of, IsHeaderInRange, IsRecordInRange}
pub use Rattle.cache_rules.specs.Stored.{IsSized}
use Rattle.cert_checker.specs.declared.summary.Seen.{Seen}
use Rattle.cert_checker.specs.declared.summary.Sums.{Sums}
use Rattle.cert_checker.specs.Rules.{record_fault}

-- what is kept: the header, an entry for each object, and the sums
pub record Summary : Type 0 where
  pub header : Header
  pub entries : List (Object × Seen)
  pub sums : Sums

-- what is kept of an object is what its latest request and the record of that say
pub record IsSeen (trace : List Object) (records : List Record) (x : Object) (seen : Seen) : Type 0 where
  pub latest : IsLatest trace x seen.latest
  pub price_before : seen.price_before ≡ sum (take seen.latest (prices_of records))
  pub keep : seen.keep ≡ is_kept (keeps_of records) seen.latest
  pub flow : seen.flow ≡ flow_at records seen.latest

-- the sums are those of the requests and records
pub record AreSums (h : Header) (fills : List Bool) (trace : List Object) (records : List Record) (sums : Sums) : Type 0 where
  pub steps : sums.steps ≡ length trace
  pub prices : sums.prices ≡ sum (prices_of records)
  pub load : sums.load ≡ total_size (held_before trace (keeps_of records) (length trace))
  pub flows : sums.flows ≡ latest_sum trace (flow_at records) (length trace)
  pub surpluses : sums.surpluses ≡ sum_by (surplus h.unit h.denominator (prices_of records)) (eligible_of trace fills h)
  pub values : sums.values ≡ flow_of trace fills h records
  pub score : sums.score ≡ score (terms_of h fills) trace (contents_of trace (keeps_of records))

-- the header, the requests and the records so far, one for each request, are in range
pub record IsInput (h : Header) (trace : List Object) (records : List Record) : Type 0 where
  pub header_in_range : IsHeaderInRange h
  pub sizes_in_range : All IsSized trace
  pub records_in_range : All IsRecordInRange records
  pub one_record_each : length records ≡ length trace
  pub within : length trace ≤ h.requests

-- no record fails a rule, and what is kept is the summary of the header, the requests, of which some only fill, and the records
pub record StandsFor (h : Header) (fills : List Bool) (trace : List Object) (records : List Record) (s : Summary) : Type 0 where
  pub header : s.header ≡ h
  pub input : IsInput h trace records
  pub no_fault : (t : ℕ) → t < length trace → record_fault h fills trace records t ≡ None
  pub objects : keys_of s.entries ≡ objects_of trace
  pub seen : (x : Object) → MatchOption (lookup (same_object x) s.entries) (IsNew trace x) (IsSeen trace records x)
  pub sums : AreSums h fills trace records s.sums

-- it holds of each header, requests and records that the summary stands for
abbrev pub HoldsOfAll : Summary → (Header → List Bool → List Object → List Record → Type 0) → Type 0
HoldsOfAll s holds = (h : Header) (fills : List Bool) (trace : List Object) (records : List Record) → StandsFor h fills trace records s → holds h fills trace records

-- sums stay small: each request adds a limited amount
pub record AreSmall (sums : Sums) : Type 0 where
  pub surpluses : sums.surpluses ≤ 2 ^ 96 * sums.steps
  pub values : sums.values ≤ 2 ^ 96 * sums.steps
  pub score : sums.score ≤ 2 ^ 48 * sums.steps

-- a checker stands for some requests and records, has one entry for each object, and its sums are small
pub record IsChecker (s : Summary) : Type 0 where
  pub unique : IsDistinct same_object (keys_of s.entries)
  pub fills : List Bool
  pub trace : List Object
  pub records : List Record
  pub stands : StandsFor s.header fills trace records s
  pub small : AreSmall s.sums
