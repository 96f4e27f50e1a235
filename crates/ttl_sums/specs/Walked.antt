-- A trace that is priced with a time to live, and that so much of it was walked.
use Rattle.std.specs.Prelude.{◌≡◌, ℕ, ◌+◌, ◌*◌, ◌/◌, ◌<◌, ◌≤◌, nat_le, if◌then◌else◌, List, length, map, filter, take, position, slice_index_or, sum, sum_by, Some}
use Rattle.std.specs.List.{range_with_len}
use Rattle.cache_model.specs.declared.objects.Object.{Object}
use Rattle.cache_model.specs.Claim.{Terms, counts, gain_of, no_object, only_fills, request_at, same_object}
use Rattle.cache_model.specs.Objects.{is_first, objects_of}
use Rattle.freshness.specs.Stale.{clock}
use Rattle.ttl_laws.specs.Runs.{bound_with_ttl, walk}
use Rattle.ttl_walk.specs.Kept.{StandsFor}
use Rattle.ttl_walk.specs.Requests.{prices_since, requests_of, walk_over}
use Rattle.ttl_sums.specs.declared.entry.Entry.{Entry}
use Rattle.ttl_sums.specs.declared.request.Request.{Request}
use Rattle.ttl_sums.specs.Entries.{entry_at}
use Rattle.ttl_sums.specs.Worths.{Worths}

-- a trace with the times of its requests, the prices of its steps over a denominator, and a time to live
pub record Priced : Type 0 where
  pub terms : Terms
  pub unit : ℕ
  pub denominator : ℕ
  pub trace : List Object
  pub times : List ℕ
  pub prices : List ℕ
  pub ttl : ℕ

-- the bound of its prices
abbrev pub bound_of : Priced → ℕ
bound_of p = bound_with_ttl p.terms p.unit p.denominator p.trace p.times p.prices p.ttl

-- the different objects of the first n requests, in the order in which they were first asked for
abbrev pub objects_before : List Object → ℕ → List Object
objects_before trace n = map (request_at trace) (filter (is_first trace) (range_with_len 0 n))

-- the greatest worth of x after the first n requests, and 0 if it doesn't fit
abbrev pub worth_before : Priced → ℕ → Object → ℕ
worth_before p n x =
    if nat_le x.size p.terms.capacity then (walk p.terms p.unit p.denominator p.trace p.times p.prices p.ttl n x).top else 0

-- the greatest worths of all objects of the first n requests
abbrev pub worths_before : Priced → ℕ → ℕ
worths_before p n = sum_by (worth_before p n) (objects_before p.trace n)

-- this is the number of the object of request n
abbrev pub IsNumberAt : Priced → ℕ → ℕ → Type 0
IsNumberAt p n number = position (same_object (request_at p.trace n)) (objects_of p.trace) ≡ Some number

-- this is request n, for an object that fits
pub record IsNext (p : Priced) (n : ℕ) (request : Request) : Type 0 where
  pub within : n < length p.trace
  pub numbered : IsNumberAt p n request.number
  pub fits : (request_at p.trace n).size ≤ p.terms.capacity
  pub clock : request.clock ≡ clock p.times n
  pub fills : request.fills ≡ only_fills p.terms.fills n
  pub weight : request.weight ≡ (request_at p.trace n).size / p.unit
  pub gain : request.gain ≡ (if counts p.terms n then p.denominator * gain_of p.terms.objective (request_at p.trace n) else 0)

-- request n is for an object of this number that doesn't fit
pub record IsNextAbove (p : Priced) (n number : ℕ) : Type 0 where
  pub within : n < length p.trace
  pub numbered : IsNumberAt p n number
  pub above : p.terms.capacity < (request_at p.trace n).size

-- the entry is that of x after the first n requests: of the steps since its last request nothing was paid
pub record IsEntryOf (p : Priced) (n : ℕ) (x : Object) (e : Entry) : Type 0 where
  pub walk : x.size ≤ p.terms.capacity → StandsFor e.walk (walk_over p.ttl (requests_of p.terms p.unit p.denominator p.trace p.times p.prices n x))
  pub paid : x.size ≤ p.terms.capacity → e.paid + prices_since p.trace p.prices n x ≡ sum (take n p.prices)
  pub above : p.terms.capacity < x.size → e.walk.top ≡ 0

-- the first requests of the trace were walked, and the prices of its first steps summed
pub record HasWalked (p : Priced) (requests steps : ℕ) (w : Worths) : Type 0 where
  pub ttl : w.ttl ≡ p.ttl
  pub units : w.units ≡ p.terms.capacity / p.unit
  pub prices : w.prices ≡ sum (take steps p.prices)
  pub within : requests ≤ length p.trace
  pub objects : length w.objects ≡ length (objects_before p.trace requests)
  pub each : (k : ℕ) → k < length w.objects
      → IsEntryOf p requests (slice_index_or (objects_of p.trace) k no_object) (entry_at w.objects k)
