-- The laws of the definitions, each the contract of a function.
use Rattle.std.specs.Prelude.{if◌then◌else◌, nat_le, sum_by, map, [], ◌∷◌, ◌++◌, ◌≡◌, ◌↔◌, ℕ, ◌+◌, ◌*◌, ◌<◌, ◌≤◌, ◌==◌, ◌&&◌, Bool, false, IsTrue, List, length, Contains, All, AllPairs}
use Rattle.cache_model.specs.declared.objects.Object.{Object}
use Rattle.cache_model.specs.declared.intervals.Interval.{Interval}
use Rattle.cache_model.specs.declared.certificates.Header.{Header}
use Rattle.cache_model.specs.declared.certificates.Record.{Record}
use Rattle.cache_model.specs.Certificates.{IsCertificate, IsValid, IsLeastOverAll}
use Rattle.cache_model.specs.Texts.{cert_text}
use Rattle.cache_model.specs.Claim.{Terms, counts, IsAllowed, total_size, BoundsEveryPolicy, request_at, held_before, contents_of, is_kept}
use Rattle.cache_model.specs.Objects.{IsLatest, IsNew}
use Rattle.cache_model.specs.Intervals.{interval_of, eligible_intervals, bound_of}
use Rattle.cache_model.specs.Objects.{IsNext}
use Rattle.std.specs.List.{list_any, AllZip}
use Rattle.cache_model.specs.Keeps.{latest_sum}
use Rattle.cache_model.specs.Schedules.{load_at, IsFractionalSchedule, flow_value}
use Rattle.cache_model.specs.Units.{weight, IsUnit, IsLeastWhole, IsLeastCommonMultiple, IsReducedWeight}
use Rattle.cache_model.specs.Rounding.{IsRounded, IsMaximal, taken_load}

-- two requests of one object that fits, with no request of it between them, the later one of those that count
pub record IsEligible (terms : Terms) (trace : List Object) (i : Interval) : Type 0 where
  pub next : IsNext trace i.start i.end
  pub fits : (request_at trace i.start).size ≤ terms.capacity
  pub counts : IsTrue (counts terms i.end)
  pub numbers : i ≡ interval_of terms.objective trace i.start i.end

-- the list has all and only the eligible intervals, in order of start
pub record EligibleIntervals (terms : Terms) (trace : List Object) : Type 0 where
  pub all_and_only : (i : Interval) → Contains (eligible_intervals terms trace) i ↔ IsEligible terms trace i
  pub in_order : AllPairs (λ i j. i.start < j.start) (eligible_intervals terms trace)

-- what is said above holds of every trace
abbrev pub IntervalsAreEligible : Type 0
IntervalsAreEligible = (terms : Terms) (trace : List Object) → EligibleIntervals terms trace

-- if the contents of keeps fit, they are allowed contents
abbrev pub KeepsAreAllowed : Type 0
KeepsAreAllowed =
    (trace : List Object) (capacity : ℕ) (keeps : List Bool)
    → ((t : ℕ) → t ≤ length trace → total_size (held_before trace keeps t) ≤ capacity)
    → IsAllowed capacity trace (contents_of trace keeps)

-- a fractional schedule is worth at most the bound of any prices, whatever the two denominators
abbrev pub FlowsAreBelowPrices : Type 0
FlowsAreBelowPrices =
    (intervals : List Interval) (unit units d e : ℕ) (flows prices : List ℕ)
    → IsFractionalSchedule intervals unit units flows
    → e * flow_value intervals unit d flows ≤ d * bound_of intervals unit units e prices

-- if only starts of eligible intervals are kept, the sizes held after request t are those of the kept intervals over step t
abbrev pub ContentsWeighTheirIntervals : Type 0
ContentsWeighTheirIntervals =
    (terms : Terms) (trace : List Object) (keeps : List Bool) (t : ℕ)
    → ((a : ℕ) → list_any (λ i. i.start == a) (eligible_intervals terms trace) ≡ false → is_kept keeps a ≡ false)
    → t < length trace
    → total_size (held_before trace keeps (t + 1)) ≡ taken_load (eligible_intervals terms trace) keeps t

-- rounded keeps are maximal, whatever the order
abbrev pub RoundedIsMaximal : Type 0
RoundedIsMaximal =
    (ahead : Interval → Interval → Bool) (intervals : List Interval) (capacity steps : ℕ) (full keeps : List Bool)
    → IsRounded ahead intervals capacity steps full keeps → IsMaximal intervals capacity keeps

-- no two certificates have one text, and no text of one begins another's
abbrev pub OneReading : Type 0
OneReading =
    (h k : Header) (records entries : List Record) (xs ys : List ℕ)
    → IsCertificate h records → IsCertificate k entries
    → cert_text h records ++ xs ≡ cert_text k entries ++ ys
    → (h ≡ k) × (records ≡ entries) × (xs ≡ ys)

-- one more request: at most one more interval, from the latest request of its object
pub record IntervalsGrow (terms : Terms) (trace : List Object) (x : Object) (amount : Interval → ℕ) : Type 0 where
  pub new : IsNew trace x
      → sum_by amount (eligible_intervals terms (trace ++ x ∷ [])) ≡ sum_by amount (eligible_intervals terms trace)
  pub again : (a : ℕ) → IsLatest trace x a
      → sum_by amount (eligible_intervals terms (trace ++ x ∷ []))
      ≡ sum_by amount (eligible_intervals terms trace)
      + (if nat_le x.size terms.capacity && counts terms (length trace) then amount (interval_of terms.objective (trace ++ x ∷ []) a (length trace)) else 0)

-- one more request: its amount stands in place of that of the latest request of its object
pub record LatestSumGrows (trace : List Object) (x : Object) (amount : ℕ → ℕ) : Type 0 where
  pub new : IsNew trace x → latest_sum (trace ++ x ∷ []) amount (length trace + 1) ≡ latest_sum trace amount (length trace) + amount (length trace)
  pub again : (a : ℕ) → IsLatest trace x a
      → latest_sum (trace ++ x ∷ []) amount (length trace + 1) + amount a ≡ latest_sum trace amount (length trace) + amount (length trace)

-- what one more request adds to a sum over the intervals, and to one over the latest requests
abbrev pub OneMoreRequest : Type 0
OneMoreRequest =
    (terms : Terms) (trace : List Object) (x : Object) (of_interval : Interval → ℕ) (of_request : ℕ → ℕ)
    → IntervalsGrow terms trace x of_interval × LatestSumGrows trace x of_request

-- the load of a step is the sum over the latest requests, if only starts of intervals have an amount
abbrev pub LoadIsLatestSum : Type 0
LoadIsLatestSum =
    (terms : Terms) (trace : List Object) (amount : ℕ → ℕ) (t : ℕ)
    → ((a : ℕ) → list_any (λ i. i.start == a) (eligible_intervals terms trace) ≡ false → amount a ≡ 0)
    → t < length trace
    → load_at (eligible_intervals terms trace) (map (λ i. amount i.start) (eligible_intervals terms trace)) t ≡ latest_sum trace amount (t + 1)

-- a valid certificate bounds every policy
abbrev pub ValidBoundsEveryPolicy : Type 0
ValidBoundsEveryPolicy = (trace : List Object) (fills : List Bool) (h : Header) (records : List Record) → IsValid trace fills h records → BoundsEveryPolicy trace fills h

-- a valid certificate of the form exact gives the least bound of all prices over every denominator
abbrev pub ExactIsLeast : Type 0
ExactIsLeast = (trace : List Object) (fills : List Bool) (h : Header) (records : List Record) → IsValid trace fills h records → IsTrue h.exact → IsLeastOverAll trace fills h records

-- the same intervals have one unit only
abbrev pub UnitIsOneNumber : Type 0
UnitIsOneNumber = (intervals : List Interval) (u v : ℕ) → IsUnit intervals u → IsUnit intervals v → u ≡ v

-- the least denominator at which no cost is rounded is the least common multiple of the reduced weights
abbrev pub LeastWholeIsLeastCommonMultiple : Type 0
LeastWholeIsLeastCommonMultiple =
    (intervals : List Interval) (unit denominator : ℕ) (reduced : List ℕ)
    → All (λ i. 0 < weight unit i) intervals
    → AllZip (IsReducedWeight unit) intervals reduced
    → IsLeastWhole intervals unit denominator ↔ IsLeastCommonMultiple reduced denominator
