-- What a bound says of smaller capacities, of fetches and of the greatest score; each law is the contract of a function.
use Rattle.std.specs.Prelude.{◌≡◌, ◌≢◌, ℕ, ◌+◌, ◌-◌, ◌*◌, ◌/◌, ◌≤◌, Bool, not, if◌then◌else◌, List, [], ◌∷◌, length, drop, filter, sum, sum_by, zip, All, AllPairs}
use Rattle.cache_model.specs.declared.objects.Object.{Object}
use Rattle.cache_model.specs.declared.objects.Objective.{Objective}
use Rattle.cache_model.specs.declared.certificates.Header.{Header}
use Rattle.cache_model.specs.declared.certificates.Record.{Record}
use Rattle.cache_model.specs.Claim.{Terms, holds, gain_of, total_size, before_request, IsAllowed, score, terms_from, terms_of}
use Rattle.cache_model.specs.Intervals.{eligible_intervals, bound_of}
use Rattle.cache_model.specs.Certificates.{IsValid, prices_of}
use Rattle.part_laws.specs.Laws.{NoneScoreMore}

-- how many units the smaller capacity lacks
abbrev pub units_fewer : ℕ → ℕ → ℕ → ℕ
units_fewer capacity smaller unit = capacity / unit - smaller / unit

-- no allowed contents at a smaller capacity score more than the bound of any prices, less their sum for each unit that is gone
abbrev pub SmallerCapacitiesAreBounded : Type 0
SmallerCapacitiesAreBounded =
    (terms : Terms) (smaller unit denominator : ℕ) (trace : List Object) (prices : List ℕ) (contents : List (List Object))
    → smaller ≤ terms.capacity
    → IsAllowed smaller trace contents
    → length prices ≡ length trace
    → denominator * score terms trace contents + units_fewer terms.capacity smaller unit * sum prices
    ≤ bound_of (eligible_intervals terms trace) unit (terms.capacity / unit) denominator prices

-- nor more than the upper bound of a valid certificate, less the same
abbrev pub ValidBoundsSmallerCapacities : Type 0
ValidBoundsSmallerCapacities =
    (trace : List Object) (fills : List Bool) (h : Header) (records : List Record) (smaller : ℕ) (contents : List (List Object))
    → IsValid trace fills h records
    → smaller ≤ h.capacity
    → IsAllowed smaller trace contents
    → h.denominator * score (terms_of h fills) trace contents + units_fewer h.capacity smaller h.unit * sum (prices_of records) ≤ h.upper

-- contents that begin empty and fit, whatever enters and when
pub record IsWithinCapacity (capacity : ℕ) (trace : List Object) (contents : List (List Object)) : Type 0 where
  pub one_more_than_requests : length contents ≡ length trace + 1
  pub empty_at_first : before_request contents 0 ≡ []
  pub within_capacity : All (λ held. total_size held ≤ capacity) contents
  pub without_repeats : All (AllPairs (λ x y. x ≢ y)) contents

-- from the warm-up on, the gains of the requests whose object is not in the contents before them
abbrev pub missed : Objective → ℕ → List Object → List (List Object) → ℕ
missed objective warmup trace contents = sum_by (λ (x, held). if holds held x then 0 else gain_of objective x) (drop warmup (zip trace contents))

-- the gains of what the next contents have, and what neither was held nor is asked for
abbrev pub entered_unasked : Objective → Object → List Object → List Object → ℕ
entered_unasked objective x held next = sum_by (gain_of objective) (filter (λ y. not (holds (x ∷ held) y)) next)

-- the same of all requests, summed
abbrev pub prefetched : Objective → List Object → List (List Object) → ℕ
prefetched objective trace contents =
    sum_by (λ (x, pair). entered_unasked objective x pair.0 pair.1) (zip trace (zip contents (drop 1 contents)))

-- if every request counts, misses and prefetches of any contents, and what bounds all allowed contents, sum to no less than what is asked for
abbrev pub FetchesAreBounded : Type 0
FetchesAreBounded =
    (objective : Objective) (capacity warmup most : ℕ) (trace : List Object) (contents : List (List Object))
    → NoneScoreMore (terms_from objective capacity warmup []) trace most
    → IsWithinCapacity capacity trace contents
    → sum_by (gain_of objective) (drop warmup trace)
    ≤ most + (missed objective warmup trace contents + prefetched objective trace contents)

-- the floor of a valid certificate's upper bound bounds the fetches of all contents
abbrev pub ValidBoundsFetches : Type 0
ValidBoundsFetches =
    (trace : List Object) (h : Header) (records : List Record) (contents : List (List Object))
    → IsValid trace [] h records
    → IsWithinCapacity h.capacity trace contents
    → sum_by (gain_of h.objective) (drop h.warmup trace)
    ≤ h.upper / h.denominator + (missed h.objective h.warmup trace contents + prefetched h.objective trace contents)

-- a number is the greatest score of allowed contents: some allowed contents have it, and none score more
pub record IsGreatestScore (terms : Terms) (trace : List Object) (best : ℕ) : Type 0 where
  pub contents : List (List Object)
  pub allowed : IsAllowed terms.capacity trace contents
  pub scored : score terms trace contents ≡ best
  pub greatest : (others : List (List Object)) → IsAllowed terms.capacity trace others → score terms trace others ≤ best

-- a greatest score exists for every trace
abbrev pub GreatestScoreExists : Type 0
GreatestScoreExists = (terms : Terms) (trace : List Object) → (best : ℕ) × IsGreatestScore terms trace best

-- of a valid certificate's terms it lies from the lower bound to the floor of the upper one
abbrev pub GreatestScoreIsWithin : Type 0
GreatestScoreIsWithin =
    (trace : List Object) (fills : List Bool) (h : Header) (records : List Record)
    → IsValid trace fills h records
    → (best : ℕ) → IsGreatestScore (terms_of h fills) trace best
    → (h.lower ≤ best) × (best ≤ h.upper / h.denominator)
