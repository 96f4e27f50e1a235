-- Runs of an object from a request that writes it to requests at most the ttl later, and the bound of prices with a ttl.
use Rattle.std.specs.Prelude.{ℕ, zero, suc, ◌+◌, ◌-◌, ◌*◌, ◌/◌, max, ◌⊎◌, nat_le, Bool, if◌then◌else◌, List, [], ◌∷◌, length, fold, map, filter, slice_index_or, sum, sum_by}
use Rattle.cache_model.specs.declared.objects.Object.{Object}
use Rattle.cache_model.specs.Claim.{Terms, counts, gain_of, only_fills, request_at, same_object}
use Rattle.cache_model.specs.Objects.{objects_of}
use Rattle.freshness.specs.Stale.{clock}

-- some element has the property
abbrev pub HasOne : {X : Type 0} → (X → Type 0) → List X → Type 0
HasOne P [] = ⊥
HasOne P (x ∷ xs) = P x ⊎ HasOne P xs

-- a start of a run of an object: its clock, what the object was worth without being held before, and what the run earned and was priced at since
pub record Start : Type 0 where
  pub clock : ℕ
  pub before : ℕ
  pub earned : ℕ
  pub priced : ℕ

-- a start at this clock, of an object that is worth this without being held before
abbrev pub new_start : ℕ → ℕ → Start
new_start now before = record { clock = now; before = before; earned = 0; priced = 0 }

-- what the object is worth if it was held since the start, and 0 if that is negative
abbrev pub worth : Start → ℕ
worth s = (s.before + s.earned) - s.priced

-- a run that earns this more, and one that is priced at this more
abbrev pub with_gain : ℕ → Start → Start
with_gain gain s = record s { earned = s.earned + gain }

abbrev pub with_price : ℕ → Start → Start
with_price price s = record s { priced = s.priced + price }

-- what is known of an object: the greatest worth so far, and the starts from which a run may go on
pub record Walk : Type 0 where
  pub top : ℕ
  pub starts : List Start

-- before the first request
abbrev pub nothing_walked : Walk
nothing_walked = record { top = 0; starts = [] }

-- the runs that go on past a request with this gain: none if it only fills, as it gains nothing and the object is written anew there; else those whose start is no more than the ttl ago
abbrev pub going_on : Bool → ℕ → ℕ → ℕ → List Start → List Start
going_on fills now ttl gain starts = if fills then [] else map (with_gain gain) (filter (λ s. nat_le now (s.clock + ttl)) starts)

-- at a request of the object a run may start, whose hit is given up, or go on; the greatest worth is that of one of them
abbrev pub with_request : Bool → ℕ → ℕ → ℕ → Walk → Walk
with_request fills now ttl gain w =
    let starts = new_start now w.top ∷ going_on fills now ttl gain w.starts in
    record { top = fold max 0 (map worth starts); starts = starts }

-- over a step, at the price of the object there
abbrev pub with_step : ℕ → Walk → Walk
with_step price w = record w { starts = map (with_price price) w.starts }

-- what is known of x after the first n requests and the step after each
abbrev pub walk : Terms → ℕ → ℕ → List Object → List ℕ → List ℕ → ℕ → ℕ → Object → Walk
walk terms unit denominator trace times prices ttl zero x = nothing_walked
walk terms unit denominator trace times prices ttl (suc t) x =
    let before = walk terms unit denominator trace times prices ttl t x in
    let gain = if counts terms t then denominator * gain_of terms.objective x else 0 in
    let asked = with_request (only_fills terms.fills t) (clock times t) ttl gain before in
    with_step ((x.size / unit) * slice_index_or prices t 0) (if same_object (request_at trace t) x then asked else before)

-- the greatest worth of an object, and 0 if it doesn't fit
abbrev pub greatest_worth : Terms → ℕ → ℕ → List Object → List ℕ → List ℕ → ℕ → Object → ℕ
greatest_worth terms unit denominator trace times prices ttl x =
    if nat_le x.size terms.capacity then (walk terms unit denominator trace times prices ttl (length trace) x).top else 0

-- the numerator of the bound that the prices give with a ttl
abbrev pub bound_with_ttl : Terms → ℕ → ℕ → List Object → List ℕ → List ℕ → ℕ → ℕ
bound_with_ttl terms unit denominator trace times prices ttl =
    (terms.capacity / unit) * sum prices + sum_by (greatest_worth terms unit denominator trace times prices ttl) (objects_of trace)
