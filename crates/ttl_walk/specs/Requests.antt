-- The walk of an object over its own requests, and what the walk over a trace is.
use Rattle.std.specs.Prelude.{◌≡◌, ℕ, zero, suc, ◌+◌, ◌*◌, ◌/◌, if◌then◌else◌, List, [], ◌∷◌, ◌++◌, fold, slice_index_or}
use Rattle.cache_model.specs.declared.objects.Object.{Object}
use Rattle.cache_model.specs.Claim.{Terms, counts, gain_of, only_fills, request_at, same_object}
use Rattle.freshness.specs.Stale.{clock}
use Rattle.ttl_laws.specs.Runs.{Walk, nothing_walked, walk, with_request, with_step}
use Rattle.ttl_walk.specs.declared.asked.Asked.{Asked}

-- what is known of the object after its next request
abbrev pub walk_on : ℕ → Walk → Asked → Walk
walk_on ttl w asked = with_request asked.fills asked.clock ttl asked.gain (with_step asked.priced w)

-- and after all of these
abbrev pub walk_over : ℕ → List Asked → Walk
walk_over ttl requests = fold (walk_on ttl) nothing_walked requests

-- the prices of the steps from the last of the first n requests that was for x, or from the first if none was
abbrev pub prices_since : List Object → List ℕ → ℕ → Object → ℕ
prices_since trace prices zero x = 0
prices_since trace prices (suc t) x =
    (if same_object (request_at trace t) x then 0 else prices_since trace prices t x) + slice_index_or prices t 0

-- those of the first n requests that are for x
abbrev pub requests_of : Terms → ℕ → ℕ → List Object → List ℕ → List ℕ → ℕ → Object → List Asked
requests_of terms unit denominator trace times prices zero x = []
requests_of terms unit denominator trace times prices (suc t) x =
    let before = requests_of terms unit denominator trace times prices t x in
    let asked : Asked = record {
      clock = clock times t;
      fills = only_fills terms.fills t;
      gain = (if counts terms t then denominator * gain_of terms.objective x else 0);
      priced = (x.size / unit) * prices_since trace prices t x;
    } in
    if same_object (request_at trace t) x then before ++ asked ∷ [] else before

-- the walk of x over a trace is that over its requests, and the price of the steps since
abbrev pub WalksOverRequests : Type 0
WalksOverRequests =
    (terms : Terms) (unit denominator : ℕ) (trace : List Object) (times prices : List ℕ) (ttl n : ℕ) (x : Object)
    → walk terms unit denominator trace times prices ttl n x
    ≡ with_step ((x.size / unit) * prices_since trace prices n x) (walk_over ttl (requests_of terms unit denominator trace times prices n x))
