-- The bound that one price gives with a time to live, and the lower of two bounds.
use Rattle.std.specs.Prelude.{ℕ, nat_lt, if◌then◌else◌, List, length}
use Rattle.cache_model.specs.Claim.{marked}
use Rattle.cache_model.specs.declared.terms.Terms.{Terms}
use Rattle.cache_rules.specs.Stored.{Requests}
use Rattle.constant_price.specs.Constants.{constant_prices}
use Rattle.ttl_laws.specs.Runs.{bound_with_ttl}
use Rattle.ttl_sums.specs.Walked.{Priced}
use Rattle.ttl_prices.specs.declared.search.LowPrice.{LowPrice}

-- what is asked of a trace, with these times, these prices over a denominator and this ttl
abbrev pub priced : Terms → ℕ → ℕ → Requests → List ℕ → List ℕ → ℕ → Priced
priced terms unit denominator trace times prices ttl = record {
  terms = marked terms trace.fills;
  unit = unit;
  denominator = denominator;
  trace = trace.objects;
  times = times;
  prices = prices;
  ttl = ttl;
}

-- the numerator of the bound with this ttl, if this is the price on every step but the last
abbrev pub bound_of_price : Terms → ℕ → ℕ → Requests → List ℕ → ℕ → ℕ → ℕ
bound_of_price terms unit denominator trace times ttl price =
    bound_with_ttl (marked terms trace.fills) unit denominator trace.objects times (constant_prices price (length trace.objects)) ttl

-- the price whose bound is lower, and the first if they are equal
abbrev pub lower_of : LowPrice → LowPrice → LowPrice
lower_of a b = if nat_lt b.bound a.bound then b else a
