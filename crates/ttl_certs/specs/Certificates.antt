-- Certificates of objects that expire a time after they were written, the ttl: when one is valid.
use Rattle.std.specs.Prelude.{◌≡◌, ℕ, ◌-◌, ◌*◌, ◌^◌, ◌≤◌, Bool, IsTrue, List, length, slice_index_or, sum, All}
use Prim.Native.Nat.{◌∣◌}
use Rattle.cache_model.specs.declared.objects.Object.{Object}
use Rattle.cache_model.specs.declared.certificates.Header.{Header}
use Rattle.cache_model.specs.declared.certificates.Record.{Record}
use Rattle.cache_model.specs.Claim.{IsAllowed, contents_of, terms_of}
use Rattle.cache_model.specs.Certificates.{IsCertificate, eligible_of, keeps_of, prices_of, units_of}
use Rattle.cache_model.specs.Units.{HasWholeCosts}
use Rattle.ttl_laws.specs.Fresh.{score_with_ttl}
use Rattle.ttl_laws.specs.Runs.{bound_with_ttl}

-- the keeps are allowed contents, no flow is stated, and the header has their score with this ttl and the bound of the prices with it; the marks are those of a trace in which what is stale only fills
pub record IsValidWithTtl (trace : List Object) (fills : List Bool) (times : List ℕ) (ttl : ℕ) (h : Header) (records : List Record) : Type 0 where
  pub certificate : IsCertificate h records
  pub requests : h.requests ≡ length trace
  pub sum_limit : units_of h * sum (prices_of records) ≤ 2 ^ 126
  pub last_price : slice_index_or (prices_of records) (length trace - 1) 0 ≡ 0
  pub unit : All (λ i. h.unit ∣ i.size) (eligible_of trace fills h)
  pub keeps : IsAllowed h.capacity trace (contents_of trace (keeps_of records))
  pub lower : h.lower ≡ score_with_ttl (terms_of h fills) trace times ttl (contents_of trace (keeps_of records))
  pub no_flows : All (λ r. r.flow ≡ 0) records
  pub flow : h.flow ≡ 0
  pub upper : h.upper ≡ bound_with_ttl (terms_of h fills) h.unit h.denominator trace times (prices_of records) ttl
  pub whole_costs : IsTrue h.exact → HasWholeCosts (eligible_of trace fills h) h.unit h.denominator
  pub exact_values : IsTrue h.exact → h.upper ≡ h.flow
