-- The ranges of what is asked for.
use Rattle.std.specs.Prelude.{◌^◌, ◌≤◌}
use Rattle.cache_model.specs.declared.version.TheConstants.{CERT_VERSION, SHORT_VERSION}
use Rattle.relaxation.specs.Denominators.{IsChoice}
use Rattle.ttl_bounds.specs.declared.asked.TtlAsked.TheInside.{Inside as Fields}

-- what is asked for is in its ranges
pub record AreTtlAskedInRange (s : Fields) : Type 0 where
  pub capacity : (1 ≤ s.terms.capacity) × (s.terms.capacity ≤ 2 ^ 56)
  pub warmup : s.terms.warmup ≤ 2 ^ 25
  pub denominator : IsChoice s.denominator
  pub version : (CERT_VERSION ≤ s.version) × (s.version ≤ SHORT_VERSION)
