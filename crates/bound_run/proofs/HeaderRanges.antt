-- Headers that are made, in range.
use Rattle.std.proofs.Common.{ℕ, ◌<◌, ◌≤◌, ◌^◌, Bool}
use Rattle.cache_model.specs.declared.certificates.Header.{Header}
use Rattle.cache_model.specs.declared.version.TheConstants.{CERT_VERSION, SHORT_VERSION}
use Rattle.cache_model.specs.Certificates.{IsHeaderInRange}
use Rattle.bound_words.specs.declared.plans.BoundSettings.{BoundSettings}
use Rattle.bound_words.specs.Ranges.{AreBoundSettingsInRange}

-- the header of these numbers
abbrev pub header_with : BoundSettings → ℕ → ℕ → ℕ → Bool → ℕ → ℕ → ℕ → Header
header_with asked requests unit d exact upper flow lower = record {
  objective = asked.terms.objective;
  capacity = asked.terms.capacity;
  requests = requests;
  unit = unit;
  denominator = d;
  exact = exact;
  upper = upper;
  flow = flow;
  lower = lower;
  warmup = asked.terms.warmup;
  version = asked.version;
}

-- it is in range with settings and numbers in their ranges
pub header_in_range : (asked : BoundSettings) (requests unit d : ℕ) (exact : Bool) (upper flow lower : ℕ) → AreBoundSettingsInRange asked
    → requests ≤ 2 ^ 25 → (1 ≤ unit) × (unit ≤ asked.terms.capacity) → (1 ≤ d) × (d ≤ 2 ^ 48) → upper < 2 ^ 127 → flow < 2 ^ 127 → lower < 2 ^ 127
    → IsHeaderInRange (header_with asked requests unit d exact upper flow lower)
header_in_range asked requests unit d exact upper flow lower in_range few units denominators small small_flow small_lower = record {
  capacity = in_range.capacity;
  requests = few;
  unit = units;
  denominator = denominators;
  upper = small;
  flow = small_flow;
  lower = small_lower;
  warmup = in_range.warmup;
  version = in_range.version;
}

-- a header in range is so with another upper bound and another version
pub still_in_range : (h : Header) (upper version : ℕ) → IsHeaderInRange h → upper < 2 ^ 127 → (CERT_VERSION ≤ version) × (version ≤ SHORT_VERSION) → IsHeaderInRange (record h { upper = upper; version = version })
still_in_range h upper version range small versions = record {
  capacity = range.capacity;
  requests = range.requests;
  unit = range.unit;
  denominator = range.denominator;
  upper = small;
  flow = range.flow;
  lower = range.lower;
  warmup = range.warmup;
  version = versions;
}
