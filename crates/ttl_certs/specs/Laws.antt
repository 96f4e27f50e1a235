-- What a valid certificate bounds with a ttl; each law is the contract of a function.
use Rattle.std.specs.Prelude.{ℕ, ◌≤◌, Bool, List}
use Rattle.cache_model.specs.declared.objects.Object.{Object}
use Rattle.cache_model.specs.declared.certificates.Header.{Header}
use Rattle.cache_model.specs.declared.certificates.Record.{Record}
use Rattle.cache_model.specs.Claim.{terms_of}
use Rattle.cache_model.specs.Certificates.{IsValid, prices_of}
use Rattle.ttl_laws.specs.Runs.{bound_with_ttl}
use Rattle.ttl_certs.specs.Claim.{BoundsEveryPolicyWithTtl}
use Rattle.ttl_certs.specs.Certificates.{IsValidWithTtl}

-- a valid certificate with a ttl bounds every policy with it
abbrev pub ValidBoundsWithTtl : Type 0
ValidBoundsWithTtl =
    (trace : List Object) (fills : List Bool) (times : List ℕ) (ttl : ℕ) (h : Header) (records : List Record)
    → IsValidWithTtl trace fills times ttl h records
    → BoundsEveryPolicyWithTtl trace fills times ttl h

-- and with each shorter ttl: at its prices the bound with that is at most the upper bound
abbrev pub ValidBoundsShorterTtls : Type 0
ValidBoundsShorterTtls =
    (trace : List Object) (fills : List Bool) (times : List ℕ) (ttl shorter : ℕ) (h : Header) (records : List Record)
    → shorter ≤ ttl
    → IsValidWithTtl trace fills times ttl h records
    → (bound_with_ttl (terms_of h fills) h.unit h.denominator trace times (prices_of records) shorter ≤ h.upper)
    × BoundsEveryPolicyWithTtl trace fills times shorter h

-- a certificate that is valid without a ttl bounds every policy with any
abbrev pub ValidWithoutTtlBounds : Type 0
ValidWithoutTtlBounds =
    (trace : List Object) (fills : List Bool) (times : List ℕ) (ttl : ℕ) (h : Header) (records : List Record)
    → IsValid trace fills h records
    → BoundsEveryPolicyWithTtl trace fills times ttl h
