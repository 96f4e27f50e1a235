-- What the prices of a certificate bound with a ttl.
use Rattle.std.proofs.Common.{◌≡◌, ℕ, ◌*◌, ◌≤◌, ◌<◌, arith, Bool, List, length}
use Rattle.std.proofs.lemmas.List.{length-map}
use Rattle.std.proofs.lemmas.Nat.{le-div}
use Rattle.cache_model.specs.declared.objects.Object.{Object}
use Rattle.cache_model.specs.declared.certificates.Header.{Header}
use Rattle.cache_model.specs.declared.certificates.Record.{Record}
use Rattle.cache_model.specs.Claim.{terms_of, IsAllowed}
use Rattle.cache_model.specs.Certificates.{prices_of, IsCertificate}
use Rattle.ttl_laws.specs.Fresh.{score_with_ttl}
use Rattle.ttl_laws.specs.Laws.{BoundsRiseWithTtl, TtlBoundsNoWorse}
use Rattle.ttl_laws.specs.Runs.{bound_with_ttl}
use Rattle.ttl_laws.proofs.Within.{no_policy_scores_more_with_ttl}
use Rattle.ttl_certs.specs.Claim.{BoundsEveryPolicyWithTtl}
use Rattle.ttl_certs.specs.Laws.{ValidBoundsShorterTtls, ValidBoundsWithTtl, ValidWithoutTtlBounds}

-- what is at least the bound of a certificate's prices bounds every policy
pub prices_bound_with_ttl : (trace : List Object) (fills : List Bool) (times : List ℕ) (ttl : ℕ) (h : Header) (records : List Record)
    → length records ≡ length trace
    → 0 < h.denominator
    → bound_with_ttl (terms_of h fills) h.unit h.denominator trace times (prices_of records) ttl ≤ h.upper
    → BoundsEveryPolicyWithTtl trace fills times ttl h
prices_bound_with_ttl trace fills times ttl h records each positive within =
    let many : length (prices_of records) ≡ length trace = omega (arith, length-map records (λ (r : Record). r.price), each) in
    let most : (contents : List (List Object)) → IsAllowed h.capacity trace contents
    → h.denominator * score_with_ttl (terms_of h fills) trace times ttl contents ≤ h.upper
    = λ contents allowed. omega (
      arith,
      no_policy_scores_more_with_ttl (terms_of h fills) h.unit h.denominator trace times (prices_of records) ttl contents allowed many,
      within,
    ) in
    record {
      denominator_positive = positive;
      no_policy_scores_more = most;
      no_policy_passes_the_floor = λ contents allowed.
          le-div (score_with_ttl (terms_of h fills) trace times ttl contents) h.upper h.denominator positive (omega (arith, most contents allowed));
    }

-- the same of a certificate in range
bounded : (trace : List Object) (fills : List Bool) (times : List ℕ) (ttl : ℕ) (h : Header) (records : List Record)
    → IsCertificate h records
    → h.requests ≡ length trace
    → bound_with_ttl (terms_of h fills) h.unit h.denominator trace times (prices_of records) ttl ≤ h.upper
    → BoundsEveryPolicyWithTtl trace fills times ttl h
bounded trace fills times ttl h records certificate requests within =
    prices_bound_with_ttl trace fills times ttl h records
    (omega (arith, certificate.count, requests)) (omega (arith, certificate.header.denominator.0)) within

pub valid_bounds_with_ttl : ValidBoundsWithTtl
valid_bounds_with_ttl trace fills times ttl h records v =
    bounded trace fills times ttl h records v.certificate v.requests (omega (arith, v.upper))

pub valid_bounds_shorter_ttls : BoundsRiseWithTtl → ValidBoundsShorterTtls
valid_bounds_shorter_ttls rise trace fills times ttl shorter h records low v =
    let within : bound_with_ttl (terms_of h fills) h.unit h.denominator trace times (prices_of records) shorter ≤ h.upper
    = omega (arith, rise (terms_of h fills) h.unit h.denominator trace times (prices_of records) shorter ttl low, v.upper) in
    (within, bounded trace fills times shorter h records v.certificate v.requests within)

pub valid_without_ttl_bounds : TtlBoundsNoWorse → ValidWithoutTtlBounds
valid_without_ttl_bounds no_worse trace fills times ttl h records v =
    let each : length (prices_of records) ≡ length trace
    = omega (arith, length-map records (λ (r : Record). r.price), v.certificate.count, v.requests) in
    bounded trace fills times ttl h records v.certificate v.requests
    (omega (arith, no_worse (terms_of h fills) h.unit h.denominator trace times (prices_of records) ttl each, v.upper))
