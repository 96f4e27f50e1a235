-- What a bound claims of objects that expire a time after they were written, the ttl: no contents that the rules allow score more.
use Rattle.std.specs.Prelude.{ℕ, ◌*◌, ◌/◌, ◌<◌, ◌≤◌, Bool, List}
use Rattle.cache_model.specs.declared.objects.Object.{Object}
use Rattle.cache_model.specs.declared.certificates.Header.{Header}
use Rattle.cache_model.specs.Claim.{IsAllowed, terms_of}
use Rattle.ttl_laws.specs.Fresh.{score_with_ttl}

-- no policy within the capacity scores more with this ttl than the upper bound, nor than its floor
pub record BoundsEveryPolicyWithTtl (trace : List Object) (fills : List Bool) (times : List ℕ) (ttl : ℕ) (h : Header) : Type 0 where
  pub denominator_positive : 0 < h.denominator
  pub no_policy_scores_more : (contents : List (List Object)) → IsAllowed h.capacity trace contents
      → h.denominator * score_with_ttl (terms_of h fills) trace times ttl contents ≤ h.upper
  pub no_policy_passes_the_floor : (contents : List (List Object)) → IsAllowed h.capacity trace contents
      → score_with_ttl (terms_of h fills) trace times ttl contents ≤ h.upper / h.denominator
