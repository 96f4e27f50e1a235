-- What is proved of objects that expire a time after they were written; each law is the contract of a function.
use Rattle.std.specs.Prelude.{◌≡◌, ℕ, ◌*◌, ◌/◌, ◌≤◌, Bool, List, length, None, Some}
use Rattle.std.specs.declared.option.Option.{Option}
use Rattle.cache_model.specs.declared.objects.Object.{Object}
use Rattle.cache_model.specs.declared.certificates.Header.{Header}
use Rattle.cache_model.specs.declared.certificates.Record.{Record}
use Rattle.cache_model.specs.Claim.{Terms, IsAllowed, score, terms_of}
use Rattle.cache_model.specs.Certificates.{IsValid}
use Rattle.cache_model.specs.Intervals.{eligible_intervals, bound_of}
use Rattle.freshness.specs.Stale.{stale_marks}
use Rattle.ttl_laws.specs.Fresh.{score_with_ttl}
use Rattle.ttl_laws.specs.Runs.{bound_with_ttl}

-- over the denominator, no allowed contents score more with a ttl than the bound of the prices with it
abbrev pub NoPolicyScoresMoreWithTtl : Type 0
NoPolicyScoresMoreWithTtl =
    (terms : Terms) (unit denominator : ℕ) (trace : List Object) (times prices : List ℕ) (ttl : ℕ) (contents : List (List Object))
    → IsAllowed terms.capacity trace contents
    → length prices ≡ length trace
    → denominator * score_with_ttl terms trace times ttl contents ≤ bound_with_ttl terms unit denominator trace times prices ttl

-- these terms, with the marks of what is stale by this idle time, or replaced
abbrev pub marked_stale : Terms → Option ℕ → Bool → List Object → List ℕ → Terms
marked_stale terms idle replace trace times =
    record terms { fills = stale_marks (record { idle = idle; ttl = None; replace = replace }) trace times terms.fills }

-- what is stale by an idle time of at least the ttl is no fresh hit: its marks change no score with the ttl
abbrev pub IdleAddsNothing : Type 0
IdleAddsNothing =
    (terms : Terms) (trace : List Object) (times : List ℕ) (ttl idle : ℕ) (replace : Bool) (contents : List (List Object))
    → ttl ≤ idle
    → score_with_ttl (marked_stale terms (Some idle) replace trace times) trace times ttl contents
    ≡ score_with_ttl (marked_stale terms None replace trace times) trace times ttl contents

-- so no contents score more with a ttl than with an idle time of at least that
abbrev pub IdleBoundsTtl : Type 0
IdleBoundsTtl =
    (terms : Terms) (trace : List Object) (times : List ℕ) (ttl idle : ℕ) (replace : Bool) (contents : List (List Object))
    → ttl ≤ idle
    → score_with_ttl (marked_stale terms None replace trace times) trace times ttl contents
    ≤ score (marked_stale terms (Some idle) replace trace times) trace contents

-- and a valid certificate of that idle time bounds what contents score with the ttl
abbrev pub IdleCertificatesBoundTtl : Type 0
IdleCertificatesBoundTtl =
    (trace : List Object) (times : List ℕ) (fills : List Bool) (h : Header) (records : List Record)
    (ttl idle : ℕ) (replace : Bool) (contents : List (List Object))
    → ttl ≤ idle
    → IsValid trace (stale_marks (record { idle = Some idle; ttl = None; replace = replace }) trace times fills) h records
    → IsAllowed h.capacity trace contents
    → h.denominator * score_with_ttl (marked_stale (terms_of h fills) None replace trace times) trace times ttl contents ≤ h.upper

-- at the same prices the bound with a ttl is at most the bound without one
abbrev pub TtlBoundsNoWorse : Type 0
TtlBoundsNoWorse =
    (terms : Terms) (unit denominator : ℕ) (trace : List Object) (times prices : List ℕ) (ttl : ℕ)
    → length prices ≡ length trace
    → bound_with_ttl terms unit denominator trace times prices ttl
    ≤ bound_of (eligible_intervals terms trace) unit (terms.capacity / unit) denominator prices

-- and the bound with a longer ttl is no less
abbrev pub BoundsRiseWithTtl : Type 0
BoundsRiseWithTtl =
    (terms : Terms) (unit denominator : ℕ) (trace : List Object) (times prices : List ℕ) (ttl longer : ℕ)
    → ttl ≤ longer
    → bound_with_ttl terms unit denominator trace times prices ttl
    ≤ bound_with_ttl terms unit denominator trace times prices longer

-- without a warm-up no allowed contents score less with a longer ttl; with one some do, which then write anew at a request that counts and not before
abbrev pub LongerScoresMore : Type 0
LongerScoresMore =
    (terms : Terms) (trace : List Object) (times : List ℕ) (ttl longer : ℕ) (contents : List (List Object))
    → IsAllowed terms.capacity trace contents
    → terms.warmup ≡ 0
    → ttl ≤ longer
    → score_with_ttl terms trace times ttl contents ≤ score_with_ttl terms trace times longer contents
