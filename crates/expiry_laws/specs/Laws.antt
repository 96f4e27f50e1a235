-- What is proved of freshness; each law is the contract of a function.
use Rattle.std.specs.Prelude.{◌≡◌, ℕ, zero, suc, ◌*◌, ◌<◌, ◌≤◌, length, slice_index, Bool, IsTrue, List, None, Some}
use Rattle.std.specs.declared.option.Option.{Option}
use Rattle.cache_model.specs.declared.objects.Object.{Object}
use Rattle.cache_model.specs.declared.objects.Objective.{Objective}
use Rattle.cache_model.specs.declared.certificates.Header.{Header}
use Rattle.cache_model.specs.declared.certificates.Record.{Record}
use Rattle.cache_model.specs.Certificates.{IsValid}
use Rattle.cache_model.specs.Claim.{IsAllowed, only_fills, request_at, score, terms_from}
use Rattle.freshness.specs.declared.fresh.Freshness.{Freshness}
use Rattle.freshness.specs.Stale.{is_stale, stale_after, stale_marks}
use Rattle.freshness.specs.Seen.{Seen, nothing_seen, with_seen}
use Rattle.freshness.specs.Seen as seen

-- what is fresh for one time is fresh for a longer one, and if nothing expires
abbrev pub IsLonger : Option ℕ → Option ℕ → Type 0
IsLonger idle None = Unit {0}
IsLonger None (Some longer) = ⊥
IsLonger (Some idle) (Some longer) = idle ≤ longer

-- one freshness is laxer than another: objects that were last asked for stay fresh at least as long, and are replaced only if the other replaces them too
pub record IsLaxer (strict lax : Freshness) : Type 0 where
  pub longer : IsLonger (stale_after strict) (stale_after lax)
  pub replace : IsTrue lax.replace → IsTrue strict.replace

-- whatever contents score, they score at least that with a laxer freshness
abbrev pub LaxerScoresMore : Type 0
LaxerScoresMore =
    (strict lax : Freshness) (objective : Objective) (capacity warmup : ℕ) (fills : List Bool) (trace : List Object) (times : List ℕ) (contents : List (List Object))
    → IsLaxer strict lax
    → score (terms_from objective capacity warmup (stale_marks strict trace times fills)) trace contents
    ≤ score (terms_from objective capacity warmup (stale_marks lax trace times fills)) trace contents

-- so a valid certificate of a freshness bounds each stricter one: no allowed contents score more there
abbrev pub LaxerBounds : Type 0
LaxerBounds =
    (strict lax : Freshness) (fills : List Bool) (trace : List Object) (times : List ℕ) (h : Header) (records : List Record) (contents : List (List Object))
    → IsLaxer strict lax
    → IsValid trace (stale_marks lax trace times fills) h records
    → IsAllowed h.capacity trace contents
    → h.denominator * score (terms_from h.objective h.capacity h.warmup (stale_marks strict trace times fills)) trace contents ≤ h.upper

-- the time of request t
abbrev pub time_at : List ℕ → ℕ → ℕ
time_at times t = slice_index times t

-- what is known of the requests before request t, of which `own` says whether each only fills by its own mark
abbrev pub seen_before : Freshness → List Object → List ℕ → List Bool → ℕ → Seen
seen_before fresh trace times own zero = nothing_seen
seen_before fresh trace times own (suc t) = with_seen fresh (seen_before fresh trace times own t) (request_at trace t) (time_at times t) (only_fills own t)

-- a request is stale by what is known of those before it if and only if it is stale in the trace
abbrev pub SeenTellsStale : Type 0
SeenTellsStale =
    (fresh : Freshness) (trace : List Object) (times : List ℕ) (own : List Bool) (t : ℕ) → length times ≡ length trace → t < length trace
    → seen.is_stale fresh (seen_before fresh trace times own t) (request_at trace t) (time_at times t) ≡ is_stale fresh trace times t
