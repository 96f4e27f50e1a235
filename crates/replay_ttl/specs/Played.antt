-- What a replay with a time to live counts: the fresh hits and the written bytes of some contents that are allowed.
use Rattle.std.specs.Prelude.{◌≡◌, ℕ, ◌+◌, ◌<◌, nat_le, Bool, not, ◌&&◌, List, length, IfSome}
use Rattle.std.specs.declared.option.Option.{Option}
use Rattle.cache_model.specs.declared.objects.Object.{Object}
use Rattle.cache_model.specs.declared.objects.Objective.TheVariants.{Object as Hits, Bytes}
use Rattle.cache_model.specs.Claim.{IsAllowed, before_request, holds, request_at, terms_from}
use Rattle.freshness.specs.Stale.{clock}
use Rattle.judge_laws.specs.Flags.{is_flagged}
use Rattle.policy_model.specs.States.{State}
use Rattle.replay_fresh.specs.Fresh.{is_stale}
use Rattle.replay_fresh.specs.FreshRuns.{NoneStays}
use Rattle.ttl_laws.specs.Fresh.{score_with_ttl, written_at}
use Rattle.ttl_scores.specs.Written.{written_with_ttl}
use Rattle.replay_ttl.specs.declared.replaying.TtlSettings.{TtlSettings}
use Rattle.replay_ttl.specs.Runs.{Timed, ttl_contents, ttl_run}

-- a trace that is replayed with these settings
abbrev pub timed : List Object → List Bool → List ℕ → List Bool → TtlSettings → Timed
timed trace fills times stale settings = record {
  trace = trace;
  fills = fills;
  times = times;
  stale = stale;
  ttl = settings.ttl;
  replace = settings.replace;
  warmup = settings.warmup;
}

-- whether request t finds its object: it is held before the request, which is not stale, and it is not too old
abbrev pub finds : Timed → List (List Object) → ℕ → Bool
finds r contents t =
    let x = request_at r.trace t in
    holds (before_request contents t) x && not (is_stale r.stale t) && nat_le (clock r.times t) (written_at r.fills r.trace r.times r.ttl contents t x + r.ttl)

-- the contents, hits and bytes are those of the rule, if its first state is known
pub record IsOfRule (r : Timed) (first : State) (contents : List (List Object)) (hits bytes : ℕ) : Type 0 where
  pub contents_are : contents ≡ ttl_contents r first
  pub hits_are : hits ≡ (ttl_run r first (length r.trace)).run.hits
  pub bytes_are : bytes ≡ (ttl_run r first (length r.trace)).run.bytes

-- some allowed contents of the trace have these fresh hits and bytes, write these bytes, keep nothing that leaves, and find the objects of the flagged requests
pub record IsPlayedWithTtl (known_state : Option State) (capacity : ℕ) (r : Timed) (hits bytes written : ℕ) (flags : List Bool) : Type 0 where
  pub contents : List (List Object)
  pub allowed : IsAllowed capacity r.trace contents
  pub hits_are : hits ≡ score_with_ttl (terms_from Hits capacity r.warmup r.fills) r.trace r.times r.ttl contents
  pub bytes_are : bytes ≡ score_with_ttl (terms_from Bytes capacity r.warmup r.fills) r.trace r.times r.ttl contents
  pub written_are : written ≡ written_with_ttl r.warmup r.fills r.trace r.times r.ttl contents
  pub each : length flags ≡ length r.trace
  pub flags_are : (t : ℕ) → t < length r.trace → is_flagged flags t ≡ finds r contents t
  pub none_stays : NoneStays r.stale r.replace r.trace (length r.trace) contents
  pub of_rule : IfSome known_state (λ first. IsOfRule r first contents hits bytes)
