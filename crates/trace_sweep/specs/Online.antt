-- What policies are told of a trace as it is read.
use Rattle.std.specs.Prelude.{ℕ, Bool, List}
use Rattle.cache_rules.specs.Stored.{Requests}
use Rattle.freshness.specs.Seen.{Staleness}
use Rattle.trace_any.specs.declared.format.Format.{Format}
use Rattle.policy_sweep.specs.Running.{Setting, Told}
use Rattle.policy_stream.specs.declared.request.Request.{Request}
use Rattle.policy_stream.specs.declared.stream.PolicyStream.{PolicyStream}
use Rattle.policy_stream.specs.Streams.{HasBeenTold, IsOneMore}
use Rattle.sweep_bounds.specs.Sweep.{HasSeen, Sweep}

-- the requests with their marks, and which of them are stale
abbrev pub told_of : Format → ℕ → Requests → Staleness → Told
told_of format warmup trace noted = record {
  trace = trace.objects;
  fills = trace.fills;
  stale = noted.stale;
  replace = format.fresh.replace;
  warmup = warmup;
}

-- the policies were told what came before this request, which the sweep has seen
pub record IsNextRead (policies : PolicyStream) (sweep : Sweep) (request : Request) : Type 0 where
  pub told : Told
  pub next : Told
  pub settings : List Setting
  pub fills : List Bool
  pub been_told : HasBeenTold told settings policies
  pub one_more : IsOneMore told next request
  pub seen : HasSeen next.trace fills sweep
