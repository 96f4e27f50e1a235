use Rattle.std.proofs.Common.{sym, subst, arith}
use Rattle.cache_model.specs.Claim.{counts_past}
use Rattle.replay_core.specs.Laws.{StateFits}
use Rattle.replay_fresh.proofs.KnownRuns.{IsRunTo, run-none}
use Rattle.replay_fresh.proofs.Writes.{written-none}
use Rattle.replay_steps.proofs.stepping.begin.Goals as goal

pub returns : goal.returns
returns g c = λ r capacity first empty. record {
  played = written-none r.capacity r.warmup r.fills r.stale r.replace r.trace r.first (g.P.Policy.contents c.args.policy.now) empty
      (subst (λ n. StateFits r.first (g.P.Policy.contents c.args.policy.now) n) (sym capacity)
      (subst (λ o. StateFits o (g.P.Policy.contents c.args.policy.now) (g.P.Policy.room c.args.policy.now)) (sym first) (g.met.P.Policy.state_fits c.args.policy.now)));
  run = subst (λ o. IsRunTo (counts_past r.warmup r.fills) r.stale r.replace r.trace r.first o 0 0 0) first (run-none (counts_past r.warmup r.fills) r.stale r.replace r.trace r.first);
  few_hits = omega arith;
  few_bytes = omega arith;
  few_written = omega arith;
}
