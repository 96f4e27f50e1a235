use Rattle.std.proofs.Common.{map, string_bytes}
use Rattle.bound_words.specs.Words.{plan}
use Rattle.bound_run.proofs.Complete.{complete}
use Rattle.bound_run.proofs.Headlined.{headlined}
use Rattle.bound_run.proofs.top.run.Goals as goal

pub returns-clause-completes : goal.returns-clause-completes
returns-clause-completes g c = complete (plan (map string_bytes c.args.words.now)) _ c.run_plan.result (rw c.plan_of.ensures.plan at c.run_plan.ensures.ends)

pub returns-clause-headline : goal.returns-clause-headline
returns-clause-headline g c = headlined (plan (map string_bytes c.args.words.now)) _ c.run_plan.result (rw c.plan_of.ensures.plan at c.run_plan.ensures.ends)

pub returns-clause-explains : goal.returns-clause-explains
returns-clause-explains g c = rw c.plan_of.ensures.plan at c.run_plan.ensures.ends
