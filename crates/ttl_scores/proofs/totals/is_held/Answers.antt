use Rattle.std.proofs.Common.{sym}
use Rattle.cache_model.proofs.Scores.{holds-first, holds-next}
use Rattle.ttl_scores.proofs.totals.is_held.Goals as goal

pub returns-in-Some : goal.returns-in-Some
returns-in-Some c = sym (holds-next c.args.trace.now.objects c.args.t c.requires.within c.args.keeps.now c.in-Some.earlier c.in-Some.ensures.nearest)

pub returns-in-None : goal.returns-in-None
returns-in-None c = sym (holds-first c.args.trace.now.objects c.args.t c.requires.within c.args.keeps.now c.in-None.ensures.nearest)
