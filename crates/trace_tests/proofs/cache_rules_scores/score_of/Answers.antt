use Rattle.std.proofs.Common.{refl}
use Rattle.trace_tests.proofs.cache_rules_scores.score_of.Goals as goal

pub score_of_fitting-requires-clause-fits : goal.score_of_fitting-requires-clause-fits
score_of_fitting-requires-clause-fits g c = c.in_ok-gains.ensures.fits.0 refl
