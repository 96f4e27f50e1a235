use Rattle.std.proofs.Common.{◌≡◌, ◌*◌, ◌^◌, ◌≤◌, sum_by}
use Rattle.std.specs.List.{range_with_len}
use Rattle.cache_model.proofs.Scores.{earned_at}
use Rattle.cache_model.specs.Claim.{marked}
use Rattle.cache_rules.proofs.scoring.score_of_fitting.Given as goal

abbrev pub invariant-loop-t : goal.invariant-loop-t
invariant-loop-t l = record { gains : l.gains ≡ sum_by (earned_at (marked l.terms l.trace.fills) l.trace.objects l.keeps) (range_with_len 0 l.t); few : l.gains ≤ l.t * 2 ^ 48 }
