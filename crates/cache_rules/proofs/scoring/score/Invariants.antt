use Rattle.std.proofs.Common.{◌≡◌, ◌*◌, ◌^◌, ◌≤◌, ◌<◌, ℕ, sum_by}
use Rattle.std.specs.List.{range_with_len}
use Rattle.cache_model.specs.Keeps.{load_after}
use Rattle.cache_model.specs.Claim.{marked, total_size, held_before}
use Rattle.cache_model.proofs.Scores.{earned_at}
use Rattle.cache_rules.proofs.scoring.score.Given as goal

abbrev pub invariant-loop-t : goal.invariant-loop-t
invariant-loop-t l = record {
  gains : l.gains ≡ sum_by (earned_at (marked l.terms l.trace.fills) l.trace.objects l.keeps) (range_with_len 0 l.t);
  few : l.gains ≤ l.t * 2 ^ 48;
  load : l.load ≡ total_size (held_before l.trace.objects l.keeps l.t);
  room : l.load ≤ l.capacity;
  fits : (k : ℕ) → k < l.t → load_after l.trace.objects l.keeps k ≤ l.capacity;
}
