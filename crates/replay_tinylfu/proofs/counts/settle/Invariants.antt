use Rattle.std.proofs.Common.{◌≡◌, ℕ, ◌<◌, ◌≤◌, length, get_or}
use Rattle.replay_tinylfu.specs.Counts.{count_at}
use Rattle.replay_tinylfu.proofs.counts.settle.Given as goal

abbrev pub invariant-loop-object : goal.invariant-loop-object
invariant-loop-object l = record {
  counts_stay : length l.counts.items ≡ length l.initial.counts.items;
  seen_stay : length l.seen.items ≡ length l.initial.seen.items;
  counts_done : (k : ℕ) → k < l.object → get_or l.counts.items k 0 ≡ count_at l.initial.counts.items l.initial.seen.items l.halvings k;
  seen_done : (k : ℕ) → k < l.object → get_or l.seen.items k 0 ≡ 0;
  counts_rest : (k : ℕ) → l.object ≤ k → get_or l.counts.items k 0 ≡ get_or l.initial.counts.items k 0;
  seen_rest : (k : ℕ) → l.object ≤ k → get_or l.seen.items k 0 ≡ get_or l.initial.seen.items k 0;
}
