use Rattle.std.proofs.Common.{◌≡◌, ◌≢◌, ℕ, length, List, ◌++◌, All}
use Rattle.bound_advice.proofs.told.whole_lines.Given as goal

-- what was cut so far has no end of a line
abbrev pub invariant-loop-last : goal.invariant-loop-last
invariant-loop-last l = (cut : List ℕ) × (l.text ≡ l.lines ++ cut) × All (λ byte. byte ≢ 10) cut

abbrev pub decreases-loop-last : goal.decreases-loop-last
decreases-loop-last l = length l.lines
