use Rattle.std.proofs.Common.{◌≡◌, ◌-◌, slice_get}
use Rattle.trace_lines.specs.Lines.{words}
use Rattle.trace_lines.proofs.gaps.word.Given as goal

abbrev pub invariant-loop-place : goal.invariant-loop-place
invariant-loop-place l = slice_get (words l.line) (l.number - 1) ≡ slice_get (words l.rest) (l.number - l._place)
