use Rattle.std.proofs.Common.{◌≡◌, ◌-◌, slice_get}
use Rattle.trace_lines.specs.Lines.{fields}
use Rattle.trace_lines.proofs.commas.field.Given as goal

abbrev pub invariant-loop-place : goal.invariant-loop-place
invariant-loop-place l = slice_get (fields l.line) (l.number - 1) ≡ slice_get (fields l.rest) (l.number - l._place)
