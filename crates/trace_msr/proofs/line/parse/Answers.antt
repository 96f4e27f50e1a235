use Rattle.std.proofs.Common.{◌<◌, ◌≤◌, ◌⊎◌, inl, inr, refl, sym, length}
use Rattle.std.proofs.lemmas.Bool.{cases_lt, lt-ltb, false≢true}
use Rattle.trace_lines.specs.Lines.{fields}
use Rattle.trace_msr.proofs.line.parse.Goals as goal

pub returns-in_default-clause-parts : goal.returns-in_default-clause-parts
returns-in_default-clause-parts c = rw (sym c.if-has_quote.ensures, lt-ltb (length (fields c.args.line.now)) 6 (few (cases_lt (length (fields c.args.line.now)) 6))) refl
  where
    few : length (fields c.args.line.now) < 6 ⊎ 6 ≤ length (fields c.args.line.now) → length (fields c.args.line.now) < 6
    few (inl less) = less
    few (inr enough) = absurd (false≢true (c.in_default.ensures.enough.1 enough))
