use Rattle.std.proofs.Common.{refl, sym}
use Rattle.trace_lines.proofs.Cuts.{other, parts-skip, position-or}
use Rattle.trace_lines.specs.Lines.{is_gap}
use Rattle.trace_lines.proofs.gaps.skip_gaps.Goals as goal

-- the text begins at the first byte of a word
begins : goal.returns-clause-from
begins c = rw (c.split_at.ensures.back, c.unwrap_or-start.ensures, c.word_start.ensures, position-or (other is_gap) c.args.line.now) refl

pub returns-clause-from : goal.returns-clause-from
returns-clause-from c = begins c

pub returns-clause-words : goal.returns-clause-words
returns-clause-words c = rw (begins c) (sym (parts-skip is_gap c.args.line.now))
