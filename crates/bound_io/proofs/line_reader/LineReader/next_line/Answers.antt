use Rattle.std.proofs.Common.{rules, arith}
use Rattle.std.proofs.lemmas.Grind.{common_steps}
use Rattle.bound_io.proofs.line_reader.LineReader.next_line.Goals as goal

pub returns-in_err-text : goal.returns-in_err-text
returns-in_err-text g c = search rules

pub returns-in-Whole : goal.returns-in-Whole
returns-in-Whole g c = grind (arith, common_steps)
