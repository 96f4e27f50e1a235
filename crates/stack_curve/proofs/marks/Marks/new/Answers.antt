use Rattle.std.proofs.Common.{arith}
use Rattle.sum_tree.proofs.SumLemmas.{tree-none}
use Rattle.stack_curve.proofs.MarkLemmas.{marks-none}
use Rattle.stack_curve.proofs.marks.Marks.new.Goals as goal

pub returns : goal.returns
returns c = marks-none c.args.places c.in_ok-no_sums.field-0.items c.in_ok-no_sums.ensures

pub invariant_of-result : goal.invariant_of-result
invariant_of-result c = tree-none 1 c.args.places c.in_ok-no_sums.field-0.items (omega arith) c.in_ok-no_sums.ensures
