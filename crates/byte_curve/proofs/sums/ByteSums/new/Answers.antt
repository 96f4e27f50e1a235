use Rattle.std.proofs.Common.{◌^◌, arith}
use Rattle.sum_tree.proofs.SumLemmas.{leaves-none, tree-none}
use Rattle.byte_curve.proofs.sums.ByteSums.new.Goals as goal

pub returns : goal.returns
returns c = leaves-none c.args.places c.in_ok-no_sums.field-0.items c.in_ok-no_sums.ensures

pub invariant_of-result : goal.invariant_of-result
invariant_of-result c = tree-none (2 ^ 48) c.args.places c.in_ok-no_sums.field-0.items (omega arith) c.in_ok-no_sums.ensures
