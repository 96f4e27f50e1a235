use Rattle.std.proofs.Common.{ℕ, ap, sym, length, arith}
use Rattle.std.proofs.lemmas.List.{map-id}
use Rattle.sum_tree.proofs.LeafLemmas.{length-leaves}
use Rattle.byte_curve.proofs.LeafLemmas.{leaves-sum}
use Rattle.byte_curve.proofs.sums.ByteSums.sum.Goals as goal

pub returns : goal.returns
returns c = leaves-sum c.self.inside.places c.args.from c.args.to c.sum_between.result c.args.self.now c.self.inside.sums.items (sym c.self.view_is) c.self.invariant c.requires.order (omega (arith, ap length c.self.view_is, length-leaves c.self.inside.places c.self.inside.sums.items c.self.invariant.nodes, c.requires.within)) (rw (c.deref.ensures.value, map-id {A = ℕ}) at c.sum_between.ensures)
