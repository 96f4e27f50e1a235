use Rattle.std.proofs.Common.{ℕ, ap, sym, length, arith}
use Rattle.std.proofs.lemmas.List.{map-id}
use Rattle.stack_curve.proofs.MarkLemmas.{length-marks_of, marks-count}
use Rattle.stack_curve.proofs.marks.Marks.count.Goals as goal

pub returns : goal.returns
returns c = marks-count c.self.inside.places c.args.from c.args.to c.sum_between.result c.args.self.now c.self.inside.sums.items (sym c.self.view_is) c.self.invariant c.requires.order (omega (arith, ap length c.self.view_is, length-marks_of c.self.inside.places c.self.inside.sums.items c.self.invariant.nodes, c.requires.within)) (rw (c.deref.ensures.value, map-id {A = ℕ}) at c.sum_between.ensures)
