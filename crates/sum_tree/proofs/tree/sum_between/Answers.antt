use Rattle.std.proofs.Common.{◌≡◌, ◌%◌, map, arith}
use Rattle.sum_tree.proofs.SumLemmas.{IsCounted, low-added, low-fits, high-added, high-fits, parents}
use Rattle.sum_tree.proofs.tree.sum_between.Goals.{then-low-eq1, else-low-eq1, then-high-eq1, else-high-eq1}
use Rattle.sum_tree.proofs.tree.sum_between.Goals as goal

pub plus-sum-requires : goal.plus-sum-requires
plus-sum-requires g c = record {
  fits = low-fits g.N.SumNumber.value g.N.SumNumber.greatest c.args.places c.args.from c.args.to c.args.sums.now c.requires.tree c.requires.order c.requires.within c.up.low c.up.high c.up.sum c.index-sums-low.result c.up-test.true c.if-low-eq1.true c.up.invariant c.index-sums-low.is g.N.SumNumber.limit
      (g.met.N.SumNumber.sums_fit c.args.places c.requires.tree.few);
}

pub plus-sum-requires-then-high-eq1 : goal.plus-sum-requires-then-high-eq1
plus-sum-requires-then-high-eq1 g c =
    let low : IsCounted c.args.places c.args.from c.args.to (map g.N.SumNumber.value c.args.sums.now) c.if-low-eq1.low c.up.high (g.N.SumNumber.value c.if-low-eq1.sum) × (c.if-low-eq1.low % 2 ≡ 0) =
    elim c.if-low-eq1.branch [
      | then-low-eq1 w ↦ rw (w.low-is, w.sum-is) (low-added g.N.SumNumber.value g.N.SumNumber.greatest c.args.places c.args.from c.args.to c.args.sums.now c.requires.tree c.requires.order c.requires.within c.up.low c.up.high c.up.sum w.index-sums-low.result c.up-test.true w.if-low-eq1.true c.up.invariant w.index-sums-low.is w.plus-sum.result w.plus-sum.ensures)
      | else-low-eq1 w ↦ rw (w.low-is, w.sum-is) (c.up.invariant, omega (arith, w.if-low-eq1.false))
    ] in
    record {
      fits = high-fits g.N.SumNumber.value g.N.SumNumber.greatest c.args.places c.args.from c.args.to c.args.sums.now c.requires.tree c.requires.order c.requires.within c.if-low-eq1.low c.up.high c.if-low-eq1.sum c.index-sums-high.result low.1 c.if-high-eq1.true low.0 c.index-sums-high.is g.N.SumNumber.limit
          (g.met.N.SumNumber.sums_fit c.args.places c.requires.tree.few);
    }

pub up-preserved : goal.up-preserved
up-preserved g c =
    let low : IsCounted c.args.places c.args.from c.args.to (map g.N.SumNumber.value c.args.sums.now) c.if-low-eq1.low c.up.high (g.N.SumNumber.value c.if-low-eq1.sum) × (c.if-low-eq1.low % 2 ≡ 0) =
    elim c.if-low-eq1.branch [
      | then-low-eq1 w ↦ rw (w.low-is, w.sum-is) (low-added g.N.SumNumber.value g.N.SumNumber.greatest c.args.places c.args.from c.args.to c.args.sums.now c.requires.tree c.requires.order c.requires.within c.up.low c.up.high c.up.sum w.index-sums-low.result c.up-test.true w.if-low-eq1.true c.up.invariant w.index-sums-low.is w.plus-sum.result w.plus-sum.ensures)
      | else-low-eq1 w ↦ rw (w.low-is, w.sum-is) (c.up.invariant, omega (arith, w.if-low-eq1.false))
    ] in
    let high : IsCounted c.args.places c.args.from c.args.to (map g.N.SumNumber.value c.args.sums.now) c.if-low-eq1.low c.if-high-eq1.high (g.N.SumNumber.value c.if-high-eq1.sum) × (c.if-high-eq1.high % 2 ≡ 0) =
    elim c.if-high-eq1.branch [
      | then-high-eq1 w ↦ rw (w.high-is, w.sum-is) (high-added g.N.SumNumber.value g.N.SumNumber.greatest c.args.places c.args.from c.args.to c.args.sums.now c.requires.tree c.requires.order c.requires.within c.if-low-eq1.low c.up.high c.if-low-eq1.sum w.index-sums-high.result low.1 w.if-high-eq1.true low.0 w.index-sums-high.is w.plus-sum-then-high-eq1.result w.plus-sum-then-high-eq1.ensures)
      | else-high-eq1 w ↦ rw (w.high-is, w.sum-is) (low.0, omega (arith, w.if-high-eq1.false))
    ] in
    parents g.N.SumNumber.greatest c.args.places c.args.from c.args.to (map g.N.SumNumber.value c.args.sums.now) c.requires.tree c.requires.order c.requires.within c.if-low-eq1.low c.if-high-eq1.high (g.N.SumNumber.value c.if-high-eq1.sum) low.1 high.1 high.0
