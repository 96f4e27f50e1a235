use Rattle.std.proofs.Common.{◌∙◌, ◌/◌, refl, arith}
use Rattle.std.proofs.lemmas.List.{drop-set-add, drop-set-lt}
use Rattle.sum_tree.proofs.SetLemmas.{leaf-set, parent-fits, parent-set}
use Rattle.sum_tree.proofs.tree.set_leaf.Goals as goal

pub up-init : goal.up-init
up-init g c = record {
  mended = leaf-set g.N.SumNumber.value g.N.SumNumber.greatest c.args.places c.args.place c.args.sums.now c.args.leaf c.requires.tree c.requires.within c.requires.small;
  same = refl;
}

pub plus-requires : goal.plus-requires
plus-requires g c = record {
  fits = parent-fits g.N.SumNumber.value g.N.SumNumber.greatest c.args.places c.up.node c.up.sums c.index-sums-node.result c.index-sums-node-in-up.result c.up-test.true c.up.invariant.mended c.index-sums-node.is c.index-sums-node-in-up.is g.N.SumNumber.limit
      (g.met.N.SumNumber.sums_fit c.args.places c.requires.tree.few);
}

pub up-preserved : goal.up-preserved
up-preserved g c = record {
  mended = parent-set g.N.SumNumber.value g.N.SumNumber.greatest c.args.places c.up.node c.up.sums c.index-sums-node.result c.index-sums-node-in-up.result c.up-test.true c.up.invariant.mended c.index-sums-node.is c.index-sums-node-in-up.is c.plus.result c.plus.ensures;
  same = drop-set-lt c.args.places c.up.sums (c.up.node / 2) c.plus.result (omega (arith, c.up.invariant.mended.high)) ∙ c.up.invariant.same;
}

pub returns-clause-leaves : goal.returns-clause-leaves
returns-clause-leaves g c = c.up.invariant.same ∙ drop-set-add c.args.places c.args.sums.now c.args.place c.args.leaf
