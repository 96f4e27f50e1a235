use Rattle.std.proofs.Common.{◌∙◌, ◌*◌, false, refl, map, arith}
use Rattle.std.proofs.lemmas.Bool.{both_ways}
use Rattle.std.proofs.lemmas.List.{length-map}
use Rattle.window_arcs.proofs.NextLemmas.{below_within, children_are, left_down, left_next, level_within, level_some, none_at, some_at}
use Rattle.window_arcs.proofs.places.first_down.Goals as goal

pub down-init : goal.down-init
down-init g c =
    let sums = map g.N.SumNumber.value c.args.sums.now in
    record {
      some = level_some c.args.leaves c.args.from c.args.top.start c.args.top.node sums c.requires.left;
      within = level_within c.args.leaves c.args.from sums c.requires.tree c.args.top.start c.args.top.node c.requires.left;
      left = c.requires.left;
      low = c.requires.low;
      found = c.requires.found;
    }

pub offset_bounds-sums-node : goal.offset_bounds-sums-node
offset_bounds-sums-node g c =
    let sums = map g.N.SumNumber.value c.args.sums.now in
    omega (arith, below_within c.args.leaves c.args.from sums c.requires.tree c.down.start c.down.node c.down-test.true c.down.invariant.left, c.down.invariant.low, length-map c.args.sums.now g.N.SumNumber.value, c.requires.tree.nodes)

pub bounds-sums-node : goal.bounds-sums-node
bounds-sums-node g c =
    let sums = map g.N.SumNumber.value c.args.sums.now in
    omega (arith, below_within c.args.leaves c.args.from sums c.requires.tree c.down.start c.down.node c.down-test.true c.down.invariant.left, c.down.invariant.low, length-map c.args.sums.now g.N.SumNumber.value, c.requires.tree.nodes)

pub down-preserved-then-equals : goal.down-preserved-then-equals
down-preserved-then-equals g c =
    let sums = map g.N.SumNumber.value c.args.sums.now in
    let is = c.down.invariant in
    let within = below_within c.args.leaves c.args.from sums c.requires.tree c.down.start c.down.node c.down-test.true is.left in
    let none = none_at g.N.SumNumber.value c.args.sums.now (c.down.node * 2) (g.N.SumNumber.value c.zero.result) c.index-sums-node.result (omega (arith, within, is.low, length-map c.args.sums.now g.N.SumNumber.value, c.requires.tree.nodes)) c.index-sums-node.is (c.if-equals.ensures.0 refl) c.zero.ensures in
    let down = left_down c.args.leaves c.args.from sums c.requires.tree c.down.start c.down.node c.down-test.true is.left (c.down.start * 2) (c.down.node * 2) (omega arith) (omega arith) is.some in
    record {
      some = omega (arith, is.some);
      within = omega (arith, within);
      left = left_next c.args.leaves c.args.from (c.down.start * 2) (c.down.node * 2) sums (omega (arith, is.low)) none down;
      low = omega (arith, is.low);
      found = λ more. is.found (children_are c.args.leaves c.args.from sums c.requires.tree c.down.start c.down.node c.down-test.true is.left (c.down.node * 2) (omega arith) is.some is.low ∙ omega (arith, more, none));
    }

pub down-preserved : goal.down-preserved
down-preserved g c =
    let sums = map g.N.SumNumber.value c.args.sums.now in
    let is = c.down.invariant in
    let within = below_within c.args.leaves c.args.from sums c.requires.tree c.down.start c.down.node c.down-test.true is.left in
    record {
      some = omega (arith, is.some);
      within = omega (arith, within);
      left = left_down c.args.leaves c.args.from sums c.requires.tree c.down.start c.down.node c.down-test.true is.left (c.down.start * 2) (c.down.node * 2) (omega arith) (omega arith) is.some;
      low = omega (arith, is.low);
      found = some_at g.N.SumNumber.value c.args.sums.now (c.down.node * 2) (g.N.SumNumber.value c.zero.result) c.index-sums-node.result (omega (arith, within, is.low, length-map c.args.sums.now g.N.SumNumber.value, c.requires.tree.nodes)) c.index-sums-node.is (λ same. both_ways false refl (c.if-equals.ensures.1 same)) c.zero.ensures;
    }
