use Rattle.std.proofs.Common.{◌≤◌, ◌+◌, false, refl, map, arith}
use Rattle.std.proofs.lemmas.Bool.{both_ways}
use Rattle.std.proofs.lemmas.List.{length-map}
use Rattle.window_arcs.proofs.NextLemmas.{left_next, left_up, level_within, none_at, some_at}
use Rattle.window_arcs.proofs.places.first_up.Goals as goal

pub overflow_mul-start : goal.overflow_mul-start
overflow_mul-start g c = omega (arith, level_within c.args.leaves c.args.from (map g.N.SumNumber.value c.args.sums.now) c.requires.tree c.up.start c.up.node c.up.invariant.left, c.requires.tree.few)

pub offset_bounds-sums-node : goal.offset_bounds-sums-node
offset_bounds-sums-node g c = omega (arith, level_within c.args.leaves c.args.from (map g.N.SumNumber.value c.args.sums.now) c.requires.tree c.up.start c.up.node c.up.invariant.left, length-map c.args.sums.now g.N.SumNumber.value, c.requires.tree.nodes, c.up-test.true)

pub bounds-sums-node : goal.bounds-sums-node
bounds-sums-node g c = omega (arith, level_within c.args.leaves c.args.from (map g.N.SumNumber.value c.args.sums.now) c.requires.tree c.up.start c.up.node c.up.invariant.left, length-map c.args.sums.now g.N.SumNumber.value, c.requires.tree.nodes, c.up-test.true)

pub overflow_add-node-in-up : goal.overflow_add-node-in-up
overflow_add-node-in-up g c = omega (arith, level_within c.args.leaves c.args.from (map g.N.SumNumber.value c.args.sums.now) c.requires.tree c.up.start c.up.node c.up.invariant.left, c.requires.tree.few, c.up-test.true)

pub up-preserved-then-node-eq0 : goal.up-preserved-then-node-eq0
up-preserved-then-node-eq0 g c =
    let sums = map g.N.SumNumber.value c.args.sums.now in
    let low : c.up.start ≤ c.args.leaves = level_within c.args.leaves c.args.from sums c.requires.tree c.up.start c.up.node c.up.invariant.left in
    let none = none_at g.N.SumNumber.value c.args.sums.now c.up.node (g.N.SumNumber.value c.zero.result) c.index-sums-node.result (omega (arith, low, length-map c.args.sums.now g.N.SumNumber.value, c.requires.tree.nodes, c.up-test.true)) c.index-sums-node.is (c.if-equals.ensures.0 refl) c.zero.ensures in
    record {
      some = omega (arith, c.if-start-gt1.true);
      left = left_up c.args.leaves c.args.from sums c.requires.tree c.up.start (c.up.node + 1) c.if-start-gt1.true c.if-node-eq0.true
          (left_next c.args.leaves c.args.from c.up.start c.up.node sums c.up-test.true none c.up.invariant.left);
    }

pub up-preserved : goal.up-preserved
up-preserved g c =
    let sums = map g.N.SumNumber.value c.args.sums.now in
    let low : c.up.start ≤ c.args.leaves = level_within c.args.leaves c.args.from sums c.requires.tree c.up.start c.up.node c.up.invariant.left in
    let none = none_at g.N.SumNumber.value c.args.sums.now c.up.node (g.N.SumNumber.value c.zero.result) c.index-sums-node.result (omega (arith, low, length-map c.args.sums.now g.N.SumNumber.value, c.requires.tree.nodes, c.up-test.true)) c.index-sums-node.is (c.if-equals.ensures.0 refl) c.zero.ensures in
    record {
      some = c.up.invariant.some;
      left = left_next c.args.leaves c.args.from c.up.start c.up.node sums c.up-test.true none c.up.invariant.left;
    }

pub returns-else-equals-clause-found : goal.returns-else-equals-clause-found
returns-else-equals-clause-found g c =
    let sums = map g.N.SumNumber.value c.args.sums.now in
    let low : c.up.start ≤ c.args.leaves = level_within c.args.leaves c.args.from sums c.requires.tree c.up.start c.up.node c.up.invariant.left in
    λ _. some_at g.N.SumNumber.value c.args.sums.now c.up.node (g.N.SumNumber.value c.zero.result) c.index-sums-node.result (omega (arith, low, length-map c.args.sums.now g.N.SumNumber.value, c.requires.tree.nodes, c.up-test.true)) c.index-sums-node.is (λ same. both_ways false refl (c.if-equals.ensures.1 same)) c.zero.ensures
