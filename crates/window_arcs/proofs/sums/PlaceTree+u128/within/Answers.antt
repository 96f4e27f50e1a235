use Rattle.std.proofs.Common.{ℕ, ◌-◌, ◌*◌, ◌∙◌, refl, sym, ap, sum, take, length, arith}
use Rattle.std.proofs.lemmas.List.{map-id}
use Rattle.window_arcs.proofs.PlaceLemmas.{length-numbers, sum-all}
use Rattle.window_arcs.proofs.SearchLemmas.{found_place, found_sum, left_fits, next_level, root_sum, search-left, search-right, search-root}
use Rattle.window_arcs.proofs.sums.PlaceTree+u128.within.Goals as goal

pub returns-then-index-limit-clause-sum : goal.returns-then-index-limit-clause-sum
returns-then-index-limit-clause-sum c =
    let placed = rw (map-id {A = ℕ}) at c.self.invariant in
    root_sum c.self.inside.places c.self.inside.leaves c.args.limit c.self.inside.sums.items placed c.index-then-index-limit.result.now c.index-then-index-limit.ensures
    ∙ sym (sum-all c.self.inside.places c.self.inside.leaves c.self.inside.sums.items placed)
    ∙ ap (λ xs. sum (take c.self.inside.places xs)) (rw (map-id {A = ℕ}) at c.self.view_is)

pub down-init : goal.down-init
down-init c =
    let placed = rw (map-id {A = ℕ}) at c.self.invariant in
    let root = root_sum c.self.inside.places c.self.inside.leaves c.args.limit c.self.inside.sums.items placed c.index.result.now c.index.ensures in
    record { leaves = refl; searched = search-root c.self.inside.places c.self.inside.leaves c.args.limit c.self.inside.sums.items placed (omega (arith, root, c.if-index-limit.false)) }

pub index-requires-in-down : goal.index-requires-in-down
index-requires-in-down c =
    omega (
      arith,
      next_level c.self.inside.places c.self.inside.leaves c.args.limit c.self.inside.sums.items (rw (map-id {A = ℕ}) at c.self.invariant) c.down.start c.down.node c.down.sum c.down.invariant.searched c.down-test.true,
      c.down.invariant.searched.high,
      (rw (map-id {A = ℕ}) at c.self.invariant).tree.nodes,
      c.self.inside.sums.ok,
    )

pub overflow_add-left : goal.overflow_add-left
overflow_add-left c =
    omega (arith, left_fits c.self.inside.places c.self.inside.leaves c.args.limit c.self.inside.sums.items (rw (map-id {A = ℕ}) at c.self.invariant) c.down.start c.down.node c.down.sum c.down.invariant.searched c.down-test.true (c.down.node * 2) c.index-in-down.result.now (omega arith) c.index-in-down.ensures)

pub down-preserved : goal.down-preserved
down-preserved c = record {
  leaves = refl;
  searched = search-left c.self.inside.places c.self.inside.leaves c.args.limit c.self.inside.sums.items (rw (map-id {A = ℕ}) at c.self.invariant) c.down.start c.down.node c.down.sum c.down.invariant.searched c.down-test.true (c.down.node * 2) c.index-in-down.result.now (omega arith) c.index-in-down.ensures (c.down.start * 2) (omega arith) c.if-left-limit.false;
}

pub down-preserved-then-left-limit : goal.down-preserved-then-left-limit
down-preserved-then-left-limit c = record {
  leaves = refl;
  searched = search-right c.self.inside.places c.self.inside.leaves c.args.limit c.self.inside.sums.items (rw (map-id {A = ℕ}) at c.self.invariant) c.down.start c.down.node c.down.sum c.down.invariant.searched c.down-test.true (c.down.node * 2) c.index-in-down.result.now (omega arith) c.index-in-down.ensures (c.down.start * 2) (omega arith) c.if-left-limit.true;
}

pub returns-clause-places : goal.returns-clause-places
returns-clause-places c =
    omega (
      arith,
      found_place c.self.inside.places c.self.inside.leaves c.args.limit c.self.inside.sums.items (rw (map-id {A = ℕ}) at c.self.invariant) c.down.start c.down.node c.down.sum c.down.invariant.searched c.down-test.false,
      length-numbers c.self.inside.places c.self.inside.leaves c.self.inside.sums.items (rw (map-id {A = ℕ}) at c.self.invariant),
      ap length (rw (map-id {A = ℕ}) at c.self.view_is),
    )

pub returns-clause-sum : goal.returns-clause-sum
returns-clause-sum c =
    found_sum c.self.inside.places c.self.inside.leaves c.args.limit c.self.inside.sums.items (rw (map-id {A = ℕ}) at c.self.invariant) c.down.start c.down.node c.down.sum c.down.invariant.searched c.down-test.false
    ∙ ap (λ xs. sum (take (c.down.node - c.self.inside.leaves) xs)) (rw (map-id {A = ℕ}) at c.self.view_is)
