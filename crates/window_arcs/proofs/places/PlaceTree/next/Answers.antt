use Rattle.std.proofs.Common.{◌*◌, arith, map, subst}
use Rattle.window_arcs.specs.Places.{IsLeft}
use Rattle.window_arcs.proofs.NextLemmas.{left_none, next-none, next-order, next-within, next-zeros}
use Rattle.window_arcs.proofs.places.PlaceTree.next.Goals as goal

pub returns-then-top-clause-none_before : goal.returns-then-top-clause-none_before
returns-then-top-clause-none_before g c =
    let top = c.first_up-top.result in
    let is : IsLeft c.self.inside.leaves c.args.from (map g.N.SumNumber.value c.self.inside.sums.items) top.start (2 * top.start) = subst (λ n. IsLeft c.self.inside.leaves c.args.from (map g.N.SumNumber.value c.self.inside.sums.items) top.start n) c.if-top.true (rw c.deref.ensures.value at c.first_up-top.ensures.left) in
    next-none c.self.inside.places c.self.inside.leaves c.args.from c.args.self.now (map g.N.SumNumber.value c.self.inside.sums.items) c.self.view_is c.self.invariant c.requires
    (left_none c.self.inside.leaves c.args.from (map g.N.SumNumber.value c.self.inside.sums.items) c.self.invariant.tree top.start is)

pub returns-clause-order : goal.returns-clause-order
returns-clause-order g c =
    let is = rw c.deref-2.ensures.value at c.first_down.ensures in
    next-order c.self.inside.places c.self.inside.leaves c.args.from c.args.self.now (map g.N.SumNumber.value c.self.inside.sums.items) c.self.view_is c.self.invariant c.requires c.first_down.result is.left is.low is.found

pub returns-clause-within : goal.returns-clause-within
returns-clause-within g c =
    let is = rw c.deref-2.ensures.value at c.first_down.ensures in
    omega (arith, next-within c.self.inside.places c.self.inside.leaves c.args.from c.args.self.now (map g.N.SumNumber.value c.self.inside.sums.items) c.self.view_is c.self.invariant c.requires c.first_down.result is.left is.low is.found)

pub returns-clause-none_before : goal.returns-clause-none_before
returns-clause-none_before g c =
    let is = rw c.deref-2.ensures.value at c.first_down.ensures in
    next-zeros c.self.inside.places c.self.inside.leaves c.args.from c.args.self.now (map g.N.SumNumber.value c.self.inside.sums.items) c.self.view_is c.self.invariant c.requires c.first_down.result is.left is.low is.found
