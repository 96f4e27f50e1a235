use Rattle.std.proofs.Common.{◌≡◌, ◌<◌, ◌∙◌, ap, arith, drop, length, map, refl, set, subst, sym}
use Rattle.std.proofs.lemmas.List.{length-map, with_items_is}
use Rattle.window_arcs.specs.Places.{IsPlaced, numbers_at}
use Rattle.window_arcs.proofs.PlaceLemmas.{length-numbers, numbers_same, numbers_set, placed_set}
use Rattle.window_arcs.proofs.places.PlaceTree.set.Goals as goal

pub invariant_of-self : goal.invariant_of-self
invariant_of-self g c =
    let value = g.N.SumNumber.value in
    let old = c.self.inside.sums.items in
    let new = c.set_leaf.new.sums in
    let long : length new ≡ c.self.inside.sums.len = omega (arith, length-map new value, length-map old value, c.set_leaf.ensures.tree.nodes, c.self.invariant.tree.nodes, c.self.inside.sums.ok) in
    let within : c.args.place < c.self.inside.places = omega (arith, c.requires.within, ap length c.self.view_is, length-numbers c.self.inside.places c.self.inside.leaves (map value old) c.self.invariant) in
    let is = c.set_leaf.ensures.leaves ∙ ap (λ xs. set (drop c.self.inside.leaves xs) c.args.place c.args.number) c.deref_mut.ensures.value in
    subst (λ xs. IsPlaced g.N.SumNumber.greatest c.self.inside.places c.self.inside.leaves (map value xs)) (sym (with_items_is c.self.inside.sums new long))
    (placed_set value g.N.SumNumber.greatest c.self.inside.places c.self.inside.leaves c.args.place old new c.args.number c.self.invariant within is c.set_leaf.ensures.tree)

pub returns-then-not-equals : goal.returns-then-not-equals
returns-then-not-equals g c =
    let value = g.N.SumNumber.value in
    let old = c.self.inside.sums.items in
    let new = c.set_leaf.new.sums in
    let long : length new ≡ c.self.inside.sums.len = omega (arith, length-map new value, length-map old value, c.set_leaf.ensures.tree.nodes, c.self.invariant.tree.nodes, c.self.inside.sums.ok) in
    let within : c.args.place < c.self.inside.places = omega (arith, c.requires.within, ap length c.self.view_is, length-numbers c.self.inside.places c.self.inside.leaves (map value old) c.self.invariant) in
    let is = c.set_leaf.ensures.leaves ∙ ap (λ xs. set (drop c.self.inside.leaves xs) c.args.place c.args.number) c.deref_mut.ensures.value in
    ap (λ xs. numbers_at c.self.inside.places c.self.inside.leaves (map value xs)) (with_items_is c.self.inside.sums new long)
    ∙ numbers_set value g.N.SumNumber.greatest c.self.inside.places c.self.inside.leaves c.args.place old new c.args.number c.self.invariant within is
    ∙ ap (λ xs. set xs c.args.place (value c.args.number)) c.self.view_is

pub returns-else-not-equals : goal.returns-else-not-equals
returns-else-not-equals g c =
    let value = g.N.SumNumber.value in
    let old = c.self.inside.sums.items in
    let within : c.args.place < c.self.inside.places = omega (arith, c.requires.within, ap length c.self.view_is, length-numbers c.self.inside.places c.self.inside.leaves (map value old) c.self.invariant) in
    sym c.self.view_is
    ∙ numbers_same value g.N.SumNumber.greatest c.self.inside.places c.self.inside.leaves c.args.place old old c.args.number c.self.invariant within c.index.result.now c.index.ensures (c.if-not-equals.ensures.0 refl)
    ∙ ap (λ xs. set xs c.args.place (value c.args.number)) c.self.view_is
