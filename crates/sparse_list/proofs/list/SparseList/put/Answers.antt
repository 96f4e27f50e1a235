use Rattle.std.proofs.Common.{◌≡◌, ◌-◌, ◌∙◌, suc, ap, sym, refl, slice_set, arith, List}
use Rattle.sparse_list.specs.Sparse.{Sparse, place_at, up_to}
use Rattle.sparse_list.proofs.Places.{added-cells, added-values, changed-cells, changed-values, read-owner, up_to-placed}
use Rattle.sparse_list.proofs.list.SparseList.put.Goals as goal

pub invariant_of-self-then-place-eq0 : goal.invariant_of-self-then-place-eq0
invariant_of-self-then-place-eq0 g c =
    rw (c.in_ok-add_cell.ensures.cells, c.in_ok-add_cell.ensures.places)
    (added-cells c.self.inside.none c.self.inside.cells.items c.self.inside.places.items c.self.invariant c.args.number (sym c.place_of-place.ensures ∙ c.if-place-eq0.true)
    (record { owner = c.args.number; value = c.args.value }) refl)

pub returns-then-place-eq0-clause-put : goal.returns-then-place-eq0-clause-put
returns-then-place-eq0-clause-put g c =
    ap {A = List g.row.X.Denot} (λ items. record { none = c.self.inside.none; items = items })
    (rw (c.in_ok-add_cell.ensures.cells, c.in_ok-add_cell.ensures.places)
    (added-values c.self.inside.none c.self.inside.cells.items c.self.inside.places.items c.self.invariant c.args.number (sym c.place_of-place.ensures ∙ c.if-place-eq0.true)
    (record { owner = c.args.number; value = c.args.value }) refl))
    ∙ ap (λ (s : Sparse g.row.X.Denot). record s { items = slice_set (up_to c.args.number s) c.args.number c.args.value }) c.self.view_is

pub invariant_of-self-2 : goal.invariant_of-self-2
invariant_of-self-2 g c =
    let cells = c.self.inside.cells.items in
    let places = c.self.inside.places.items in
    let at : place_at places c.args.number ≡ suc (c.place_of-place.result - 1) = omega (arith, c.place_of-place.ensures, c.if-place-eq0.false) in
    changed-cells c.self.inside.none cells places c.self.invariant c.args.number (c.place_of-place.result - 1) at (record { owner = c.index_mut.result.now.owner; value = c.args.value })
    (read-owner c.self.inside.none cells places c.self.invariant c.args.number (c.place_of-place.result - 1) at c.index_mut.result.now c.index_mut.ensures.value)

pub returns-clause-put : goal.returns-clause-put
returns-clause-put g c =
    let cells = c.self.inside.cells.items in
    let places = c.self.inside.places.items in
    let at : place_at places c.args.number ≡ suc (c.place_of-place.result - 1) = omega (arith, c.place_of-place.ensures, c.if-place-eq0.false) in
    ap {A = List g.row.X.Denot} (λ items. record { none = c.self.inside.none; items = items })
    (changed-values c.self.inside.none cells places c.self.invariant c.args.number (c.place_of-place.result - 1) at (record { owner = c.index_mut.result.now.owner; value = c.args.value })
    (read-owner c.self.inside.none cells places c.self.invariant c.args.number (c.place_of-place.result - 1) at c.index_mut.result.now c.index_mut.ensures.value))
    ∙ ap (λ (s : Sparse g.row.X.Denot). record s { items = slice_set s.items c.args.number c.args.value }) c.self.view_is
    ∙ ap (λ items. record { none = c.args.self.now.none; items = slice_set items c.args.number c.args.value })
    (sym (up_to-placed c.self.inside.none c.args.self.now cells places c.args.number (c.place_of-place.result - 1) c.self.view_is at))
