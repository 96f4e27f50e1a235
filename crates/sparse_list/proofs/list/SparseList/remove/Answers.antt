use Rattle.std.proofs.Common.{◌∙◌, ap, sym, slice_set, List}
use Rattle.sparse_list.specs.Sparse.{Sparse}
use Rattle.sparse_list.proofs.Places.{no-place, taken-cells-at, taken-values-at}
use Rattle.sparse_list.proofs.list.SparseList.remove.Goals as goal

pub returns-then-place-eq0 : goal.returns-then-place-eq0
returns-then-place-eq0 g c = no-place c.self.inside.none c.args.self.now c.self.inside.cells.items c.self.inside.places.items c.args.number c.self.view_is (sym c.place_of-place.ensures ∙ c.if-place-eq0.true)

pub invariant_of-self : goal.invariant_of-self
invariant_of-self g c =
    rw (c.take_cell.ensures.cells, c.take_cell.ensures.places)
    (taken-cells-at c.self.inside.none c.self.inside.cells.items c.self.inside.places.items c.self.invariant c.args.number c.place_of-place.result (sym c.place_of-place.ensures) c.if-place-eq0.false)

pub returns : goal.returns
returns g c =
    ap {A = List g.row.X.Denot} (λ items. record { none = c.self.inside.none; items = items })
    (rw (c.take_cell.ensures.cells, c.take_cell.ensures.places)
    (taken-values-at c.self.inside.none c.self.inside.cells.items c.self.inside.places.items c.self.invariant c.args.number c.place_of-place.result (sym c.place_of-place.ensures) c.if-place-eq0.false))
    ∙ ap (λ (s : Sparse g.row.X.Denot). record s { items = slice_set s.items c.args.number s.none }) c.self.view_is
