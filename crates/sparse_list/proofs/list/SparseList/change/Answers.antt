use Rattle.std.proofs.Common.{◌≡◌, ◌-◌, ◌∙◌, suc, ap, slice_set, arith}
use Rattle.std.proofs.lemmas.List.{get_or_read}
use Rattle.sparse_list.specs.Sparse.{Sparse, place_at}
use Rattle.sparse_list.proofs.Places.{changed-cells, changed-values, placed-within, read-owner, some-place}
use Rattle.sparse_list.proofs.list.SparseList.change.Goals as goal

pub invariant_of-self : goal.invariant_of-self
invariant_of-self g c =
    let cells = c.self.inside.cells.items in
    let places = c.self.inside.places.items in
    let some : place_at places c.args.number ≡ suc (place_at places c.args.number - 1) = some-place c.self.inside.none c.args.self.now cells places c.args.number c.self.view_is c.requires.there in
    let read = get_or_read places c.args.number c.index-place.result.now (placed-within places c.args.number (place_at places c.args.number - 1) some) c.index-place.ensures 0 in
    let at : place_at places c.args.number ≡ suc (c.index-place.result.now - 1) = omega (arith, some, read) in
    changed-cells c.self.inside.none cells places c.self.invariant c.args.number (c.index-place.result.now - 1) at (record { owner = c.index_mut.result.now.owner; value = c.args.value })
    (read-owner c.self.inside.none cells places c.self.invariant c.args.number (c.index-place.result.now - 1) at c.index_mut.result.now c.index_mut.ensures.value)

pub returns : goal.returns
returns g c =
    let cells = c.self.inside.cells.items in
    let places = c.self.inside.places.items in
    let some : place_at places c.args.number ≡ suc (place_at places c.args.number - 1) = some-place c.self.inside.none c.args.self.now cells places c.args.number c.self.view_is c.requires.there in
    let read = get_or_read places c.args.number c.index-place.result.now (placed-within places c.args.number (place_at places c.args.number - 1) some) c.index-place.ensures 0 in
    let at : place_at places c.args.number ≡ suc (c.index-place.result.now - 1) = omega (arith, some, read) in
    ap (λ items. record { none = c.self.inside.none; items = items })
    (changed-values c.self.inside.none cells places c.self.invariant c.args.number (c.index-place.result.now - 1) at (record { owner = c.index_mut.result.now.owner; value = c.args.value })
    (read-owner c.self.inside.none cells places c.self.invariant c.args.number (c.index-place.result.now - 1) at c.index_mut.result.now c.index_mut.ensures.value))
    ∙ ap (λ (s : Sparse g.row.X.Denot). record s { items = slice_set s.items c.args.number c.args.value }) c.self.view_is
