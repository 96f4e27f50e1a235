use Rattle.std.proofs.Common.{◌≡◌, ◌-◌, ◌∙◌, suc, ap, min, slice_set}
use Rattle.std.specs.Vec.{vec_capacity, vec_len}
use Rattle.sparse_list.specs.Sparse.{place_at}
use Rattle.sparse_list.specs.Slots.{Slots, most_values}
use Rattle.sparse_list.proofs.Places.{changed-cells, changed-values, read-owner}
use Rattle.sparse_list.proofs.SlotPlaces.{read-some}
use Rattle.sparse_list.proofs.slots.SlotList.change.Goals as goal

pub invariant_of-self : goal.invariant_of-self
invariant_of-self g c =
    let cells = c.self.inside.cells.items in
    let places = c.self.inside.places.items in
    let at : place_at places c.args.number ≡ suc (c.index-place.result.now - 1) =
    read-some c.self.inside.none cells places (vec_len c.self.inside.cells) (min (vec_capacity c.self.inside.cells) most_values) c.args.self.now c.self.view_is c.args.number c.index-place.result.now c.requires.there c.index-place.ensures in
    changed-cells c.self.inside.none cells places c.self.invariant c.args.number (c.index-place.result.now - 1) at (record { owner = c.index_mut.result.now.owner; value = c.args.value })
    (read-owner c.self.inside.none cells places c.self.invariant c.args.number (c.index-place.result.now - 1) at c.index_mut.result.now c.index_mut.ensures.value)

pub returns : goal.returns
returns g c =
    let cells = c.self.inside.cells.items in
    let places = c.self.inside.places.items in
    let at : place_at places c.args.number ≡ suc (c.index-place.result.now - 1) =
    read-some c.self.inside.none cells places (vec_len c.self.inside.cells) (min (vec_capacity c.self.inside.cells) most_values) c.args.self.now c.self.view_is c.args.number c.index-place.result.now c.requires.there c.index-place.ensures in
    ap (λ items. record { none = c.self.inside.none; items = items; count = vec_len c.self.inside.cells; room = min (vec_capacity c.self.inside.cells) most_values })
    (changed-values c.self.inside.none cells places c.self.invariant c.args.number (c.index-place.result.now - 1) at (record { owner = c.index_mut.result.now.owner; value = c.args.value })
    (read-owner c.self.inside.none cells places c.self.invariant c.args.number (c.index-place.result.now - 1) at c.index_mut.result.now c.index_mut.ensures.value))
    ∙ ap (λ (s : Slots g.row.X.Denot). record s { items = slice_set s.items c.args.number c.args.value }) c.self.view_is
