use Rattle.std.proofs.Common.{◌≡◌, ◌∙◌, ◌≢◌, ap, min, slice_set}
use Rattle.std.specs.Vec.{vec_capacity, vec_len}
use Rattle.sparse_list.specs.Sparse.{place_at}
use Rattle.sparse_list.specs.Slots.{Slots, most_values}
use Rattle.sparse_list.proofs.Places.{taken-cells-at, taken-values-at}
use Rattle.sparse_list.proofs.SlotPlaces.{read-there}
use Rattle.sparse_list.proofs.slots.SlotList.remove.Goals as goal

pub invariant_of-self : goal.invariant_of-self
invariant_of-self g c =
    let cells = c.self.inside.cells.items in
    let places = c.self.inside.places.items in
    let at : (place_at places c.args.number ≡ c.index-place.result.now) × (c.index-place.result.now ≢ 0) =
    read-there c.self.inside.none cells places (vec_len c.self.inside.cells) (min (vec_capacity c.self.inside.cells) most_values) c.args.self.now c.self.view_is c.args.number c.index-place.result.now c.requires.there c.index-place.ensures in
    rw (c.take_cell.ensures.cells, c.take_cell.ensures.places)
    (taken-cells-at c.self.inside.none cells places c.self.invariant c.args.number c.index-place.result.now at.0 at.1)

pub returns-clause-items : goal.returns-clause-items
returns-clause-items g c =
    let cells = c.self.inside.cells.items in
    let places = c.self.inside.places.items in
    let at : (place_at places c.args.number ≡ c.index-place.result.now) × (c.index-place.result.now ≢ 0) =
    read-there c.self.inside.none cells places (vec_len c.self.inside.cells) (min (vec_capacity c.self.inside.cells) most_values) c.args.self.now c.self.view_is c.args.number c.index-place.result.now c.requires.there c.index-place.ensures in
    rw (c.take_cell.ensures.cells, c.take_cell.ensures.places)
    (taken-values-at c.self.inside.none cells places c.self.invariant c.args.number c.index-place.result.now at.0 at.1)
    ∙ ap (λ (s : Slots g.row.X.Denot). slice_set s.items c.args.number s.none) c.self.view_is
