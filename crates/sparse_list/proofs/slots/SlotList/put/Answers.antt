use Rattle.std.proofs.Common.{◌≡◌, ◌+◌, ◌-◌, ◌∙◌, suc, ap, min, refl, slice_set, arith}
use Rattle.std.specs.Vec.{vec_capacity, vec_len}
use Rattle.sparse_list.specs.Sparse.{place_at}
use Rattle.sparse_list.specs.Slots.{Slots, most_values}
use Rattle.sparse_list.proofs.Places.{changed-cells, changed-values, read-owner}
use Rattle.sparse_list.proofs.SlotPlaces.{put-cells, put-values, reached-within, read-place}
use Rattle.sparse_list.proofs.slots.SlotList.put.Goals as goal

pub invariant_of-self : goal.invariant_of-self
invariant_of-self g c =
    let cells = c.self.inside.cells.items in
    let places = c.self.inside.places.items in
    let read : place_at places c.args.number ≡ c.index-place.result.now =
    read-place c.self.inside.none cells places (vec_len c.self.inside.cells) (min (vec_capacity c.self.inside.cells) most_values) c.args.self.now c.self.view_is c.args.number c.index-place.result.now c.requires.reached c.index-place.ensures in
    let at : place_at places c.args.number ≡ suc (c.index-place.result.now - 1) = omega (arith, read, c.if-place-ne0.true) in
    changed-cells c.self.inside.none cells places c.self.invariant c.args.number (c.index-place.result.now - 1) at (record { owner = c.index_mut.result.now.owner; value = c.args.value })
    (read-owner c.self.inside.none cells places c.self.invariant c.args.number (c.index-place.result.now - 1) at c.index_mut.result.now c.index_mut.ensures.value)

pub returns-then-place-ne0-clause-items : goal.returns-then-place-ne0-clause-items
returns-then-place-ne0-clause-items g c =
    let cells = c.self.inside.cells.items in
    let places = c.self.inside.places.items in
    let read : place_at places c.args.number ≡ c.index-place.result.now =
    read-place c.self.inside.none cells places (vec_len c.self.inside.cells) (min (vec_capacity c.self.inside.cells) most_values) c.args.self.now c.self.view_is c.args.number c.index-place.result.now c.requires.reached c.index-place.ensures in
    let at : place_at places c.args.number ≡ suc (c.index-place.result.now - 1) = omega (arith, read, c.if-place-ne0.true) in
    changed-values c.self.inside.none cells places c.self.invariant c.args.number (c.index-place.result.now - 1) at (record { owner = c.index_mut.result.now.owner; value = c.args.value })
    (read-owner c.self.inside.none cells places c.self.invariant c.args.number (c.index-place.result.now - 1) at c.index_mut.result.now c.index_mut.ensures.value)
    ∙ ap (λ (s : Slots g.row.X.Denot). slice_set s.items c.args.number c.args.value) c.self.view_is

pub invariant_of-self-2 : goal.invariant_of-self-2
invariant_of-self-2 g c =
    let places = c.self.inside.places.items in
    let read : place_at places c.args.number ≡ c.index-place.result.now =
    read-place c.self.inside.none c.self.inside.cells.items places (vec_len c.self.inside.cells) (min (vec_capacity c.self.inside.cells) most_values) c.args.self.now c.self.view_is c.args.number c.index-place.result.now c.requires.reached c.index-place.ensures in
    let within = reached-within c.self.inside.none c.self.inside.cells.items places (vec_len c.self.inside.cells) (min (vec_capacity c.self.inside.cells) most_values) c.args.self.now c.self.view_is c.args.number c.requires.reached in
    rw c.push_reserved.ensures.items
    (put-cells c.self.inside.none c.self.inside.cells.items places c.self.invariant c.args.number within (omega (arith, read, c.if-place-ne0.false)) (record { owner = c.args.number; value = c.args.value }) refl (c.len.result + 1) (omega (arith, c.len.ensures)))

pub returns-clause-items : goal.returns-clause-items
returns-clause-items g c =
    let places = c.self.inside.places.items in
    let read : place_at places c.args.number ≡ c.index-place.result.now =
    read-place c.self.inside.none c.self.inside.cells.items places (vec_len c.self.inside.cells) (min (vec_capacity c.self.inside.cells) most_values) c.args.self.now c.self.view_is c.args.number c.index-place.result.now c.requires.reached c.index-place.ensures in
    let within = reached-within c.self.inside.none c.self.inside.cells.items places (vec_len c.self.inside.cells) (min (vec_capacity c.self.inside.cells) most_values) c.args.self.now c.self.view_is c.args.number c.requires.reached in
    rw c.push_reserved.ensures.items
    (put-values c.self.inside.none c.self.inside.cells.items places c.self.invariant c.args.number within (omega (arith, read, c.if-place-ne0.false)) (record { owner = c.args.number; value = c.args.value }) refl (c.len.result + 1) (omega (arith, c.len.ensures)))
    ∙ ap (λ (s : Slots g.row.X.Denot). slice_set s.items c.args.number c.args.value) c.self.view_is
