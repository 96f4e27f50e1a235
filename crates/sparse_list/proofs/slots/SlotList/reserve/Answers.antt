use Rattle.std.proofs.Common.{◌-◌, ◌+◌, ◌∙◌, ◌++◌, ap, sym, length, replicate}
use Rattle.std.proofs.lemmas.List.{length-map}
use Rattle.sparse_list.specs.Sparse.{value_at, values_of}
use Rattle.sparse_list.specs.Slots.{Slots}
use Rattle.sparse_list.proofs.SlotPlaces.{longer-cells, longer-values}
use Rattle.sparse_list.proofs.slots.SlotList.reserve.Goals as goal

pub invariant_of-self-2 : goal.invariant_of-self-2
invariant_of-self-2 g c =
    rw (c.in_ok-make_room.ensures.cells, c.in_ok-reach.ensures.reached)
    (longer-cells c.self.inside.none c.self.inside.cells.items c.self.inside.places.items (c.args.number + 1 - length c.self.inside.places.items) c.self.invariant)

pub returns-clause-reached : goal.returns-clause-reached
returns-clause-reached g c =
    let cells = c.self.inside.cells.items in
    let places = c.self.inside.places.items in
    rw (c.in_ok-make_room.ensures.cells, c.in_ok-reach.ensures.reached)
    (longer-values c.self.inside.none cells places (c.args.number + 1 - length places))
    ∙ ap (λ m. values_of c.self.inside.none cells places ++ replicate (c.args.number + 1 - m) c.self.inside.none) (sym (length-map places (value_at c.self.inside.none cells)))
    ∙ ap (λ (s : Slots g.row.X.Denot). s.items ++ replicate (c.args.number + 1 - length s.items) s.none) c.self.view_is
