use Rattle.std.proofs.Common.{ℕ}
use Rattle.std.proofs.lemmas.List.{map-id}
use Rattle.window_arcs.proofs.PlaceLemmas.{sum_before}
use Rattle.window_arcs.proofs.sums.PlaceTree+u128.before.Goals as goal

pub returns : goal.returns
returns c = sum_before c.self.inside.places c.self.inside.leaves c.args.place c.sum_between.result c.args.self.now c.self.inside.sums.items (rw (map-id {A = ℕ}) at c.self.view_is) (rw (map-id {A = ℕ}) at c.self.invariant) c.requires (rw (c.deref.ensures.value, map-id {A = ℕ}) at c.sum_between.ensures)
