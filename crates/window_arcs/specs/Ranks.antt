-- The parts of the order of arcs: their numbers, and the rank of each.
use Rattle.std.specs.Prelude.{◌≡◌, ℕ, ◌<◌, ◌≤◌, ◌^◌, List, length, slice_index}
use Rattle.std.specs.List.Sorted.{IsPermutation}
use Rattle.flow_model.specs.declared.arcs.OuterArc.{OuterArc}
use Rattle.flow_model.specs.Instances.{arc_at}
use Rattle.window_arcs.specs.Passing.{ranked_numbers, whole_share}

-- of arcs, which are few, the numbers of those that pass through some window, each once, those first whose whole windows cost most
pub record AreOrdered (width : ℕ) (arcs : List OuterArc) (order : List ℕ) : Type 0 where
  pub few : length arcs ≤ 2 ^ 26
  pub all : IsPermutation (ranked_numbers width arcs) order
  pub falling : (r s : ℕ) → r ≤ s → s < length order → whole_share width (arc_at arcs (slice_index order s)) ≤ whole_share width (arc_at arcs (slice_index order r))

-- a number for each arc, and for each number of the order where it stands there
pub record AreRanksOf (arcs : ℕ) (order ranks : List ℕ) : Type 0 where
  pub each : length ranks ≡ arcs
  pub within : (r : ℕ) → r < length order → slice_index ranks (slice_index order r) < length order
  pub ranked : (r : ℕ) → r < length order → slice_index order (slice_index ranks (slice_index order r)) ≡ slice_index order r
