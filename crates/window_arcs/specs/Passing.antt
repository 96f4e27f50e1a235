-- Arcs that pass through a window, those that meet it otherwise, and the order in which passing arcs earn.
use Rattle.std.specs.Prelude.{◌≡◌, ℕ, ◌+◌, ◌-◌, ◌*◌, ◌/◌, ◌<◌, ◌≤◌, ◌==◌, ◌&&◌, not, nat_le, nat_lt, Bool, IsTrue, List, ◌++◌, length, filter, slice_index, slice_range, sum_by}
use Rattle.std.specs.Int.{div_ceil}
use Rattle.std.specs.List.{range_with_len}
use Rattle.std.specs.List.Sorted.{IsPermutation}
use Rattle.flow_model.specs.declared.arcs.OuterArc.{OuterArc}
use Rattle.flow_model.specs.Instances.{arc_at}
use Rattle.flow_model.specs.Windows.{last_window}
use Rattle.flow_windows.specs.Cuts.{Cut, starts_in}

-- the arc covers all of window k and ends after it
abbrev pub passes : ℕ → ℕ → OuterArc → Bool
passes width k arc = nat_le arc.start (width * k) && nat_lt (width * (k + 1)) arc.end

-- the arc passes through some window: the first that begins no earlier than it
abbrev pub passes_some : ℕ → OuterArc → Bool
passes_some width arc = passes width (div_ceil arc.start width) arc

-- the numbers of the arcs that pass through some window
abbrev pub ranked_numbers : ℕ → List OuterArc → List ℕ
ranked_numbers width arcs = filter (λ i. passes_some width (arc_at arcs i)) (range_with_len 0 (length arcs))

-- what each window costs through which the arc passes
abbrev pub whole_share : ℕ → OuterArc → ℕ
whole_share width arc = arc.cost * width / (arc.end - arc.start)

-- arc i passes through the window of the cut
abbrev pub passes_at : Cut → ℕ → Bool
passes_at cut i = passes cut.width cut.number (arc_at cut.whole.arcs i)

-- arc i starts in the window and doesn't pass through it
abbrev pub starts_at : Cut → ℕ → Bool
starts_at cut i = starts_in cut.width cut.number (arc_at cut.whole.arcs i) && not (passes_at cut i)

-- arc i starts in another window, and this is the last that it meets
abbrev pub ends_at : Cut → ℕ → Bool
ends_at cut i = last_window cut.width (arc_at cut.whole.arcs i) == cut.number && not (starts_in cut.width cut.number (arc_at cut.whole.arcs i))

-- the numbers of the arcs that meet the window and don't pass through it
abbrev pub local_numbers : Cut → List ℕ
local_numbers cut = filter (starts_at cut) (range_with_len 0 (length cut.whole.arcs)) ++ filter (ends_at cut) (range_with_len 0 (length cut.whole.arcs))

-- the numbers of the arcs that pass through some window, each once, those first whose whole windows cost most; and the rank of each of these numbers among them
pub record IsOrder (width : ℕ) (arcs : List OuterArc) (order ranks : List ℕ) : Type 0 where
  pub all : IsPermutation (ranked_numbers width arcs) order
  pub each_arc : length ranks ≡ length arcs
  pub ranks_within : (i : ℕ) → i < length arcs → IsTrue (passes_some width (arc_at arcs i)) → slice_index ranks i < length order
  pub ranked : (i : ℕ) → i < length arcs → IsTrue (passes_some width (arc_at arcs i)) → slice_index order (slice_index ranks i) ≡ i
  pub falling : (r s : ℕ) → r ≤ s → s < length order → whole_share width (arc_at arcs (slice_index order s)) ≤ whole_share width (arc_at arcs (slice_index order r))

-- of these ranks, the numbers of the arcs that pass through the window, in order
abbrev pub passing_numbers : Cut → List ℕ → ℕ → ℕ → List ℕ
passing_numbers cut order from to = filter (passes_at cut) (slice_range order from to)

-- the weights of the arcs of these numbers, summed
abbrev pub weight_of : Cut → List ℕ → ℕ
weight_of cut numbers = sum_by (λ i. (arc_at cut.whole.arcs i).weight) numbers
