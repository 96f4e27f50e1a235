-- The current window of an instance: the flows so far, and of the arcs that meet it those that are solved.
use Rattle.std.specs.Prelude.{◌≡◌, ◌≢◌, ℕ, ◌-◌, ◌/◌, ◌+◌, ◌<◌, ◌≤◌, ◌==◌, IsTrue, List, if◌then◌else◌, length, map, min, slice_index, sum, sum_by}
use Rattle.std.specs.List.{list_any}
use Rattle.flow_model.specs.Instances.{Instance, IsInstance, arc_at}
use Rattle.flow_model.specs.Windows.{last_window, window_instance}
use Rattle.flow_windows.specs.Cuts.{Cut, numbers_of}
use Rattle.window_arcs.specs.declared.arcs.KeptRanks.{KeptRanks}
use Rattle.window_arcs.specs.Passing.{IsOrder, passes_at, passing_numbers, weight_of, whole_share}

-- a window, the numbers of the arcs that pass through some window, those first that earn most, and the flow of each arc so far
pub record Current : Type 0 where
  pub cut : Cut
  pub order : List ℕ
  pub flows : List ℕ

-- all numbers of the instance are in their ranges, the windows have a width, and no flow is above the weight of its arc
pub record AreInRange (c : Current) : Type 0 where
  pub whole : IsInstance c.cut.whole
  pub some_width : 0 < c.cut.width
  pub each_arc : length c.flows ≡ length c.cut.whole.arcs
  pub within_weights : (i : ℕ) → i < length c.cut.whole.arcs → slice_index c.flows i ≤ (arc_at c.cut.whole.arcs i).weight

-- the numbers of the passing arcs before those ranks, and after them
abbrev pub full_numbers : Current → KeptRanks → List ℕ
full_numbers c ranks = passing_numbers c.cut c.order 0 ranks.first

abbrev pub empty_numbers : Current → KeptRanks → List ℕ
empty_numbers c ranks = passing_numbers c.cut c.order ranks.end (length c.order)

-- the passing arcs before the ranks weigh as many units as they say, and leave some
pub record AreRanks (c : Current) (ranks : KeptRanks) : Type 0 where
  pub sorted : ranks.first ≤ ranks.end
  pub within : ranks.end ≤ length c.order
  pub full : ranks.full ≡ weight_of c.cut (full_numbers c ranks)
  pub room : ranks.full < c.cut.whole.units

-- each arc that meets the window stands once in one of three lists: whatever is summed over those arcs, is summed over the lists
abbrev pub IsSplit : Cut → List ℕ → List ℕ → List ℕ → Type 0
IsSplit cut kept full empty = (earns : ℕ → ℕ) → sum_by earns (numbers_of cut) ≡ sum_by earns kept + sum_by earns full + sum_by earns empty

-- the arcs are split into these that are kept, and the passing ones before and after the ranks
abbrev pub AreKept : Current → KeptRanks → List ℕ → Type 0
AreKept c ranks kept = IsSplit c.cut kept (full_numbers c ranks) (empty_numbers c ranks)

-- the window with the arcs of these numbers alone, and with so many units less
abbrev pub kept_instance : Cut → List ℕ → ℕ → Instance
kept_instance cut kept full = window_instance (record { steps = cut.whole.steps; units = cut.whole.units - full; arcs = map (arc_at cut.whole.arcs) kept }) cut.width cut.number

-- a passing arc before the ranks earns no less than the prices of the window, and one after them no more
pub record FitPrices (c : Current) (ranks : KeptRanks) (prices : List ℕ) : Type 0 where
  pub full : (r : ℕ) → r < ranks.first → sum prices ≤ whole_share c.cut.width (arc_at c.cut.whole.arcs (slice_index c.order r))
  pub empty : (r : ℕ) → ranks.end ≤ r → r < length c.order → whole_share c.cut.width (arc_at c.cut.whole.arcs (slice_index c.order r)) ≤ sum prices

-- no number of the list is this one
abbrev pub IsOutside : List ℕ → ℕ → Type 0
IsOutside numbers i = (j : ℕ) → j < length numbers → slice_index numbers j ≢ i

-- the flow of each of these arcs is lowered to that of its part, and the others stay
pub record AreLowered (numbers parts old new : List ℕ) : Type 0 where
  pub each_arc : length new ≡ length old
  pub fallen : (j : ℕ) → j < length numbers → slice_index new (slice_index numbers j) ≡ min (slice_index old (slice_index numbers j)) (slice_index parts j)
  pub others : (i : ℕ) → IsOutside numbers i → slice_index new i ≡ slice_index old i

-- these arcs have no flow, and the others what they had
pub record AreEmptied (numbers old new : List ℕ) : Type 0 where
  pub each_arc : length new ≡ length old
  pub emptied : (j : ℕ) → j < length numbers → slice_index new (slice_index numbers j) ≡ 0
  pub others : (i : ℕ) → IsOutside numbers i → slice_index new i ≡ slice_index old i

-- the weight of an arc that passes through the window, and 0 for another
abbrev pub passing_weight : Cut → ℕ → ℕ
passing_weight cut i = if passes_at cut i then (arc_at cut.whole.arcs i).weight else 0

-- 1 for an arc that passes through the window, and 0 for another
abbrev pub passing_mark : Cut → ℕ → ℕ
passing_mark cut i = if passes_at cut i then 1 else 0

-- at the ranks of these arcs stands what they have, and at the others what stood there
pub record ArePut (has : ℕ → ℕ) (order changed old new : List ℕ) : Type 0 where
  pub each_rank : length new ≡ length old
  pub put : (r : ℕ) → r < length order → slice_index new r ≡ (if list_any (λ i. i == slice_index order r) changed then has (slice_index order r) else slice_index old r)

-- each live arc passes, and a passing arc that isn't live has no flow
pub record AreLive (cut : Cut) (order live flows : List ℕ) : Type 0 where
  pub each_rank : length live ≡ length order
  pub passing : (r : ℕ) → slice_index live r ≢ 0 → IsTrue (passes_at cut (slice_index order r))
  pub empty : (r : ℕ) → r < length order → IsTrue (passes_at cut (slice_index order r)) → slice_index live r ≡ 0 → slice_index flows (slice_index order r) ≡ 0

-- no two numbers of the list are the same
abbrev pub AreDistinct : List ℕ → Type 0
AreDistinct numbers = (j k : ℕ) → j < k → k < length numbers → slice_index numbers j ≢ slice_index numbers k

-- the passing arcs from that rank on have no flow, and those that are live still are all that have some
pub record AreEmptiedLive (cut : Cut) (order : List ℕ) (from : ℕ) (old live flows : List ℕ) : Type 0 where
  pub lives : AreLive cut order live flows
  pub emptied : AreEmptied (passing_numbers cut order from (length order)) old flows

-- the order, the lists of arcs by their first and last windows, the weights of passing arcs by their ranks, and the flows
pub record IsCurrent (cut : Cut) (order ranks starts ends passing live flows : List ℕ) : Type 0 where
  pub in_range : IsInstance cut.whole
  pub some_width : 0 < cut.width
  pub narrow : cut.width < cut.whole.steps
  pub ordered : IsOrder cut.width cut.whole.arcs order ranks
  pub first_windows : starts ≡ map (λ arc. arc.start / cut.width) cut.whole.arcs
  pub last_windows : ends ≡ map (last_window cut.width) cut.whole.arcs
  pub weights : passing ≡ map (passing_weight cut) order
  pub lives : AreLive cut order live flows
  pub each_arc : length flows ≡ length cut.whole.arcs
  pub within_weights : (i : ℕ) → i < length cut.whole.arcs → slice_index flows i ≤ (arc_at cut.whole.arcs i).weight
