-- Solutions of the windows of an instance, and the prices and flows that they give the whole.
use Rattle.std.specs.Prelude.{◌≡◌, ℕ, ◌+◌, ◌*◌, ◌<◌, ◌≤◌, ◌==◌, Bool, IsTrue, List, ◌++◌, if◌then◌else◌, length, count_by, map, min, slice_index, slice_range, sum_by, take, zip}
use Rattle.std.specs.Int.{div_ceil}
use Rattle.std.specs.List.{range_with_len}
use Rattle.flow_model.specs.declared.arcs.OuterArc.{OuterArc}
use Rattle.flow_model.specs.Instances.{Instance, IsSolution, arc_at, value_at}
use Rattle.flow_model.specs.Windows.{meets, window_instance}
use Rattle.flow_windows.specs.Cuts.{Cut}
use Rattle.window_arcs.specs.declared.arcs.KeptRanks.{KeptRanks}
use Rattle.window_arcs.specs.Current.{AreKept, AreRanks, Current, FitPrices, kept_instance}

-- a price for each step, and for each arc a flow and whether that is its weight
pub record Answer : Type 0 where
  pub prices : List ℕ
  pub flows : List ℕ
  pub full : List Bool

-- how many windows of that width have a step
abbrev pub window_count : Instance → ℕ → ℕ
window_count whole width = div_ceil whole.steps width

-- the prices of the steps of window k
abbrev pub prices_in : ℕ → ℕ → List ℕ → List ℕ
prices_in width k prices = slice_range prices (width * k) (width * (k + 1))

-- the flow of the part of arc i, among the flows of window k: as many parts stand before it as arcs before arc i meet the window
abbrev pub flow_in : Instance → ℕ → ℕ → List ℕ → ℕ → ℕ
flow_in whole width k flows i = slice_index flows (count_by (meets width k) (take i whole.arcs))

-- the flow of arc i after window k, whose parts have these flows: where the arc meets the window, at most that of its part
abbrev pub lowered : Instance → ℕ → ℕ → List ℕ → ℕ → ℕ → ℕ
lowered whole width k parts i flow = if meets width k (arc_at whole.arcs i) then min flow (flow_in whole width k parts i) else flow

-- the flow of each arc is lowered to that of its part in the current window
abbrev pub AreLowered : Cut → List ℕ → List ℕ → List ℕ → Type 0
AreLowered cut parts flows next = (i : ℕ) → i < length flows → slice_index next i ≡ lowered cut.whole cut.width cut.number parts i (slice_index flows i)

-- one more window is solved: its prices come after those before, and the flows are lowered to those of its parts
pub record IsNextSolution (cut : Cut) (prices flows next_prices next_flows : List ℕ) : Type 0 where
  pub found : List ℕ
  pub parts : List ℕ
  pub solution : IsSolution (window_instance cut.whole cut.width cut.number) found parts
  pub extended : next_prices ≡ prices ++ found
  pub fallen : AreLowered cut parts flows next_flows

-- the window with fewer arcs and units is solved, and each arc that meets the window is among those that are kept or passes
pub record IsKeptSolution (c : Current) (ranks : KeptRanks) (kept prices flows : List ℕ) : Type 0 where
  pub ranks_are : AreRanks c ranks
  pub kept_are : AreKept c ranks kept
  pub solution : IsSolution (kept_instance c.cut kept ranks.full) prices flows

-- and the prices suit the passing arcs that aren't kept
pub record IsFitting (c : Current) (ranks : KeptRanks) (kept prices flows : List ℕ) : Type 0 where
  pub kept_solution : IsKeptSolution c ranks kept prices flows
  pub fit : FitPrices c ranks prices

-- of the flows of the parts of arc i, in all windows that it meets, this is the least
pub record IsLeastFlow (whole : Instance) (width : ℕ) (flows : ℕ → List ℕ) (i least : ℕ) : Type 0 where
  pub low : (k : ℕ) → IsTrue (meets width k (arc_at whole.arcs i)) → least ≤ flow_in whole width k (flows k) i
  pub window : ℕ
  pub met : IsTrue (meets width window (arc_at whole.arcs i))
  pub reached : least ≡ flow_in whole width window (flows window) i

-- each window has a solution with its prices, and each arc the least of its flows in them
pub record AreSolutions (whole : Instance) (width : ℕ) (prices flows : List ℕ) : Type 0 where
  pub window_flows : ℕ → List ℕ
  pub each_step : length prices ≡ whole.steps
  pub each_window : (k : ℕ) → k < window_count whole width → IsSolution (window_instance whole width k) (prices_in width k prices) (window_flows k)
  pub each_arc : length flows ≡ length whole.arcs
  pub least_flows : (i : ℕ) → i < length whole.arcs → IsLeastFlow whole width window_flows i (slice_index flows i)

-- what the windows are worth at their prices, summed
abbrev pub value_of_windows : Instance → ℕ → List ℕ → ℕ
value_of_windows whole width prices =
    sum_by (λ k. value_at (window_instance whole width k) (prices_in width k prices)) (range_with_len 0 (window_count whole width))

-- for each arc whether its flow is its weight
abbrev pub full_of : List OuterArc → List ℕ → List Bool
full_of arcs flows = map (λ (arc, flow). flow == arc.weight) (zip arcs flows)
