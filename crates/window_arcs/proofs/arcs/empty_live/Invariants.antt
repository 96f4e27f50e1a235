use Rattle.std.proofs.Common.{◌≡◌, ◌≢◌, ◌-◌, ◌<◌, ◌≤◌, length, get_or}
use Rattle.flow_windows.specs.Cuts.{Cut}
use Rattle.window_arcs.specs.Current.{AreLive}
use Rattle.window_arcs.proofs.FlowLemmas.{IsEmptying}
use Rattle.window_arcs.proofs.arcs.empty_live.Given as goal

-- the passing arcs from the first rank to this one have no flow
abbrev pub invariant-up : goal.invariant-up
invariant-up l = record {
  low : l.fn.from ≤ l.rank;
  within : l.rank ≤ length l.live;
  each_rank : length l.live ≡ length l.order;
  each_arc : length l.flows ≡ length l.fn.flows;
  found : l.rank < length l.live → get_or l.live l.rank 0 ≢ 0;
  so_far : (cut : Cut) → AreLive cut l.order l.fn.live l.fn.flows → IsEmptying cut l.order l.fn.from l.fn.flows l.rank l.live l.flows;
}

abbrev pub decreases-up : goal.decreases-up
decreases-up l = l.places - l.rank
