use Rattle.std.proofs.Common.{take}
use Rattle.flow_windows.specs.Cuts.{cut_of}
use Rattle.window_arcs.specs.Current.{ArePut, passing_mark, passing_weight}
use Rattle.window_arcs.proofs.arcs.put_passing.Given as goal

-- the weights and the marks of the arcs so far are put
abbrev pub invariant-loop-at : goal.invariant-loop-at
invariant-loop-at l = record {
  weights : ArePut (passing_weight (cut_of l.whole l.width l.number)) l.order.numbers.items (take l.at-index l.changed) l.initial.passing l.passing;
  lives : ArePut (passing_mark (cut_of l.whole l.width l.number)) l.order.numbers.items (take l.at-index l.changed) l.initial.live l.live;
}
