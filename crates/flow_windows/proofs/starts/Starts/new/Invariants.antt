use Rattle.flow_windows.proofs.Starting.{AreBegun}
use Rattle.flow_windows.proofs.starts.Starts.new.Given as goal

-- the arcs from the number on are listed
abbrev pub invariant-loop-number : goal.invariant-loop-number
invariant-loop-number l = AreBegun l.width l.arcs l.windows l.starts l.number
