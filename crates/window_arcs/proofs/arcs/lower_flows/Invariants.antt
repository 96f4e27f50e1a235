use Rattle.window_arcs.proofs.FlowLemmas.{IsLowering}
use Rattle.window_arcs.proofs.arcs.lower_flows.Given as goal

-- the flows of the kept arcs so far are lowered
abbrev pub invariant-loop-part : goal.invariant-loop-part
invariant-loop-part l = IsLowering l.kept l.part_flows l.fn.flows l.part l.flows
