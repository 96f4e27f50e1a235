use Rattle.std.proofs.Common.{◌-◌, ◌≤◌, All, length}
use Rattle.flow_model.specs.Instances.{IsArc}
use Rattle.flow_sparse.proofs.blocks.block_of.Given as goal

abbrev pub invariant-loop-place : goal.invariant-loop-place
invariant-loop-place l =
    record {
      parts : All (IsArc (l.past - l.first)) l.parts.items;
      few : length l.parts.items ≤ l.place;
    }
