use Rattle.std.proofs.Common.{◌+◌, ◌≤◌, ltb, rules, arith}
use Rattle.std.proofs.lemmas.List.{get_or-drop}
use Rattle.std.proofs.lemmas.List.Elements.{All-from_get_or}
use Rattle.std.proofs.lemmas.List.Sorted.{IsPartitionPoint-from_clause, IsPartitionedBy-ltb}
use Rattle.byte_curve.specs.Sizes.{greatest_size}
use Rattle.byte_curve.proofs.PassLemmas.{point-above}
use Rattle.capacity_curve.proofs.making.points_at.Goals as goal

pub push_by_distances-requires-clause-large : goal.push_by_distances-requires-clause-large
push_by_distances-requires-clause-large c =
    let capacities = c.args.capacities.now in
    let small = c.partition_point-small.result in
    let most = c.greatest_size-most.result in
    let above = point-above capacities most small
    (IsPartitionPoint-from_clause (λ y. ltb y most) capacities small c.partition_point-small.ensures.partitioned
    (IsPartitionedBy-ltb (λ y. y) capacities most c.requires.ascending) (λ a r f called. search rules)) in
    All-from_get_or (λ capacity. greatest_size c.args.trace.now.objects ≤ capacity) c.split_at.result.1.now 0 (λ k low.
    rw (c.split_at.ensures.back) (rw (get_or-drop small capacities k 0, ← c.greatest_size-most.ensures) (above (small + k) (omega arith) (omega arith))))
