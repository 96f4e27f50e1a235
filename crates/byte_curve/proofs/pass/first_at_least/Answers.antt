use Rattle.std.proofs.Common.{ltb, rules}
use Rattle.std.proofs.lemmas.List.Sorted.{IsPartitionPoint-from_clause, IsPartitionedBy-ltb}
use Rattle.byte_curve.proofs.PassLemmas.{point-below, point-above}
use Rattle.byte_curve.proofs.pass.first_at_least.Goals as goal

pub returns-clause-below : goal.returns-clause-below
returns-clause-below c =
    point-below c.args.capacities.now c.args.distance c.partition_point.result
    (IsPartitionPoint-from_clause (λ y. ltb y c.args.distance) c.args.capacities.now c.partition_point.result c.partition_point.ensures.partitioned
    (IsPartitionedBy-ltb (λ y. y) c.args.capacities.now c.args.distance c.requires.ascending) (λ a r f called. search rules))

pub returns-clause-above : goal.returns-clause-above
returns-clause-above c =
    point-above c.args.capacities.now c.args.distance c.partition_point.result
    (IsPartitionPoint-from_clause (λ y. ltb y c.args.distance) c.args.capacities.now c.partition_point.result c.partition_point.ensures.partitioned
    (IsPartitionedBy-ltb (λ y. y) c.args.capacities.now c.args.distance c.requires.ascending) (λ a r f called. search rules))
