use Rattle.std.proofs.Common.{ltb, rules}
use Rattle.std.proofs.lemmas.List.Sorted.{IsPartitionPoint-from_clause, IsPartitionedBy-ltb}
use Rattle.area_sums.proofs.PlaceLemmas.{does_not_fall, point-place}
use Rattle.area_sums.proofs.sums.first_holding.Goals as goal

pub returns : goal.returns
returns c =
    point-place c.args.capacities.now c.args.size c.partition_point.result c.partition_point.ensures.bound
    (IsPartitionPoint-from_clause (λ y. ltb y c.args.size) c.args.capacities.now c.partition_point.result c.partition_point.ensures.partitioned
    (IsPartitionedBy-ltb (λ y. y) c.args.capacities.now c.args.size (does_not_fall c.args.capacities.now c.requires)) (λ a r f called. search rules))
