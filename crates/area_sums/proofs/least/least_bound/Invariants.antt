use Rattle.std.proofs.Common.{◌≡◌, ◌<◌}
use Rattle.area_sums.specs.Groups.{IsLeastOf, group_below}
use Rattle.area_sums.proofs.least.least_bound.Given as goal

abbrev pub invariant-loop-class : goal.invariant-loop-class
invariant-loop-class l = record {
  edge : 0 < l.least.edge;
  below : l.below ≡ group_below l.groups l.class;
  least : IsLeastOf l.area l.groups l.class l.least;
}
