use Rattle.area_sums.specs.Pages.{group_in}
use Rattle.area_sums.specs.Places.{AreBefore, AreLeastBefore}
use Rattle.area_sums.proofs.places.bounds_over.Given as goal

-- the places before this one are done
abbrev pub invariant-loop-place : goal.invariant-loop-place
invariant-loop-place l = record {
  before : AreBefore l.place (group_in l.pages) l.groups;
  least : AreLeastBefore l.place l.steps l.capacities (group_in l.pages) l.bounds.items;
}
