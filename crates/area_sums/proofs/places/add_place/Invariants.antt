use Rattle.std.proofs.Common.{◌≡◌, ℕ, ◌*◌, ◌<◌, ◌≤◌}
use Rattle.area_sums.specs.Groups.{both, group_at}
use Rattle.area_sums.specs.Pages.{group_in}
use Rattle.area_sums.proofs.places.add_place.Given as goal

-- the rows before this one are done
abbrev pub invariant-loop-row : goal.invariant-loop-row
invariant-loop-row l = record {
  done : (class : ℕ) → class < l.row * 64 → group_at l.groups class ≡ both (group_at l.initial.groups class) (group_in l.pages l.place class);
  rest : (class : ℕ) → l.row * 64 ≤ class → group_at l.groups class ≡ group_at l.initial.groups class;
}
