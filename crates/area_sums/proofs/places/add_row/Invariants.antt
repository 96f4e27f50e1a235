use Rattle.std.proofs.Common.{◌≡◌, ℕ, ◌*◌, ◌<◌, ◌≤◌}
use Rattle.area_sums.specs.Groups.{both, group_at}
use Rattle.area_sums.specs.Pages.{group_in}
use Rattle.area_sums.proofs.places.add_row.Given as goal

-- the classes of the row before this one are done
abbrev pub invariant-loop-class : goal.invariant-loop-class
invariant-loop-class l = record {
  done : (class : ℕ) → l.row * 64 ≤ class → class < l.class → group_at l.groups class ≡ both (group_at l.initial.groups class) (group_in l.pages l.place class);
  before : (class : ℕ) → class < l.row * 64 → group_at l.groups class ≡ group_at l.initial.groups class;
  rest : (class : ℕ) → l.class ≤ class → group_at l.groups class ≡ group_at l.initial.groups class;
}
