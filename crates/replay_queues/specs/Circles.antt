-- The circle of CLOCK, which its hand cuts in two.
use Rattle.std.specs.Prelude.{ℕ, List, ◌++◌}
use Rattle.policy_model.specs.States.{Entry, nothing_beside}
use Rattle.policy_model.specs.Sieve.{Cut}
use Rattle.replay_core.specs.Keeping.{Kept}

-- the entries from the one that the hand looks at next around to the one that it passed last
abbrev pub circle_of : Cut → List Entry
circle_of c = c.ahead ++ c.behind

-- what is kept of a circle
abbrev pub circle_kept : ℕ → ℕ → ℕ → Cut → Kept
circle_kept objects capacity requests cut =
    record { objects = objects; capacity = capacity; now = requests; entries = circle_of cut; beside = nothing_beside }
