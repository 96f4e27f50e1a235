-- Values by number, of which most are none, and the room that there is for more.
use Rattle.std.specs.Prelude.{ℕ, List, slice_index_or}

-- the values of the first numbers, and that of all the others; how many numbers have a value, and how many may have one
pub record Slots (X : Type 0) : Type 0 where
  pub none : X
  pub items : List X
  pub count : ℕ
  pub room : ℕ

-- the value of a number
abbrev pub slot_at : {X : Type 0} → Slots X → ℕ → X
slot_at s number = slice_index_or s.items number s.none

-- the most values that a list has
abbrev pub most_values : ℕ
most_values = 4294967295
