-- Objects in a line, and where a number cuts it.
use Rattle.std.specs.Prelude.{ℕ, ◌<◌, ◌==◌, if◌then◌else◌, List, [], ◌∷◌, length}
use Rattle.policy_model.specs.States.{Member}

-- the members, first to last, a number above that of each object that may be one, and how many there may be
pub record Lined : Type 0 where
  pub objects : ℕ
  pub members : List Member
  pub room : ℕ

-- there is room for one more
abbrev pub HasSpace : Lined → Type 0
HasSpace l = length l.members < l.room

-- the members before the object of this number
abbrev pub before_object : ℕ → List Member → List Member
before_object k [] = []
before_object k (m ∷ rest) = if m.object == k then [] else m ∷ before_object k rest

-- the member of that object and those after it
abbrev pub from_object : ℕ → List Member → List Member
from_object k [] = []
from_object k (m ∷ rest) = if m.object == k then m ∷ rest else from_object k rest

-- the object of the first member, or the number for none
abbrev pub first_of : ℕ → List Member → ℕ
first_of none [] = none
first_of none (m ∷ rest) = m.object
