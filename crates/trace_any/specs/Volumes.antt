-- The volumes that a trace names, each by a host and a disk, numbered by their first appearance.
use Rattle.std.specs.Prelude.{ℕ, ◌+◌, Bool, ◌&&◌, ◌==◌, List, [], ◌∷◌, ◌++◌, if◌then◌else◌}
use Rattle.std.specs.List.{list_any, position_or_len}
use Rattle.std.specs.Str.{bytes_eq}

-- a volume: the bytes of a host's name, and the number of a disk
pub record Volume : Type 0 where
  pub host : List ℕ
  pub disk : ℕ

-- both are equal
abbrev pub same_volume : Volume → Volume → Bool
same_volume v w = bytes_eq v.host w.host && v.disk == w.disk

-- the number of a volume after these: its place among them from 1, or the next number if it's new
abbrev pub volume_number : List Volume → Volume → ℕ
volume_number volumes v = 1 + position_or_len (same_volume v) volumes

-- the volumes with this one, at the end if it's new
abbrev pub with_volume : List Volume → Volume → List Volume
with_volume volumes v = if list_any (same_volume v) volumes then volumes else volumes ++ v ∷ []
