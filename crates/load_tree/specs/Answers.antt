-- What levels tell of a range of places.
use Rattle.std.specs.Prelude.{◌≡◌, ℕ, ◌<◌, ◌≤◌, ◌⊎◌}
use Rattle.load_tree.specs.declared.settling.Answer.{Answer}
use Rattle.load_tree.specs.declared.settling.Answer.TheVariants.{Fits, Full, Open}

-- whether all loads from the lowest to the highest place are within the room; open where only those two places can tell
abbrev pub IsAnswer : (ℕ → ℕ) → ℕ → ℕ → ℕ → Answer → Type 0
IsAnswer loads low high room Fits = (t : ℕ) → low ≤ t → t ≤ high → loads t ≤ room
IsAnswer loads low high room Full = (t : ℕ) × (low < t) × (t < high) × (room < loads t)
IsAnswer loads low high room (Open at_low at_high) = (at_low ≡ loads low) × (at_high ≡ loads high) × ((t : ℕ) → low < t → t < high → loads t ≤ room) × ((room < at_low) ⊎ (room < at_high))
