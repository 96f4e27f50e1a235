-- GDSF, in its form of today and that of 1998, and LFUDA: the entry of the least rank is removed, and the floor rises to its rank, so that an entry that is asked for no more is in time the least.
use Rattle.std.specs.Prelude.{ℕ, ◌+◌, ◌-◌, ◌*◌, ◌/◌, ◌^◌, ◌==◌, Bool, false, ◌&&◌, ◌||◌, nat_lt, nat_le, min, if◌then◌else◌, List, [], ◌∷◌, length, None}
use Rattle.policy_model.specs.declared.names.PolicyName.{PolicyName}
use Rattle.policy_model.specs.declared.names.PolicyName.TheVariants.{Gdsf, Gdsf98}
use Rattle.policy_model.specs.States.{Entry, Beside, Stock, State, nothing_beside, used}
use Rattle.policy_model.specs.Steps.{until_fits, change, without_entry, foremost, put_in, served}

-- what a request of an object of this size is worth: by GDSF the more the smaller it is, by LFUDA one
abbrev pub worth_of : PolicyName → ℕ → ℕ
worth_of Gdsf size = 2 ^ 48 / size
worth_of Gdsf98 size = 2 ^ 48 / size
worth_of name size = 1

-- the rank of this many requests over a floor
abbrev pub rank_over : ℕ → ℕ → ℕ → ℕ
rank_over floor count worth = min (floor + count * worth) (2 ^ 127)

-- the entry of an object that comes in, whose request is the first that counts
abbrev pub ranked_entry : PolicyName → ℕ → ℕ → ℕ → ℕ → Entry
ranked_entry name floor now object size =
    record { object = object; size = size; mark = false; count = 1; last = now; next = None; rank = rank_over floor 1 (worth_of name size) }

-- what a hit changes in an entry
abbrev pub raised : PolicyName → ℕ → ℕ → Entry → Entry
raised name floor now e =
    let count = min (e.count + 1) (2 ^ 64 - 1) in
    record e { count = count; last = now; rank = rank_over floor count (worth_of name e.size) }

-- the least pair of rank and last use is removed first, and of equal pairs the least object number
abbrev pub is_below : Entry → Entry → Bool
is_below e f = nat_lt e.rank f.rank || ((e.rank == f.rank) && (nat_lt e.last f.last || ((e.last == f.last) && nat_lt e.object f.object)))

-- a floor and nothing else beside the entries
abbrev pub floored : ℕ → Beside
floored floor = record nothing_beside { floor = floor }

-- entries over a floor
abbrev pub over_floor : ℕ → List Entry → Stock
over_floor floor entries = record { entries = entries; beside = floored floor }

-- the entry of the least rank is removed, and its rank is the floor
abbrev pub age_at : ℕ → List Entry → Stock
age_at floor [] = over_floor floor []
age_at floor (e ∷ rest) = let least = foremost is_below e rest in over_floor least.rank (without_entry least.object (e ∷ rest))

abbrev pub age : Stock → Stock
age kept = age_at kept.beside.floor kept.entries

-- the bytes of the entries
abbrev pub stock_used : Stock → ℕ
stock_used kept = used kept.entries

-- an entry over the floor comes in
abbrev pub ranked_in : PolicyName → ℕ → ℕ → ℕ → Stock → Stock
ranked_in name now object size kept = over_floor kept.beside.floor (put_in (ranked_entry name kept.beside.floor now object size) kept.entries)

-- the least ranks are removed until this many bytes fit
abbrev pub freed_for : State → ℕ → Stock
freed_for s size = until_fits age stock_used s.capacity size (length s.entries) (over_floor s.beside.floor s.entries)

-- a hit raises the rank; on a miss the least ranks are removed until the object fits
abbrev pub aged_after : PolicyName → State → ℕ → ℕ → Stock
aged_after name s object size =
    served s object size
    (record { entries = change (raised name s.beside.floor s.now) object s.entries; beside = s.beside })
    (ranked_in name s.now object size (freed_for s size))

-- the entry comes in if no rank above its own is removed for it; else all that was kept stays
abbrev pub admitted_in : Entry → Stock → Stock → Stock
admitted_in e kept freed =
    if nat_le freed.beside.floor e.rank then over_floor freed.beside.floor (put_in e freed.entries) else kept

-- the same by the rule of 1998: an object that comes in has its rank over the former floor, and it comes in only if no greater rank has to go
abbrev pub admitted_after : State → ℕ → ℕ → Stock
admitted_after s object size =
    let kept : Stock = record { entries = s.entries; beside = s.beside } in
    served s object size
    (record kept { entries = change (raised Gdsf98 s.beside.floor s.now) object s.entries })
    (admitted_in (ranked_entry Gdsf98 s.beside.floor s.now object size) kept (freed_for s size))
