-- The bits that a list stands for.
use Rattle.std.specs.Prelude.{ℕ, ◌*◌, ◌/◌, ◌%◌, ◌<◌, ◌^◌, ◌-◌, Bool, ◌==◌, List, map, slice_index_or}
use Rattle.std.specs.Int.{bit_at}
use Rattle.std.specs.List.{range_with_len}
use Rattle.std.specs.Vec.{vec_len}
use Rattle.bit_list.specs.declared.list.BitList.{BitList}

-- the bit at a place of some words, of which each has 64
abbrev pub bit_in : List ℕ → ℕ → Bool
bit_in words place = bit_at (slice_index_or words (place / 64) 0) (place % 64) == 1

-- the bits, in order
abbrev pub bits_of : BitList → List Bool
bits_of list = map (bit_in list.words.items) (range_with_len 0 list.len)

-- there is room for one more
abbrev pub HasRoom : BitList → Type 0
HasRoom list = (list.len < 64 * vec_len list.words) × (list.len < 2 ^ 64 - 1)
