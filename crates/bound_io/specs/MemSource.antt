-- What a source in memory that fails at given calls holds.
use Rattle.std.specs.Prelude.{ℕ, List, Bool, ◌==◌, length, min, drop}
use Rattle.std.specs.List.{list_any}
use Rattle.bound_io.specs.declared.memory_source.MemSource.{MemSource}

-- the bytes that are still to come
abbrev pub bytes_left : MemSource → List ℕ
bytes_left source = drop source.at source.bytes.items

-- the most bytes that a call gives
abbrev pub step_of : MemSource → ℕ
step_of source = source.step

-- the numbers of the calls that fail, of which the first is 1
abbrev pub failing_calls : MemSource → List ℕ
failing_calls source = source.fails.items

-- the number of the next call
abbrev pub next_call : MemSource → ℕ
next_call source = source.next

-- the next call is one that fails
abbrev pub fails_next : MemSource → Bool
fails_next source = list_any (λ call. call == next_call source) (failing_calls source)

-- how many bytes a call that does not fail gives into this much room
abbrev pub given_into : MemSource → ℕ → ℕ
given_into source room = min (min (length (bytes_left source)) room) (step_of source)

-- how many calls have failed
abbrev pub fault_count : MemSource → ℕ
fault_count source = source.faults
