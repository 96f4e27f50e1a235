-- What a sink in memory with a room and failing calls holds.
use Rattle.std.specs.Prelude.{ℕ, ◌-◌, List, length, Bool, ◌==◌, ◌&&◌, ◌||◌, nat_lt, min}
use Rattle.std.specs.List.{list_any}
use Rattle.bound_io.specs.declared.memory_sink.MemSink.{MemSink}

-- the bytes written so far
abbrev pub bytes_written : MemSink → List ℕ
bytes_written sink = sink.bytes.items

-- the most bytes that it takes in all
abbrev pub room_of : MemSink → ℕ
room_of sink = sink.room

-- how many bytes it still takes
abbrev pub room_left : MemSink → ℕ
room_left sink = room_of sink - length (bytes_written sink)

-- the most bytes that a call takes
abbrev pub step_of : MemSink → ℕ
step_of sink = sink.step

-- the numbers of the calls that fail, of which the first is 1
abbrev pub failing_calls : MemSink → List ℕ
failing_calls sink = sink.fails.items

-- the number of the next call
abbrev pub next_call : MemSink → ℕ
next_call sink = sink.next

-- the next call is one that fails, or has bytes and finds no room
abbrev pub refuses : MemSink → List ℕ → Bool
refuses sink piece = list_any (λ call. call == next_call sink) (failing_calls sink) || (nat_lt 0 (length piece) && (room_left sink == 0))

-- how many bytes of the piece a call that does not fail takes
abbrev pub taken_of : MemSink → List ℕ → ℕ
taken_of sink piece = min (min (length piece) (step_of sink)) (room_left sink)

-- how many calls have failed
abbrev pub fault_count : MemSink → ℕ
fault_count sink = sink.faults
