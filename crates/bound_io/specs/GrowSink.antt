-- What a sink in memory that takes all holds.
use Rattle.std.specs.Prelude.{ℕ, List}
use Rattle.bound_io.specs.declared.grow_sink.GrowSink.{GrowSink}

-- the bytes written so far
abbrev pub bytes_written : GrowSink → List ℕ
bytes_written sink = sink.bytes.items

-- how many calls have failed
abbrev pub fault_count : GrowSink → ℕ
fault_count sink = sink.faults
