-- What a record of an oracleGeneral trace asks for.
use Rattle.std.specs.Prelude.{ℕ, ◌+◌, ◌*◌, List, [], ◌∷◌, take, drop, ◌==◌, if◌then◌else◌}
use Rattle.trace_lines.specs.declared.line.Span.{Span}
use Rattle.trace_lines.specs.declared.line.Span.TheVariants.{Nothing, One}

-- the number that some bytes are, of which the first counts least
abbrev pub little_endian : List ℕ → ℕ
little_endian [] = 0
little_endian (byte ∷ more) = byte + 256 * little_endian more

-- the number in `count` bytes of a record, from byte `place` on
abbrev pub number_after : ℕ → ℕ → List ℕ → ℕ
number_after place count bytes = little_endian (take count (drop place bytes))

-- what a record asks for: after 4 bytes of a time stand 8 of the id and 4 of the size; the last 8, the next access, are not looked at, and the time says nothing of it
abbrev pub record_span : List ℕ → Span
record_span bytes =
    let id = number_after 4 8 bytes in
    let size = number_after 12 4 bytes in
    if size == 0 then Nothing else One id size

-- the time of a record, its first 4 bytes
abbrev pub record_time : List ℕ → ℕ
record_time bytes = number_after 0 4 bytes
