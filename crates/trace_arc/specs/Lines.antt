-- What a line of an ARC trace asks for.
use Rattle.std.specs.Prelude.{ℕ, ◌+◌, ◌^◌, List, [], length, slice_index_or, ◌==◌, nat_lt, if◌then◌else◌, Result, Ok, Err}
use Rattle.bound_base.specs.Digits.{number_of}
use Rattle.bound_base.specs.declared.digits.NumFault.{NumFault}
use Rattle.trace_lines.specs.Lines.{words}
use Rattle.trace_lines.specs.declared.line.Span.{Span}
use Rattle.trace_lines.specs.declared.line.Span.TheVariants.{Nothing, Blocks}
use Rattle.trace_lines.specs.declared.line.LineKind.{LineKind}
use Rattle.trace_lines.specs.declared.line.LineKind.TheVariants.{TooFewWords, BadNumber, BadRange}

-- the blocks from the first on, or nothing if there is none; the last must be below 2^64
abbrev pub blocks_of : ℕ → ℕ → Result Span LineKind
blocks_of first count = if count == 0 then Ok Nothing else (if nat_lt (2 ^ 64) (first + count) then Err BadRange else Ok (Blocks first count 512))

-- the blocks of a first one and a count, or the first check that fails: the first block, the count, and the last block
abbrev pub span_of : Result ℕ NumFault → Result ℕ NumFault → Result Span LineKind
span_of (Err fault) count = Err (BadNumber 1)
span_of (Ok first) (Err fault) = Err (BadNumber 2)
span_of (Ok first) (Ok count) = blocks_of first count

-- what a line asks for: its first word is the first block and its second the number of blocks, each below 2^64, and any further words are not looked at
abbrev pub line_span : List ℕ → Result Span LineKind
line_span line =
    let parts = words line in
    if nat_lt (length parts) 2 then Err TooFewWords
    else span_of (number_of (2 ^ 64) (slice_index_or parts 0 [])) (number_of (2 ^ 64) (slice_index_or parts 1 []))
