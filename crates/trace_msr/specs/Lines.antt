-- What a line of an MSR trace asks for, and of which disk.
use Rattle.std.specs.Prelude.{ℕ, ◌+◌, ◌-◌, ◌/◌, ◌^◌, List, [], length, slice_index_or, ◌==◌, nat_lt, Bool, true, false, if◌then◌else◌, Result, Ok, Err, codes}
use Rattle.std.specs.List.{list_any}
use Rattle.std.specs.Str.{str_eq_ignore_ascii_case}
use Rattle.bound_base.specs.Digits.{number_of}
use Rattle.bound_base.specs.declared.digits.NumFault.{NumFault}
use Rattle.trace_lines.specs.Lines.{fields}
use Rattle.trace_lines.specs.declared.line.Span.{Span}
use Rattle.trace_lines.specs.declared.line.Span.TheVariants.{Nothing, Blocks}
use Rattle.trace_lines.specs.declared.line.LineKind.{LineKind}
use Rattle.trace_lines.specs.declared.line.LineKind.TheVariants.{TooFewWords, BadNumber, BadRange, BadType, QuoteByte}
use Rattle.trace_msr.specs.declared.line.MsrLine.{MsrLine}

-- what a line asks for, of which disk of which host, and whether its requests only fill the cache
pub record Parts : Type 0 where
  pub host : List ℕ
  pub disk : ℕ
  pub span : Span
  pub fills : Bool

-- the parts of a line that was read, or why it was refused
abbrev pub answer_of : Result MsrLine LineKind → Result Parts LineKind
answer_of (Ok read) = Ok (record { host = read.host.now; disk = read.disk; span = read.span; fills = read.fills })
answer_of (Err kind) = Err kind

-- whether the requests of a line only fill the cache, by its type: Read counts and Write fills, in letters of either case
abbrev pub mark_of : List ℕ → Result Bool LineKind
mark_of text = if str_eq_ignore_ascii_case text (codes "Read") then Ok false else (if str_eq_ignore_ascii_case text (codes "Write") then Ok true else Err BadType)

-- each block of `block` bytes that the bytes from the offset on touch, or nothing if there is no byte; the last byte must be below 2^64
abbrev pub blocks_of : ℕ → ℕ → ℕ → Result Span LineKind
blocks_of block offset size =
    if size == 0 then Ok Nothing
    else (if nat_lt (2 ^ 64) (offset + size) then Err BadRange
    else Ok (Blocks (offset / block) ((offset + size - 1) / block - offset / block + 1) block))

-- the blocks of an offset and a size, or the first check that fails: the offset, the size, and the last byte
abbrev pub span_of : ℕ → Result ℕ NumFault → Result ℕ NumFault → Result Span LineKind
span_of block (Err fault) size = Err (BadNumber 5)
span_of block (Ok offset) (Err fault) = Err (BadNumber 6)
span_of block (Ok offset) (Ok size) = blocks_of block offset size

-- the parts of a line from its host, its disk, its mark and its blocks, or the first check that fails: the disk, the mark, and the blocks
abbrev pub parts_of : List ℕ → Result ℕ NumFault → Result Bool LineKind → Result Span LineKind → Result Parts LineKind
parts_of host (Err fault) mark asked = Err (BadNumber 3)
parts_of host (Ok disk) (Err kind) asked = Err kind
parts_of host (Ok disk) (Ok fills) (Err kind) = Err kind
parts_of host (Ok disk) (Ok fills) (Ok span) = Ok (record { host = host; disk = disk; span = span; fills = fills })

-- the parts of a line, which has no quote: its second field is the host, its third the disk, its fourth the type, its fifth the offset and its sixth the size in bytes, and the first, a time, and any further fields say nothing of it
abbrev pub line_parts : ℕ → List ℕ → Result Parts LineKind
line_parts block line =
    let cells = fields line in
    if list_any (λ byte. byte == 34) line then Err QuoteByte
    else (if nat_lt (length cells) 6 then Err TooFewWords
    else parts_of (slice_index_or cells 1 []) (number_of (2 ^ 64) (slice_index_or cells 2 [])) (mark_of (slice_index_or cells 3 []))
    (span_of block (number_of (2 ^ 64) (slice_index_or cells 4 [])) (number_of (2 ^ 64) (slice_index_or cells 5 []))))

-- the time of a line: its first field, if that is a number below 2^64
abbrev pub line_time : List ℕ → Result ℕ NumFault
line_time line = number_of (2 ^ 64) (slice_index_or (fields line) 0 [])
