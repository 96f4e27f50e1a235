-- What a line of a webcache trace asks for.
use Rattle.std.specs.Prelude.{◌≡◌, ℕ, ◌^◌, List, [], ◌∷◌, length, slice_index_or, ◌==◌, nat_lt, if◌then◌else◌, Bool, true, false, Result, Ok, Err, codes}
use Rattle.std.specs.Str.{bytes_eq}
use Rattle.bound_base.specs.Digits.{number_of}
use Rattle.bound_base.specs.declared.digits.NumFault.{NumFault}
use Rattle.trace_lines.specs.Lines.{words}
use Rattle.trace_lines.specs.declared.line.Span.{Span}
use Rattle.trace_lines.specs.declared.line.Span.TheVariants.{Nothing, One}
use Rattle.trace_lines.specs.declared.line.LineKind.{LineKind}
use Rattle.trace_lines.specs.declared.line.LineKind.TheVariants.{TooFewWords, BadNumber, SizeTooLarge, BadType}
use Rattle.trace_webcache.specs.declared.line.MarkedSpan.{MarkedSpan}

-- the line begins with a word, of which this is the number, or why it is none, and the rest has the other words
abbrev pub IsFirstNumber : List ℕ → Result ℕ NumFault → List ℕ → Type 0
IsFirstNumber line number rest = (word : List ℕ) × (words line ≡ word ∷ words rest) × (number ≡ number_of (2 ^ 64) word)

-- the request of an id and a size, or the first check that fails: the id, the size, and that the size is at most 2^48
abbrev pub span_of : Result ℕ NumFault → Result ℕ NumFault → Result Span LineKind
span_of (Err fault) size = Err (BadNumber 2)
span_of (Ok id) (Err fault) = Err (BadNumber 3)
span_of (Ok id) (Ok size) = if nat_lt (2 ^ 48) size then Err SizeTooLarge else (if size == 0 then Ok Nothing else Ok (One id size))

-- what a line asks for: its second word is the id and its third the size, each below 2^64, and the first, a time, and any further words say nothing of it
abbrev pub line_span : List ℕ → Result Span LineKind
line_span line =
    let parts = words line in
    if nat_lt (length parts) 3 then Err TooFewWords
    else span_of (number_of (2 ^ 64) (slice_index_or parts 1 [])) (number_of (2 ^ 64) (slice_index_or parts 2 []))

-- whether a request only fills the cache, by its mark: r for one that counts, w for one that only fills
abbrev pub mark_of : List ℕ → Result Bool LineKind
mark_of word = if bytes_eq word (codes "r") then Ok false else (if bytes_eq word (codes "w") then Ok true else Err BadType)

-- a span with its mark, or the first check that fails: the span, and the mark
abbrev pub with_mark : Result Span LineKind → Result Bool LineKind → Result MarkedSpan LineKind
with_mark (Err kind) mark = Err kind
with_mark (Ok span) (Err kind) = Err kind
with_mark (Ok span) (Ok fills) = Ok (record { span = span; fills = fills })

-- what a line with a mark asks for: its fourth word is the mark, and the others are those of a line without one
abbrev pub marked_span : List ℕ → Result MarkedSpan LineKind
marked_span line =
    let parts = words line in
    if nat_lt (length parts) 4 then Err TooFewWords else with_mark (line_span line) (mark_of (slice_index_or parts 3 []))

-- the time of a line: its first word, if that is a number below 2^64
abbrev pub line_time : List ℕ → Result ℕ NumFault
line_time line = number_of (2 ^ 64) (slice_index_or (words line) 0 [])
