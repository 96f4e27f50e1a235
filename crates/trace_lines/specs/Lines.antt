-- The words and the fields of a line, and what it may ask for.
use Rattle.std.specs.Prelude.{◌≡◌, ℕ, ◌+◌, ◌-◌, ◌^◌, ◌≤◌, List, ◌++◌, length, take, filter, slice_index_or, ◌==◌, Bool, not, ◌||◌, if◌then◌else◌}
use Rattle.std.specs.List.{list_all, slice_split}
use Rattle.trace_lines.specs.declared.line.Span.{Span}
use Rattle.trace_lines.specs.declared.line.Span.TheVariants.{Nothing, One, Blocks}

-- a space or a tab
abbrev pub is_gap : ℕ → Bool
is_gap byte = byte == 32 || byte == 9

-- the words of a line: its longest runs without a space or a tab
abbrev pub words : List ℕ → List (List ℕ)
words line = filter (λ word. not (length word == 0)) (slice_split is_gap line)

-- a text ends in these bytes
abbrev pub EndsIn : List ℕ → List ℕ → Type 0
EndsIn text end = (prefix : List ℕ) × (text ≡ prefix ++ end)

-- the fields of a line: what stands between its commas, before the first and after the last, empty ones too
abbrev pub fields : List ℕ → List (List ℕ)
fields line = slice_split (λ byte. byte == 44) line

-- a line without one last CR
abbrev pub without_cr : List ℕ → List ℕ
without_cr text = if slice_index_or text (length text - 1) 0 == 13 then take (length text - 1) text else text

-- a line of nothing but spaces and tabs, or of nothing at all
abbrev pub is_blank : List ℕ → Bool
is_blank line = list_all is_gap line

-- a request has a size, and a range has a block and ends below 2^64
abbrev pub IsSpan : Span → Type 0
IsSpan Nothing = Unit {0}
IsSpan (One id size) = (1 ≤ size) × (size ≤ 2 ^ 48)
IsSpan (Blocks first count size) = (1 ≤ count) × (first + count ≤ 2 ^ 64) × (1 ≤ size) × (size ≤ 2 ^ 48)
