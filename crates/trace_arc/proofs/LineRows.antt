-- What the definition says of some lines, computed.
use Rattle.std.proofs.Common.{◌≡◌, Ok, Err, codes, refl}
use Rattle.trace_lines.specs.declared.line.Span.TheVariants.{Nothing, Blocks}
use Rattle.trace_lines.specs.declared.line.LineKind.TheVariants.{TooFewWords, BadNumber, BadRange}
use Rattle.trace_arc.specs.Lines.{line_span}

-- three blocks from the one with number 10
three_blocks : line_span (codes "10 3") ≡ Ok (Blocks 10 3 512)
three_blocks = refl

-- a word alone
one_word : line_span (codes "10") ≡ Err TooFewWords
one_word = refl

-- a range whose last block is 2^64
past_the_last : line_span (codes "18446744073709551615 2") ≡ Err BadRange
past_the_last = refl

-- the last block that there may be
last_block : line_span (codes "18446744073709551615 1") ≡ Ok (Blocks 18446744073709551615 1 512)
last_block = refl

-- a first block that is no number, of no blocks
bad_first : line_span (codes "x 0") ≡ Err (BadNumber 1)
bad_first = refl

-- a count that is no number
bad_count : line_span (codes "0 x") ≡ Err (BadNumber 2)
bad_count = refl

-- no block
no_block : line_span (codes "5 0") ≡ Ok Nothing
no_block = refl
