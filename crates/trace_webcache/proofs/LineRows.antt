-- What the definition says of some lines with a mark, computed.
use Rattle.std.proofs.Common.{◌≡◌, Ok, Err, codes, refl, true, false}
use Rattle.trace_lines.specs.declared.line.Span.TheVariants.{Nothing, One}
use Rattle.trace_lines.specs.declared.line.LineKind.TheVariants.{TooFewWords, BadNumber, SizeTooLarge, BadType}
use Rattle.trace_webcache.specs.Lines.{line_span, marked_span}

-- a request that counts
counts : marked_span (codes "1 7 4 r") ≡ Ok (record { span = One 7 4; fills = false })
counts = refl

-- one that only fills, before a word that is not looked at
fills : marked_span (codes "\t1  7 4\tw r") ≡ Ok (record { span = One 7 4; fills = true })
fills = refl

-- one that asks for no byte
no_byte : marked_span (codes "1 7 0 w") ≡ Ok (record { span = Nothing; fills = true })
no_byte = refl

-- three words, and a bad id
three_words : marked_span (codes "1 x 4") ≡ Err TooFewWords
three_words = refl

-- a mark that is neither, of a line that asks for no byte
bad_mark : marked_span (codes "1 7 0 x") ≡ Err BadType
bad_mark = refl

-- a mark in capitals
capital : marked_span (codes "1 7 4 W") ≡ Err BadType
capital = refl

-- a mark of two letters
long_mark : marked_span (codes "1 7 4 rw") ≡ Err BadType
long_mark = refl

-- a bad id, a bad size and a large one, each before a mark that is neither
bad_id : marked_span (codes "1 x 4 x") ≡ Err (BadNumber 2)
bad_id = refl

bad_size : marked_span (codes "1 7 x x") ≡ Err (BadNumber 3)
bad_size = refl

large : marked_span (codes "1 7 281474976710657 x") ≡ Err SizeTooLarge
large = refl

-- without a mark the fourth word is not looked at
no_mark : line_span (codes "1 7 4 x") ≡ Ok (One 7 4)
no_mark = refl
