-- What the definition says of some lines, computed.
use Rattle.std.proofs.Common.{◌≡◌, Ok, Err, [], true, false, codes, refl}
use Rattle.trace_lines.specs.declared.line.Span.TheVariants.{Nothing, Blocks}
use Rattle.trace_lines.specs.declared.line.LineKind.TheVariants.{TooFewWords, BadNumber, BadRange, BadType, QuoteByte}
use Rattle.trace_msr.specs.Lines.{line_parts}

-- 24,576 bytes from within a block touch seven blocks of 4,096
seven_blocks : line_parts 4096 (codes "128166372003061629,usr,0,Read,7014609920,24576,41286") ≡ Ok (record { host = codes "usr"; disk = 0; span = Blocks 1712551 7 4096; fills = false })
seven_blocks = refl

-- a type that is neither
bad_type : line_parts 4096 (codes "1,h,0,Trim,0,512,1") ≡ Err BadType
bad_type = refl

-- a quoted host
quoted : line_parts 4096 (codes "1,\"h\",0,Read,0,512,1") ≡ Err QuoteByte
quoted = refl

-- six fields, and a type in capitals
six_fields : line_parts 4096 (codes "2,h,1,WRITE,0,4096") ≡ Ok (record { host = codes "h"; disk = 1; span = Blocks 0 1 4096; fills = true })
six_fields = refl

-- five fields
five_fields : line_parts 4096 (codes "2,h,1,WRITE,0") ≡ Err TooFewWords
five_fields = refl

-- no byte
no_byte : line_parts 4096 (codes "3,h,0,Read,0,0,9") ≡ Ok (record { host = codes "h"; disk = 0; span = Nothing; fills = false })
no_byte = refl

-- no host, and two bytes that lie in two blocks
two_blocks : line_parts 512 (codes "4,,2,rEaD,511,2,9") ≡ Ok (record { host = []; disk = 2; span = Blocks 0 2 512; fills = false })
two_blocks = refl

-- a disk that is no number, before a type that is neither
bad_disk : line_parts 512 (codes "5,h,x,Trim,0,1,9") ≡ Err (BadNumber 3)
bad_disk = refl

-- a range whose last byte is 2^64
past_the_last : line_parts 1 (codes "6,h,0,Read,18446744073709551615,2,9") ≡ Err BadRange
past_the_last = refl

-- the last byte that there may be
last_byte : line_parts 1 (codes "6,h,0,Read,18446744073709551615,1,9") ≡ Ok (record { host = codes "h"; disk = 0; span = Blocks 18446744073709551615 1 1; fills = false })
last_byte = refl
