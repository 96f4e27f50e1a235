-- Lines and certificates worked out by hand.
use Rattle.std.proofs.Common.{◌≡◌, ℕ, ◌+◌, ◌^◌, Bool, ◌++◌, ◌∷◌, [], List, codes, refl, Some, None, Option, take, true, false}
use Rattle.std.specs.Fmt.{digits}
use Rattle.std.specs.Prelude.{replicate}
use Rattle.cache_model.specs.declared.objects.Objective.TheVariants.{Object as Hits}
use Rattle.cache_model.specs.declared.certificates.Header.{Header}
use Rattle.cache_model.specs.declared.certificates.Record.{Record}
use Rattle.cache_model.specs.Texts.{header_len}
use Rattle.cert_format.specs.declared.fault.TextKind.TheVariants.{Shape, Number, Range, TooLong}
use Rattle.cert_format.specs.declared.fault.CertFault.TheVariants.{BadText, Truncated, Trailing}
use Rattle.cert_format.specs.Grammar.{Slot, line_fault, number_line, choice_line, fixed_line, record_slots}
use Rattle.cert_format.specs.declared.fault.TextKind.{TextKind}
use Rattle.cert_format.specs.Readings.{reading, whole, stopped, header_in, after_lines, read_records}

-- the number of a line is read without a leading zero, in its range
leading_zero : line_fault (number_line (codes "capacity") 1 (2 ^ 56)) (codes "capacity 010") ≡ Some Number
leading_zero = refl

past_capacity : line_fault (number_line (codes "unit") 1 10) (codes "unit 11") ≡ Some Range
past_capacity = refl

at_capacity : line_fault (number_line (codes "unit") 1 10) (codes "unit 10") ≡ None
at_capacity = refl

zero_unit : line_fault (number_line (codes "unit") 1 10) (codes "unit 0") ≡ Some Range
zero_unit = refl

-- a canonical number of 71 digits
wide_number : line_fault (number_line (codes "upper") 0 5) (codes "upper 1" ++ replicate 70 48) ≡ Some Range
wide_number = refl

no_number : line_fault (number_line (codes "upper") 0 5) (codes "upper ") ≡ Some Shape
no_number = refl

signed_number : line_fault (number_line (codes "upper") 0 5) (codes "upper +1") ≡ Some Number
signed_number = refl

-- another version of the text
abbrev first_slots : List Slot
first_slots = choice_line (codes "cache-bound-certificate") (codes "1") (codes "2")

second_version : line_fault first_slots (codes "cache-bound-certificate 2") ≡ None
second_version = refl

other_version : line_fault first_slots (codes "cache-bound-certificate 3") ≡ Some Shape
other_version = refl

no_version : line_fault first_slots (codes "cache-bound-certificate") ≡ Some Shape
no_version = refl

long_line : line_fault (fixed_line (codes "records")) (codes "records 1") ≡ Some Shape
long_line = refl

other_word : line_fault (choice_line (codes "form") (codes "exact") (codes "plain")) (codes "form fine") ≡ Some Shape
other_word = refl

-- what is wrong with the line of a record in a version, after one of the price `before`
abbrev entry_fault : ℕ → ℕ → List ℕ → Option TextKind
entry_fault version before text = line_fault (record_slots version before text) text

-- two spaces; a keep that is neither 0 nor 1, before a price that is no number
two_spaces : entry_fault 1 0 (codes "0  1 1") ≡ Some Shape
two_spaces = refl

other_keep : entry_fault 1 0 (codes "x 2 1") ≡ Some Shape
other_keep = refl

-- the price is out of its range before the flow has a leading zero
left_to_right : entry_fault 1 0 (codes "85070591730234615865843651857942052865 1 00") ≡ Some Range
left_to_right = refl

greatest_price : entry_fault 1 0 (codes "85070591730234615865843651857942052864 1 281474976710656") ≡ None
greatest_price = refl

past_flow : entry_fault 1 0 (codes "0 1 281474976710657") ≡ Some Range
past_flow = refl

-- two words are of the second version alone
no_price : entry_fault 1 0 (codes "1 1") ≡ Some Shape
no_price = refl

left_out : entry_fault 2 7 (codes "1 1") ≡ None
left_out = refl

-- there a price that is stated is another one than before
same_price : entry_fault 2 0 (codes "0 1 1") ≡ Some Range
same_price = refl

other_price : entry_fault 2 1 (codes "0 1 1") ≡ None
other_price = refl

-- a repeated price is found before the flow, and after what is no number
repeated_first : entry_fault 2 0 (codes "0 1 00") ≡ Some Range
repeated_first = refl

number_before_range : entry_fault 2 0 (codes "00 1 00") ≡ Some Number
number_before_range = refl

one_word : entry_fault 2 0 (codes "1") ≡ Some Shape
one_word = refl

four_words : entry_fault 2 0 (codes "1 1 1 1") ≡ Some Shape
four_words = refl

-- the certificate of two requests of one object of 4 bytes
abbrev head_text : List ℕ
head_text = codes "cache-bound-certificate 1\nobjective object\ncapacity 10\nrequests 2\nunit 4\ndenominator 1\nform exact\nupper 1\nflow 1\nlower 1\nrecords\n"

abbrev head : Header
head = record { objective = Hits; capacity = 10; requests = 2; unit = 4; denominator = 1; exact = true; upper = 1; flow = 1; lower = 1; warmup = 0; version = 1 }

abbrev entry : Bool → ℕ → Record
entry keep flow = record { price = 0; keep = keep; flow = flow }

abbrev both : List Record
both = entry true 1 ∷ entry false 0 ∷ []

whole_text : reading (head_text ++ codes "0 1 1\n0 0 0\nend\n") ≡ whole head both
unfolding digits header_in header_len after_lines read_records
whole_text = refl

-- cut before the line `end`, within it, and before its LF
no_end : (reading (head_text ++ codes "0 1 1\n0 0 0\n")).fault ≡ Some (Truncated (header_len head + 3))
unfolding digits header_in header_len after_lines read_records
no_end = refl

cut_end : (reading (head_text ++ codes "0 1 1\n0 0 0\nend")).fault ≡ Some (Truncated (header_len head + 3))
unfolding digits header_in header_len after_lines read_records
cut_end = refl

-- the records before the fault are read
second_record : reading (head_text ++ codes "0 1 1\n0 2 0\nend\n") ≡ record { header = Some head; records = entry true 1 ∷ []; fault = Some (BadText (header_len head + 2) Shape) }
unfolding digits header_in header_len after_lines read_records
second_record = refl

-- one record too many stands where the end should be
third_record : (reading (head_text ++ codes "0 1 1\n0 0 0\n0 0 0\nend\n")).fault ≡ Some (BadText (header_len head + 3) Shape)
unfolding digits header_in header_len after_lines read_records
third_record = refl

-- what follows the end
trailing_byte : reading (head_text ++ codes "0 1 1\n0 0 0\nend\n\n") ≡ record { header = Some head; records = both; fault = Some (Trailing (header_len head + 4)) }
unfolding digits header_in header_len after_lines read_records
trailing_byte = refl

no_bytes : reading [] ≡ stopped (Some (Truncated 1))
unfolding digits header_in header_len after_lines read_records
no_bytes = refl

cut_head : reading (take 70 head_text) ≡ stopped (Some (Truncated 5))
unfolding digits header_in header_len after_lines read_records
cut_head = refl

-- a text of 65,536 bytes, and one of one byte fewer
long_text : reading (replicate 65536 120) ≡ stopped (Some (BadText 1 TooLong))
unfolding digits header_in header_len after_lines read_records
long_text = refl

short_text : reading (replicate 65535 120) ≡ stopped (Some (Truncated 1))
unfolding digits header_in header_len after_lines read_records
short_text = refl

-- the line of a warm-up, between the lower bound and the records
abbrev warm_head : List ℕ → List ℕ
warm_head line = codes "cache-bound-certificate 2\nobjective object\ncapacity 10\nrequests 2\nunit 4\ndenominator 1\nform exact\nupper 1\nflow 1\nlower 1\n" ++ line ++ codes "records\n"

warm_text : reading (warm_head (codes "warmup 1\n") ++ codes "1 1\n0 0\nend\n") ≡ whole (record head { warmup = 1; version = 2 }) both
unfolding digits header_in header_len after_lines read_records
warm_text = refl

-- no warm-up is not stated
no_warmup : reading (warm_head (codes "warmup 0\n")) ≡ stopped (Some (BadText 11 Range))
unfolding digits header_in header_len after_lines read_records
no_warmup = refl

greatest_warmup : line_fault (number_line (codes "warmup") 1 (2 ^ 25)) (codes "warmup 33554432") ≡ None
greatest_warmup = refl

past_warmup : reading (warm_head (codes "warmup 33554433\n")) ≡ stopped (Some (BadText 11 Range))
unfolding digits header_in header_len after_lines read_records
past_warmup = refl

-- the line of neither form
other_line : reading (warm_head (codes "record\n")) ≡ stopped (Some (BadText 11 Shape))
unfolding digits header_in header_len after_lines read_records
other_line = refl

no_records_line : reading (warm_head (codes "warmup 1\nwarmup 1\n")) ≡ stopped (Some (BadText 12 Shape))
unfolding digits header_in header_len after_lines read_records
no_records_line = refl

-- what follows the end of a certificate with a warm-up
warm_trailing : (reading (warm_head (codes "warmup 1\n") ++ codes "1 1\n0 0\nend\n1")).fault ≡ Some (Trailing 16)
unfolding digits header_in header_len after_lines read_records
warm_trailing = refl
