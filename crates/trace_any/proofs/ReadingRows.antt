-- Readings worked out by hand.
use Rattle.std.proofs.Common.{◌≡◌, ℕ, List, [], ◌∷◌, ◌++◌, codes, refl, take, Some, None, true, false}
use Rattle.cache_model.specs.declared.objects.Object.{Object}
use Rattle.trace_lines.specs.declared.line.LineKind.TheVariants.{TooFewWords, BadNumber, BadType, SizeTooLarge, PartRecord}
use Rattle.trace_any.specs.declared.fault.TraceFault.TheVariants.{BadLine, InputTooLong, TooManyRequests}
use Rattle.trace_any.specs.declared.format.Layout.TheVariants.{Webcache, MarkedWebcache, MsrReads, Msr, Oracle}
use Rattle.trace_any.specs.declared.format.Limits.{Limits}
use Rattle.freshness.specs.Seen.{nothing_seen}
use Rattle.trace_any.specs.Readings.{reading, full_limits, lasting}

abbrev ob : ℕ → ℕ → Object
ob id size = record { volume = 0; id = id; size = size }

abbrev few : ℕ → ℕ → Limits
few requests bytes = record { requests = requests; bytes = bytes }

-- a line that asks for no bytes is dropped
dropped_line : reading (lasting Webcache) full_limits (codes "1 7 4\n5 7 0\n6 7 4\n") ≡ record { requests = ob 7 4 ∷ ob 7 4 ∷ []; fills = []; seen = nothing_seen; volumes = []; dropped = 1; lines = 3; bytes = 18; refused = None }
dropped_line = refl

-- a CR before the LF, and no LF at the end
last_line : reading (lasting Webcache) full_limits (codes "1 7 4\r\n2 7 4") ≡ record { requests = ob 7 4 ∷ ob 7 4 ∷ []; fills = []; seen = nothing_seen; volumes = []; dropped = 0; lines = 2; bytes = 12; refused = None }
last_line = refl

-- the first line that is refused ends the reading
bad_line : reading (lasting Webcache) full_limits (codes "1 7 4\n2 x 4\n3 7 4\n") ≡ record { requests = ob 7 4 ∷ []; fills = []; seen = nothing_seen; volumes = []; dropped = 0; lines = 2; bytes = 12; refused = Some (BadLine 2 (BadNumber 2)) }
bad_line = refl

few_words : (reading (lasting Webcache) full_limits (codes "1 7")).refused ≡ Some (BadLine 1 TooFewWords)
few_words = refl

large : (reading (lasting Webcache) full_limits (codes "1 7 281474976710657")).refused ≡ Some (BadLine 1 SizeTooLarge)
large = refl

-- blank lines are counted and skipped
blank_lines : reading (lasting Webcache) full_limits (codes "\n \t\n\r\n1 7 4") ≡ record { requests = ob 7 4 ∷ []; fills = []; seen = nothing_seen; volumes = []; dropped = 0; lines = 4; bytes = 11; refused = None }
blank_lines = refl

-- a third request where two are allowed
third_request : reading (lasting Webcache) (few 2 1000) (codes "1 1 1\n\t \n2 2 1\n3 3 1\n4 x 1\n") ≡ record { requests = ob 1 1 ∷ ob 2 1 ∷ []; fills = []; seen = nothing_seen; volumes = []; dropped = 0; lines = 4; bytes = 21; refused = Some TooManyRequests }
third_request = refl

-- the bytes through a line, its LF counted
bytes_limit : (reading (lasting Webcache) (few 9 11) (codes "1 7 4\n2 x 4\n")).refused ≡ Some InputTooLong
bytes_limit = refl

unended_limit : (reading (lasting Webcache) (few 9 11) (codes "1 7 4\n2 7 4")).refused ≡ None
unended_limit = refl

no_bytes : reading (lasting Webcache) full_limits [] ≡ record { requests = []; fills = []; seen = nothing_seen; volumes = []; dropped = 0; lines = 0; bytes = 0; refused = None }
no_bytes = refl

-- a record of a time, an id and a size, and as its next access 13, 10 and blanks
abbrev oracle_record : ℕ → ℕ → ℕ → List ℕ
oracle_record time id size =
    (time ∷ 0 ∷ 0 ∷ 0 ∷ []) ++ (id ∷ 0 ∷ 0 ∷ 0 ∷ 0 ∷ 0 ∷ 0 ∷ 0 ∷ []) ++ (size ∷ 0 ∷ 0 ∷ 0 ∷ []) ++ (13 ∷ 10 ∷ 32 ∷ 32 ∷ 32 ∷ 32 ∷ 10 ∷ 13 ∷ [])

-- records, of which one asks for no byte
abbrev three_records : List ℕ
three_records = oracle_record 1 7 4 ++ oracle_record 10 32 0 ++ oracle_record 10 7 4

records : reading (lasting Oracle) full_limits three_records ≡ record { requests = ob 7 4 ∷ ob 7 4 ∷ []; fills = []; seen = nothing_seen; volumes = []; dropped = 1; lines = 3; bytes = 72; refused = None }
records = refl

-- the last record has 23 bytes, or 1
part_of_23 : reading (lasting Oracle) full_limits (take 71 three_records) ≡ record { requests = ob 7 4 ∷ []; fills = []; seen = nothing_seen; volumes = []; dropped = 1; lines = 3; bytes = 71; refused = Some (BadLine 3 (PartRecord 23)) }
part_of_23 = refl

part_of_1 : reading (lasting Oracle) full_limits (take 49 three_records) ≡ record { requests = ob 7 4 ∷ []; fills = []; seen = nothing_seen; volumes = []; dropped = 1; lines = 3; bytes = 49; refused = Some (BadLine 3 (PartRecord 1)) }
part_of_1 = refl

-- the bytes through a record pass the limit, or those through a part of one
record_past_limit : (reading (lasting Oracle) (few 9 71) three_records).refused ≡ Some InputTooLong
record_past_limit = refl

part_past_limit : (reading (lasting Oracle) (few 9 70) (take 71 three_records)).refused ≡ Some InputTooLong
part_past_limit = refl

part_at_limit : (reading (lasting Oracle) (few 9 71) (take 71 three_records)).refused ≡ Some (BadLine 3 (PartRecord 23))
part_at_limit = refl

-- a second request where one is allowed
second_record : reading (lasting Oracle) (few 1 1000) three_records ≡ record { requests = ob 7 4 ∷ []; fills = []; seen = nothing_seen; volumes = []; dropped = 1; lines = 3; bytes = 72; refused = Some TooManyRequests }
second_record = refl

no_records : reading (lasting Oracle) full_limits [] ≡ record { requests = []; fills = []; seen = nothing_seen; volumes = []; dropped = 0; lines = 0; bytes = 0; refused = None }
no_records = refl

-- a mark for each request, and none for a dropped line
marked : reading (lasting MarkedWebcache) full_limits (codes "1 7 4 r\n2 8 4 w\n\n3 9 0 w\n4 7 4 r") ≡ record { requests = ob 7 4 ∷ ob 8 4 ∷ ob 7 4 ∷ []; fills = false ∷ true ∷ false ∷ []; seen = nothing_seen; volumes = []; dropped = 1; lines = 5; bytes = 32; refused = None }
marked = refl

-- a line without a mark, and one whose mark is neither
no_mark : (reading (lasting MarkedWebcache) full_limits (codes "1 7 4 r\n2 8 4\n")).refused ≡ Some (BadLine 2 TooFewWords)
no_mark = refl

bad_mark : (reading (lasting MarkedWebcache) full_limits (codes "1 7 0 x\n")).refused ≡ Some (BadLine 1 BadType)
bad_mark = refl

-- each block has its line's mark, as far as there is room
marked_blocks : (reading (lasting (MsrReads 512)) (few 4 1000) (codes "1,h,0,Read,0,513,9\n2,h,0,Write,0,9999,9\n")).fills ≡ false ∷ false ∷ true ∷ true ∷ []
marked_blocks = refl

-- a form without marks keeps none
all_count : (reading (lasting (Msr 512)) full_limits (codes "1,h,0,Read,0,513,9\n2,h,0,Write,0,9999,9\n")).fills ≡ []
all_count = refl
