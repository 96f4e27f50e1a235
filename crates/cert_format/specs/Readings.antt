-- The reading of a certificate, over all its bytes at once.
use Rattle.std.specs.Prelude.{ℕ, Bool, suc, zero, ◌+◌, ◌-◌, List, [], ◌∷◌, ◌==◌, nat_lt, if◌then◌else◌, length, codes, None, Some, Result}
use Rattle.std.specs.declared.option.Option.{Option}
use Rattle.std.specs.Option.{option_or, option_map}
use Rattle.std.specs.Str.{bytes_eq}
use Rattle.bound_io.specs.Lines.{text_len, first_text, after_line}
use Rattle.cache_model.specs.declared.objects.Objective.{Objective}
use Rattle.cache_model.specs.declared.objects.Objective.TheVariants.{Object as Hits, Bytes}
use Rattle.cache_model.specs.declared.certificates.Header.{Header}
use Rattle.cache_model.specs.declared.certificates.Record.{Record}
use Rattle.cache_model.specs.Texts.{header_len}
use Rattle.cache_model.specs.declared.version.TheConstants.{CERT_VERSION, SHORT_VERSION}
use Rattle.cert_format.specs.Grammar.{Slot, header_slots, is_short, record_slots, short_slots, end_slots, line_fault, words_fault, value_unless, word_at, number_at, number_in}
use Rattle.cert_format.specs.declared.fault.TextKind.{TextKind}
use Rattle.cert_format.specs.declared.fault.TextKind.TheVariants.{TooLong}
use Rattle.cert_format.specs.declared.fault.CertFault.{CertFault}
use Rattle.cert_format.specs.declared.fault.CertFault.TheVariants.{BadText, Truncated, Trailing}

-- a fault of the text of line n
abbrev pub in_line : ℕ → TextKind → CertFault
in_line n kind = BadText n kind

-- the fault of the first line of these bytes, which is line n of the certificate
abbrev pub first_fault : ℕ → List Slot → List ℕ → Option CertFault
first_fault n slots bytes =
    if nat_lt 65535 (text_len bytes) then Some (BadText n TooLong)
    else (if nat_lt (text_len bytes) (length bytes) then option_map (in_line n) (line_fault slots (first_text bytes)) else Some (Truncated n))

-- the first fault of some lines that these bytes must begin with, from line n on
abbrev pub lines_fault : ℕ → List (List Slot) → List ℕ → Option CertFault
lines_fault n [] bytes = None
lines_fault n (slots ∷ lines) bytes = option_or (first_fault n slots bytes) (lines_fault (n + 1) lines (after_line bytes))

-- what stands after this number of lines
unfoldable pub after_lines : ℕ → List ℕ → List ℕ
after_lines zero bytes = bytes
after_lines (suc k) bytes = after_lines k (after_line bytes)

-- how many bytes this number of lines has
abbrev pub bytes_through : ℕ → List ℕ → ℕ
bytes_through k bytes = length bytes - length (after_lines k bytes)

-- the text of line n
abbrev pub line_text : ℕ → List ℕ → List ℕ
line_text n bytes = first_text (after_lines (n - 1) bytes)

-- a line states a warm-up
abbrev pub is_warmup : List ℕ → Bool
is_warmup text = bytes_eq (word_at 0 text) (codes "warmup")

-- the first fault of the lines before the records
abbrev pub header_fault : List ℕ → Option CertFault
header_fault bytes = lines_fault 1 (header_slots (number_at 1 (line_text 3 bytes)) (is_warmup (line_text 11 bytes))) bytes

-- the version of the first line
abbrev pub version_in : List ℕ → ℕ
version_in text = if bytes_eq (word_at 1 text) (codes "1") then CERT_VERSION else SHORT_VERSION

-- the warm-up of the line where one would stand, which is 0 if there is none
abbrev pub warmup_in : List ℕ → ℕ
warmup_in text = if is_warmup text then number_at 1 text else 0

-- the objective of a line
abbrev pub objective_in : List ℕ → Objective
objective_in text = if bytes_eq (word_at 1 text) (codes "object") then Hits else Bytes

-- what the lines before the records state
unfoldable pub header_in : List ℕ → Header
header_in bytes = record {
  objective = objective_in (line_text 2 bytes);
  capacity = number_at 1 (line_text 3 bytes);
  requests = number_at 1 (line_text 4 bytes);
  unit = number_at 1 (line_text 5 bytes);
  denominator = number_at 1 (line_text 6 bytes);
  exact = bytes_eq (word_at 1 (line_text 7 bytes)) (codes "exact");
  upper = number_at 1 (line_text 8 bytes);
  flow = number_at 1 (line_text 9 bytes);
  lower = number_at 1 (line_text 10 bytes);
  warmup = warmup_in (line_text 11 bytes);
  version = version_in (line_text 1 bytes);
}

-- the record of a price, a keep and a flow
abbrev pub entry_of : ℕ → Bool → ℕ → Record
entry_of price keep flow = record { price = price; keep = keep; flow = flow }

-- what a line of price, keep and flow states
abbrev pub full_in : List ℕ → Record
full_in text = entry_of (number_at 0 text) (bytes_eq (word_at 1 text) (codes "1")) (number_at 2 text)

-- what a line of keep and flow states, after a record of the price `before`
abbrev pub short_in : ℕ → List ℕ → Record
short_in before text = entry_of before (bytes_eq (word_at 0 text) (codes "1")) (number_at 1 text)

-- the record of a line of these two words, after one of the price `before`, or why it is none
abbrev pub short_of : ℕ → List ℕ → List ℕ → Result Record TextKind
short_of before keep flow = value_unless (words_fault short_slots (keep ∷ flow ∷ [])) (entry_of before (bytes_eq keep (codes "1")) (number_in flow))

-- what the line of a record states, after one of the price `before`
abbrev pub record_in : ℕ → ℕ → List ℕ → Record
record_in version before text = if is_short version text then short_in before text else full_in text

-- the fault of the line of a record, after one of the price `before`
abbrev pub record_text_fault : ℕ → ℕ → ℕ → List ℕ → Option CertFault
record_text_fault version before n bytes = first_fault n (record_slots version before (first_text bytes)) bytes

-- the header, if it can be read, the records before the first fault, and that fault, if there is one
pub record Reading : Type 0 where
  pub header : Option Header
  pub records : List Record
  pub fault : Option CertFault

-- nothing more is read, for a fault or not
abbrev pub stopped : Option CertFault → Reading
stopped fault = record { header = None; records = []; fault = fault }

-- a reading, unless a fault comes before it
abbrev pub unless : Option CertFault → Reading → Reading
unless None r = r
unless (Some fault) r = stopped (Some fault)

-- a record before the others of a reading
abbrev pub onto : Record → Reading → Reading
onto entry r = record r { records = entry ∷ r.records }

-- a reading with its header
abbrev pub under : Header → Reading → Reading
under h r = record r { header = Some h }

-- no byte is to follow, if line n would be
abbrev pub trailing : ℕ → List ℕ → Option CertFault
trailing n bytes = if length bytes == 0 then None else Some (Trailing n)

-- the fault of the line after the records, which is line n, or of what follows it
abbrev pub end_fault : ℕ → List ℕ → Option CertFault
end_fault n bytes = option_or (first_fault n end_slots bytes) (trailing (n + 1) (after_line bytes))

-- this number of records, from line n on and after one of the price `before`, and the end
unfoldable pub read_records : ℕ → ℕ → ℕ → ℕ → List ℕ → Reading
read_records version before zero n bytes = stopped (end_fault n bytes)
read_records version before (suc k) n bytes =
    let r = record_in version before (first_text bytes) in
    unless (record_text_fault version before n bytes) (onto r (read_records version r.price k (n + 1) (after_line bytes)))

-- what stands after the lines of a header: its records, and the end
abbrev pub read_after : Header → List ℕ → Reading
read_after h bytes = read_records h.version 0 h.requests (header_len h + 1) (after_lines (header_len h) bytes)

-- the reading of all the bytes of a certificate
abbrev pub reading : List ℕ → Reading
reading bytes = unless (header_fault bytes) (under (header_in bytes) (read_after (header_in bytes) bytes))

-- the reading of a whole certificate
abbrev pub whole : Header → List Record → Reading
whole h records = record { header = Some h; records = records; fault = None }
