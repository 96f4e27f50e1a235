-- Whole certificates: what is written is read, and what is read is what is written.
use Rattle.std.proofs.Common.{◌≡◌, ℕ, zero, suc, ◌+◌, ◌^◌, ◌≤◌, ◌∙◌, sym, refl, ap, List, [], ◌∷◌, ◌++◌, append_assoc, length, arith, codes, Some, None, Option, IfSome}
use Rattle.std.specs.Prelude.{All}
use Rattle.std.specs.Option.{is_some}
use Rattle.std.proofs.lemmas.Bool.{true≢false}
use Rattle.std.proofs.lemmas.List.Elements.{All-nil, All-cons, All-head, All-tail}
use Rattle.std.proofs.lemmas.List.Concat.{flat_map-append}
use Rattle.bound_io.specs.Lines.{first_text, after_line}
use Rattle.cache_model.specs.Texts.{line, text_of}
use Rattle.cert_format.specs.declared.fault.CertFault.{CertFault}
use Rattle.cert_format.specs.Grammar.{end_slots}
use Rattle.cert_format.specs.Readings.{after_lines, first_fault, trailing}
use Rattle.cert_format.proofs.Shapes.{fixed_fits, fixed_only}
use Rattle.cert_format.proofs.Prefixes.{first_fits, fits_first, first_text-line, after_line-line}
use Rattle.cert_format.proofs.Headers.{no_either}
use Rattle.cert_format.proofs.Wholes.{nothing_read}
use Rattle.budget_format.specs.declared.certificates.BudgetHeader.{BudgetHeader}
use Rattle.budget_format.specs.declared.certificates.BudgetRecord.{BudgetRecord}
use Rattle.budget_format.specs.Budgets.{IsBudgetCertificate, IsBudgetHeader, IsBudgetRecord}
use Rattle.budget_format.specs.Texts.{certificate_text, header_len, header_lines, record_line, record_lines}
use Rattle.budget_format.specs.Grammar.{record_in, record_slots}
use Rattle.budget_format.specs.Readings.{BudgetReading, header_fault, header_in, onto, read_after, read_records, reading, record_fault, stopped, under, unless, whole}
use Rattle.budget_format.specs.Laws.{IsSpelled}
use Rattle.budget_format.proofs.RecordSpellings.{record_fits, record_is_line, record_spelled}
use Rattle.budget_format.proofs.Headers.{header_read, header_spelled}

-- the lines of records, and the end
abbrev records_text : ℕ → List BudgetRecord → List ℕ
records_text before records = text_of (record_lines before records ++ codes "end" ∷ [])

-- records read, and no fault
abbrev only : List BudgetRecord → BudgetReading
only records = record { header = None; records = records; fault = None }

-- what is read of a record and those after it
abbrev pub with_more : ℕ → ℕ → List ℕ → BudgetRecord → BudgetReading
with_more k n bytes r = onto r (read_records r.price k (n + 1) (after_line bytes))

pub read_more : (before k n : ℕ) (bytes : List ℕ) → read_records before (suc k) n bytes ≡ unless (record_fault before n bytes) (with_more k n bytes (record_in before (first_text bytes)))
unfolding read_records
read_more before k n bytes = refl

-- records in range that are written are read
records_read : (before : ℕ) (records : List BudgetRecord) (n : ℕ) → All IsBudgetRecord records → read_records before (length records) n (records_text before records) ≡ only records
unfolding read_records
records_read before [] n each =
    let fits : first_fault n end_slots (line (codes "end") ++ []) ≡ None = first_fits n end_slots (codes "end") [] (refl, omega arith) (fixed_fits (codes "end")) in
    rw fits refl
records_read before (r ∷ records) n each =
    let range = All-head IsBudgetRecord r records each in
    let words = record_line before r in
    let is = record_is_line before r range in
    let read = record_fits before r range in
    let rest = records_text r.price records in
    let bytes = line words ++ rest in
    let text : first_text bytes ≡ words = first_text-line words rest is.0 in
    let fits : record_fault before n bytes ≡ None = ap (λ t. first_fault n (record_slots before t) bytes) text ∙ first_fits n (record_slots before words) words rest is read.0 in
    let here : record_in before (first_text bytes) ≡ r = ap (record_in before) text ∙ read.1 in
    let there = records_read r.price records (n + 1) (All-tail IsBudgetRecord r records each) in
    ap (λ o. unless o (with_more (length records) n bytes (record_in before (first_text bytes)))) fits
    ∙ (ap (with_more (length records) n bytes) here
    ∙ (ap (λ b. onto r (read_records r.price (length records) (n + 1) b)) (after_line-line words rest is.0) ∙ ap (onto r) there))

text-split : (h : BudgetHeader) (records : List BudgetRecord) → certificate_text h records ≡ text_of (header_lines h) ++ records_text 0 records
text-split h records =
    let entries = record_lines 0 records in
    ap text_of (append_assoc (header_lines h) entries (codes "end" ∷ [])) ∙ flat_map-append line (header_lines h) (entries ++ codes "end" ∷ [])

-- a certificate that is written is read
pub written_read : (h : BudgetHeader) (records : List BudgetRecord) → IsBudgetCertificate h records → reading (certificate_text h records) ≡ whole h records
written_read h records c =
    let rest = records_text 0 records in
    let bytes = text_of (header_lines h) ++ rest in
    let head = header_read h rest c.header in
    ap reading (text-split h records)
    ∙ (ap (λ o. unless o (under (header_in bytes) (read_after (header_in bytes) bytes))) head.0
    ∙ (ap (λ (k : BudgetHeader). under k (read_after k bytes)) head.1
    ∙ (ap (λ b. under h (read_records 0 h.requests (header_len h + 1) b)) head.2
    ∙ (ap (λ k. under h (read_records 0 k (header_len h + 1) rest)) (sym c.count) ∙ ap (under h) (records_read 0 records (header_len h + 1) c.each)))))

no_stop : (o : Option CertFault) (r : BudgetReading) → (unless o r).fault ≡ None → (o ≡ None) × (r.fault ≡ None)
no_stop None r none = (refl, none)
no_stop (Some fault) r none = absurd (true≢false (ap is_some none))

-- what the bytes of some records and the end give, if there is no fault
record SpelledRecords (before k n : ℕ) (bytes : List ℕ) (records : List BudgetRecord) : Type 0 where
  read : read_records before k n bytes ≡ only records
  each : All IsBudgetRecord records
  count : length records ≡ k
  text : bytes ≡ records_text before records

one_more : (before k n : ℕ) (bytes : List ℕ) → before ≤ 2 ^ 126 → record_fault before n bytes ≡ None
    → (rest : (records : List BudgetRecord) × SpelledRecords (record_in before (first_text bytes)).price k (n + 1) (after_line bytes) records)
    → (records : List BudgetRecord) × SpelledRecords before (suc k) n bytes records
one_more before k n bytes small fits rest =
    let has = fits_first n (record_slots before (first_text bytes)) bytes fits in
    let r = record_in before (first_text bytes) in
    let spelled = record_spelled before (first_text bytes) small has.fits in
    let records = rest.0 in (
      r ∷ records,
      record {
        read = read_more before k n bytes ∙ (ap (λ o. unless o (with_more k n bytes r)) fits ∙ ap (onto r) rest.1.read);
        each = All-cons IsBudgetRecord r records spelled.0 rest.1.each;
        count = omega (arith, rest.1.count);
        text = has.is ∙ (ap (λ t. line t ++ after_line bytes) spelled.1 ∙ ap (λ b. line (record_line before r) ++ b) rest.1.text);
      },
    )

records_spelled : (before k n : ℕ) (bytes : List ℕ) → before ≤ 2 ^ 126 → (read_records before k n bytes).fault ≡ None → (records : List BudgetRecord) × SpelledRecords before k n bytes records
unfolding read_records
records_spelled before zero n bytes small none =
    let parts = no_either (first_fault n end_slots bytes) (trailing (n + 1) (after_line bytes)) none in
    let has = fits_first n end_slots bytes parts.0 in
    let nothing = nothing_read (n + 1) (after_line bytes) parts.1 in
    let end = fixed_only (codes "end") (first_text bytes) has.fits in (
      [],
      record {
        read = ap stopped none;
        each = All-nil IsBudgetRecord;
        count = refl;
        text = has.is ∙ (ap (λ t. line t ++ after_line bytes) end ∙ ap (λ b. line (codes "end") ++ b) nothing);
      },
    )
records_spelled before (suc k) n bytes small none =
    let r = record_in before (first_text bytes) in
    let parts = no_stop (record_fault before n bytes) (with_more k n bytes r) none in
    let has = fits_first n (record_slots before (first_text bytes)) bytes parts.0 in
    let spelled = record_spelled before (first_text bytes) small has.fits in
    one_more before k n bytes small parts.0 (records_spelled r.price k (n + 1) (after_line bytes) spelled.0 parts.1)

-- what is read without a fault is written so
pub read_written : (bytes : List ℕ) → (reading bytes).fault ≡ None → (h : BudgetHeader) × (records : List BudgetRecord) × IsSpelled bytes h records
read_written bytes none =
    let h = header_in bytes in
    let parts = no_stop (header_fault bytes) (under h (read_after h bytes)) none in
    let head = header_spelled bytes parts.0 in
    let body = records_spelled 0 h.requests (header_len h + 1) (after_lines (header_len h) bytes) (omega arith) parts.1 in (
      h,
      body.0,
      record {
        read = ap (λ o. unless o (under h (read_after h bytes))) parts.0 ∙ ap (under h) body.1.read;
        certificate = record { header = head.0; count = body.1.count; each = body.1.each };
        text = head.1 ∙ (ap (λ b. text_of (header_lines h) ++ b) body.1.text ∙ sym (text-split h body.0));
      },
    )

-- the records before a fault are in range
records_in_range : (before k n : ℕ) (bytes : List ℕ) → before ≤ 2 ^ 126 → All IsBudgetRecord (read_records before k n bytes).records
unfolding read_records
records_in_range before zero n bytes small = All-nil IsBudgetRecord
records_in_range before (suc k) n bytes small =
    by (record_fault before n bytes) refl (λ range. records_in_range (record_in before (first_text bytes)).price k (n + 1) (after_line bytes) range)
  where
    by : (o : Option CertFault) → record_fault before n bytes ≡ o
        → (IsBudgetRecord (record_in before (first_text bytes)) → All IsBudgetRecord (read_records (record_in before (first_text bytes)).price k (n + 1) (after_line bytes)).records)
        → All IsBudgetRecord (unless o (with_more k n bytes (record_in before (first_text bytes)))).records
    by None fits rest =
        let range = (record_spelled before (first_text bytes) small (fits_first n (record_slots before (first_text bytes)) bytes fits).fits).0 in
        All-cons IsBudgetRecord (record_in before (first_text bytes)) _ range (rest range)
    by (Some fault) fits rest = All-nil IsBudgetRecord

pub read_in_range : (bytes : List ℕ) → IfSome (reading bytes).header IsBudgetHeader × All IsBudgetRecord (reading bytes).records
read_in_range bytes = by (header_fault bytes) refl
  where
    by : (o : Option CertFault) → header_fault bytes ≡ o
        → IfSome (unless o (under (header_in bytes) (read_after (header_in bytes) bytes))).header IsBudgetHeader
        × All IsBudgetRecord (unless o (under (header_in bytes) (read_after (header_in bytes) bytes))).records
    by None none = ((header_spelled bytes none).0, records_in_range 0 (header_in bytes).requests (header_len (header_in bytes) + 1) (after_lines (header_len (header_in bytes)) bytes) (omega arith))
    by (Some fault) is = (tt, All-nil IsBudgetRecord)
