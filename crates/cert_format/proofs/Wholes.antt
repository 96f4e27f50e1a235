-- Whole certificates: what is written is read, and what is read is what is written.
use Rattle.std.proofs.Common.{◌≡◌, ℕ, zero, suc, ◌+◌, ◌^◌, ◌≤◌, ◌∙◌, sym, refl, ap, List, [], ◌∷◌, ◌++◌, append_assoc, length, arith, codes, Some, None, Option, IfSome}
use Rattle.std.specs.Prelude.{All}
use Rattle.std.specs.Option.{is_some}
use Rattle.std.proofs.lemmas.Bool.{true≢false, ne_eqb}
use Rattle.std.proofs.lemmas.List.Elements.{All-nil, All-cons, All-head, All-tail}
use Rattle.std.proofs.lemmas.List.Concat.{flat_map-append}
use Rattle.bound_io.specs.Lines.{first_text, after_line}
use Rattle.cache_model.specs.declared.certificates.Header.{Header}
use Rattle.cache_model.specs.declared.certificates.Record.{Record}
use Rattle.cache_model.specs.Certificates.{IsCertificate, IsHeaderInRange, IsRecordInRange}
use Rattle.cache_model.specs.Texts.{line, text_of, header_len, header_lines, record_line, record_lines, cert_text, cert_lines}
use Rattle.cert_format.specs.declared.fault.CertFault.{CertFault}
use Rattle.cert_format.specs.declared.fault.CertFault.TheVariants.{Trailing}
use Rattle.cert_format.specs.Grammar.{record_slots, end_slots}
use Rattle.cert_format.specs.Readings.{read_after, Reading, reading, whole, stopped, unless, onto, under, trailing, read_records, first_fault, after_lines, header_fault, header_in, record_in, record_text_fault}
use Rattle.cert_format.specs.Laws.{IsSpelled}
use Rattle.cert_format.proofs.Shapes.{fixed_fits, fixed_only}
use Rattle.cert_format.proofs.RecordSpellings.{record_fits, record_spelled, record_is_line}
use Rattle.cert_format.proofs.Prefixes.{first_fits, fits_first, first_text-line, after_line-line}
use Rattle.cert_format.proofs.Headers.{header_read, header_spelled, no_either}

-- the lines of records, and the end
abbrev pub records_text : ℕ → ℕ → List Record → List ℕ
records_text version before records = text_of (record_lines version before records ++ codes "end" ∷ [])

-- records read, and no fault
abbrev pub only : List Record → Reading
only records = record { header = None; records = records; fault = None }

-- what is read of a record and those after it
abbrev pub with_more : ℕ → ℕ → ℕ → List ℕ → Record → Reading
with_more version k n bytes r = onto r (read_records version r.price k (n + 1) (after_line bytes))

pub read_more : (version before k n : ℕ) (bytes : List ℕ) → read_records version before (suc k) n bytes ≡ unless (record_text_fault version before n bytes) (with_more version k n bytes (record_in version before (first_text bytes)))
unfolding read_records
read_more version before k n bytes = refl

-- records in range that are written are read
pub records_read : (version before : ℕ) (records : List Record) (n : ℕ) → All IsRecordInRange records → read_records version before (length records) n (records_text version before records) ≡ only records
unfolding read_records
records_read version before [] n each =
    let fits : first_fault n end_slots (line (codes "end") ++ []) ≡ None = first_fits n end_slots (codes "end") [] (refl, omega arith) (fixed_fits (codes "end")) in
    rw fits refl
records_read version before (r ∷ records) n each =
    let range = All-head IsRecordInRange r records each in
    let words = record_line version before r in
    let is = record_is_line version before r range in
    let read = record_fits version before r range in
    let rest = records_text version r.price records in
    let bytes = line words ++ rest in
    let text : first_text bytes ≡ words = first_text-line words rest is.0 in
    let fits : record_text_fault version before n bytes ≡ None = ap (λ t. first_fault n (record_slots version before t) bytes) text ∙ first_fits n (record_slots version before words) words rest is read.0 in
    let here : record_in version before (first_text bytes) ≡ r = ap (record_in version before) text ∙ read.1 in
    let there = records_read version r.price records (n + 1) (All-tail IsRecordInRange r records each) in
    ap (λ o. unless o (with_more version (length records) n bytes (record_in version before (first_text bytes)))) fits
    ∙ (ap (with_more version (length records) n bytes) here
    ∙ (ap (λ b. onto r (read_records version r.price (length records) (n + 1) b)) (after_line-line words rest is.0) ∙ ap (onto r) there))

cert_text-split : (h : Header) (records : List Record) → cert_text h records ≡ text_of (header_lines h) ++ records_text h.version 0 records
cert_text-split h records =
    let entries = record_lines h.version 0 records in
    let regroup : cert_lines h records ≡ header_lines h ++ (entries ++ codes "end" ∷ []) = append_assoc (header_lines h) entries (codes "end" ∷ []) in
    ap text_of regroup ∙ flat_map-append line (header_lines h) (entries ++ codes "end" ∷ [])

-- a certificate that is written is read
pub written_read : (h : Header) (records : List Record) → IsCertificate h records → reading (cert_text h records) ≡ whole h records
written_read h records c =
    let rest = records_text h.version 0 records in
    let bytes = text_of (header_lines h) ++ rest in
    let head = header_read h rest c.header in
    ap reading (cert_text-split h records)
    ∙ (ap (λ o. unless o (under (header_in bytes) (read_after (header_in bytes) bytes))) head.0
    ∙ (ap (λ (k : Header). under k (read_after k bytes)) head.1
    ∙ (ap (λ b. under h (read_records h.version 0 h.requests (header_len h + 1) b)) head.2
    ∙ (ap (λ k. under h (read_records h.version 0 k (header_len h + 1) rest)) (sym c.count) ∙ ap (under h) (records_read h.version 0 records (header_len h + 1) c.each)))))

no_stop : (o : Option CertFault) (r : Reading) → (unless o r).fault ≡ None → (o ≡ None) × (r.fault ≡ None)
no_stop None r none = (refl, none)
no_stop (Some fault) r none = absurd (true≢false (ap is_some none))

-- nothing follows
pub nothing_read : (n : ℕ) (bytes : List ℕ) → trailing n bytes ≡ None → bytes ≡ []
nothing_read n [] none = refl
nothing_read n (b ∷ bytes) none = let wrong : Some (Trailing n) ≡ None = rw (ne_eqb (length (b ∷ bytes)) 0 (λ e. omega (arith, e))) at none in absurd (true≢false (ap is_some wrong))

-- what the bytes of some records and the end give, if there is no fault
record SpelledRecords (version before k n : ℕ) (bytes : List ℕ) (records : List Record) : Type 0 where
  read : read_records version before k n bytes ≡ only records
  each : All IsRecordInRange records
  count : length records ≡ k
  text : bytes ≡ records_text version before records

one_more : (version before k n : ℕ) (bytes : List ℕ) → before ≤ 2 ^ 126 → record_text_fault version before n bytes ≡ None
    → (rest : (records : List Record) × SpelledRecords version (record_in version before (first_text bytes)).price k (n + 1) (after_line bytes) records)
    → (records : List Record) × SpelledRecords version before (suc k) n bytes records
one_more version before k n bytes small fits rest =
    let has = fits_first n (record_slots version before (first_text bytes)) bytes fits in
    let r = record_in version before (first_text bytes) in
    let spelled = record_spelled version before (first_text bytes) small has.fits in
    let records = rest.0 in (
      r ∷ records,
      record {
        read = read_more version before k n bytes ∙ (ap (λ o. unless o (with_more version k n bytes r)) fits ∙ ap (onto r) rest.1.read);
        each = All-cons IsRecordInRange r records spelled.0 rest.1.each;
        count = omega (arith, rest.1.count);
        text = has.is ∙ (ap (λ t. line t ++ after_line bytes) spelled.1 ∙ ap (λ b. line (record_line version before r) ++ b) rest.1.text);
      },
    )

records_spelled : (version before k n : ℕ) (bytes : List ℕ) → before ≤ 2 ^ 126 → (read_records version before k n bytes).fault ≡ None → (records : List Record) × SpelledRecords version before k n bytes records
unfolding read_records
records_spelled version before zero n bytes small none =
    let parts = no_either (first_fault n end_slots bytes) (trailing (n + 1) (after_line bytes)) none in
    let has = fits_first n end_slots bytes parts.0 in
    let nothing = nothing_read (n + 1) (after_line bytes) parts.1 in
    let end = fixed_only (codes "end") (first_text bytes) has.fits in (
      [],
      record {
        read = ap stopped none;
        each = All-nil IsRecordInRange;
        count = refl;
        text = has.is ∙ (ap (λ t. line t ++ after_line bytes) end ∙ ap (λ b. line (codes "end") ++ b) nothing);
      },
    )
records_spelled version before (suc k) n bytes small none =
    let r = record_in version before (first_text bytes) in
    let parts = no_stop (record_text_fault version before n bytes) (with_more version k n bytes r) none in
    let has = fits_first n (record_slots version before (first_text bytes)) bytes parts.0 in
    let spelled = record_spelled version before (first_text bytes) small has.fits in
    one_more version before k n bytes small parts.0 (records_spelled version r.price k (n + 1) (after_line bytes) (omega (arith, spelled.0.price)) parts.1)

-- what is read without a fault is written so
pub read_written : (bytes : List ℕ) → (reading bytes).fault ≡ None → (h : Header) × (records : List Record) × IsSpelled bytes h records
read_written bytes none =
    let h = header_in bytes in
    let parts = no_stop (header_fault bytes) (under h (read_after h bytes)) none in
    let head = header_spelled bytes parts.0 in
    let body = records_spelled h.version 0 h.requests (header_len h + 1) (after_lines (header_len h) bytes) (omega arith) parts.1 in (
      h,
      body.0,
      record {
        read = ap (λ o. unless o (under h (read_after h bytes))) parts.0 ∙ ap (under h) body.1.read;
        certificate = record { header = head.0; count = body.1.count; each = body.1.each };
        text = head.1 ∙ (ap (λ b. text_of (header_lines h) ++ b) body.1.text ∙ sym (cert_text-split h body.0));
      },
    )

-- the records before a fault are in range
records_in_range : (version before k n : ℕ) (bytes : List ℕ) → before ≤ 2 ^ 126 → All IsRecordInRange (read_records version before k n bytes).records
unfolding read_records
records_in_range version before zero n bytes small = All-nil IsRecordInRange
records_in_range version before (suc k) n bytes small =
    by (record_text_fault version before n bytes) refl (λ range. records_in_range version (record_in version before (first_text bytes)).price k (n + 1) (after_line bytes) (omega (arith, range.price)))
  where
    by : (o : Option CertFault) → record_text_fault version before n bytes ≡ o
        → (IsRecordInRange (record_in version before (first_text bytes)) → All IsRecordInRange (read_records version (record_in version before (first_text bytes)).price k (n + 1) (after_line bytes)).records)
        → All IsRecordInRange (unless o (with_more version k n bytes (record_in version before (first_text bytes)))).records
    by None fits rest =
        let range = (record_spelled version before (first_text bytes) small (fits_first n (record_slots version before (first_text bytes)) bytes fits).fits).0 in
        All-cons IsRecordInRange (record_in version before (first_text bytes)) _ range (rest range)
    by (Some fault) fits rest = All-nil IsRecordInRange

pub read_in_range : (bytes : List ℕ) → IfSome (reading bytes).header IsHeaderInRange × All IsRecordInRange (reading bytes).records
read_in_range bytes = by (header_fault bytes) refl
  where
    by : (o : Option CertFault) → header_fault bytes ≡ o
        → IfSome (unless o (under (header_in bytes) (read_after (header_in bytes) bytes))).header IsHeaderInRange
        × All IsRecordInRange (unless o (under (header_in bytes) (read_after (header_in bytes) bytes))).records
    by None none = ((header_spelled bytes none).0, records_in_range (header_in bytes).version 0 (header_in bytes).requests (header_len (header_in bytes) + 1) (after_lines (header_len (header_in bytes)) bytes) (omega arith))
    by (Some fault) is = (tt, All-nil IsRecordInRange)
