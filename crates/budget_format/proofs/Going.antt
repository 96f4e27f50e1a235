-- What a call of the reader gives of what is to come.
use Rattle.std.proofs.Common.{◌∷◌, ◌≡◌, ℕ, suc, ◌+◌, ◌-◌, ◌^◌, ◌<◌, ◌≤◌, ◌∙◌, sym, refl, ap, List, [], ◌++◌, arith, Some, None, Option, Ok, Err}
use Rattle.bound_io.specs.Devices.{Device}
use Rattle.bound_io.specs.Lines.{first_text, after_line, stands_in}
use Rattle.bound_io.specs.Positions.{Position}
use Rattle.cache_model.specs.Texts.{line, text_of}
use Rattle.budget_format.specs.declared.certificates.BudgetHeader.{BudgetHeader}
use Rattle.budget_format.specs.declared.certificates.BudgetRecord.{BudgetRecord}
use Rattle.budget_format.specs.Texts.{header_len, header_lines, record_line}
use Rattle.cert_format.specs.declared.fault.CertFault.{CertFault}
use Rattle.cert_format.specs.declared.fault.CertFault.TheVariants.{BadText, Truncated, Trailing, ReadFault}
use Rattle.budget_format.specs.declared.reader.Stage.TheVariants.{AtHeader, InRecords, AtEnd}
use Rattle.cert_format.specs.Grammar.{end_slots}
use Rattle.budget_format.specs.Grammar.{record_in, record_slots}
use Rattle.cert_format.specs.Readings.{after_lines, end_fault, first_fault, trailing}
use Rattle.budget_format.specs.Readings.{header_fault, header_in, onto, read_after, read_records, reading, record_fault, stopped, under, unless}
use Rattle.cert_format.specs.Lines.{known, IsStopped, Reads}
use Rattle.budget_format.specs.Readers.{Reader, to_come, IsRefused, HeaderRead, RecordRead, EndRead}
use Rattle.budget_format.proofs.RecordSpellings.{record_spelled}
use Rattle.cert_format.proofs.Prefixes.{fits_first}
use Rattle.cert_format.proofs.Headers.{no_either}
use Rattle.budget_format.proofs.Headers.{header_spelled}
use Rattle.cert_format.proofs.Taken.{at_some, if_known, known_some, after_lines-one}
use Rattle.cert_format.proofs.Wholes.{nothing_read}
use Rattle.budget_format.proofs.Wholes.{read_more, with_more}

-- why lines are not given is why nothing more is read
refused_by : (old : Reader) (source : Device) (fault_of : List ℕ → Option CertFault) (fault : CertFault) → IsStopped fault_of (known old.lines source.before) source fault
    → ((bytes : List ℕ) (f : CertFault) → fault_of bytes ≡ Some f → to_come old bytes ≡ stopped (Some f)) → IsRefused old source fault
refused_by old source fault_of ReadFault why is = why
refused_by old source fault_of (BadText n kind) why is = if_known (known old.lines source.before) _ (λ bytes e. is bytes (BadText n kind) (at_some (known old.lines source.before) bytes _ e why))
refused_by old source fault_of (Truncated n) why is = if_known (known old.lines source.before) _ (λ bytes e. is bytes (Truncated n) (at_some (known old.lines source.before) bytes _ e why))
refused_by old source fault_of (Trailing n) why is = if_known (known old.lines source.before) _ (λ bytes e. is bytes (Trailing n) (at_some (known old.lines source.before) bytes _ e why))

-- what the reader reads next
coming_header : (old : Reader) (bytes : List ℕ) → old.stage ≡ AtHeader → to_come old bytes ≡ reading bytes
coming_header old bytes is = rw is refl

coming_records : (old : Reader) (bytes : List ℕ) → old.stage ≡ InRecords → to_come old bytes ≡ read_records old.price old.left (old.lines.line + 1) bytes
coming_records old bytes is = rw is refl

-- the header
pub header_goes : (old new : Reader) (source : Device) (h : BudgetHeader) → old.stage ≡ AtHeader → old.lines.line ≡ 0 → new.stage ≡ InRecords → new.left ≡ h.requests → new.price ≡ 0 → Reads header_fault (header_len h) header_in old.lines new.lines source (Ok h) → HeaderRead old new source (Ok h)
header_goes old new source h at first now left price reads =
    let given : new.lines.line ≡ header_len h = omega (arith, reads.given.0, first) in (
      now,
      left,
      price,
      given,
      if_known (known old.lines source.before) _ (λ bytes e.
          let pass = at_some (known old.lines source.before) bytes _ e reads.passes in
          let is = at_some (known old.lines source.before) bytes _ e reads.value_is in
          let spelled = header_spelled bytes pass.none in
          let rest = after_lines (header_len h) bytes in
          let new_coming : to_come new rest ≡ read_after h bytes = coming_records new rest now
          ∙ (ap (λ p. read_records p new.left (new.lines.line + 1) rest) price
          ∙ (ap (λ k. read_records 0 k (new.lines.line + 1) rest) left ∙ ap (λ n. read_records 0 h.requests (n + 1) rest) given)) in
          record {
            text_is = spelled.1 ∙ ap (λ (k : BudgetHeader). text_of (header_lines k) ++ after_lines (header_len k) bytes) (sym is);
            rest = pass.rest;
            coming_is = coming_header old bytes at ∙ (ap (λ o. unless o (under (header_in bytes) (read_after (header_in bytes) bytes))) pass.none
                ∙ (ap (λ (k : BudgetHeader). under k (read_after k bytes)) (sym is) ∙ ap (under h) (sym new_coming)));
          }),
    )

pub header_stops : (old new : Reader) (source : Device) (fault : CertFault) → old.stage ≡ AtHeader → Reads header_fault 0 header_in old.lines new.lines source (Err fault) → IsRefused old source fault
header_stops old new source fault at reads = refused_by old source header_fault fault reads.stopped (λ bytes f is. coming_header old bytes at ∙ ap (λ o. unless o (under (header_in bytes) (read_after (header_in bytes) bytes))) is)

-- a record of those that are left
next_record : (old : Reader) (k : ℕ) (bytes : List ℕ) → old.stage ≡ InRecords → old.left ≡ k + 1
    → to_come old bytes ≡ unless (record_fault old.price (old.lines.line + 1) bytes) (with_more k (old.lines.line + 1) bytes (record_in old.price (first_text bytes)))
next_record old k bytes at left =
    let more : old.left ≡ suc k = omega (arith, left) in
    coming_records old bytes at ∙ (ap (λ m. read_records old.price m (old.lines.line + 1) bytes) more ∙ read_more old.price k (old.lines.line + 1) bytes)

pub record_goes : (old new : Reader) (source : Device) (r : BudgetRecord) → old.price ≤ 2 ^ 126 → old.stage ≡ InRecords → new.stage ≡ InRecords → new.left + 1 ≡ old.left → new.price ≡ r.price
    → Reads (record_fault old.price (old.lines.line + 1)) 1 (λ bytes. record_in old.price (first_text bytes)) old.lines new.lines source (Ok r) → RecordRead old new source (Ok r)
record_goes old new source r small at now left price reads =
    let one : new.lines.line ≡ old.lines.line + 1 = reads.given.0 in
    let n = old.lines.line + 1 in (
      now,
      left,
      price,
      one,
      if_known (known old.lines source.before) _ (λ bytes e.
          let pass = at_some (known old.lines source.before) bytes _ e reads.passes in
          let is = at_some (known old.lines source.before) bytes _ e reads.value_is in
          let entry = record_in old.price (first_text bytes) in
          let has = fits_first n (record_slots old.price (first_text bytes)) bytes pass.none in
          let spelled = record_spelled old.price (first_text bytes) small has.fits in
          let rest = after_lines 1 bytes in
          let new_coming : to_come new rest ≡ read_records r.price new.left (n + 1) (after_line bytes) = coming_records new rest now
          ∙ (ap (λ p. read_records p new.left (new.lines.line + 1) rest) price
          ∙ (ap (λ m. read_records r.price new.left (m + 1) rest) one ∙ ap (read_records r.price new.left (n + 1)) (after_lines-one bytes))) in
          record {
            text_is = has.is ∙ (ap (λ t. line t ++ after_line bytes) spelled.1 ∙ (ap (λ q. line (record_line old.price q) ++ after_line bytes) (sym is) ∙ ap (λ b. line (record_line old.price r) ++ b) (sym (after_lines-one bytes))));
            rest = pass.rest;
            coming_is = next_record old new.left bytes at (sym left) ∙ (ap (λ o. unless o (with_more new.left n bytes entry)) pass.none
                ∙ (ap (with_more new.left n bytes) (sym is) ∙ ap (onto r) (sym new_coming)));
          }),
    )

pub record_stops : (old new : Reader) (source : Device) (fault : CertFault) → old.stage ≡ InRecords → 0 < old.left
    → Reads (record_fault old.price (old.lines.line + 1)) 1 (λ bytes. record_in old.price (first_text bytes)) old.lines new.lines source (Err fault) → IsRefused old source fault
record_stops old new source fault at some reads = refused_by old source (record_fault old.price (old.lines.line + 1)) fault reads.stopped (λ bytes f is.
    let k = old.left - 1 in
    next_record old k bytes at (omega (arith, some)) ∙ ap (λ o. unless o (with_more k (old.lines.line + 1) bytes (record_in old.price (first_text bytes)))) is)

-- the end
no_records : (before n : ℕ) (bytes : List ℕ) → read_records before 0 n bytes ≡ stopped (end_fault n bytes)
unfolding read_records
no_records before n bytes = refl

coming_finish : (old : Reader) (bytes : List ℕ) → old.stage ≡ InRecords → old.left ≡ 0 → to_come old bytes ≡ stopped (end_fault (old.lines.line + 1) bytes)
coming_finish old bytes at none = coming_records old bytes at ∙ (ap (λ k. read_records old.price k (old.lines.line + 1) bytes) none ∙ no_records old.price (old.lines.line + 1) bytes)

-- nothing is left after the end
nothing_after : (n : ℕ) (bytes : List ℕ) → end_fault n bytes ≡ None → after_lines 1 bytes ≡ []
nothing_after n bytes none = after_lines-one bytes ∙ nothing_read (n + 1) (after_line bytes) (no_either (first_fault n end_slots bytes) (trailing (n + 1) (after_line bytes)) none).1

end_of : (a b : List ℕ) → a ++ b ≡ [] → b ≡ []
end_of [] b is = is
end_of (x ∷ a) b is = let wrong : x ∷ (a ++ b) ≡ [] = is in cc

-- where nothing is held or left, nothing is left
nothing_left : (at : Position) (left : Option (List ℕ)) → known at left ≡ Some [] → left ≡ Some []
nothing_left at left none = by left (known_some at left [] none).1
  where
    by : (o : Option (List ℕ)) → stands_in at.held o ≡ Some [] → o ≡ Some []
    by None is = let wrong : None ≡ Some [] = is in cc
    by (Some rest) is = let both : at.held ++ rest ≡ [] = cc in ap (λ r. Some r) (end_of at.held rest both)

pub end_goes : (old new : Reader) (source : Device) (v : Unit {0}) → old.stage ≡ InRecords → old.left ≡ 0 → new.stage ≡ AtEnd → new.left ≡ 0
    → Reads (end_fault (old.lines.line + 1)) 1 (λ bytes. tt) old.lines new.lines source (Ok v) → EndRead old new source (Ok v)
end_goes old new source v at none now left reads = (
  now,
  left,
  if_known (known old.lines source.before) _ (λ bytes e.
      let pass = at_some (known old.lines source.before) bytes _ e reads.passes in
      let rest = pass.rest ∙ ap (λ b. Some b) (nothing_after (old.lines.line + 1) bytes pass.none) in
      (coming_finish old bytes at none ∙ ap stopped pass.none, rest, nothing_left new.lines source.after rest)),
)

pub end_stops : (old new : Reader) (source : Device) (fault : CertFault) → old.stage ≡ InRecords → old.left ≡ 0
    → Reads {A = Unit {0}} (end_fault (old.lines.line + 1)) 1 (λ bytes. tt) old.lines new.lines source (Err fault) → IsRefused old source fault
end_stops old new source fault at none reads = refused_by old source (end_fault (old.lines.line + 1)) fault reads.stopped (λ bytes f is. coming_finish old bytes at none ∙ ap stopped is)
