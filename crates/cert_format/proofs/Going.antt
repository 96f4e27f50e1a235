-- What a call of the reader gives of what is to come.
use Rattle.std.proofs.Common.{◌∷◌, ◌≡◌, ◌≢◌, ℕ, suc, ◌+◌, ◌-◌, ◌^◌, ◌<◌, ◌≤◌, ◌∙◌, sym, refl, ap, List, [], ◌++◌, arith, Some, None, Option, Ok, Err}
use Rattle.bound_io.specs.Devices.{Device}
use Rattle.bound_io.specs.Lines.{first_text, after_line, stands_in}
use Rattle.bound_io.specs.Positions.{Position}
use Rattle.cache_model.specs.declared.certificates.Header.{Header}
use Rattle.cache_model.specs.declared.certificates.Record.{Record}
use Rattle.cache_model.specs.Texts.{header_len, header_lines, line, record_line, text_of}
use Rattle.cert_format.specs.declared.fault.CertFault.{CertFault}
use Rattle.cert_format.specs.declared.fault.CertFault.TheVariants.{BadText, Truncated, Trailing, ReadFault}
use Rattle.cert_format.specs.declared.reader.Stage.{Stage}
use Rattle.cert_format.specs.declared.reader.Stage.TheVariants.{AtHeader, InRecords, AtEnd}
use Rattle.cert_format.specs.Grammar.{record_slots, end_slots}
use Rattle.cert_format.specs.Readings.{reading, read_after, read_records, stopped, unless, onto, under, trailing, end_fault, first_fault, header_fault, header_in, record_in, record_text_fault, after_lines}
use Rattle.cert_format.specs.Lines.{known, IsStopped, Reads}
use Rattle.cert_format.specs.Finish.{finish_fault, lines_left}
use Rattle.cert_format.specs.Readers.{Reader, fresh, to_come, IsRefused, HeaderRead, RecordRead, EndRead}
use Rattle.cert_format.proofs.RecordSpellings.{record_spelled}
use Rattle.cert_format.proofs.Prefixes.{fits_first}
use Rattle.cert_format.proofs.Headers.{header_spelled, after_lines-zero, no_either}
use Rattle.cert_format.proofs.Taken.{at_some, if_known, known_some, after_lines-one}
use Rattle.cert_format.proofs.Wholes.{nothing_read, read_more, with_more}

-- why lines are not given is why nothing more is read
refused_by : (old : Reader) (source : Device) (fault_of : List ℕ → Option CertFault) (fault : CertFault) → IsStopped fault_of (known old.lines source.before) source fault
    → ((bytes : List ℕ) (f : CertFault) → fault_of bytes ≡ Some f → to_come old bytes ≡ stopped (Some f)) → IsRefused old source fault
refused_by old source fault_of ReadFault why is = why
refused_by old source fault_of (BadText n kind) why is = if_known (known old.lines source.before) _ (λ bytes e. is bytes (BadText n kind) (at_some (known old.lines source.before) bytes _ e why))
refused_by old source fault_of (Truncated n) why is = if_known (known old.lines source.before) _ (λ bytes e. is bytes (Truncated n) (at_some (known old.lines source.before) bytes _ e why))
refused_by old source fault_of (Trailing n) why is = if_known (known old.lines source.before) _ (λ bytes e. is bytes (Trailing n) (at_some (known old.lines source.before) bytes _ e why))

-- what the reader reads next
coming_header : (old : Reader) (bytes : List ℕ) → old.stage ≡ AtHeader → to_come old bytes ≡ reading bytes
coming_header old bytes is = rw is refl

coming_records : (old : Reader) (bytes : List ℕ) → old.stage ≡ InRecords → to_come old bytes ≡ read_records old.version old.price old.left (old.lines.line + 1) bytes
coming_records old bytes is = rw is refl

coming_end : (old : Reader) (bytes : List ℕ) → old.stage ≡ AtEnd → to_come old bytes ≡ stopped (trailing (old.lines.line + 1) bytes)
coming_end old bytes is = rw is refl

-- the header
pub header_goes : (old new : Reader) (source : Device) (h : Header) → old.stage ≡ AtHeader → old.lines.line ≡ 0 → new.stage ≡ InRecords → new.left ≡ h.requests → new.version ≡ h.version → new.price ≡ 0 → Reads header_fault (header_len h) header_in old.lines new.lines source (Ok h) → HeaderRead old new source (Ok h)
header_goes old new source h at first now left version price reads =
    let given : new.lines.line ≡ header_len h = omega (arith, reads.given.0, first) in (
      now,
      left,
      version,
      price,
      given,
      if_known (known old.lines source.before) _ (λ bytes e.
          let pass = at_some (known old.lines source.before) bytes _ e reads.passes in
          let is = at_some (known old.lines source.before) bytes _ e reads.value_is in
          let spelled = header_spelled bytes pass.none in
          let rest = after_lines (header_len h) bytes in
          let new_coming : to_come new rest ≡ read_after h bytes = coming_records new rest now
          ∙ (ap (λ v. read_records v new.price new.left (new.lines.line + 1) rest) version ∙ (ap (λ p. read_records h.version p new.left (new.lines.line + 1) rest) price
          ∙ (ap (λ k. read_records h.version 0 k (new.lines.line + 1) rest) left ∙ ap (λ n. read_records h.version 0 h.requests (n + 1) rest) given))) in
          record {
            text_is = spelled.1 ∙ ap (λ (k : Header). text_of (header_lines k) ++ after_lines (header_len k) bytes) (sym is);
            rest = pass.rest;
            coming_is = coming_header old bytes at ∙ (ap (λ o. unless o (under (header_in bytes) (read_after (header_in bytes) bytes))) pass.none
                ∙ (ap (λ (k : Header). under k (read_after k bytes)) (sym is) ∙ ap (under h) (sym new_coming)));
          }),
    )

pub header_stops : (old new : Reader) (source : Device) (fault : CertFault) → old.stage ≡ AtHeader → Reads header_fault 0 header_in old.lines new.lines source (Err fault) → IsRefused old source fault
header_stops old new source fault at reads = refused_by old source header_fault fault reads.stopped (λ bytes f is. coming_header old bytes at ∙ ap (λ o. unless o (under (header_in bytes) (read_after (header_in bytes) bytes))) is)

-- a record of those that are left
next_record : (old : Reader) (k : ℕ) (bytes : List ℕ) → old.stage ≡ InRecords → old.left ≡ k + 1
    → to_come old bytes ≡ unless (record_text_fault old.version old.price (old.lines.line + 1) bytes) (with_more old.version k (old.lines.line + 1) bytes (record_in old.version old.price (first_text bytes)))
next_record old k bytes at left =
    let more : old.left ≡ suc k = omega (arith, left) in
    coming_records old bytes at ∙ (ap (λ m. read_records old.version old.price m (old.lines.line + 1) bytes) more ∙ read_more old.version old.price k (old.lines.line + 1) bytes)

pub record_goes : (old new : Reader) (source : Device) (r : Record) → old.price ≤ 2 ^ 126 → old.stage ≡ InRecords → new.stage ≡ InRecords → new.left + 1 ≡ old.left → new.version ≡ old.version → new.price ≡ r.price
    → Reads (record_text_fault old.version old.price (old.lines.line + 1)) 1 (λ bytes. record_in old.version old.price (first_text bytes)) old.lines new.lines source (Ok r) → RecordRead old new source (Ok r)
record_goes old new source r small at now left version price reads =
    let one : new.lines.line ≡ old.lines.line + 1 = reads.given.0 in
    let n = old.lines.line + 1 in (
      now,
      left,
      version,
      price,
      one,
      if_known (known old.lines source.before) _ (λ bytes e.
          let pass = at_some (known old.lines source.before) bytes _ e reads.passes in
          let is = at_some (known old.lines source.before) bytes _ e reads.value_is in
          let entry = record_in old.version old.price (first_text bytes) in
          let has = fits_first n (record_slots old.version old.price (first_text bytes)) bytes pass.none in
          let spelled = record_spelled old.version old.price (first_text bytes) small has.fits in
          let rest = after_lines 1 bytes in
          let new_coming : to_come new rest ≡ read_records old.version r.price new.left (n + 1) (after_line bytes) = coming_records new rest now
          ∙ (ap (λ v. read_records v new.price new.left (new.lines.line + 1) rest) version ∙ (ap (λ p. read_records old.version p new.left (new.lines.line + 1) rest) price
          ∙ (ap (λ m. read_records old.version r.price new.left (m + 1) rest) one ∙ ap (read_records old.version r.price new.left (n + 1)) (after_lines-one bytes)))) in
          record {
            text_is = has.is ∙ (ap (λ t. line t ++ after_line bytes) spelled.1 ∙ (ap (λ q. line (record_line old.version old.price q) ++ after_line bytes) (sym is) ∙ ap (λ b. line (record_line old.version old.price r) ++ b) (sym (after_lines-one bytes))));
            rest = pass.rest;
            coming_is = next_record old new.left bytes at (sym left) ∙ (ap (λ o. unless o (with_more old.version new.left n bytes entry)) pass.none
                ∙ (ap (with_more old.version new.left n bytes) (sym is) ∙ ap (onto r) (sym new_coming)));
          }),
    )

pub record_stops : (old new : Reader) (source : Device) (fault : CertFault) → old.stage ≡ InRecords → 0 < old.left
    → Reads (record_text_fault old.version old.price (old.lines.line + 1)) 1 (λ bytes. record_in old.version old.price (first_text bytes)) old.lines new.lines source (Err fault) → IsRefused old source fault
record_stops old new source fault at some reads = refused_by old source (record_text_fault old.version old.price (old.lines.line + 1)) fault reads.stopped (λ bytes f is.
    let k = old.left - 1 in
    next_record old k bytes at (omega (arith, some)) ∙ ap (λ o. unless o (with_more old.version k (old.lines.line + 1) bytes (record_in old.version old.price (first_text bytes)))) is)

-- the end
no_records : (version before n : ℕ) (bytes : List ℕ) → read_records version before 0 n bytes ≡ stopped (end_fault n bytes)
unfolding read_records
no_records version before n bytes = refl

coming_finish : (old : Reader) (stage : Stage) (bytes : List ℕ) → old.stage ≡ stage → stage ≢ AtHeader → old.left ≡ 0 → to_come old bytes ≡ stopped (finish_fault stage (old.lines.line + 1) bytes)
coming_finish old AtHeader bytes at other none = absurd (other refl)
coming_finish old InRecords bytes at other none = coming_records old bytes at ∙ (ap (λ k. read_records old.version old.price k (old.lines.line + 1) bytes) none ∙ no_records old.version old.price (old.lines.line + 1) bytes)
coming_finish old AtEnd bytes at other none = coming_end old bytes at

-- nothing is left after the end
nothing_after : (stage : Stage) (n : ℕ) (bytes : List ℕ) → finish_fault stage n bytes ≡ None → after_lines (lines_left stage) bytes ≡ []
nothing_after AtHeader n bytes none = after_lines-one bytes ∙ nothing_read (n + 1) (after_line bytes) (no_either (first_fault n end_slots bytes) (trailing (n + 1) (after_line bytes)) none).1
nothing_after InRecords n bytes none = after_lines-one bytes ∙ nothing_read (n + 1) (after_line bytes) (no_either (first_fault n end_slots bytes) (trailing (n + 1) (after_line bytes)) none).1
nothing_after AtEnd n bytes none = after_lines-zero bytes ∙ nothing_read n bytes none

end_of : (a b : List ℕ) → a ++ b ≡ [] → b ≡ []
end_of [] b is = is
end_of (x ∷ a) b is = let wrong : x ∷ (a ++ b) ≡ [] = is in cc

-- where nothing is held or left, nothing is left
nothing_left : (at : Position) (left : Option (List ℕ)) → known at left ≡ Some [] → left ≡ Some []
nothing_left at left none = by left (known_some at left [] none).1
  where
    by : (o : Option (List ℕ)) → stands_in at.held o ≡ Some [] → o ≡ Some []
    by None is = let wrong : None ≡ Some [] = is in cc
    by (Some rest) is = let both : at.held ++ rest ≡ [] = cc in ap (λ r. Some r) (end_of at.held rest both)

pub end_goes : (old new : Reader) (source : Device) (stage : Stage) (v : Unit {0}) → old.stage ≡ stage → stage ≢ AtHeader → old.left ≡ 0 → new.stage ≡ AtEnd → new.left ≡ 0
    → Reads (finish_fault stage (old.lines.line + 1)) (lines_left stage) (λ bytes. tt) old.lines new.lines source (Ok v) → EndRead old new source (Ok v)
end_goes old new source stage v at other none now left reads = (
  now,
  left,
  if_known (known old.lines source.before) _ (λ bytes e.
      let pass = at_some (known old.lines source.before) bytes _ e reads.passes in
      let rest = pass.rest ∙ ap (λ b. Some b) (nothing_after stage (old.lines.line + 1) bytes pass.none) in
      (coming_finish old stage bytes at other none ∙ ap stopped pass.none, rest, nothing_left new.lines source.after rest)),
)

pub end_stops : (old new : Reader) (source : Device) (stage : Stage) (fault : CertFault) → old.stage ≡ stage → stage ≢ AtHeader → old.left ≡ 0
    → Reads {A = Unit {0}} (finish_fault stage (old.lines.line + 1)) (lines_left stage) (λ bytes. tt) old.lines new.lines source (Err fault) → IsRefused old source fault
end_stops old new source stage fault at other none reads = refused_by old source (finish_fault stage (old.lines.line + 1)) fault reads.stopped (λ bytes f is. coming_finish old stage bytes at other none ∙ ap stopped is)

-- a reader that has read nothing stands in what the source has left, and all of it is to come
pub fresh_known : (left : Option (List ℕ)) → known fresh.lines left ≡ left
fresh_known None = refl
fresh_known (Some bytes) = refl

pub fresh_coming : (bytes : List ℕ) → to_come fresh bytes ≡ reading bytes
fresh_coming bytes = refl
