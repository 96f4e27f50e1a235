-- A certificate that is read, and written in the second version as it is.
use Rattle.std.proofs.Common.{◌≡◌, ◌∙◌, ℕ, ◌+◌, ◌-◌, ◌≤◌, sym, ap, arith, Bool, List, [], ◌∷◌, ◌++◌, append_assoc, append-nil, length, length-append, codes, All, Some, None, IfSome, IfErr, Ok, Err}
use Rattle.std.specs.declared.option.Option.{Option}
use Rattle.std.proofs.lemmas.List.Elements.{All-nil, All-push}
use Rattle.std.proofs.lemmas.List.Concat.{flat_map-append}
use Rattle.bound_io.specs.Devices.{Device, device}
use Rattle.bound_io.specs.Reading.{LosesPrefix}
use Rattle.cache_model.specs.declared.objects.Object.{Object}
use Rattle.cache_model.specs.declared.certificates.Header.{Header}
use Rattle.cache_model.specs.declared.certificates.Record.{Record}
use Rattle.cache_model.specs.declared.version.TheConstants.{SHORT_VERSION}
use Rattle.cache_model.specs.Certificates.{IsHeaderInRange, IsRecordInRange, IsValid}
use Rattle.cache_model.specs.Texts.{header_lines, line, record_line, record_lines, text_of}
use Rattle.cache_model.proofs.RecordLines.{last_price, last_price-append, record_lines-append}
use Rattle.trace_any.specs.Readings.{full_limits, webcache_form}
use Rattle.trace_any.specs.Readers as requests
use Rattle.cert_format.specs.declared.fault.CertFault.{CertFault}
use Rattle.cert_format.specs.declared.fault.CertFault.TheVariants as text
use Rattle.cert_format.specs.declared.reader.Stage.TheVariants.{InRecords}
use Rattle.cert_format.specs.Lines.{known, IsPast, IsTaken, IsWithin}
use Rattle.cert_format.specs.Readers as lines
use Rattle.cert_format.specs.Readings.{after_lines, bytes_through, reading, stopped, under, whole}
use Rattle.cert_format.proofs.Chains.{loses_both, taken_both}
use Rattle.cert_format.proofs.Going.{fresh_known}
use Rattle.cert_format.proofs.Taken.{at_some, if_known}
use Rattle.cert_checker.specs.Checks.{Inputs, HasRecords, inputs, of_text, taken}
use Rattle.cert_checker.specs.Walks.{text_event}
use Rattle.cert_checker.proofs.Stops.{if_one, near_line, new_fault_since, one_record, through}
use Rattle.bound_report.specs.Upgrades.{upgrade_text}
use Rattle.bound_run.specs.Statuses.{refusal_of_check}
use Rattle.bound_run.specs.Upgrades.{IsNearLineOf, IsRewritten, IsUpgraded, upgraded}
use Rattle.bound_run.specs.Refusals.{RefusesUpgrade}
use Rattle.bound_run.proofs.HeaderRanges.{still_in_range}
use Rattle.bound_run.proofs.Judged.{texts_of_whole}
use Rattle.cert_format.proofs.Written.{three_parts}

-- a reader of a certificate and its source, if nothing is said of a trace
abbrev pub at_cert : lines.Reader → Option (List ℕ) → ℕ → Inputs
at_cert cert left faults = inputs (requests.fresh webcache_form full_limits) None 0 cert left faults

-- the header and these records were read, and written in the second version
pub record HasRewritten (before : Option (List ℕ)) (faults : ℕ) (h : Header) (cert : lines.Reader) (left : Option (List ℕ)) (faults_now : ℕ) (written : List ℕ) (records : List Record) : Type 0 where
  pub header : IsHeaderInRange h
  pub in_range : All IsRecordInRange records
  pub count : length records + cert.left ≡ h.requests
  pub stage : cert.stage ≡ InRecords
  pub no_fault : cert.fault ≡ None
  pub price : cert.price ≡ last_price 0 records
  pub text : written ≡ text_of (header_lines (upgraded h)) ++ text_of (record_lines SHORT_VERSION 0 records)
  pub read : IfSome before (HasRecords h records (at_cert cert left faults_now))
  pub later : faults ≤ faults_now
  pub loses : LosesPrefix before left
  pub taken : IsTaken lines.fresh.lines cert.lines before left

-- little was read beyond a line that was reached
near_of : (before after : Option (List ℕ)) (x y n : ℕ) (end : lines.Reader) → IsTaken lines.fresh.lines end.lines before after → IfSome before (λ t. taken end ≤ bytes_through n t + 65536) → IsNearLineOf n (device before after x y)
near_of None after x y n end lost most = tt
near_of (Some t) None x y n end lost most = tt
near_of (Some t) (Some l) x y n end lost most = omega (arith, lost, most)

-- a fault of the certificate refuses its upgrade
pub refused_by : (before left after : Option (List ℕ)) (x y z : ℕ) (cert end : lines.Reader) (f : CertFault) → lines.IsRefused cert (device left after y z) f → x ≤ y → IfErr {T = Unit {0}} (Err f) (IsWithin end.lines.line)
    → ((n : ℕ) → end.lines.line ≤ n → IfSome before (λ t. taken end ≤ bytes_through n t + 65536))
    → ((g : CertFault) → IfSome (known cert.lines left) (λ bytes. lines.to_come cert bytes ≡ stopped (Some g)) → IfSome before (λ t. (reading t).fault ≡ Some g))
    → IsTaken lines.fresh.lines end.lines before after → RefusesUpgrade (device before after x z) (refusal_of_check (of_text f))
refused_by before left after x y z cert end (text.BadText n kind) why later within near fault_is lost =
    (if_one before _ _ (fault_is (text.BadText n kind) why) (λ t is. ap text_event is), near_of before after x z n end lost (near n within))
refused_by before left after x y z cert end (text.Truncated n) why later within near fault_is lost =
    (if_one before _ _ (fault_is (text.Truncated n) why) (λ t is. ap text_event is), near_of before after x z n end lost (near n within))
refused_by before left after x y z cert end (text.Trailing n) why later within near fault_is lost =
    (if_one before _ _ (fault_is (text.Trailing n) why) (λ t is. ap text_event is), near_of before after x z n end lost (near n within))
refused_by before left after x y z cert end text.ReadFault why later within near fault_is lost = new_fault_since x y z later why

-- the header

module _ (before after : Option (List ℕ)) (x z : ℕ) (end : lines.Reader) where
  -- the bytes of the lines of the header
  consumed_first : (t : List ℕ) → before ≡ Some t → IfSome (known lines.fresh.lines before) (IsPast lines.fresh.lines end.lines) → end.lines.consumed ≡ bytes_through end.lines.line t
  consumed_first t e past =
      let is = at_some (known lines.fresh.lines before) t _ (fresh_known before ∙ e) past in
      let line_is : end.lines.line - 0 ≡ end.lines.line = omega arith in
      omega (arith, is.consumed, ap (λ k. bytes_through k t) line_is)

  pub header_refused : (f : CertFault) → lines.IsRefused lines.fresh (device before after x z) f → IfErr {T = Unit {0}} (Err f) (IsWithin end.lines.line) → IfSome (known lines.fresh.lines before) (IsPast lines.fresh.lines end.lines)
      → length end.lines.held ≤ 65536 → IsTaken lines.fresh.lines end.lines before after → RefusesUpgrade (device before after x z) (refusal_of_check (of_text f))
  header_refused f why within past held lost = refused_by before before after x x z lines.fresh end f why (omega arith) within
      (λ n low. if_known before _ (λ t e. omega (arith, consumed_first t e past, through end.lines.line n t low, held)))
      (λ g stops. if_known before _ (λ t e. ap (λ r. r.fault) (at_some (known lines.fresh.lines before) t _ (fresh_known before ∙ e) stops)))
      lost

  pub header_rewritten : (h : Header) (written : List ℕ) → IsHeaderInRange h → lines.HeaderRead lines.fresh end (device before after x z) (Ok h) → end.fault ≡ None → IfSome (known lines.fresh.lines before) (IsPast lines.fresh.lines end.lines)
      → IsTaken lines.fresh.lines end.lines before after → LosesPrefix before after → x ≤ z → written ≡ text_of (header_lines (upgraded h))
      → HasRewritten before x h end after z written []
  header_rewritten h written range read none past lost loses later is = record {
    header = range;
    in_range = All-nil IsRecordInRange;
    count = omega (arith, read.1);
    stage = read.0;
    no_fault = none;
    price = read.3;
    text = is ∙ sym (append-nil (text_of (header_lines (upgraded h))));
    read = if_known before _ (λ t e.
        let goes = at_some (known lines.fresh.lines before) t _ (fresh_known before ∙ e) read.5 in
        record {
          stands_in = goes.rest ∙ ap (λ k. Some (after_lines k t)) (sym read.4);
          reading = goes.coming_is ∙ ap (λ k. under h (lines.to_come end (after_lines k t))) (sym read.4);
          consumed = consumed_first t e past;
        });
    later = later;
    loses = loses;
    taken = lost;
  }

-- a record

module _ (before left after : Option (List ℕ)) (x y z : ℕ) (h : Header) (cert end : lines.Reader) (written : List ℕ) (records : List Record) (so_far : HasRewritten before x h cert left y written records) where
  -- what is taken through the call
  lost_through : LosesPrefix left after → IsTaken cert.lines end.lines left after → IsTaken lines.fresh.lines end.lines before after
  lost_through loses lost = taken_both lines.fresh.lines cert.lines end.lines before left after so_far.loses so_far.taken lost

  pub record_refused : (f : CertFault) → lines.IsRefused cert (device left after y z) f → IfErr {T = Unit {0}} (Err f) (IsWithin end.lines.line) → IfSome (known cert.lines left) (IsPast cert.lines end.lines)
      → length end.lines.held ≤ 65536 → IsTaken cert.lines end.lines left after → LosesPrefix left after → RefusesUpgrade (device before after x z) (refusal_of_check (of_text f))
  record_refused f why within past held lost loses = refused_by before left after x y z cert end f why so_far.later within
      (λ n low. near_line h records (at_cert lines.fresh before x) (at_cert cert left y) (at_cert end after z) n so_far.read past held low)
      (λ g stops. if_one before _ _ so_far.read (λ t has. ap (λ r. r.fault) has.reading ∙ ap (λ r. r.fault) (at_some (known cert.lines left) _ _ has.stands_in stops)))
      (lost_through loses lost)

  pub record_rewritten : (r : Record) (rewritten : List ℕ) → IsRecordInRange r → lines.RecordRead cert end (device left after y z) (Ok r) → end.fault ≡ None → IfSome (known cert.lines left) (IsPast cert.lines end.lines)
      → IsTaken cert.lines end.lines left after → LosesPrefix left after → y ≤ z → rewritten ≡ written ++ line (record_line SHORT_VERSION cert.price r)
      → HasRewritten before x h end after z rewritten (records ++ r ∷ [])
  record_rewritten r rewritten range read none past lost loses later is = record {
    header = so_far.header;
    in_range = All-push IsRecordInRange records r so_far.in_range range;
    count = omega (arith, so_far.count, read.1, length-append records (r ∷ []));
    stage = read.0;
    no_fault = none;
    price = read.3 ∙ sym (last_price-append 0 records r);
    text =
        let head : List ℕ = text_of (header_lines (upgraded h)) in
        let lines_so_far : List (List ℕ) = record_lines SHORT_VERSION 0 records in
        let last : List ℕ = record_line SHORT_VERSION (last_price 0 records) r in
        is ∙ ap (λ p. written ++ line (record_line SHORT_VERSION p r)) so_far.price ∙ ap (λ w. w ++ line last) so_far.text ∙ append_assoc head (text_of lines_so_far) (line last)
        ∙ ap (λ xs. head ++ xs) (ap (λ xs. text_of lines_so_far ++ xs) (sym (append-nil (line last))) ∙ sym (flat_map-append line lines_so_far (last ∷ [])) ∙ ap text_of (sym (record_lines-append SHORT_VERSION 0 records r)));
    read = if_one before _ _ so_far.read (λ t has. one_record h records r (line (record_line cert.version cert.price r)) (at_cert cert left y) (at_cert end after z) t has read.4 read.5 past);
    later = omega (arith, so_far.later, later);
    loses = loses_both before left after so_far.loses loses;
    taken = lost_through loses lost;
  }

  -- the end

  pub all_rewritten : (rewritten : List ℕ) → cert.left ≡ 0 → lines.EndRead {A = Unit {0}} cert end (device left after y z) (Ok tt) → rewritten ≡ written ++ line (codes "end") → IsRewritten (device before after x z) h rewritten
  all_rewritten rewritten full read is = record {
    records = records;
    read = record {
      certificate = record { header = so_far.header; count = omega (arith, so_far.count, full); each = so_far.in_range };
      text = texts_of_whole before h records (if_one before _ _ so_far.read (λ t has.
          let stops = at_some (known cert.lines left) _ _ has.stands_in read.2 in
          has.reading ∙ ap (λ c. record { header = Some h; records = records ++ c.records; fault = c.fault }) stops.0 ∙ ap (λ rs. whole h rs) (append-nil records)));
      nothing_left = if_one before _ _ so_far.read (λ t has. (at_some (known cert.lines left) _ _ has.stands_in read.2).2);
    };
    text =
        let head : List (List ℕ) = header_lines (upgraded h) in
        let all : List (List ℕ) = record_lines SHORT_VERSION 0 records in
        is ∙ ap (λ w. w ++ line (codes "end")) so_far.text ∙ three_parts head all (codes "end");
  }

-- a valid certificate is valid in each version of its text
as_valid : (trace : List Object) (fills : List Bool) (h : Header) (version : ℕ) (records : List Record) → IsHeaderInRange (record h { version = version }) → IsValid trace fills h records → IsValid trace fills (record h { version = version }) records
as_valid trace fills h version records range valid = record {
  certificate = record { header = range; count = valid.certificate.count; each = valid.certificate.each };
  requests = valid.requests;
  sum_limit = valid.sum_limit;
  last_price = valid.last_price;
  unit = valid.unit;
  keeps = valid.keeps;
  lower = valid.lower;
  unused_flows = valid.unused_flows;
  flows = valid.flows;
  flow = valid.flow;
  upper = valid.upper;
  whole_costs = valid.whole_costs;
  exact_values = valid.exact_values;
}

-- a header in range is in range in the second version
upgraded_in_range : (h : Header) → IsHeaderInRange h → IsHeaderInRange (upgraded h)
upgraded_in_range h range = still_in_range h h.upper SHORT_VERSION range range.upper (omega arith, omega arith)

-- what was rewritten is the upgrade of all that was read
pub upgraded_of : (source : Device) (h : Header) (written report : List ℕ) → IsRewritten source h written → report ≡ upgrade_text h.requests → IsUpgraded source written report
upgraded_of source h written report is report_is =
    let range : IsHeaderInRange h = is.read.certificate.header in
    record {
      header = h;
      records = is.records;
      read = is.read;
      cert_is = is.text;
      report_is = report_is;
      same_traces = λ trace fills. (as_valid trace fills h SHORT_VERSION is.records (upgraded_in_range h range), as_valid trace fills (upgraded h) h.version is.records range);
    }

-- the same bytes
pub rewritten_as : (source : Device) (h : Header) (written bytes : List ℕ) → bytes ≡ written → IsRewritten source h written → IsRewritten source h bytes
rewritten_as source h written bytes same is = record { records = is.records; read = is.read; text = same ∙ is.text }
