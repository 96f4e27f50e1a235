-- The start of a walk, and its end.
use Rattle.std.proofs.Common.{◌≡◌, ℕ, ◌+◌, ◌-◌, ◌<◌, ◌≤◌, ◌∙◌, sym, refl, ap, subst, List, [], length, drop, arith, Option, Some, None, IfSome, IfErr, Ok, Err}
use Rattle.std.proofs.lemmas.List.{append-nil}
use Rattle.bound_io.specs.Devices.{device}
use Rattle.cache_rules.specs.Stored.{Requests}
use Rattle.cache_model.specs.declared.certificates.Header.{Header}
use Rattle.cache_model.specs.declared.certificates.Record.{Record}
use Rattle.cache_model.specs.Texts.{header_len}
use Rattle.trace_any.specs.Readings as traces
use Rattle.trace_any.specs.Readings.{is_marked}
use Rattle.trace_any.specs.Readers as requests
use Rattle.trace_any.specs.Readers.{IsWhole, bytes_after}
use Rattle.trace_any.specs.FirstLines.{HasGiven, HasLostFor}
use Rattle.trace_any.proofs.Through.{given_none}
use Rattle.trace_any.proofs.Coming.{fresh_to_come}
use Rattle.cert_format.specs.declared.fault.CertFault.{CertFault}
use Rattle.cert_checker.specs.declared.invalid.InvalidKind.{InvalidKind}
use Rattle.cert_checker.specs.declared.invalid.InvalidKind.TheVariants.{RequestCount}
use Rattle.cert_format.specs.declared.reader.Stage.TheVariants.{InRecords, AtEnd}
use Rattle.cert_format.specs.Grammar.{end_slots}
use Rattle.cert_format.specs.Lines.{known, IsPast, IsWithin}
use Rattle.cert_format.specs.Readings as certificates
use Rattle.cert_format.specs.Readings.{after_lines, bytes_through, first_fault, trailing, read_records}
use Rattle.bound_io.specs.Lines.{after_line}
use Rattle.cert_format.specs.Readers as lines
use Rattle.cert_format.proofs.Chains.{after_lines-add}
use Rattle.cert_format.proofs.Going.{fresh_known}
use Rattle.cert_format.proofs.Headers.{no_either}
use Rattle.cert_format.proofs.Taken.{after_lines-one, at_some, if_known}
use Rattle.cert_format.proofs.Wholes.{nothing_read}
use Rattle.cert_checker.specs.declared.verdict.Verdict.{Verdict}
use Rattle.cert_checker.specs.declared.walking.CheckFault.TheVariants as fault
use Rattle.cert_checker.specs.Answers.{IsYes}
use Rattle.cert_checker.specs.Checks.{Inputs, HasChecked, HasCheckedAll, HasAsked, IsFresh, IsCalm, IsStop, after_records, of_text}
use Rattle.cert_checker.specs.Keeping.{HasKept}
use Rattle.cert_checker.specs.Rules.{end_fault}
use Rattle.cert_checker.specs.Summaries.{StandsFor, Summary}
use Rattle.cert_checker.specs.Walks.{asked}
use Rattle.cert_checker.proofs.Marked.{none_marked}
use Rattle.cert_checker.proofs.OfText.{of_end}
use Rattle.cert_checker.proofs.Events.{asked_all, walked_too_few, walked_end_text, walked_end_rule, walked_all}
use Rattle.cert_checker.proofs.Stops.{asked_at, if_both, if_one, near_line, near_here, consumed_on, same_records, text_stop, through, walk_at}

-- nothing stands after the end
after_end : (cert : lines.Reader) (bytes : List ℕ) → cert.stage ≡ InRecords → cert.left ≡ 0 → lines.to_come cert bytes ≡ certificates.stopped None → after_lines 1 bytes ≡ []
unfolding read_records
after_end cert bytes at none over =
    let n = cert.lines.line + 1 in
    let coming : lines.to_come cert bytes ≡ certificates.stopped (certificates.end_fault n bytes) = ap (λ s. lines.coming s cert bytes) at ∙ ap (λ k. read_records cert.version cert.price k n bytes) none in
    let faultless : certificates.end_fault n bytes ≡ None = ap (λ r. r.fault) (sym coming ∙ over) in
    after_lines-one bytes ∙ nothing_read (n + 1) (after_line bytes) (no_either (first_fault n end_slots bytes) (trailing (n + 1) (after_line bytes)) faultless).1

-- two facts of the bytes that are known
both_known : (o : Option (List ℕ)) (P Q : List ℕ → Type 0) → IfSome o P → IfSome o Q → IfSome o (λ bytes. P bytes × Q bytes)
both_known None P Q p q = tt
both_known (Some bytes) P Q p q = (p, q)

module _ (start : Inputs) (h : Header) (given : Requests) (records : List Record) (now : Inputs) (checker : Summary) (ended : HasCheckedAll start h given records now checker) where
  input : length records ≡ length given.objects
  input = ended.stands.input.one_record_each

  within : length given.objects ≤ h.requests
  within = ended.stands.input.within

  -- the trace has lost all, as its end was asked for
  lost_all : (end : Inputs) → end.trace ≡ now.trace → HasAsked start end
  lost_all end same =
      if_both start.trace start.certificate _ _ _ (both_known start.trace _ _ ended.trace_read ended.trace_end) ended.records_read (λ b t p q.
      let many : asked (traces.reading start.reader.format start.reader.limits b) t ≡ length given.objects + 1 =
      asked_at start b t _ _ refl q.reading ∙ asked_all h given.objects given.fills records input within ended.stands.no_fault (traces.reading start.reader.format start.reader.limits b) (lines.to_come now.cert (after_lines now.cert.lines.line t)) p.0.requests p.0.marks in
      let size = ap length p.0.requests in
      if_known end.trace _ (λ l e.
      let gone : Some l ≡ Some [] = sym e ∙ (same ∙ p.1) in
      record { near = λ some. absurd (omega (arith, some, many, size)); all = λ fewer. cc }))

  -- fewer requests than the header says
  pub stop_few : (end : Inputs) → end.trace ≡ now.trace → end.cert ≡ now.cert → end.certificate ≡ now.certificate → length now.cert.lines.held ≤ 65536 → now.cert.lines.line ≡ header_len h + length given.objects → length given.objects < h.requests
      → IsStop start end (fault.Invalid (header_len h + length given.objects) (RequestCount h.requests (length given.objects)))
  stop_few end same_trace same_cert same_left held line_is fewer = record {
    event = (
      if_both start.trace start.certificate _ _ _ ended.trace_read ended.records_read (λ b t p q.
          walk_at start b t _ _ refl q.reading
          ∙ walked_too_few h given.objects given.fills records input within ended.stands.no_fault (traces.reading start.reader.format start.reader.limits b) (lines.to_come now.cert (after_lines now.cert.lines.line t)) p.requests p.marks p.stop fewer),
      tt,
    );
    near = (
      near_here h records start end (header_len h + length given.objects) (if_one start.certificate _ _ ended.records_read (λ t q. same_records h records now end t q same_cert same_left))
          (subst (λ (c : lines.Reader). length c.lines.held ≤ 65536) (sym same_cert) held)
          (subst (λ (c : lines.Reader). c.lines.line ≤ header_len h + length given.objects) (sym same_cert) (omega (arith, line_is))),
      lost_all end same_trace,
    );
  }

  module _ (full : length given.objects ≡ h.requests) (end : Inputs) (same_trace : end.trace ≡ now.trace) (held : length end.cert.lines.held ≤ 65536) (past : IfSome (known now.cert.lines now.certificate) (IsPast now.cert.lines end.cert.lines)) where
    -- the end is not read
    pub stop_end : (f : CertFault) → lines.IsRefused now.cert (device now.certificate end.certificate now.certificate_faults end.certificate_faults) f → IfErr {T = Unit {0}} (Err f) (IsWithin end.cert.lines.line) → IsStop start end (of_text f)
    stop_end f refused reached = text_stop start end now.cert now.certificate now.certificate_faults f refused (omega (arith, ended.calm.certificate)) reached
        (λ n low. near_line h records start now end n ended.records_read past held low) (λ g e event stopped.
        if_both start.trace start.certificate _ _ _ ended.trace_read ended.records_read (λ b t p q.
        walk_at start b t _ _ refl q.reading
        ∙ walked_end_text h given.objects given.fills records input within ended.stands.no_fault (traces.reading start.reader.format start.reader.limits b) (lines.to_come now.cert (after_lines now.cert.lines.line t)) p.requests p.marks p.stop full g e
        (at_some (known now.cert.lines now.certificate) _ _ q.stands_in stopped) event))
        (λ g e event stopped. lost_all end same_trace)
        (λ g stopped. if_one start.certificate _ _ ended.records_read (λ t q. ap (λ r. r.fault) q.reading ∙ ap (λ r. r.fault) (at_some (known now.cert.lines now.certificate) _ _ q.stands_in stopped)))

    module _ (read : IfSome (known now.cert.lines now.certificate) (λ bytes. (lines.to_come now.cert bytes ≡ certificates.stopped None) × (known end.cert.lines end.certificate ≡ Some []) × (end.certificate ≡ Some []))) where
      -- the end is read, and a rule fails
      pub stop_end_rule : (kind : InvalidKind) → now.cert.stage ≡ InRecords → now.cert.left ≡ 0 → now.cert.lines.line ≡ header_len h + length given.objects → end_fault h given.fills given.objects records ≡ Some kind → IsStop start end (fault.Invalid (header_len h + 1 + length given.objects) kind)
      stop_end_rule kind at none line_is fails = record {
        event = (
          if_both start.trace start.certificate _ _ _ ended.trace_read ended.records_read (λ b t p q.
              walk_at start b t _ _ refl q.reading
              ∙ walked_end_rule h given.objects given.fills records input within ended.stands.no_fault (traces.reading start.reader.format start.reader.limits b) (lines.to_come now.cert (after_lines now.cert.lines.line t)) p.requests p.marks p.stop full kind
              (at_some (known now.cert.lines now.certificate) _ _ q.stands_in read).0 fails),
          of_end start.certificate (header_len h + 1 + length given.objects) h given.fills given.objects records kind fails,
        );
        near = (
          if_one start.certificate _ _ ended.records_read (λ t q.
              let is = at_some (known now.cert.lines now.certificate) _ _ q.stands_in read in
              let next : now.cert.lines.line + 1 ≡ header_len h + 1 + length given.objects = omega (arith, line_is) in
              let over : after_lines (header_len h + 1 + length given.objects) t ≡ [] = ap (λ k. after_lines k t) (sym next) ∙ (after_lines-add now.cert.lines.line 1 t ∙ after_end now.cert (after_lines now.cert.lines.line t) at none is.0) in
              omega (arith, (consumed_on h records now end t q past).1, ap length over, held)),
          lost_all end same_trace,
        );
      }

      -- the end is read, and no rule fails
      pub passes : end.cert.stage ≡ AtEnd → end.reader ≡ now.reader → end.trace ≡ now.trace → IsCalm now end → (verdict : Verdict) → IsYes h given.fills given.objects records verdict → HasKept start end (record { verdict = verdict; trace = given; records = records })
      passes stage same_reader same_left calm verdict said = record {
        passed = record {
          requests = given;
          records = records;
          yes = subst (λ k. IsYes k given.fills given.objects records verdict) (sym said.header) said;
          trace = if_one start.trace _ _ ended.trace_read (λ b p. subst (λ (r : requests.Reader). IsWhole (traces.reading start.reader.format start.reader.limits b) given r.dropped) (sym same_reader) p);
          noted = if_one start.trace _ _ ended.noted (λ b p. subst (λ (r : requests.Reader). (traces.reading start.reader.format start.reader.limits b).seen.noted ≡ r.seen.noted) (sym same_reader) p);
          certificate = if_one start.certificate _ _ ended.records_read (λ t q.
              let is = at_some (known now.cert.lines now.certificate) _ _ q.stands_in read in
              q.reading ∙ (ap (after_records h records) is.0 ∙ (ap (λ rs. certificates.whole h rs) (append-nil records) ∙ ap (λ k. certificates.whole k records) (sym said.header))));
          walked = if_both start.trace start.certificate _ _ _ ended.trace_read ended.records_read (λ b t p q.
              walk_at start b t _ _ refl q.reading
              ∙ walked_all h given.objects given.fills records input within ended.stands.no_fault (traces.reading start.reader.format start.reader.limits b) (lines.to_come now.cert (after_lines now.cert.lines.line t)) p.requests p.marks p.stop full
              (at_some (known now.cert.lines now.certificate) _ _ q.stands_in read).0 said.no_fault);
          trace_end = if_one start.trace _ _ ended.trace_end (λ b p. same_left ∙ p);
          certificate_end = if_one start.certificate _ _ ended.records_read (λ t q. (at_some (known now.cert.lines now.certificate) _ _ q.stands_in read).2);
          stage = stage;
          calm = record { trace = calm.trace ∙ ended.calm.trace; certificate = calm.certificate ∙ ended.calm.certificate };
        };
        trace = refl;
        records = refl;
      }

module _ (start : Inputs) (fresh_reader : IsFresh start.reader) (fresh_cert : start.cert ≡ lines.fresh) where
  known_start : (t : List ℕ) → start.certificate ≡ Some t → known start.cert.lines start.certificate ≡ Some t
  known_start t e = ap (λ (c : lines.Reader). known c.lines start.certificate) fresh_cert ∙ (fresh_known start.certificate ∙ e)

  reading_is : (t : List ℕ) → certificates.reading t ≡ lines.to_come start.cert t
  reading_is t = ap (λ c. lines.to_come c t) (sym fresh_cert)

  -- the bytes of the lines of the header
  consumed_first : (end : Inputs) (t : List ℕ) → start.certificate ≡ Some t → IfSome (known start.cert.lines start.certificate) (IsPast start.cert.lines end.cert.lines) → end.cert.lines.consumed ≡ bytes_through end.cert.lines.line t
  consumed_first end t e past =
      let is = at_some (known start.cert.lines start.certificate) t _ (known_start t e) past in
      let line_is : end.cert.lines.line - 0 ≡ end.cert.lines.line = omega arith in
      let all : 0 + bytes_through (end.cert.lines.line - 0) t ≡ bytes_through (end.cert.lines.line - 0) t = omega arith in
      is.consumed ∙ (ap (λ (c : lines.Reader). c.lines.consumed + bytes_through (end.cert.lines.line - c.lines.line) t) fresh_cert ∙ (all ∙ ap (λ k. bytes_through k t) line_is))

  module _ (end : Inputs) (past : IfSome (known start.cert.lines start.certificate) (IsPast start.cert.lines end.cert.lines)) where
    -- the header is not read
    pub stop_header : (f : CertFault) → end.trace ≡ start.trace → lines.IsRefused start.cert (device start.certificate end.certificate start.certificate_faults end.certificate_faults) f → IfErr {T = Unit {0}} (Err f) (IsWithin end.cert.lines.line)
        → length end.cert.lines.held ≤ 65536 → IsStop start end (of_text f)
    stop_header f same_trace refused reached held = text_stop start end start.cert start.certificate start.certificate_faults f refused (omega arith) reached
        (λ n low. if_known start.certificate _ (λ t e. omega (arith, consumed_first end t e past, through end.cert.lines.line n t low, held)))
        (λ g event is stopped. if_known start.trace _ (λ b eb. if_known start.certificate _ (λ t e.
        walk_at start b t (traces.reading start.reader.format start.reader.limits b) (certificates.stopped (Some g)) refl
        (reading_is t ∙ at_some (known start.cert.lines start.certificate) t _ (known_start t e) stopped) ∙ is)))
        (λ g event is stopped. if_known start.trace _ (λ b eb. if_known start.certificate _ (λ t e. if_known end.trace _ (λ l el.
        let none : asked (traces.reading start.reader.format start.reader.limits b) t ≡ 0 =
        asked_at start b t (traces.reading start.reader.format start.reader.limits b) (certificates.stopped (Some g)) refl (reading_is t ∙ at_some (known start.cert.lines start.certificate) t _ (known_start t e) stopped) in
        let still : Some l ≡ Some b = sym el ∙ (same_trace ∙ eb) in
        let same : l ≡ b = cc in
        subst (λ n. HasLostFor start.reader.format start.reader.limits n b l) (sym none) (record { near = λ _ lines some. omega (arith, ap length same); all = λ fewer. absurd (omega (arith, fewer)) })))))
        (λ g stopped. if_known start.certificate _ (λ t e. ap (λ r. r.fault) (reading_is t) ∙ ap (λ r. r.fault) (at_some (known start.cert.lines start.certificate) t _ (known_start t e) stopped)))

    -- the header is read
    pub opens : (h : Header) (checker : Summary) → lines.HeaderRead start.cert end.cert (device start.certificate end.certificate start.certificate_faults end.certificate_faults) (Ok h)
        → end.reader ≡ start.reader → end.trace ≡ start.trace → StandsFor h [] [] [] checker → IsCalm start end → HasChecked start h (record { objects = []; fills = [] }) [] end checker
    opens h checker read same_reader same_left stands calm = record {
      stands = stands;
      marked = none_marked (is_marked end.reader.format);
      same_format = ap (λ (r : requests.Reader). r.format) same_reader;
      trace_read = if_known start.trace _ (λ b e. record {
        rest = b;
        stands_in = ap (λ (r : requests.Reader). requests.known r end.trace) same_reader ∙ (ap (requests.known start.reader) same_left
            ∙ (ap (λ (r : requests.Reader). requests.known r start.trace) fresh_reader ∙ ap (requests.known (requests.fresh start.reader.format start.reader.limits)) e));
        begins = fresh_reader;
        gone = subst (λ (r : requests.Reader). HasGiven [] [] start.reader r b) (sym same_reader) (given_none start.reader b);
        rest_is =
            let none : start.reader.lines.consumed - start.reader.lines.consumed ≡ 0 = omega arith in
            ap (λ n. drop n b) (sym none) ∙ ap (λ (r : requests.Reader). bytes_after start.reader r b) (sym same_reader);
        reading = sym (fresh_to_come start.reader.format start.reader.limits b) ∙ (ap (λ (r : requests.Reader). requests.to_come r b) (sym fresh_reader) ∙ ap (λ (r : requests.Reader). requests.to_come r b) (sym same_reader));
      });
      records_read = if_known start.certificate _ (λ t e.
          let is = at_some (known start.cert.lines start.certificate) t _ (known_start t e) read.5 in
          record {
            stands_in = is.rest ∙ ap (λ k. Some (after_lines k t)) (sym read.4);
            reading = reading_is t ∙ (is.coming_is ∙ ap (λ k. certificates.under h (lines.to_come end.cert (after_lines k t))) (sym read.4));
            consumed = consumed_first end t e past;
          });
      calm = calm;
    }
