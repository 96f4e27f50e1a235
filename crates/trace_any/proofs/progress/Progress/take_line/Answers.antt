use Rattle.std.proofs.Common.{◌≡◌, ◌<◌, refl, arith, ap, sym, ◌∙◌, subst, IfSome, Some, None, Ok}
use Rattle.trace_any.specs.Readers.{LineTaken, IsOver, GoesOn, Ahead, known, to_come, with_ahead_by}
use Rattle.trace_any.specs.LineContent.{answer_of, content_by, volume_of}
use Rattle.std.specs.Option.{option_map}
use Rattle.trace_any.specs.declared.progress.Range.{Range}
use Rattle.trace_any.specs.Readings.{fault_of}
use Rattle.trace_any.specs.declared.fault.TraceFault.TheVariants.{BadLine, NoMemory}
use Rattle.trace_any.specs.contracts.progress.Progress.{the_view}
use Rattle.trace_any.proofs.Coming.{lines_refused, goes_onward, taken_err, takes_up, refused_line, goes_blank, goes_asked, is_asked, with_lines}
use Rattle.bound_io.specs.Devices.{seen}
use Rattle.std.specs.Result.{IfErr}
use Rattle.trace_any.specs.FirstLines.{GoesNoFurther, StandsAfter, StopsNoFurther}
use Rattle.trace_any.proofs.NextPieces.{is_given}
use Rattle.trace_any.proofs.Stopping.{not_past_next, of_fault, stands_after_refused, stands_after_unnamed, stands_still}
use Rattle.trace_any.proofs.Through.{reads_line, through_asked, through_blank}
use Rattle.trace_any.proofs.progress.Progress.take_line.Goals as goal

-- the blocks of the code, as those of the reader
abbrev range_ahead : Range → Ahead
range_ahead r = record { volume = r.volume; stamp = record { time = r.time; fills = r.fills }; first = r.first; count = r.count; size = r.size }

pub returns-in_err-text-clause-taken : goal.returns-in_err-text-clause-taken
returns-in_err-text-clause-taken g c =
    let is = c.self.view_is in
    let s = the_view c.self.inside in
    let l = c.next_piece.follows.lender-at-none in
    let f = c.in_err-text.ensures in
    let none : c.self.inside.ahead.count ≡ 0 = ap (λ r. r.ahead.count) is ∙ c.requires.nothing_ahead in
    let new = with_lines s l in
    let why = lines_refused s new _ _ _ c.in_err-text.field-0.0 none (c.self.invariant.3) (c.self.invariant.4) refl (rw (c.has_records-records.ensures) at f.refused) in
    subst (λ r. LineTaken r new (known r (g.S.Source.left c.args.source.now)) (known new (g.S.Source.left c.next_piece.new.source)) (g.S.Source.faults c.args.source.now) (g.S.Source.faults c.next_piece.new.source) c.from_residual.result) is
    (taken_err s new _ _ _ _ (fault_of c.in_err-text.field-0.0) c.from_residual.result (c.from_residual.ensures.0) (c.from_residual.ensures.1) why)

pub returns-in-Err-clause-taken : goal.returns-in-Err-clause-taken
returns-in-Err-clause-taken g c =
    let is = c.self.view_is in
    let s = the_view c.self.inside in
    let l = c.next_piece.follows.lender-at-none in
    let f = c.in_ok-text.ensures in
    let none : c.self.inside.ahead.count ≡ 0 = ap (λ r. r.ahead.count) is ∙ c.requires.nothing_ahead in
    let gives = rw (c.in_ok-text.was, c.in-Some.is, c.has_records-records.ensures) at (c.next_piece.follows.holds-at-none.0) in
    let takes = takes_up s l _ _ c.in-Some.text.now none (c.self.invariant.3) gives (rw (c.in-Some.is, c.has_records-records.ensures) at f.text) (rw (c.in-Some.is) at f.short) in
    let said = sym (c.content_of.ensures.content_named) ∙ ap answer_of c.in-Err.is in
    subst (λ r. IfSome (known r (g.S.Source.left c.args.source.now)) (λ bytes. IsOver (to_come r bytes) s.dropped (Some (BadLine c.line.result c.in-Err.kind)))) is
    (rw (c.line.ensures) (refused_line s l c.in-Err.kind _ _ _ said takes))

pub returns-in-Some-range_of-clause-taken : goal.returns-in-Some-range_of-clause-taken
returns-in-Some-range_of-clause-taken g c =
    let is = c.self.view_is in
    let s = the_view c.self.inside in
    let l = c.next_piece.follows.lender-at-none in
    let f = c.in_ok-text.ensures in
    let none : c.self.inside.ahead.count ≡ 0 = ap (λ r. r.ahead.count) is ∙ c.requires.nothing_ahead in
    let gives = rw (c.in_ok-text.was, c.in-Some.is, c.has_records-records.ensures) at (c.next_piece.follows.holds-at-none.0) in
    let takes = takes_up s l _ _ c.in-Some.text.now none (c.self.invariant.3) gives (rw (c.in-Some.is, c.has_records-records.ensures) at f.text) (rw (c.in-Some.is) at f.short) in
    let content = c.in-Some-content.content in
    let said = sym (c.content_of.ensures.content_named) ∙ (ap answer_of c.in-Ok.is ∙ ap (λ w. answer_of (Ok w)) c.in-Some-content.is) in
    let goes = goes_asked s l (content_by content) _ _ _ said none takes in
    let moved = with_lines s l in
    let new = is_asked moved (volume_of content.volume) (record { time = content.time; fills = content.fills }) content.span _ _ _ (c.in_ok-volume.ensures.number) (c.in_ok-volume.ensures.volumes) (sym (c.range_of.ensures.ahead) ∙ ap (option_map range_ahead) c.in-Some-range_of.is) in
    subst (λ r. (r.lines.consumed < l.consumed) × IfSome (known r (g.S.Source.left c.args.source.now)) (λ bytes. GoesOn (λ x. x) r (with_ahead_by (record moved { volumes = c.number_of.new.volumes }) (Some (range_ahead c.in-Some-range_of.range))) bytes (known moved (g.S.Source.left c.next_piece.new.source)))) is
    ((is_given _ _ _ _ _ gives).some, subst (λ n. IfSome (known s (g.S.Source.left c.args.source.now)) (λ bytes. GoesOn (λ x. x) s n bytes (known moved (g.S.Source.left c.next_piece.new.source)))) new goes)

pub returns-in-None-clause-taken : goal.returns-in-None-clause-taken
returns-in-None-clause-taken g c =
    let is = c.self.view_is in
    let s = the_view c.self.inside in
    let l = c.next_piece.follows.lender-at-none in
    let f = c.in_ok-text.ensures in
    let none : c.self.inside.ahead.count ≡ 0 = ap (λ r. r.ahead.count) is ∙ c.requires.nothing_ahead in
    let gives = rw (c.in_ok-text.was, c.in-Some.is, c.has_records-records.ensures) at (c.next_piece.follows.holds-at-none.0) in
    let takes = takes_up s l _ _ c.in-Some.text.now none (c.self.invariant.3) gives (rw (c.in-Some.is, c.has_records-records.ensures) at f.text) (rw (c.in-Some.is) at f.short) in
    let content = c.in-Some-content.content in
    let said = sym (c.content_of.ensures.content_named) ∙ (ap answer_of c.in-Ok.is ∙ ap (λ w. answer_of (Ok w)) c.in-Some-content.is) in
    let goes = goes_asked s l (content_by content) _ _ _ said none takes in
    let moved = with_lines s l in
    let new = is_asked moved (volume_of content.volume) (record { time = content.time; fills = content.fills }) content.span _ _ _ (c.in_ok-volume.ensures.number) (c.in_ok-volume.ensures.volumes) (sym (c.range_of.ensures.ahead) ∙ ap (option_map range_ahead) c.in-None.is) in
    subst (λ r. (r.lines.consumed < l.consumed) × IfSome (known r (g.S.Source.left c.args.source.now)) (λ bytes. GoesOn (λ x. x) r (with_ahead_by (record moved { volumes = c.number_of.new.volumes }) None) bytes (known moved (g.S.Source.left c.next_piece.new.source)))) is
    ((is_given _ _ _ _ _ gives).some, subst (λ n. IfSome (known s (g.S.Source.left c.args.source.now)) (λ bytes. GoesOn (λ x. x) s n bytes (known moved (g.S.Source.left c.next_piece.new.source)))) new goes)

pub returns-in_default-content-clause-taken : goal.returns-in_default-content-clause-taken
returns-in_default-content-clause-taken g c =
    let is = c.self.view_is in
    let s = the_view c.self.inside in
    let l = c.next_piece.follows.lender-at-none in
    let f = c.in_ok-text.ensures in
    let none : c.self.inside.ahead.count ≡ 0 = ap (λ r. r.ahead.count) is ∙ c.requires.nothing_ahead in
    let gives = rw (c.in_ok-text.was, c.in-Some.is, c.has_records-records.ensures) at (c.next_piece.follows.holds-at-none.0) in
    let takes = takes_up s l _ _ c.in-Some.text.now none (c.self.invariant.3) gives (rw (c.in-Some.is, c.has_records-records.ensures) at f.text) (rw (c.in-Some.is) at f.short) in
    let said = sym (c.content_of.ensures.content_named) ∙ ap answer_of c.in-Ok.is in
    let blank : c.in-Ok.content ≡ None = c.in_default-content.is in
    let goes = goes_blank s l _ _ _ (said ∙ ap (λ w. answer_of (Ok w)) blank) none takes in
    subst (λ r. (r.lines.consumed < l.consumed) × IfSome (known r (g.S.Source.left c.args.source.now)) (λ bytes. GoesOn (λ x. x) r (with_lines s l) bytes (known (with_lines s l) (g.S.Source.left c.next_piece.new.source)))) is
    ((is_given _ _ _ _ _ gives).some, goes)

pub returns-in-Some-range_of-clause-lines : goal.returns-in-Some-range_of-clause-lines
returns-in-Some-range_of-clause-lines g c =
    let is = c.self.view_is in
    let s = the_view c.self.inside in
    let l = c.next_piece.follows.lender-at-none in
    let f = c.in_ok-text.ensures in
    let none : c.self.inside.ahead.count ≡ 0 = ap (λ r. r.ahead.count) is ∙ c.requires.nothing_ahead in
    let gives = rw (c.in_ok-text.was, c.in-Some.is, c.has_records-records.ensures) at (c.next_piece.follows.holds-at-none.0) in
    let reads = reads_line s l _ _ c.in-Some.text.now none (c.self.invariant.3) gives (rw (c.in-Some.is, c.has_records-records.ensures) at f.text) (rw (c.in-Some.is) at f.short) in
    let content = c.in-Some-content.content in
    let said = sym (c.content_of.ensures.content_named) ∙ (ap answer_of c.in-Ok.is ∙ ap (λ w. answer_of (Ok w)) c.in-Some-content.is) in
    let goes = through_asked s l (content_by content) _ _ said none reads in
    let moved = with_lines s l in
    let new = is_asked moved (volume_of content.volume) (record { time = content.time; fills = content.fills }) content.span _ _ _ (c.in_ok-volume.ensures.number) (c.in_ok-volume.ensures.volumes) (sym (c.range_of.ensures.ahead) ∙ ap (option_map range_ahead) c.in-Some-range_of.is) in
    λ _. subst (λ r. IfSome (known r (g.S.Source.left c.args.source.now)) (GoesNoFurther (λ x. x) r (with_ahead_by (record moved { volumes = c.number_of.new.volumes }) (Some (range_ahead c.in-Some-range_of.range))))) is
    (subst (λ n. IfSome (known s (g.S.Source.left c.args.source.now)) (GoesNoFurther (λ x. x) s n)) new goes)

pub returns-in-None-clause-lines : goal.returns-in-None-clause-lines
returns-in-None-clause-lines g c =
    let is = c.self.view_is in
    let s = the_view c.self.inside in
    let l = c.next_piece.follows.lender-at-none in
    let f = c.in_ok-text.ensures in
    let none : c.self.inside.ahead.count ≡ 0 = ap (λ r. r.ahead.count) is ∙ c.requires.nothing_ahead in
    let gives = rw (c.in_ok-text.was, c.in-Some.is, c.has_records-records.ensures) at (c.next_piece.follows.holds-at-none.0) in
    let reads = reads_line s l _ _ c.in-Some.text.now none (c.self.invariant.3) gives (rw (c.in-Some.is, c.has_records-records.ensures) at f.text) (rw (c.in-Some.is) at f.short) in
    let content = c.in-Some-content.content in
    let said = sym (c.content_of.ensures.content_named) ∙ (ap answer_of c.in-Ok.is ∙ ap (λ w. answer_of (Ok w)) c.in-Some-content.is) in
    let goes = through_asked s l (content_by content) _ _ said none reads in
    let moved = with_lines s l in
    let new = is_asked moved (volume_of content.volume) (record { time = content.time; fills = content.fills }) content.span _ _ _ (c.in_ok-volume.ensures.number) (c.in_ok-volume.ensures.volumes) (sym (c.range_of.ensures.ahead) ∙ ap (option_map range_ahead) c.in-None.is) in
    λ _. subst (λ r. IfSome (known r (g.S.Source.left c.args.source.now)) (GoesNoFurther (λ x. x) r (with_ahead_by (record moved { volumes = c.number_of.new.volumes }) None))) is
    (subst (λ n. IfSome (known s (g.S.Source.left c.args.source.now)) (GoesNoFurther (λ x. x) s n)) new goes)

pub returns-in_default-content-clause-lines : goal.returns-in_default-content-clause-lines
returns-in_default-content-clause-lines g c =
    let is = c.self.view_is in
    let s = the_view c.self.inside in
    let l = c.next_piece.follows.lender-at-none in
    let f = c.in_ok-text.ensures in
    let none : c.self.inside.ahead.count ≡ 0 = ap (λ r. r.ahead.count) is ∙ c.requires.nothing_ahead in
    let gives = rw (c.in_ok-text.was, c.in-Some.is, c.has_records-records.ensures) at (c.next_piece.follows.holds-at-none.0) in
    let reads = reads_line s l _ _ c.in-Some.text.now none (c.self.invariant.3) gives (rw (c.in-Some.is, c.has_records-records.ensures) at f.text) (rw (c.in-Some.is) at f.short) in
    let said = sym (c.content_of.ensures.content_named) ∙ ap answer_of c.in-Ok.is in
    let blank : c.in-Ok.content ≡ None = c.in_default-content.is in
    λ _. subst (λ r. IfSome (known r (g.S.Source.left c.args.source.now)) (GoesNoFurther (λ x. x) r (with_lines s l))) is (through_blank s l _ _ (said ∙ ap (λ w. answer_of (Ok w)) blank) none reads)

pub invariant_of-self : goal.invariant_of-self
invariant_of-self g c =
    let i = c.self.invariant in
    let next = c.next_piece.follows.holds-at-none in
    let lines = goes_onward _ _ _ c.self.inside.lines c.next_piece.follows.lender-at-none _ _ c.next_piece.result i.3 i.4 i.5 i.8 next.0 in
    (i.0, i.1, i.2, lines.limit, lines.within, lines.counted, next.1, i.7, lines.some_dropped, i.9, i.10, i.11, i.12, i.13)

pub invariant_of-self-in_default : goal.invariant_of-self-in_default
invariant_of-self-in_default g c =
    let i = c.self.invariant in
    let next = c.next_piece.follows.holds-at-none in
    let lines = goes_onward _ _ _ c.self.inside.lines c.next_piece.follows.lender-at-none _ _ c.next_piece.result i.3 i.4 i.5 i.8 next.0 in
    (i.0, i.1, i.2, lines.limit, lines.within, lines.counted, next.1, i.7, lines.some_dropped, i.9, i.10, i.11, i.12, i.13)

pub invariant_of-self-in-Err : goal.invariant_of-self-in-Err
invariant_of-self-in-Err g c =
    let i = c.self.invariant in
    let next = c.next_piece.follows.holds-at-none in
    let lines = goes_onward _ _ _ c.self.inside.lines c.next_piece.follows.lender-at-none _ _ c.next_piece.result i.3 i.4 i.5 i.8 next.0 in
    (i.0, i.1, i.2, lines.limit, lines.within, lines.counted, next.1, i.7, lines.some_dropped, i.9, i.10, i.11, i.12, i.13)

pub invariant_of-self-in_default-content : goal.invariant_of-self-in_default-content
invariant_of-self-in_default-content g c =
    let i = c.self.invariant in
    let next = c.next_piece.follows.holds-at-none in
    let lines = goes_onward _ _ _ c.self.inside.lines c.next_piece.follows.lender-at-none _ _ c.next_piece.result i.3 i.4 i.5 i.8 next.0 in
    (i.0, i.1, i.2, lines.limit, lines.within, lines.counted, next.1, i.7, lines.some_dropped, i.9, i.10, i.11, i.12, i.13)

pub invariant_of-self-in_err-volume : goal.invariant_of-self-in_err-volume
invariant_of-self-in_err-volume g c =
    let i = c.self.invariant in
    let next = c.next_piece.follows.holds-at-none in
    let lines = goes_onward _ _ _ c.self.inside.lines c.next_piece.follows.lender-at-none _ _ c.next_piece.result i.3 i.4 i.5 i.8 next.0 in
    rw (c.in_err-volume.ensures.err) (i.0, i.1, i.2, lines.limit, lines.within, lines.counted, next.1, i.7, lines.some_dropped, i.9, i.10, i.11, i.12, i.13)

pub invariant_of-self-in-Some-range_of : goal.invariant_of-self-in-Some-range_of
invariant_of-self-in-Some-range_of g c =
    let i = c.self.invariant in
    let next = c.next_piece.follows.holds-at-none in
    let lines = goes_onward _ _ _ c.self.inside.lines c.next_piece.follows.lender-at-none _ _ c.next_piece.result i.3 i.4 i.5 i.8 next.0 in
    let none : c.self.inside.ahead.count ≡ 0 = ap (λ r. r.ahead.count) c.self.view_is ∙ c.requires.nothing_ahead in
    let range = c.in-Some-range_of.ensures.range in
    let named = c.in_ok-volume.ensures.within in (
      i.0,
      i.1,
      i.2,
      lines.limit,
      lines.within,
      lines.counted,
      next.1,
      i.7,
      lines.some_dropped,
      omega (arith, i.10 none, c.number_of.ensures.most),
      λ no. absurd (omega (arith, no, range.0)),
      i.11,
      λ some. (range.1, range.2, range.3),
      rw (sym c.in-Some-range_of.ensures.volume) at named,
    )

pub returns-in_err-text-clause-still : goal.returns-in_err-text-clause-still
returns-in_err-text-clause-still g c = let is = c.self.view_is in (ap (λ r. r.format) is, ap (λ r. r.limits) is, ap (λ r. r.given) is)

pub returns-in_err-text-clause-few : goal.returns-in_err-text-clause-few
returns-in_err-text-clause-few g c = (c.self.invariant.7, c.self.invariant.1)

pub returns-in_default-clause-still : goal.returns-in_default-clause-still
returns-in_default-clause-still g c = let is = c.self.view_is in (ap (λ r. r.format) is, ap (λ r. r.limits) is, ap (λ r. r.given) is)

pub returns-in_default-clause-few : goal.returns-in_default-clause-few
returns-in_default-clause-few g c = (c.self.invariant.7, c.self.invariant.1)

pub returns-in-Err-clause-still : goal.returns-in-Err-clause-still
returns-in-Err-clause-still g c = let is = c.self.view_is in (ap (λ r. r.format) is, ap (λ r. r.limits) is, ap (λ r. r.given) is)

pub returns-in-Err-clause-few : goal.returns-in-Err-clause-few
returns-in-Err-clause-few g c = (c.self.invariant.7, c.self.invariant.1)

pub returns-in_err-volume-clause-still : goal.returns-in_err-volume-clause-still
returns-in_err-volume-clause-still g c = let is = c.self.view_is in (ap (λ r. r.format) is, ap (λ r. r.limits) is, ap (λ r. r.given) is)

pub returns-in_err-volume-clause-few : goal.returns-in_err-volume-clause-few
returns-in_err-volume-clause-few g c = (c.self.invariant.7, c.self.invariant.1)

pub returns-in-Some-range_of-clause-still : goal.returns-in-Some-range_of-clause-still
returns-in-Some-range_of-clause-still g c = let is = c.self.view_is in (ap (λ r. r.format) is, ap (λ r. r.limits) is, ap (λ r. r.given) is)

pub returns-in-Some-range_of-clause-few : goal.returns-in-Some-range_of-clause-few
returns-in-Some-range_of-clause-few g c = (c.self.invariant.7, c.self.invariant.1)

pub returns-in-None-clause-still : goal.returns-in-None-clause-still
returns-in-None-clause-still g c = let is = c.self.view_is in (ap (λ r. r.format) is, ap (λ r. r.limits) is, ap (λ r. r.given) is)

pub returns-in-None-clause-few : goal.returns-in-None-clause-few
returns-in-None-clause-few g c = (c.self.invariant.7, c.self.invariant.1)

pub returns-in_default-content-clause-still : goal.returns-in_default-content-clause-still
returns-in_default-content-clause-still g c = let is = c.self.view_is in (ap (λ r. r.format) is, ap (λ r. r.limits) is, ap (λ r. r.given) is)

pub returns-in_default-content-clause-few : goal.returns-in_default-content-clause-few
returns-in_default-content-clause-few g c = (c.self.invariant.7, c.self.invariant.1)

pub returns-in_err-text-clause-no_further : goal.returns-in_err-text-clause-no_further
returns-in_err-text-clause-no_further g c =
    let s = the_view c.self.inside in
    let new = with_lines s c.next_piece.follows.lender-at-none in
    let fault = c.in_err-text.field-0.0 in
    let stops = rw (c.in_err-text.was) at c.next_piece.follows.holds-at-none.0 in
    subst (λ r. IfErr c.from_residual.result (StopsNoFurther r new (seen g.S.Source.left g.S.Source.faults c.args.source.now c.next_piece.new.source))) c.self.view_is
    (of_fault c.from_residual.result (fault_of fault) (StopsNoFurther s new (seen g.S.Source.left g.S.Source.faults c.args.source.now c.next_piece.new.source)) c.from_residual.ensures.1 (
      not_past_next s new _ _ _ fault (ap (λ p. p.line) stops.still) (rw (c.has_records-records.ensures) at c.in_err-text.ensures.refused),
      stands_still s new _ _ (ap (λ p. p.line) stops.still) (ap (λ p. p.consumed) stops.still) refl stops.rest,
    ))

pub returns-in-Err-clause-no_further : goal.returns-in-Err-clause-no_further
returns-in-Err-clause-no_further g c =
    let s = the_view c.self.inside in
    let l = c.next_piece.follows.lender-at-none in
    let f = c.in_ok-text.ensures in
    let none : c.self.inside.ahead.count ≡ 0 = ap (λ r. r.ahead.count) c.self.view_is ∙ c.requires.nothing_ahead in
    let gives = rw (c.in_ok-text.was, c.in-Some.is, c.has_records-records.ensures) at (c.next_piece.follows.holds-at-none.0) in
    let text = rw (c.in-Some.is, c.has_records-records.ensures) at f.text in
    let short = rw (c.in-Some.is) at f.short in
    let takes = takes_up s l _ _ c.in-Some.text.now none (c.self.invariant.3) gives text short in
    let reads = reads_line s l _ _ c.in-Some.text.now none (c.self.invariant.3) gives text short in
    let said = sym (c.content_of.ensures.content_named) ∙ ap answer_of c.in-Err.is in (
      omega (arith, c.line.ensures),
      subst (λ r. IfSome (known r (g.S.Source.left c.args.source.now)) (λ bytes. StandsAfter r (with_lines s l) bytes (known (with_lines s l) (g.S.Source.left c.next_piece.new.source)))) c.self.view_is
          (stands_after_refused s l c.in-Err.kind _ _ _ said none reads takes),
    )

pub returns-in_err-volume-clause-no_further : goal.returns-in_err-volume-clause-no_further
returns-in_err-volume-clause-no_further g c =
    let s = the_view c.self.inside in
    let l = c.next_piece.follows.lender-at-none in
    let f = c.in_ok-text.ensures in
    let none : c.self.inside.ahead.count ≡ 0 = ap (λ r. r.ahead.count) c.self.view_is ∙ c.requires.nothing_ahead in
    let gives = rw (c.in_ok-text.was, c.in-Some.is, c.has_records-records.ensures) at (c.next_piece.follows.holds-at-none.0) in
    let text = rw (c.in-Some.is, c.has_records-records.ensures) at f.text in
    let short = rw (c.in-Some.is) at f.short in
    let takes = takes_up s l _ _ c.in-Some.text.now none (c.self.invariant.3) gives text short in
    let reads = reads_line s l _ _ c.in-Some.text.now none (c.self.invariant.3) gives text short in
    let content = c.in-Some-content.content in
    let said = sym (c.content_of.ensures.content_named) ∙ (ap answer_of c.in-Ok.is ∙ ap (λ w. answer_of (Ok w)) c.in-Some-content.is) in
    let new = record (with_lines s l) { volumes = c.number_of.new.volumes } in
    subst (λ r. IfErr c.from_residual-in_err-volume.result (StopsNoFurther r new (seen g.S.Source.left g.S.Source.faults c.args.source.now c.next_piece.new.source))) c.self.view_is
    (of_fault c.from_residual-in_err-volume.result NoMemory (StopsNoFurther s new (seen g.S.Source.left g.S.Source.faults c.args.source.now c.next_piece.new.source)) c.from_residual-in_err-volume.ensures.1
    (tt, stands_after_unnamed s new l (content_by content) _ _ _ said c.in_err-volume.ensures.something none refl refl reads takes))
