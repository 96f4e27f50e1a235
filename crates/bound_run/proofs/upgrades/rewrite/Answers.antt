use Rattle.std.proofs.Common.{◌≡◌, ◌∙◌, ap, sym, subst, arith, refl, [], ◌∷◌, ◌++◌, length-append, codes, Ok, IfSome}
use Rattle.std.specs.Prelude.{IfOk, OnOk}
use Rattle.std.proofs.lemmas.Result.{err_from_is_err_and}
use Rattle.bound_io.specs.Devices.{device}
use Rattle.bound_io.specs.GrowSink.{bytes_written}
use Rattle.cache_model.specs.Texts.{header_lines, line, record_line, text_of}
use Rattle.cert_format.specs.declared.reader.Stage.TheVariants.{AtHeader, InRecords}
use Rattle.cert_format.specs.Lines.{known, IsPast, IsTaken}
use Rattle.cert_format.specs.Readers as lines
use Rattle.cert_format.specs.Writers.{Writer, first_writer, writer_after}
use Rattle.cache_model.specs.declared.certificates.Header.{Header}
use Rattle.cert_format.proofs.Chains.{loses_both}
use Rattle.bound_run.proofs.Upgraded.{header_refused, header_rewritten, record_refused, record_rewritten, all_rewritten}
use Rattle.bound_run.proofs.upgrades.rewrite.Goals as goal

pub returns-in_err-header-clause-refused : goal.returns-in_err-header-clause-refused
returns-in_err-header-clause-refused g c =
    let before = g.Q.Source.left c.args.source.now in
    let after = g.Q.Source.left c.header.new.source in
    let x = g.Q.Source.faults c.args.source.now in
    let z = g.Q.Source.faults c.header.new.source in
    let end = c.header.new.self in
    let new = c.requires.fresh in
    let none = ap (λ (r : lines.Reader). r.fault) new in
    let p = err_from_is_err_and c.from_residual.result c.from_residual.ensures.1 in
    rw (p.1, p.2)
    (header_refused before after x z end c.in_err-header.field-0.0
    (subst (λ (r : lines.Reader). lines.IsRefused r (device before after x z) c.in_err-header.field-0.0) new (c.in_err-header.ensures.read none))
    (c.in_err-header.ensures.within none)
    (subst (λ (r : lines.Reader). IfSome (known r.lines before) (IsPast r.lines end.lines)) new c.in_err-header.ensures.past)
    c.in_err-header.ensures.ahead
    (subst (λ (r : lines.Reader). IsTaken r.lines end.lines before after) new c.in_err-header.ensures.taken))

pub loop-init : goal.loop-init
loop-init g c =
    let before = g.Q.Source.left c.args.source.now in
    let after = g.Q.Source.left c.header.new.source in
    let x = g.Q.Source.faults c.args.source.now in
    let z = g.Q.Source.faults c.header.new.source in
    let end = c.header.new.self in
    let h = c.in_ok-header.header in
    let new = c.requires.fresh in
    let none = ap (λ (r : lines.Reader). r.fault) new in
    let read = subst (λ (r : lines.Reader). lines.HeaderRead r end (device before after x z) (Ok h)) new (c.in_ok-header.ensures.read none) in
    let first : c.in_ok-writer.writer ≡ first_writer c.upgraded.result.version = subst (λ r. IfOk r (λ w. w ≡ first_writer c.upgraded.result.version)) c.in_ok-writer.ensures c.begin.ensures.first in
    let all : bytes_written c.begin.new.sink ≡ bytes_written c.args.sink.now ++ text_of (header_lines c.upgraded.result)
    = subst (λ r. OnOk r (bytes_written c.begin.new.sink ≡ bytes_written c.args.sink.now ++ text_of (header_lines c.upgraded.result))) c.in_ok-writer.ensures c.begin.ensures.all in (
      [],
      header_rewritten before after x z end h (bytes_written c.begin.new.sink) c.in_ok-header.ensures.range read (c.in_ok-header.ensures.fault none)
          (subst (λ (r : lines.Reader). IfSome (known r.lines before) (IsPast r.lines end.lines)) new c.in_ok-header.ensures.past)
          (subst (λ (r : lines.Reader). IsTaken r.lines end.lines before after) new c.in_ok-header.ensures.taken)
          c.in_ok-header.ensures.reads.source c.in_ok-header.ensures.reads.later
          (all ∙ ap (λ s. s ++ text_of (header_lines c.upgraded.result)) c.requires.empty ∙ ap (λ k. text_of (header_lines k)) c.upgraded.ensures),
      ap (λ (w : Writer). w.version) first ∙ ap (λ (k : Header). k.version) c.upgraded.ensures,
      ap (λ (w : Writer). w.price) first ∙ sym read.3,
      refl,
      c.in_ok-header.ensures.reads.none_failed,
    )

pub next_record-requires : goal.next_record-requires
next_record-requires g c = λ none. (c.loop.invariant.1.stage, omega (arith, c.loop.invariant.1.count, c.loop.invariant.4, c.loop-test.true))

pub returns-in_err-entry-clause-refused : goal.returns-in_err-entry-clause-refused
returns-in_err-entry-clause-refused g c =
    let none = c.loop.invariant.1.no_fault in
    let p = err_from_is_err_and c.from_residual-in_err-entry.result c.from_residual-in_err-entry.ensures.1 in
    rw (p.1, p.2)
    (record_refused (g.Q.Source.left c.args.source.now) (g.Q.Source.left c.loop.source) (g.Q.Source.left c.next_record.new.source)
    (g.Q.Source.faults c.args.source.now) (g.Q.Source.faults c.loop.source) (g.Q.Source.faults c.next_record.new.source)
    c.in_ok-header.header c.loop.reader c.next_record.new.self (bytes_written c.loop.sink) c.loop.invariant.0 c.loop.invariant.1
    c.in_err-entry.field-0.0 (c.in_err-entry.ensures.read none) (c.in_err-entry.ensures.within none) c.in_err-entry.ensures.past c.in_err-entry.ensures.ahead c.in_err-entry.ensures.taken c.in_err-entry.ensures.reads.source)

pub returns-in_err-entry-clause-source : goal.returns-in_err-entry-clause-source
returns-in_err-entry-clause-source g c = loses_both (g.Q.Source.left c.args.source.now) (g.Q.Source.left c.loop.source) (g.Q.Source.left c.next_record.new.source) c.loop.invariant.1.loses c.in_err-entry.ensures.reads.source

pub returns-in_err-grown-clause-source : goal.returns-in_err-grown-clause-source
returns-in_err-grown-clause-source g c = loses_both (g.Q.Source.left c.args.source.now) (g.Q.Source.left c.loop.source) (g.Q.Source.left c.next_record.new.source) c.loop.invariant.1.loses c.in_ok-entry.ensures.reads.source

pub loop-preserved : goal.loop-preserved
loop-preserved g c =
    let none = c.loop.invariant.1.no_fault in
    let r = c.in_ok-entry.entry in
    let read = c.in_ok-entry.ensures.read none in
    let w = c.loop.writer in
    let after : c.push.new.self ≡ writer_after w r = subst (λ r. OnOk r (c.push.new.self ≡ writer_after w c.in_ok-entry.entry)) c.in_ok-grown.ensures c.push.ensures.after in
    let all : bytes_written c.push.new.sink ≡ bytes_written c.loop.sink ++ line (record_line w.version w.price r)
    = subst (λ r. OnOk r (bytes_written c.push.new.sink ≡ bytes_written c.loop.sink ++ line (record_line w.version w.price c.in_ok-entry.entry))) c.in_ok-grown.ensures c.push.ensures.all in (
      c.loop.invariant.0 ++ r ∷ [],
      record_rewritten (g.Q.Source.left c.args.source.now) (g.Q.Source.left c.loop.source) (g.Q.Source.left c.next_record.new.source)
          (g.Q.Source.faults c.args.source.now) (g.Q.Source.faults c.loop.source) (g.Q.Source.faults c.next_record.new.source)
          c.in_ok-header.header c.loop.reader c.next_record.new.self (bytes_written c.loop.sink) c.loop.invariant.0 c.loop.invariant.1
          r (bytes_written c.push.new.sink) c.in_ok-entry.ensures.range read (c.in_ok-entry.ensures.fault none) c.in_ok-entry.ensures.past c.in_ok-entry.ensures.taken c.in_ok-entry.ensures.reads.source c.in_ok-entry.ensures.reads.later
          (rw (c.loop.invariant.2, c.loop.invariant.3) at all),
      ap (λ (w : Writer). w.version) after ∙ c.loop.invariant.2,
      ap (λ (w : Writer). w.price) after ∙ sym read.3,
      omega (arith, length-append c.loop.invariant.0 (r ∷ []), c.loop.invariant.4),
      c.in_ok-entry.ensures.reads.none_failed ∙ c.loop.invariant.5,
    )

pub finish_text-requires : goal.finish_text-requires
finish_text-requires g c =
    λ none. (
      λ is. let same : InRecords ≡ AtHeader = sym c.loop.invariant.1.stage ∙ is in cc,
      omega (arith, c.loop.invariant.1.count, c.loop.invariant.4, c.loop-test.false),
    )

pub returns-in_err-finish_text-clause-refused : goal.returns-in_err-finish_text-clause-refused
returns-in_err-finish_text-clause-refused g c =
    let none = c.loop.invariant.1.no_fault in
    let p = err_from_is_err_and c.from_residual-in_err-finish_text.result c.from_residual-in_err-finish_text.ensures.1 in
    rw (p.1, p.2)
    (record_refused (g.Q.Source.left c.args.source.now) (g.Q.Source.left c.loop.source) (g.Q.Source.left c.finish_text.new.source)
    (g.Q.Source.faults c.args.source.now) (g.Q.Source.faults c.loop.source) (g.Q.Source.faults c.finish_text.new.source)
    c.in_ok-header.header c.loop.reader c.finish_text.new.self (bytes_written c.loop.sink) c.loop.invariant.0 c.loop.invariant.1
    c.in_err-finish_text.field-0.0 (c.in_err-finish_text.ensures.read none) (c.in_err-finish_text.ensures.within none) c.in_err-finish_text.ensures.past c.in_err-finish_text.ensures.ahead c.in_err-finish_text.ensures.taken c.in_err-finish_text.ensures.reads.source)

pub returns-in_err-finish_text-clause-source : goal.returns-in_err-finish_text-clause-source
returns-in_err-finish_text-clause-source g c = loses_both (g.Q.Source.left c.args.source.now) (g.Q.Source.left c.loop.source) (g.Q.Source.left c.finish_text.new.source) c.loop.invariant.1.loses c.in_err-finish_text.ensures.reads.source

pub returns-in_err-grown-2-clause-source : goal.returns-in_err-grown-2-clause-source
returns-in_err-grown-2-clause-source g c = loses_both (g.Q.Source.left c.args.source.now) (g.Q.Source.left c.loop.source) (g.Q.Source.left c.finish_text.new.source) c.loop.invariant.1.loses c.in_ok-finish_text.ensures.reads.source

pub returns-clause-rewritten : goal.returns-clause-rewritten
returns-clause-rewritten g c =
    let none = c.loop.invariant.1.no_fault in
    let full : c.loop.reader.left ≡ 0 = omega (arith, c.loop.invariant.1.count, c.loop.invariant.4, c.loop-test.false) in
    let all : bytes_written c.end.new.sink ≡ bytes_written c.loop.sink ++ line (codes "end")
    = subst (λ r. OnOk r (bytes_written c.end.new.sink ≡ bytes_written c.loop.sink ++ line (codes "end"))) c.in_ok-grown-2.ensures c.end.ensures.all in
    all_rewritten (g.Q.Source.left c.args.source.now) (g.Q.Source.left c.loop.source) (g.Q.Source.left c.finish_text.new.source)
    (g.Q.Source.faults c.args.source.now) (g.Q.Source.faults c.loop.source) (g.Q.Source.faults c.finish_text.new.source)
    c.in_ok-header.header c.loop.reader c.finish_text.new.self (bytes_written c.loop.sink) c.loop.invariant.0 c.loop.invariant.1
    (bytes_written c.end.new.sink) full (c.in_ok-finish_text.ensures.read none) all

pub returns-clause-source : goal.returns-clause-source
returns-clause-source g c = loses_both (g.Q.Source.left c.args.source.now) (g.Q.Source.left c.loop.source) (g.Q.Source.left c.finish_text.new.source) c.loop.invariant.1.loses c.in_ok-finish_text.ensures.reads.source

pub returns-clause-none_failed : goal.returns-clause-none_failed
returns-clause-none_failed g c = c.in_ok-finish_text.ensures.reads.none_failed ∙ c.loop.invariant.5
