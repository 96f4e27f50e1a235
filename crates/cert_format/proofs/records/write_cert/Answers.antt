use Rattle.std.proofs.Common.{◌∙◌, ◌<◌, ap, arith, sym, length, false}
use Rattle.std.proofs.lemmas.Option.{get_or_from_slice_get}
use Rattle.std.proofs.lemmas.Result.{on_ok_weaker}
use Rattle.cache_model.specs.declared.certificates.Record.{Record}
use Rattle.cert_format.specs.Writers.{Writer}
use Rattle.cert_format.proofs.Written.{certificate_written, price_after, record_written}
use Rattle.cert_format.proofs.records.write_cert.Goals as goal

-- a record past the end
none : Record
none = record { price = 0; keep = false; flow = 0 }

pub loop-t-preserved : goal.loop-t-preserved
loop-t-preserved g c =
    let records = g.R.Records.list c.args.records.now in
    let within : c.loop-t.t < length records = omega (arith, c.requires.certificate.count, c.loop-t-test.true) in
    let is = sym (get_or_from_slice_get records c.loop-t.t c.record_at.result none c.record_at.ensures) in
    let e = c.in_ok-push.ensures in (
      record_written records c.loop-t.t c.record_at.result none within is c.args.header.now.version c.loop-t.writer.price
          (g.K.Sink.written c.begin.new.sink) (g.K.Sink.written c.loop-t.sink) (g.K.Sink.written c.push.new.sink) c.loop-t.invariant.2 c.loop-t.invariant.0 (rw c.loop-t.invariant.1 at e.all),
      ap (λ (w : Writer). w.version) e.after ∙ c.loop-t.invariant.1,
      ap (λ (w : Writer). w.price) e.after ∙ sym (price_after records c.loop-t.t c.record_at.result none within is),
    )

pub returns : goal.returns
returns g c =
    on_ok_weaker c.end.result
    (certificate_written (g.K.Sink.written c.args.sink.now) (g.K.Sink.written c.begin.new.sink) (g.K.Sink.written c.loop-t.sink) (g.K.Sink.written c.end.new.sink)
    c.args.header.now (g.R.Records.list c.args.records.now) c.loop-t.t (omega (arith, c.requires.certificate.count, c.loop-t-test.false))
    c.in_ok-writer.ensures.all c.loop-t.invariant.0)
    c.end.ensures.all
