use Rattle.std.proofs.Common.{◌≡◌, ◌∙◌, ap}
use Rattle.std.proofs.lemmas.Result.{err_from_is_err_and}
use Rattle.freshness.specs.Seen.{noted_of}
use Rattle.trace_any.specs.Readers.{Notes}
use Rattle.run_counts.specs.Countings.{counting_of}
use Rattle.ttl_bounds.specs.Records.{records_in}
use Rattle.ttl_runs.proofs.bounds.texts_of.Goals as goal

pub cert_of-requires-clause-certificate : goal.cert_of-requires-clause-certificate
cert_of-requires-clause-certificate c = c.requires.made.valid.certificate

pub render-requires : goal.render-requires
render-requires c = record { sound = (c.requires.made.valid.certificate.header.unit.0, c.requires.made.valid.certificate.header.denominator.0) }

pub returns-in_err-cert : goal.returns-in_err-cert
returns-in_err-cert c = rw (err_from_is_err_and c.from_residual.result c.from_residual.ensures.1).1 tt

pub returns-in_err-report : goal.returns-in_err-report
returns-in_err-report c = rw (err_from_is_err_and c.from_residual-in_err-report.result c.from_residual-in_err-report.ensures.1).1 tt

pub returns : goal.returns
returns c =
    let b = c.args.bounds.now in
    let trace = c.args.timed.now.trace.now in
    let noted_is : noted_of c.notes.inside.noted ≡ c.args.notes.now.noted = ap (λ (n : Notes). n.noted) c.notes.view_is in
    let dropped_is : c.notes.inside.dropped ≡ c.args.notes.now.dropped = ap (λ (n : Notes). n.dropped) c.notes.view_is in
    let counting_is : c.counting_of-counting.result ≡ counting_of c.args.format b.header trace c.args.notes.now.noted = c.counting_of-counting.ensures ∙ ap (counting_of c.args.format b.header trace) noted_is in
    record {
      price = b.price;
      intervals = b.intervals;
      written = b.written;
      header = b.header;
      records = records_in b;
      made = c.requires.made;
      cert_is = c.in_ok-cert.ensures;
      report_is = rw (counting_is, dropped_is, c.if_counted.ensures, c.asked.view_is, c.objects.ensures.different) at c.in_ok-report.ensures;
    }
