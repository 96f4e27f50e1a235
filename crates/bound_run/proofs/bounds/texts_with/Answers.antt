use Rattle.std.proofs.Common.{◌≡◌, ◌∙◌, ℕ, Bool, List, ap, sym, arith, length}
use Rattle.std.proofs.lemmas.Result.{err_from_is_err_and}
use Rattle.cache_model.specs.Certificates.{eligible_of}
use Rattle.cache_model.specs.Objects.{objects_of}
use Rattle.bound_report.specs.Rendering.{rendered}
use Rattle.bound_report.specs.Reports.{bound_lines}
use Rattle.freshness.specs.Seen.{noted_of}
use Rattle.trace_any.specs.Readers.{Notes}
use Rattle.run_counts.specs.Countings.{counting_of}
use Rattle.bound_run.specs.Records.{records_in}
use Rattle.bound_run.specs.Reports.{written_by}
use Rattle.bound_run.proofs.RecordsOf.{keeps_of-records, length-records}
use Rattle.bound_run.proofs.bounds.texts_with.Goals as goal

pub written_by-requires : goal.written_by-requires
written_by-requires c =
    let b = c.args.bounds.now in
    let valid = c.requires.made.valid in
    let each : length (records_in b) ≡ length b.keeps = length-records b.relaxed.solution.prices b.keeps b.intervals.items b.relaxed.solution.flows in
    record { one_keep_each = rw c.as_slice-2.ensures (omega (arith, each, valid.certificate.count, valid.requests)) }

pub cert_of-requires-clause-certificate : goal.cert_of-requires-clause-certificate
cert_of-requires-clause-certificate c = c.requires.made.valid.certificate

pub cert_of-requires-clause-sound : goal.cert_of-requires-clause-sound
cert_of-requires-clause-sound c = c.requires.each

pub render-requires : goal.render-requires
render-requires c = record { sound = (c.requires.made.valid.certificate.header.unit.0, c.requires.made.valid.certificate.header.denominator.0) }

pub returns-in_err-cert : goal.returns-in_err-cert
returns-in_err-cert c = rw (err_from_is_err_and c.from_residual.result c.from_residual.ensures.1).1 tt

pub returns-in_err-report : goal.returns-in_err-report
returns-in_err-report c = rw (err_from_is_err_and c.from_residual-in_err-report.result c.from_residual-in_err-report.ensures.1).1 tt

pub returns : goal.returns
returns c =
    let b = c.args.bounds.now in
    let trace = c.args.trace.now in
    let asked = c.args.asked.now in
    let noted_is : noted_of c.notes.inside.noted ≡ c.args.notes.now.noted = ap (λ (n : Notes). n.noted) c.notes.view_is in
    let dropped_is : c.notes.inside.dropped ≡ c.args.notes.now.dropped = ap (λ (n : Notes). n.dropped) c.notes.view_is in
    let counting_is : c.counting_of.result ≡ counting_of c.args.format b.header trace c.args.notes.now.noted = c.counting_of.ensures ∙ ap (counting_of c.args.format b.header trace) noted_is in
    let report : List Bool → List ℕ
    = λ keeps. rendered (counting_of c.args.format b.header trace c.args.notes.now.noted) (bound_lines (record {
      header = b.header;
      objects = length (objects_of trace.objects);
      dropped = c.args.notes.now.dropped;
      mode = asked.mode;
      price = b.relaxed.price;
      intervals = length (eligible_of trace.objects trace.fills b.header);
      written = written_by asked trace keeps;
    })) in
    record {
      price = b.relaxed.price;
      header = b.header;
      records = records_in b;
      made = c.requires.made;
      cert_is = c.in_ok-cert.ensures;
      report_is = rw (counting_is, dropped_is, c.written_by.ensures, c.as_slice-2.ensures, c.asked.view_is, c.objects.ensures.different, c.as_slice.ensures.items, c.requires.intervals) at c.in_ok-report.ensures
          ∙ ap report (sym (keeps_of-records b.relaxed.solution.prices b.keeps b.intervals.items b.relaxed.solution.flows));
    }
