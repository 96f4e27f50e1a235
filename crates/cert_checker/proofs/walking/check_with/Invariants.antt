use Rattle.std.proofs.Common.{◌≡◌, ◌≤◌, List}
use Rattle.bound_io.specs.Reading.{LosesPrefix}
use Rattle.cache_rules.specs.Stored.{Requests}
use Rattle.cert_checker.specs.Keeping.{of_form}
use Rattle.cache_model.specs.declared.certificates.Record.{Record}
use Rattle.cert_format.specs.Lines.{IsTaken}
use Rattle.cert_checker.specs.Checks.{HasChecked, Inputs, IsInStep, seen_inputs}
use Rattle.cert_checker.proofs.walking.check_with.Given as goal

-- the requests and the records that the keeper has were read and passed
abbrev pub invariant-loop-checker : goal.invariant-loop-checker
invariant-loop-checker g l =
    let start : Inputs = seen_inputs g.T.Source.left g.T.Source.faults g.Q.Source.left g.Q.Source.faults l.fn.reader l.fn.trace l.fn.cert l.fn.certificate in
    let now : Inputs = seen_inputs g.T.Source.left g.T.Source.faults g.Q.Source.left g.Q.Source.faults l.reader l.trace l.cert l.certificate in
    record {
      in_step : IsInStep now l.checker;
      header : l.header ≡ l.checker.header;
      kept : (requests : Requests) × (records : List Record) × g.K.Keeper.has l.keeper (of_form l.fn.reader.format requests) records × HasChecked start l.header requests records now l.checker;
      trace_source : LosesPrefix (g.T.Source.left l.fn.trace) (g.T.Source.left l.trace);
      trace_later : g.T.Source.faults l.fn.trace ≤ g.T.Source.faults l.trace;
      taken : IsTaken l.fn.cert.lines l.cert.lines (g.Q.Source.left l.fn.certificate) (g.Q.Source.left l.certificate);
      cert_source : LosesPrefix (g.Q.Source.left l.fn.certificate) (g.Q.Source.left l.certificate);
      cert_later : g.Q.Source.faults l.fn.certificate ≤ g.Q.Source.faults l.certificate;
    }

-- each check but the last reads a record
abbrev pub decreases-loop-checker : goal.decreases-loop-checker
decreases-loop-checker g l = l.cert.left
