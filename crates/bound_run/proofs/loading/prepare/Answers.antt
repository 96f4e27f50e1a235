use Rattle.std.proofs.lemmas.Result.{err_from_is_err_and}
use Rattle.bound_io.specs.Devices.{device}
use Rattle.bound_run.proofs.Outcomes.{refused_of}
use Rattle.bound_run.proofs.loading.prepare.Goals as goal

pub load_all-requires : goal.load_all-requires
load_all-requires g c = c.requires.format

pub returns-in_err-texts-clause-ready : goal.returns-in_err-texts-clause-ready
returns-in_err-texts-clause-ready g c = rw (err_from_is_err_and c.from_residual-in_err-texts.result c.from_residual-in_err-texts.ensures.1).1 tt

pub returns-in_err-texts-clause-refused : goal.returns-in_err-texts-clause-refused
returns-in_err-texts-clause-refused g c =
    let source = device (g.T.Source.left c.args.trace.now) (g.T.Source.left c.load_all.new.trace) (g.T.Source.faults c.args.trace.now) (g.T.Source.faults c.load_all.new.trace) in
    let p = err_from_is_err_and c.from_residual-in_err-texts.result c.from_residual-in_err-texts.ensures.1 in
    rw (p.1, p.2) (refused_of c.args.format c.args.asked.now source c.in_ok-requests.requests c.in_ok-requests.notes c.in_err-texts.field-0.0 c.in_ok-requests.ensures.loaded c.in_err-texts.ensures.refused)

pub returns-in_err-texts-clause-source : goal.returns-in_err-texts-clause-source
returns-in_err-texts-clause-source g c = c.load_all.ensures.source

pub returns-clause-ready : goal.returns-clause-ready
returns-clause-ready g c = record {
  requests = c.in_ok-requests.requests;
  notes = c.in_ok-requests.notes;
  loaded = c.in_ok-requests.ensures.loaded;
  texts = c.in_ok-texts.ensures.texts;
}

pub returns-clause-refused : goal.returns-clause-refused
returns-clause-refused g c = tt

pub returns-clause-source : goal.returns-clause-source
returns-clause-source g c = c.load_all.ensures.source
