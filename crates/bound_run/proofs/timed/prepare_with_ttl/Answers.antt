use Rattle.std.proofs.Common.{◌≡◌, ◌∙◌, ap, refl, ℕ, Bool, true, ◌||◌, None, Some, Option}
use Rattle.std.specs.Option.{is_some}
use Rattle.bound_io.specs.Devices.{device}
use Rattle.freshness.specs.Stale.{lesser_of}
use Rattle.bound_run.proofs.Outcomes.{refused_with_ttl}
use Rattle.bound_run.proofs.timed.prepare_with_ttl.Goals as goal

-- with a time to live requests can be stale
timed : (idle : Option ℕ) (ttl : ℕ) (replace : Bool) → (is_some (lesser_of idle (Some ttl)) || replace) ≡ true
timed None ttl replace = refl
timed (Some idle) ttl replace = refl

pub load_all_timed-requires : goal.load_all_timed-requires
load_all_timed-requires g c = record {
  format = c.requires.format;
  timed = ap (λ ttl. is_some (lesser_of c.args.format.fresh.idle ttl) || c.args.format.fresh.replace) c.requires.ttl ∙ timed c.args.format.fresh.idle c.args.ttl c.args.format.fresh.replace;
}

pub returns-in-Err-clause-refused : goal.returns-in-Err-clause-refused
returns-in-Err-clause-refused g c =
    let source = device (g.T.Source.left c.args.trace.now) (g.T.Source.left c.load_all_timed.new.trace) (g.T.Source.faults c.args.trace.now) (g.T.Source.faults c.load_all_timed.new.trace) in
    rw c.refusal_of_ttl_bounds.ensures
    (refused_with_ttl c.args.format c.args.asked.now source c.in_ok-read.read.requests c.in_ok-read.read.notes c.in-Err.fault c.in_ok-read.ensures.loaded c.in-Err.ensures.refused)

pub returns-in-Ok-clause-ready : goal.returns-in-Ok-clause-ready
returns-in-Ok-clause-ready g c = record {
  requests = c.in_ok-read.read.requests;
  notes = c.in_ok-read.read.notes;
  times = c.in_ok-read.read.times.items;
  loaded = c.in_ok-read.ensures.loaded;
  times_are = c.in_ok-read.ensures.times;
  each = c.in_ok-read.ensures.each;
  texts = rw c.deref.ensures.value at c.in-Ok.ensures.texts;
}

pub returns-in-Ok-clause-source : goal.returns-in-Ok-clause-source
returns-in-Ok-clause-source g c = c.load_all_timed.ensures.source

pub returns-in-Err-clause-source : goal.returns-in-Err-clause-source
returns-in-Err-clause-source g c = c.load_all_timed.ensures.source
