use Rattle.bound_run.proofs.Outcomes.{not_loaded}
use Rattle.bound_run.proofs.timed.load_all_timed.Goals as goal

pub returns-in-Err-clause-refused : goal.returns-in-Err-clause-refused
returns-in-Err-clause-refused g c =
    rw c.refusal_of.ensures
    (not_loaded c.args.format (g.T.Source.left c.args.trace.now) (g.T.Source.left c.load_timed.new.source) _ _ c.in-Err.fault (rw c.in-Err.is at c.load_timed.ensures.refused) (rw c.in-Err.is at c.load_timed.ensures.lost))
