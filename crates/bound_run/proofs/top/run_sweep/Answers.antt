use Rattle.bound_run.specs.Statuses.{ending_of}
use Rattle.bound_run.proofs.Outcomes.{ending_of-status_of, reports_written}
use Rattle.bound_run.proofs.top.run_sweep.Goals as goal

pub returns-in-Ok-clause-ends : goal.returns-in-Ok-clause-ends
returns-in-Ok-clause-ends g c = reports_written _ _ _ c.in-Ok.swept.items (ending_of c.write_report.result) c.in-Ok.ensures.swept (rw c.deref.ensures.value at c.write_report.ensures.written)

pub returns-in-Err-clause-ends : goal.returns-in-Err-clause-ends
returns-in-Err-clause-ends g c = rw (c.refuse.ensures.status, ending_of-status_of c.in-Err.refusal) (c.in-Err.ensures.refused, c.refuse.ensures.reported)
