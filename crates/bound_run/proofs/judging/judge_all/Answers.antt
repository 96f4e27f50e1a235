use Rattle.bound_run.proofs.Claimed.{judge_unread}
use Rattle.bound_run.proofs.judging.judge_all.Goals as goal

pub returns-in-Err-clause-refused : goal.returns-in-Err-clause-refused
returns-in-Err-clause-refused g c = rw (c.refusal_of_flags.ensures) (judge_unread c.args.format c.args.asked _ _ c.in-Err.fault c.in-Err.ensures.unread c.in-Err.ensures.near)
