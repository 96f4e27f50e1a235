use Rattle.std.proofs.Common.{◌≡◌, ap}
use Rattle.bit_list.specs.Bits.{bits_of}
use Rattle.trace_any.specs.Readers.{Notes}
use Rattle.bound_run.proofs.judging.judge_flags.Goals as goal

pub returns-clause-possible : goal.returns-clause-possible
returns-clause-possible c =
    let stale_is : bits_of c.notes.inside.noted.stale ≡ c.args.notes.now.noted.stale = ap (λ (n : Notes). n.noted.stale) c.notes.view_is in
    rw stale_is at c.judge.ensures.possible

pub returns-clause-cause : goal.returns-clause-cause
returns-clause-cause c =
    let stale_is : bits_of c.notes.inside.noted.stale ≡ c.args.notes.now.noted.stale = ap (λ (n : Notes). n.noted.stale) c.notes.view_is in
    rw stale_is at c.judge.ensures.cause
