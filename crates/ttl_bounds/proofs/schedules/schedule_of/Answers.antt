use Rattle.ttl_bounds.proofs.Scheduled.{scheduled}
use Rattle.ttl_bounds.proofs.schedules.schedule_of.Goals as goal

pub returns : goal.returns
returns c =
    let kept = c.in_ok-keeps.ensures in
    let score = rw c.as_slice.ensures at c.in_ok-totals.ensures.score in
    let written = rw c.as_slice.ensures at c.in_ok-totals.ensures.written in
    record {
      made = rw (← c.asked.view_is)
          (scheduled c.asked.inside.terms c.args.timed.now.trace.now c.args.timed.now.times.now c.args.timed.now.ttl c.args.intervals.now
          c.in_ok-keeps.keeps c.in_ok-totals.totals (rw (← c.asked.view_is) at c.requires.intervals)
          (record { rounded = kept.rounded; maximal = kept.maximal; fits = kept.fits }) score written);
    }
