use Rattle.std.proofs.Common.{ap, arith, length}
use Rattle.ttl_bounds.proofs.MadeOf.{made_of}
use Rattle.ttl_bounds.proofs.bounds.bounds_in.Goals as goal

pub returns : goal.returns
returns c =
    let scale = c.args.scale in
    let s = c.in_ok-keeps.field-0 in
    rw c.header_with.ensures.header
    (made_of c.args.asked.now c.args.timed.now.trace.now c.args.timed.now.times.now c.args.timed.now.ttl c.args.intervals.now
    c.len-requests.result (length c.as_slice.result.now) scale.unit scale.units scale.denominator c.in_ok-found.found s.keeps s.totals
    c.requires.intervals c.len-requests.ensures.requests (ap length c.as_slice.ensures.items) c.requires.units
    (record {
      in_range = c.header_with.ensures.asked;
      few = omega (arith, c.len-requests.ensures.requests, c.len-requests.ensures.most);
      is_line = c.requires.timeline;
      fit = c.requires.fit;
      unit_is = c.requires.unit;
      positive = scale.some_unit;
      chosen = c.requires.chosen;
      range = scale.denominator_in_range;
      gives = c.in_ok-found.ensures.gives;
      free = c.in_ok-found.ensures.free;
      low = c.in_ok-found.ensures.low;
      schedule = c.in_ok-keeps.ensures.made;
    }))
