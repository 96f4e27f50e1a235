use Rattle.std.proofs.Common.{◌/◌, ap}
use Rattle.relaxation.proofs.arcs.arc_of.Goals as goal

pub returns : goal.returns
returns c =
    let i = c.args.interval.now in
    ap (λ cost. record { start = i.start; end = i.end; weight = i.size / c.args.unit; cost = cost }) c.ceil_div.ensures
