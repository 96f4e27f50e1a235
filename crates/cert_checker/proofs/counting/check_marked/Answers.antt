use Rattle.std.proofs.Common.{}
use Rattle.bit_list.specs.Bits.{bits_of}
use Rattle.bound_io.specs.Devices.{seen}
use Rattle.freshness.specs.Seen.{noted_of}
use Rattle.cert_checker.proofs.FromNew.{counted_new}
use Rattle.cert_checker.proofs.counting.check_marked.Goals as goal

pub returns-clause-yes : goal.returns-clause-yes
returns-clause-yes g c =
    counted_new c.args.format (seen g.T.Source.left g.T.Source.faults c.args.trace.now c.check_new.new.trace) (seen g.Q.Source.left g.Q.Source.faults c.args.certificate.now c.check_new.new.certificate)
    c.in_ok-verdict.verdict c.in_ok-verdict.dropped c.count_from-counted.result (bits_of c.check_new.new.keeper.fills) (noted_of c.in_ok-verdict.noted) c.requires.marked c.requires.lasting c.in_ok-verdict.ensures.yes c.count_from-counted.ensures
