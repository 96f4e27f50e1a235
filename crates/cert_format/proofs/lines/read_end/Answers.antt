use Rattle.std.proofs.Common.{◌+◌}
use Rattle.cert_format.specs.Grammar.{end_slots}
use Rattle.cert_format.specs.Readings.{first_fault, trailing, end_fault}
use Rattle.cert_format.proofs.Chains.{start, then_last, then_more, Nothing, end_after}
use Rattle.cert_format.proofs.lines.read_end.Goals as goal

pub returns : goal.returns
returns g c =
    let c0 = start c.args.lines.now (g.S.Source.left c.args.source.now) (g.S.Source.faults c.args.source.now) c.requires.no_fault in
    let c1 = then_more 0 Nothing (λ n. first_fault n end_slots) 1 (λ bytes. tt) c.args.lines.now c.args.lines.now c.read_fixed.new.lines (g.S.Source.left c.args.source.now) (g.S.Source.left c.args.source.now) (g.S.Source.left c.read_fixed.new.source)
    (g.S.Source.faults c.args.source.now) (g.S.Source.faults c.args.source.now) (g.S.Source.faults c.read_fixed.new.source) tt c.read_fixed.result c.in_ok-read_fixed.was c0 c.read_fixed.ensures in
    then_last 1 _ trailing c.args.lines.now c.read_fixed.new.lines c.read_nothing.new.lines (g.S.Source.left c.args.source.now) (g.S.Source.left c.read_fixed.new.source) (g.S.Source.left c.read_nothing.new.source)
    (g.S.Source.faults c.args.source.now) (g.S.Source.faults c.read_fixed.new.source) (g.S.Source.faults c.read_nothing.new.source) (end_fault (c.args.lines.now.line + 1)) c.read_nothing.result c1 c.read_nothing.ensures
    (λ bytes p. end_after c.args.lines.now.line bytes p.1)
