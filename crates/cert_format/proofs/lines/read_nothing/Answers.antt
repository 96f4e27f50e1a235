use Rattle.std.proofs.Common.{◌+◌, ◌∙◌, ap}
use Rattle.bound_io.specs.Devices.{device}
use Rattle.cert_format.specs.Lines.{nothing_given}
use Rattle.cert_format.proofs.Taken.{Gave, look_on, reads_as}
use Rattle.cert_format.proofs.lines.read_nothing.Goals as goal

pub returns : goal.returns
returns g c =
    let f = c.next_whole_line.ensures in
    let gave : Gave c.args.lines.now c.next_whole_line.follows.lender-at-none (device (g.S.Source.left c.args.source.now) (g.S.Source.left c.next_whole_line.new.source) (g.S.Source.faults c.args.source.now) (g.S.Source.faults c.next_whole_line.new.source)) c.next_whole_line.result
    = record { line = f.line; refused = f.refused c.requires.no_fault; next = c.next_whole_line.follows.holds-at-none.0; short = f.short; held = c.next_whole_line.follows.holds-at-none.1; reads = f.reads } in
    reads_as _ _ _ _ _ _ _ _ (c.nothing.ensures ∙ ap (λ n. nothing_given (n + 1) c.next_whole_line.result) c.line-line.ensures)
    (look_on _ _ _ c.requires.limit c.requires.few f.reads.source f.reads.later c.next_whole_line.result gave)
