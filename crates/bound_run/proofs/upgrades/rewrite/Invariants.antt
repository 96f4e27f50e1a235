use Rattle.std.proofs.Common.{◌≡◌, List, length}
use Rattle.bound_io.specs.GrowSink.{bytes_written}
use Rattle.cache_model.specs.declared.certificates.Record.{Record}
use Rattle.cache_model.specs.declared.version.TheConstants.{SHORT_VERSION}
use Rattle.bound_run.proofs.Upgraded.{HasRewritten}
use Rattle.bound_run.proofs.upgrades.rewrite.Given as goal

abbrev pub invariant-loop : goal.invariant-loop
invariant-loop g l =
    (records : List Record)
    × HasRewritten (g.Q.Source.left l.fn.source) (g.Q.Source.faults l.fn.source) l.header l.reader (g.Q.Source.left l.source) (g.Q.Source.faults l.source) (bytes_written l.sink) records
    × (l.writer.version ≡ SHORT_VERSION)
    × (l.writer.price ≡ l.reader.price)
    × (length records ≡ l.counter)
    × (g.Q.Source.faults l.source ≡ g.Q.Source.faults l.fn.source)
