-- What of a certificate is left at its end.
use Rattle.std.specs.Prelude.{ℕ, List}
use Rattle.std.specs.declared.option.Option.{Option}
use Rattle.cert_format.specs.declared.fault.CertFault.{CertFault}
use Rattle.cert_format.specs.declared.reader.Stage.{Stage}
use Rattle.cert_format.specs.declared.reader.Stage.TheVariants.{AtHeader, InRecords, AtEnd}
use Rattle.cert_format.specs.Readings.{end_fault, trailing}

-- the fault of the end, whose line was read or is still to be read
abbrev pub finish_fault : Stage → ℕ → List ℕ → Option CertFault
finish_fault AtHeader n bytes = end_fault n bytes
finish_fault InRecords n bytes = end_fault n bytes
finish_fault AtEnd n bytes = trailing n bytes

-- how many lines the end still has
abbrev pub lines_left : Stage → ℕ
lines_left AtHeader = 1
lines_left InRecords = 1
lines_left AtEnd = 0
