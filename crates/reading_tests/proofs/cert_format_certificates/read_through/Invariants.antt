use Rattle.std.proofs.Common.{◌≡◌, ◌+◌, None}
use Rattle.cert_format.specs.declared.reader.Stage.TheVariants.{InRecords}
use Rattle.reading_tests.proofs.cert_format_certificates.read_through.Given as goal

-- as many records are left as the header says
abbrev pub invariant-loop-place : goal.invariant-loop-place
invariant-loop-place l = record { no_fault : l.reader.fault ≡ None; stage : l.reader.stage ≡ InRecords; left : l.place + l.reader.left ≡ l.header.requests }
