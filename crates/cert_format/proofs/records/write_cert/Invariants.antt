use Rattle.std.proofs.Common.{◌≡◌, take}
use Rattle.std.specs.Io.KnownBytes.{Appends}
use Rattle.cache_model.specs.Texts.{record_lines, text_of}
use Rattle.cache_model.proofs.RecordLines.{last_price}
use Rattle.cert_format.proofs.records.write_cert.Given as goal

-- the records so far are written, and the writer knows the price of the last one
abbrev pub invariant-loop-t : goal.invariant-loop-t
invariant-loop-t g l =
    let so_far = take l.t (g.R.Records.list l.records) in
    Appends (g.K.Sink.written l.initial.sink) (g.K.Sink.written l.sink) (text_of (record_lines l.header.version 0 so_far))
    × (l.writer.version ≡ l.header.version)
    × (l.writer.price ≡ last_price 0 so_far)
