-- What a reader of a certificate with a budget has still to give.
use Rattle.std.specs.Prelude.{◌≡◌, ℕ, ◌+◌, ◌^◌, List, [], ◌++◌, Result, Ok, Err, None, Some, IfSome}
use Rattle.std.specs.declared.option.Option.{Option}
use Rattle.bound_io.specs.Devices.{Device, HasFailed, IsUntouched}
use Rattle.bound_io.specs.Positions.{Position}
use Rattle.cache_model.specs.Texts.{line, text_of}
use Rattle.budget_format.specs.declared.certificates.BudgetHeader.{BudgetHeader}
use Rattle.budget_format.specs.declared.certificates.BudgetRecord.{BudgetRecord}
use Rattle.budget_format.specs.Texts.{header_len, header_lines, record_line}
use Rattle.cert_format.specs.declared.fault.CertFault.{CertFault}
use Rattle.cert_format.specs.declared.fault.CertFault.TheVariants.{BadText, Truncated, Trailing, ReadFault}
use Rattle.budget_format.specs.declared.reader.Stage.{Stage}
use Rattle.budget_format.specs.declared.reader.Stage.TheVariants.{AtHeader, InRecords, AtEnd}
use Rattle.cert_format.specs.Readings.{after_lines, trailing}
use Rattle.budget_format.specs.Readings.{BudgetReading, onto, read_records, reading, stopped, under}
use Rattle.cert_format.specs.Lines.{known}

-- where a reader of a certificate stands: its lines, what it reads next, how many records are left, the price of the last record, and the fault that was answered
pub record Reader : Type 0 where
  pub lines : Position
  pub stage : Stage
  pub left : ℕ
  pub price : ℕ
  pub fault : Option CertFault

-- a reader that has read nothing
abbrev pub fresh : Reader
fresh = record { lines = record { limit = 2 ^ 36; consumed = 0; line = 0; held = []; fault = None }; stage = AtHeader; left = 0; price = 0; fault = None }

-- what is to come, by what is read next
abbrev pub coming : Stage → Reader → List ℕ → BudgetReading
coming AtHeader r bytes = reading bytes
coming InRecords r bytes = read_records r.price r.left (r.lines.line + 1) bytes
coming AtEnd r bytes = stopped (trailing (r.lines.line + 1) bytes)

-- the reading of what is still to come, if the reader stands in these bytes
abbrev pub to_come : Reader → List ℕ → BudgetReading
to_come r bytes = coming r.stage r bytes

-- the fault that was answered before is answered again, and nothing is asked of the source
abbrev pub AnswersAgain : {A : Type 0} → Reader → Reader → Result A CertFault → Device → Type 0
AnswersAgain old new result source = IfSome old.fault (λ fault. (result ≡ Err fault) × (new ≡ old) × IsUntouched source)

-- the bytes that the reader stands in begin with these lines, which are given, and what is to come is what was, but for what was read
pub record GoesOn (with_read : BudgetReading → BudgetReading) (count : ℕ) (text : List ℕ) (old new : Reader) (after : Option (List ℕ)) (bytes : List ℕ) : Type 0 where
  pub text_is : bytes ≡ text ++ after_lines count bytes
  pub rest : known new.lines after ≡ Some (after_lines count bytes)
  pub coming_is : to_come old bytes ≡ with_read (to_come new (after_lines count bytes))

-- why nothing more is read: what is to come is this fault, or the source failed
abbrev pub IsRefused : Reader → Device → CertFault → Type 0
IsRefused old source ReadFault = HasFailed source
IsRefused old source (BadText n kind) = IfSome (known old.lines source.before) (λ bytes. to_come old bytes ≡ stopped (Some (BadText n kind)))
IsRefused old source (Truncated n) = IfSome (known old.lines source.before) (λ bytes. to_come old bytes ≡ stopped (Some (Truncated n)))
IsRefused old source (Trailing n) = IfSome (known old.lines source.before) (λ bytes. to_come old bytes ≡ stopped (Some (Trailing n)))

-- how the header is read
abbrev pub HeaderRead : Reader → Reader → Device → Result BudgetHeader CertFault → Type 0
HeaderRead old new source (Ok h) = (new.stage ≡ InRecords) × (new.left ≡ h.requests) × (new.price ≡ 0) × (new.lines.line ≡ header_len h) × IfSome (known old.lines source.before) (GoesOn (under h) (header_len h) (text_of (header_lines h)) old new source.after)
HeaderRead old new source (Err fault) = IsRefused old source fault

-- how a record is read
abbrev pub RecordRead : Reader → Reader → Device → Result BudgetRecord CertFault → Type 0
RecordRead old new source (Ok r) = (new.stage ≡ InRecords) × (new.left + 1 ≡ old.left) × (new.price ≡ r.price) × (new.lines.line ≡ old.lines.line + 1) × IfSome (known old.lines source.before) (GoesOn (onto r) 1 (line (record_line old.price r)) old new source.after)
RecordRead old new source (Err fault) = IsRefused old source fault

-- how the end is read: nothing is to come, and nothing is left, neither held nor in the source
abbrev pub EndRead : {A : Type 0} → Reader → Reader → Device → Result A CertFault → Type 0
EndRead old new source (Ok value) = (new.stage ≡ AtEnd) × (new.left ≡ 0) × IfSome (known old.lines source.before) (λ bytes. (to_come old bytes ≡ stopped None) × (known new.lines source.after ≡ Some []) × (source.after ≡ Some []))
EndRead old new source (Err fault) = IsRefused old source fault
