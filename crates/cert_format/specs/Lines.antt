-- How lines of a certificate are read from a source.
use Rattle.std.specs.Prelude.{◌≡◌, ℕ, ◌+◌, ◌-◌, ◌*◌, ◌≤◌, List, length, nat_le, if◌then◌else◌, Result, Ok, Err, None, Some, IfSome, IfOk, IfErr, OnOk}
use Rattle.std.specs.declared.option.Option.{Option}
use Rattle.bound_io.specs.Devices.{Device, HasFailed}
use Rattle.bound_io.specs.Reading.{ReadsSource}
use Rattle.bound_io.specs.Lines.{first_text, stands_in}
use Rattle.bound_io.specs.Positions.{Position}
use Rattle.bound_io.specs.declared.line_reader.LineFault.{LineFault}
use Rattle.bound_io.specs.declared.line_reader.LineFault.TheVariants as line
use Rattle.bound_io.specs.declared.line_reader.WholeLine.{WholeLine}
use Rattle.bound_io.specs.declared.line_reader.WholeLine.TheVariants.{Whole, Unended, AtEnd}
use Rattle.cert_format.specs.declared.fault.TextKind.{TextKind}
use Rattle.cert_format.specs.declared.fault.TextKind.TheVariants.{TooLong}
use Rattle.cert_format.specs.declared.fault.CertFault.{CertFault}
use Rattle.cert_format.specs.declared.fault.CertFault.TheVariants.{BadText, Truncated, Trailing, ReadFault}
use Rattle.cert_format.specs.Grammar.{Slot}
use Rattle.cert_format.specs.Readings.{after_lines, bytes_through, first_fault}

-- the bytes that a reader stands in, if those that the source has left are known, and those of the lines so far, which have at most 64 bytes each on average
abbrev pub known : Position → Option (List ℕ) → Option (List ℕ)
known at left = if nat_le at.consumed (64 * at.line) then stands_in at.held left else None

-- the text of a whole line, or why there is none; it would be line n
abbrev pub text_given : ℕ → Result WholeLine LineFault → Result (List ℕ) CertFault
text_given n (Ok (Whole text)) = Ok text.now
text_given n (Ok (Unended text)) = Err (Truncated n)
text_given n (Ok AtEnd) = Err (Truncated n)
text_given n (Err line.ReadFault) = Err ReadFault
text_given n (Err (line.LineTooLong m)) = Err (BadText n TooLong)
text_given n (Err line.InputTooLong) = Err (BadText n TooLong)

-- that no line is left, or what is; it would be line n
abbrev pub nothing_given : ℕ → Result WholeLine LineFault → Result (Unit {0}) CertFault
nothing_given n (Ok (Whole text)) = Err (Trailing n)
nothing_given n (Ok (Unended text)) = Err (Trailing n)
nothing_given n (Ok AtEnd) = Ok tt
nothing_given n (Err line.ReadFault) = Err ReadFault
nothing_given n (Err (line.LineTooLong m)) = Err (Trailing n)
nothing_given n (Err line.InputTooLong) = Err (Trailing n)

-- what the text of line n gives
abbrev pub of_line : {A : Type 0} → ℕ → Result A TextKind → Result A CertFault
of_line n (Ok value) = Ok value
of_line n (Err kind) = Err (BadText n kind)

-- some lines are given
pub record IsPast (old new : Position) (bytes : List ℕ) : Type 0 where
  pub further : old.line ≤ new.line
  pub consumed : new.consumed ≡ old.consumed + bytes_through (new.line - old.line) bytes

-- each byte that the source has lost is one that the reader has taken: those that were taken and those that are left are as many as before
abbrev pub IsTaken : Position → Position → Option (List ℕ) → Option (List ℕ) → Type 0
IsTaken old new before after = IfSome before (λ was. IfSome after (λ is. old.consumed + length old.held + length was ≡ new.consumed + length new.held + length is))

-- the bytes begin with this number of lines without a fault, and what stands after them is still there
pub record Passes (fault_of : List ℕ → Option CertFault) (count : ℕ) (bytes : List ℕ) (after : Option (List ℕ)) : Type 0 where
  pub none : fault_of bytes ≡ None
  pub rest : after ≡ Some (after_lines count bytes)

-- why lines are not given: the bytes have this fault, or the source failed
abbrev pub IsStopped : (List ℕ → Option CertFault) → Option (List ℕ) → Device → CertFault → Type 0
IsStopped fault_of before source ReadFault = HasFailed source
IsStopped fault_of before source (BadText n kind) = IfSome before (λ bytes. fault_of bytes ≡ Some (BadText n kind))
IsStopped fault_of before source (Truncated n) = IfSome before (λ bytes. fault_of bytes ≡ Some (Truncated n))
IsStopped fault_of before source (Trailing n) = IfSome before (λ bytes. fault_of bytes ≡ Some (Trailing n))

-- no line after that of the fault is given
abbrev pub IsWithin : ℕ → CertFault → Type 0
IsWithin given ReadFault = Unit {0}
IsWithin given (BadText n kind) = given ≤ n
IsWithin given (Truncated n) = given ≤ n
IsWithin given (Trailing n) = given ≤ n

-- this number of lines is read from a source as a value of the bytes, or is not, for a fault that the bytes have
pub record Reads {A : Type 0} (fault_of : List ℕ → Option CertFault) (count : ℕ) (value : List ℕ → A) (old new : Position) (source : Device) (result : Result A CertFault) : Type 0 where
  pub limit : new.limit ≡ old.limit
  pub held : length new.held ≤ 65536
  pub given : OnOk result ((new.line ≡ old.line + count) × (new.fault ≡ None))
  pub passes : OnOk result (IfSome (known old source.before) (λ bytes. Passes fault_of count bytes (known new source.after)))
  pub value_is : IfOk result (λ v. IfSome (known old source.before) (λ bytes. v ≡ value bytes))
  pub stopped : IfErr result (IsStopped fault_of (known old source.before) source)
  pub within : IfErr result (IsWithin new.line)
  pub past : IfSome (known old source.before) (IsPast old new)
  pub taken : IsTaken old new source.before source.after
  pub reads : ReadsSource ReadFault source result

-- lines are read from the next one on, and their fault is told by its number
abbrev pub ReadsNext : {A : Type 0} → (ℕ → List ℕ → Option CertFault) → ℕ → (List ℕ → A) → Position → Position → Device → Result A CertFault → Type 0
ReadsNext fault_from count value old new source result = Reads (fault_from (old.line + 1)) count value old new source result

-- one line with these places is read, as a value of its text
abbrev pub ReadsLine : {A : Type 0} → List Slot → (List ℕ → A) → Position → Position → Device → Result A CertFault → Type 0
ReadsLine slots value old new source result = Reads (first_fault (old.line + 1) slots) 1 (λ bytes. value (first_text bytes)) old new source result
