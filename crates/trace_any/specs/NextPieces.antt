-- The next line of a trace, or its next record, and what a reader of lines leaves that gives it.
use Rattle.std.specs.Prelude.{◌≡◌, ℕ, ◌<◌, ◌≤◌, List, length, take, drop, Bool, true, false, None, Some, Result, Ok, Err}
use Rattle.std.specs.declared.option.Option.{Option}
use Rattle.bound_io.specs.Devices.{Device}
use Rattle.bound_io.specs.Lines.{first_text, first_line, after_line}
use Rattle.bound_io.specs.Positions.{Position, GivesLine, GivesNone, GivesPiece, IsPieceRefused, IsRefused, Stops, known}
use Rattle.bound_io.specs.declared.line_reader.LineFault.{LineFault}

-- the first record of some bytes, or the text of their first line
abbrev pub next_text : Bool → List ℕ → List ℕ
next_text true bytes = take 24 bytes
next_text false bytes = first_text bytes

-- it is this text, and there is one
abbrev pub IsNextText : Bool → List ℕ → List ℕ → Type 0
IsNextText records text bytes = (text ≡ next_text records bytes) × (0 < length bytes)

-- how many bytes it has, the LF of a line counted
abbrev pub next_size : Bool → List ℕ → ℕ
next_size true bytes = length (take 24 bytes)
next_size false bytes = length (first_line bytes)

-- what stands after it
abbrev pub after_next : Bool → List ℕ → List ℕ
after_next true bytes = drop 24 bytes
after_next false bytes = after_line bytes

-- why it isn't given
abbrev pub IsNextRefused : Bool → Position → Option (List ℕ) → ℕ → ℕ → LineFault → Type 0
IsNextRefused true at known faults_before faults_after fault = IsPieceRefused 24 at known faults_before faults_after fault
IsNextRefused false at known faults_before faults_after fault = IsRefused at known faults_before faults_after fault

-- the same by the source before the call and after it
abbrev pub RefusesNext : Bool → Position → Device → LineFault → Type 0
RefusesNext records at source = IsNextRefused records at (known at source.before) source.faults_before source.faults_after

-- it was given
abbrev pub GivesNext : Bool → Position → Position → Option (List ℕ) → Option (List ℕ) → Type 0
GivesNext true old new before after = GivesPiece 24 old new before after
GivesNext false old new before after = GivesLine old new before after

-- what a call that gives it, if there is one, leaves
abbrev pub NextPiece : {A : Type 0} → Bool → Position → Position → Option (List ℕ) → Option (List ℕ) → Result (Option A) LineFault → Type 0
NextPiece records old new before after (Ok (Some text)) = GivesNext records old new before after
NextPiece records old new before after (Ok None) = GivesNone old new before after
NextPiece records old new before after (Err fault) = Stops old new before after fault

-- what it leaves, by the source before and after: a reader that holds no more than its buffer does
abbrev pub LeavesPiece : {A : Type 0} → Bool → Position → Device → Result (Option A) LineFault → Position → Type 0
LeavesPiece records old source result new = NextPiece records old new (known old source.before) (known new source.after) result × (length new.held ≤ 65536)
