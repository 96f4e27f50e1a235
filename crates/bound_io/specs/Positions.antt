-- Where a reader of lines stands.
use Rattle.std.specs.Prelude.{◌≡◌, ℕ, ◌+◌, ◌≤◌, ◌<◌, List, [], length, take, drop, None, Some, IfSome, Result, Ok, Err}
use Rattle.std.specs.Borrow.{Bor}
use Rattle.std.specs.declared.option.Option.{Option}
use Rattle.std.specs.Io.KnownBytes.{IsAtEnd, Keeps}
use Rattle.bound_io.specs.Causes.{HasNewFault}
use Rattle.bound_io.specs.Devices.{Device}
use Rattle.bound_io.specs.Lines.{text_len, first_line, first_text, after_line, stands_in}
use Rattle.bound_io.specs.declared.line_reader.LineFault.{LineFault}
use Rattle.bound_io.specs.declared.line_reader.LineFault.TheVariants.{ReadFault, LineTooLong, InputTooLong}
use Rattle.bound_io.specs.declared.line_reader.WholeLine.{WholeLine}
use Rattle.bound_io.specs.declared.line_reader.WholeLine.TheVariants.{Whole, Unended, AtEnd}

-- the most bytes that its lines may have, the bytes and the number of the lines given, the bytes taken from the source of which no line was given yet, and the fault that was answered
pub record Position : Type 0 where
  pub limit : ℕ
  pub consumed : ℕ
  pub line : ℕ
  pub held : List ℕ
  pub fault : Option LineFault

-- what a reader stands in: the bytes that it holds, and then those that the source has left, if they are known
abbrev pub known : Position → Option (List ℕ) → Option (List ℕ)
known at left = stands_in at.held left

-- a position with these bytes held
abbrev pub with_held : Position → List ℕ → Position
with_held at held = record at { held = held }

-- a position after this fault
abbrev pub with_fault : Position → LineFault → Position
with_fault at fault = record at { fault = Some fault }

-- a line of `line` bytes, with a text of `text` bytes, stands in the held bytes and passes no limit; it has none only if none is held
pub record Fits (at : Position) (held : List ℕ) (text line : ℕ) : Type 0 where
  pub in_line : text ≤ line
  pub one_lf : line ≤ text + 1
  pub in_held : line ≤ length held
  pub short : text ≤ 65535
  pub within : at.consumed + line ≤ at.limit
  pub none : line ≡ 0 → length held ≡ 0

-- why the first line of the bytes that a reader stands in, if they are known, isn't given; and a failed read only with a new fault
abbrev pub IsRefused : Position → Option (List ℕ) → ℕ → ℕ → LineFault → Type 0
IsRefused at known faults_before faults_after ReadFault = HasNewFault faults_before faults_after
IsRefused at known faults_before faults_after (LineTooLong line) = (line ≡ at.line + 1) × IfSome known (λ bytes. 65535 < text_len bytes)
IsRefused at known faults_before faults_after InputTooLong = IfSome known (λ bytes. (text_len bytes ≤ 65535) × (at.limit < at.consumed + length (first_line bytes)))

-- why the first line isn't given, by the source before the call and after it
abbrev pub RefusesLine : Position → Device → LineFault → Type 0
RefusesLine at source = IsRefused at (known at source.before) source.faults_before source.faults_after

-- the fault that was answered before is answered again, and nothing is asked of the source
abbrev pub AnswersAgain : {A : Type 0} → Option LineFault → Result A LineFault → Device → Type 0
AnswersAgain answered result source =
    IfSome answered (λ fault. (result ≡ Err fault) × (source.after ≡ source.before) × (source.faults_after ≡ source.faults_before))

-- one line was given: it is gone from what the reader stands in, known before and after
pub record GivesLine (old new : Position) (before after : Option (List ℕ)) : Type 0 where
  pub limit : new.limit ≡ old.limit
  pub line : new.line ≡ old.line + 1
  pub some : old.consumed < new.consumed
  pub within : new.consumed ≤ new.limit
  pub fault : new.fault ≡ None
  pub consumed : IfSome before (λ bytes. new.consumed ≡ old.consumed + length (first_line bytes))
  pub rest : IfSome before (λ bytes. after ≡ Some (after_line bytes))

-- no line is left to give
pub record GivesNone (old new : Position) (before after : Option (List ℕ)) : Type 0 where
  pub still : new ≡ with_held old []
  pub fault : old.fault ≡ None
  pub nothing : IsAtEnd before
  pub rest : Keeps before after

-- no line is given for a fault, which is kept: nothing of what the reader stands in is lost, and nothing changes if the fault was answered before
pub record Stops (old new : Position) (before after : Option (List ℕ)) (fault : LineFault) : Type 0 where
  pub still : new ≡ with_fault (with_held old new.held) fault
  pub rest : Keeps before after
  pub again : IfSome old.fault (λ _. new ≡ old)

-- what a call that gives the next line, if there is one, leaves
abbrev pub NextLine : {A : Type 0} → Position → Position → Option (List ℕ) → Option (List ℕ) → Result (Option A) LineFault → Type 0
NextLine old new before after (Ok (Some text)) = GivesLine old new before after
NextLine old new before after (Ok None) = GivesNone old new before after
NextLine old new before after (Err fault) = Stops old new before after fault

-- what it leaves, by the source before and after: a reader that holds no more than its buffer does
abbrev pub LeavesLine : {A : Type 0} → Position → Device → Result (Option A) LineFault → Position → Type 0
LeavesLine old source result new = NextLine old new (known old source.before) (known new source.after) result × (length new.held ≤ 65536)

-- the text is that of the first line of these bytes, of which there is one
abbrev pub IsFirstText : List ℕ → List ℕ → Type 0
IsFirstText text bytes = (text ≡ first_text bytes) × (0 < length bytes)

-- the text of a line is that of the first line of these bytes, and tells whether it ends in LF
abbrev pub IsLine : WholeLine → List ℕ → Type 0
IsLine (Whole text) bytes = (text.now ≡ first_text bytes) × (text_len bytes < length bytes)
IsLine (Unended text) bytes = (text.now ≡ bytes) × (text_len bytes ≡ length bytes) × (0 < length bytes)
IsLine AtEnd bytes = bytes ≡ []

-- the line that was given, if one was
abbrev pub given : WholeLine → Option (List ℕ)
given (Whole text) = Some text.now
given (Unended text) = Some text.now
given AtEnd = None

-- the line that was given, if one was, or the fault
abbrev pub given_by : Result WholeLine LineFault → Result (Option (List ℕ)) LineFault
given_by (Ok line) = Ok (given line)
given_by (Err fault) = Err fault

-- a piece of at most this many bytes stands in the held bytes and passes no limit; it has none only if none is held
pub record FitsPiece (at : Position) (held : List ℕ) (count size : ℕ) : Type 0 where
  pub most : size ≤ count
  pub in_held : size ≤ length held
  pub within : at.consumed + size ≤ at.limit
  pub none : size ≡ 0 → 0 < count → length held ≡ 0

-- why the next piece of this many bytes, or of all that are left, isn't given: the bytes through it pass the limit; and a failed read only with a new fault
abbrev pub IsPieceRefused : ℕ → Position → Option (List ℕ) → ℕ → ℕ → LineFault → Type 0
IsPieceRefused count at known faults_before faults_after ReadFault = HasNewFault faults_before faults_after
IsPieceRefused count at known faults_before faults_after (LineTooLong line) = ⊥
IsPieceRefused count at known faults_before faults_after InputTooLong = IfSome known (λ bytes. at.limit < at.consumed + length (take count bytes))

-- the same by the source before the call and after it
abbrev pub RefusesPiece : ℕ → Position → Device → LineFault → Type 0
RefusesPiece count at source = IsPieceRefused count at (known at source.before) source.faults_before source.faults_after

-- one piece of this many bytes, or of all that were left, was given: it is gone from what the reader stands in, known before and after
pub record GivesPiece (count : ℕ) (old new : Position) (before after : Option (List ℕ)) : Type 0 where
  pub limit : new.limit ≡ old.limit
  pub line : new.line ≡ old.line + 1
  pub some : old.consumed < new.consumed
  pub within : new.consumed ≤ new.limit
  pub fault : new.fault ≡ None
  pub consumed : IfSome before (λ bytes. new.consumed ≡ old.consumed + length (take count bytes))
  pub rest : IfSome before (λ bytes. after ≡ Some (drop count bytes))

-- what a call that gives the next piece of this many bytes leaves; it gives no byte only if none is left
abbrev pub NextBytes : ℕ → Position → Position → Option (List ℕ) → Option (List ℕ) → Result (Bor (List ℕ)) LineFault → Type 0
NextBytes count old new before after (Ok piece) = (piece.now ≡ [] → GivesNone old new before after) × (0 < length piece.now → GivesPiece count old new before after)
NextBytes count old new before after (Err fault) = Stops old new before after fault

-- what it leaves, by the source before and after: a reader that holds no more than its buffer does
abbrev pub LeavesBytes : ℕ → Position → Device → Result (Bor (List ℕ)) LineFault → Position → Type 0
LeavesBytes count old source result new = NextBytes count old new (known old source.before) (known new source.after) result × (length new.held ≤ 65536)
