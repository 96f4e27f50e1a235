-- The first lines of a trace, or its first records: what a reader of requests has gone through, and how much of a source its first requests need.
use Rattle.std.specs.Prelude.{◌≡◌, ℕ, ◌+◌, ◌-◌, ◌<◌, ◌≤◌, Bool, None, Some, IfSome, List, [], ◌++◌, length, take, drop, fold}
use Rattle.std.specs.List.{sum_by}
use Rattle.std.specs.declared.option.Option.{Option}
use Rattle.bound_io.specs.Devices.{Device}
use Rattle.cache_model.specs.declared.objects.Object.{Object}
use Rattle.trace_any.specs.declared.fault.TraceFault.{TraceFault}
use Rattle.trace_any.specs.declared.fault.TraceFault.TheVariants.{BadLine, ReadFault, InputTooLong, TooManyRequests, NoMemory}
use Rattle.trace_any.specs.declared.format.Format.{Format}
use Rattle.trace_any.specs.declared.format.Limits.{Limits}
use Rattle.trace_any.specs.Readings.{Reading, pieces_of, nothing_read, read_line, reading}
use Rattle.trace_any.specs.Readers.{Reader, after, bytes_after, known, last_mark, onto, room_left, with_ahead}

-- the first `count` lines of some bytes, or all that there are: the text of each, and how many bytes it has; a record counts as a line, and is its text
abbrev pub first_lines : Format → ℕ → List ℕ → List (List ℕ × ℕ)
first_lines format count bytes = take count (pieces_of format bytes)

-- how many bytes some lines have
abbrev pub bytes_of : List (List ℕ × ℕ) → ℕ
bytes_of lines = sum_by (λ line. line.1) lines

-- the reading of the first lines of a trace alone
abbrev pub reading_of_first : Format → Limits → ℕ → List ℕ → Reading
reading_of_first format limits count bytes = fold (read_line format limits) nothing_read (first_lines format count bytes)

-- what a source lost of these bytes, if this is left: at most this many first lines, and a buffer of bytes
abbrev pub HasLostLines : Format → ℕ → List ℕ → List ℕ → Type 0
HasLostLines format lines bytes left = length bytes ≤ length left + bytes_of (first_lines format lines bytes) + 65536

-- what a source lost for this many requests of a trace, if this is left: at most the fewest first lines that have them, and a buffer of bytes; or all, if the trace has fewer requests
pub record HasLostFor (format : Format) (limits : Limits) (count : ℕ) (bytes left : List ℕ) : Type 0 where
  pub near : count ≤ length (reading format limits bytes).requests → (lines : ℕ) → count ≤ length (reading_of_first format limits lines bytes).requests → HasLostLines format lines bytes left
  pub all : length (reading format limits bytes).requests < count → left ≡ []

-- what a source lost of a trace that is refused so, if this is left: at most the first lines through the one that the fault names, or else the fewest that are refused so, and a buffer of bytes
abbrev pub HasLostTo : Format → Limits → TraceFault → List ℕ → List ℕ → Type 0
HasLostTo format limits (BadLine line kind) bytes left = HasLostLines format line bytes left
HasLostTo format limits fault bytes left = (lines : ℕ) → (reading_of_first format limits lines bytes).refused ≡ Some fault → HasLostLines format lines bytes left

-- of a trace that is refused a source has lost at most the lines through the refused one, and a buffer of bytes, if its bytes are known
abbrev pub HasLostThrough : Format → Limits → Device → TraceFault → Type 0
HasLostThrough format limits source fault = IfSome source.before (λ bytes. IfSome source.after (HasLostTo format limits fault bytes))

-- how many lines a reader has given between two places
abbrev pub lines_between : Reader → Reader → ℕ
lines_between old new = new.lines.line - old.lines.line

-- the reading of what is still to come, if these lines follow
abbrev pub coming_in : Reader → List (List ℕ × ℕ) → Reading
coming_in r lines = fold (read_line r.format (room_left r)) (with_ahead r) lines

-- whatever the lines, this request is the first of those to come in them
abbrev pub GivesFirstIn : Reader → Reader → Object → Type 0
GivesFirstIn old new x = (lines : List (List ℕ × ℕ)) → coming_in old lines ≡ onto x (last_mark new) (coming_in new lines)

-- a reader has gone through the first of these bytes' lines and stands after them; whatever lines follow them, what is to come is what was, without the requests and the marks that were given
pub record GoesThrough (with_given : Reading → Reading) (old new : Reader) (bytes : List ℕ) : Type 0 where
  pub format : new.format ≡ old.format
  pub further : old.lines.line ≤ new.lines.line
  pub consumed : new.lines.consumed ≡ old.lines.consumed + bytes_of (first_lines old.format (lines_between old new) bytes)
  pub rest : pieces_of old.format (bytes_after old new bytes) ≡ drop (lines_between old new) (pieces_of old.format bytes)
  pub coming : (more : List (List ℕ × ℕ)) → coming_in old (first_lines old.format (lines_between old new) bytes ++ more) ≡ with_given (coming_in new more)

-- a reader goes no further than the line that gives its answer: the lines before that one ask for no request
pub record GoesNoFurther (with_given : Reading → Reading) (old new : Reader) (bytes : List ℕ) : Type 0 where
  pub through : GoesThrough with_given old new bytes
  pub none_before : (fewer : ℕ) → fewer < lines_between old new → (coming_in old (first_lines old.format fewer bytes)).requests ≡ []

-- the same of the bytes that it stands in, if those that the source has left are known
abbrev pub GoesNoFurtherFrom : Option (List ℕ) → (Reading → Reading) → Reader → Reader → Type 0
GoesNoFurtherFrom left with_given old new = IfSome (known old left) (GoesNoFurther with_given old new)

-- it goes no further than the line that asks for this request
abbrev pub GoesToRequest : Option (List ℕ) → Reader → Reader → Object → Type 0
GoesToRequest left old new x = GoesNoFurtherFrom left (onto x (last_mark new)) old new

-- a reader has given these requests and marks, and has gone through no more lines than they need
pub record HasGiven (given : List Object) (fills : List Bool) (old new : Reader) (bytes : List ℕ) : Type 0 where
  pub through : GoesThrough (after given fills) old new bytes
  pub least : (lines : ℕ) → length given ≤ length (coming_in old (first_lines old.format lines bytes)).requests → lines_between old new ≤ lines

-- a reader has given the first of these bytes' lines, of which none but the last may be refused, counts those of them that were dropped, and stands in the bytes after them
pub record StandsAfter (old new : Reader) (bytes : List ℕ) (after : Option (List ℕ)) : Type 0 where
  pub further : old.lines.line ≤ new.lines.line
  pub none_refused : (fewer : ℕ) → fewer < lines_between old new → (coming_in old (first_lines old.format fewer bytes)).refused ≡ None
  pub consumed : new.lines.consumed ≡ old.lines.consumed + bytes_of (first_lines old.format (lines_between old new) bytes)
  pub dropped : new.dropped ≡ (coming_in old (first_lines old.format (lines_between old new) bytes)).dropped
  pub rest : after ≡ Some (bytes_after old new bytes)

-- no line was given after the one that the fault names, if it names one, whether or not the bytes are known
abbrev pub IsNotPast : Reader → TraceFault → Type 0
IsNotPast new (BadLine line kind) = new.lines.line ≤ line
IsNotPast new ReadFault = Unit {0}
IsNotPast new InputTooLong = Unit {0}
IsNotPast new TooManyRequests = Unit {0}
IsNotPast new NoMemory = Unit {0}

-- a reader that gives no request for a fault goes no further than the line that is refused or passes a limit, and stands after the lines that it gave, if the bytes are known
abbrev pub StopsNoFurther : Reader → Reader → Device → TraceFault → Type 0
StopsNoFurther old new source fault = IsNotPast new fault × IfSome (known old source.before) (λ bytes. StandsAfter old new bytes (known new source.after))
