-- What a reader of requests has still to give.
use Rattle.std.specs.Prelude.{◌≡◌, ℕ, ◌+◌, ◌-◌, ◌<◌, ◌≤◌, ◌⊎◌, drop, List, [], ◌∷◌, ◌++◌, Bool, true, false, ◌||◌, Result, Ok, Err, None, Some, IfSome}
use Rattle.trace_lines.specs.declared.line.Span.{Span}
use Rattle.trace_lines.specs.declared.line.Span.TheVariants.{Nothing, One, Blocks}
use Rattle.std.specs.declared.option.Option.{Option}
use Rattle.bound_io.specs.Causes.{HasNewFault}
use Rattle.bound_io.specs.Devices.{Device, IsUntouched}
use Rattle.bound_io.specs.Positions.{Position}
use Rattle.bound_io.specs.Lines.{stands_in}
use Rattle.cache_model.specs.declared.objects.Object.{Object}
use Rattle.cache_rules.specs.Stored.{Requests, mark_if, with_mark}
use Rattle.freshness.specs.Stale.{can_end}
use Rattle.freshness.specs.Seen.{Seen, Staleness, is_stale, nothing_seen, with_seen}
use Rattle.trace_any.specs.declared.fault.TraceFault.{TraceFault}
use Rattle.trace_any.specs.declared.fault.TraceFault.TheVariants.{BadLine, ReadFault, InputTooLong, TooManyRequests, NoMemory}
use Rattle.trace_any.specs.declared.format.Format.{Format}
use Rattle.trace_any.specs.declared.format.Limits.{Limits}
use Rattle.trace_any.specs.declared.progress.Range.{Range}
use Rattle.trace_any.specs.Volumes.{Volume}
use Rattle.trace_any.specs.Readings.{is_marked, Reading, Stamp, requested, read_on, untimed, with_named, number_of}

-- what is left of the blocks that the last line asked for, with its time and its mark
pub record Ahead : Type 0 where
  pub volume : ℕ
  pub stamp : Stamp
  pub first : ℕ
  pub count : ℕ
  pub size : ℕ

-- no block is left
abbrev pub nothing_ahead : Ahead
nothing_ahead = record { volume = 0; stamp = untimed false; first = 0; count = 0; size = 0 }

-- the blocks that the code keeps as a range
abbrev pub ahead_of : Range → Ahead
ahead_of r = record { volume = r.volume; stamp = record { time = r.time; fills = r.fills }; first = r.first; count = r.count; size = r.size }

-- where a reader of requests stands: its form, its limits, its lines, the number of requests given and of lines dropped, the volumes named, what is known of the objects, the blocks of the last line, whether the last request was stale, and the fault that was answered
pub record Reader : Type 0 where
  pub format : Format
  pub limits : Limits
  pub lines : Position
  pub given : ℕ
  pub dropped : ℕ
  pub volumes : List Volume
  pub seen : Seen
  pub ahead : Ahead
  pub stale : Bool
  pub fault : Option TraceFault

-- what a reading tells beside the requests: how many lines were dropped, and what is noted of the requests
pub record Notes : Type 0 where
  pub dropped : ℕ
  pub noted : Staleness

-- what a reader has to tell
abbrev pub notes_of : Reader → Notes
notes_of r = record { dropped = r.dropped; noted = r.seen.noted }

-- a reader that has read nothing
abbrev pub fresh : Format → Limits → Reader
fresh format limits = record {
  format = format;
  limits = limits;
  lines = record { limit = limits.bytes; consumed = 0; line = 0; held = []; fault = None };
  given = 0;
  dropped = 0;
  volumes = [];
  seen = nothing_seen;
  ahead = nothing_ahead;
  stale = false;
  fault = None;
}

-- a reader with this fault
abbrev pub with_fault : Reader → Option TraceFault → Reader
with_fault r fault = record r { fault = fault }

-- the fault of an answer, if it is one
abbrev pub err_of : {A : Type 0} → Result A TraceFault → Option TraceFault
err_of (Ok x) = None
err_of (Err fault) = Some fault

-- the requests that may still be given
abbrev pub room_left : Reader → Limits
room_left r = record { requests = r.limits.requests - r.given; bytes = r.limits.bytes }

-- a reading that has come as far as a reader, whose requests so far are left out
abbrev pub so_far : Reader → Reading
so_far r = record { requests = []; fills = []; seen = r.seen; volumes = r.volumes; dropped = r.dropped; lines = r.lines.line; bytes = r.lines.consumed; refused = None }

-- whether the request that was given last only fills the cache: by its own mark, or since it is stale
abbrev pub last_fills : Reader → Bool
last_fills r = r.ahead.stamp.fills || r.stale

-- the mark of the request that was given last, if its form has marks
abbrev pub last_mark : Reader → Option Bool
last_mark r = mark_if (is_marked r.format) (last_fills r)

-- the blocks of the last line, as far as there is room
abbrev pub with_ahead : Reader → Reading
with_ahead r = requested (r.limits.requests - r.given) r.format (so_far r) r.ahead.volume r.ahead.stamp r.ahead.first r.ahead.count r.ahead.size

-- the reading of what is still to come, if the reader stands in these bytes: the requests after those given with their marks, the dropped lines in all, and why it stops
abbrev pub to_come : Reader → List ℕ → Reading
to_come r bytes = read_on r.format (room_left r) (with_ahead r) bytes

-- a request, with its mark if there is one, before the others of a reading
abbrev pub onto : Object → Option Bool → Reading → Reading
onto x mark r = record r { requests = x ∷ r.requests; fills = with_mark [] mark ++ r.fills }

-- requests and their marks before the others of a reading
abbrev pub after : List Object → List Bool → Reading → Reading
after given fills r = record r { requests = given ++ r.requests; fills = fills ++ r.fills }

-- the reading has no more requests and no more marks, these dropped lines, and stops for this or not at all
pub record IsOver (r : Reading) (dropped : ℕ) (refused : Option TraceFault) : Type 0 where
  pub requests : r.requests ≡ []
  pub marks : r.fills ≡ []
  pub dropped_lines : r.dropped ≡ dropped
  pub stop : r.refused ≡ refused

-- the bytes that a reader stands in, if those that the source has left are known
abbrev pub known : Reader → Option (List ℕ) → Option (List ℕ)
known r left = stands_in r.lines.held left

-- why the next request is not given: what is to come is a refusal, or the source has a new fault; running out of memory is free
abbrev pub IsStopped : Reader → Reader → Option (List ℕ) → ℕ → ℕ → TraceFault → Type 0
IsStopped old new before faults_before faults_after (BadLine line kind) = IfSome before (λ bytes. IsOver (to_come old bytes) new.dropped (Some (BadLine line kind)))
IsStopped old new before faults_before faults_after InputTooLong = IfSome before (λ bytes. IsOver (to_come old bytes) new.dropped (Some InputTooLong))
IsStopped old new before faults_before faults_after TooManyRequests = IfSome before (λ bytes. IsOver (to_come old bytes) new.dropped (Some TooManyRequests))
IsStopped old new before faults_before faults_after ReadFault = HasNewFault faults_before faults_after
IsStopped old new before faults_before faults_after NoMemory = Unit {0}

-- the fault that was answered before is answered again, and nothing is asked of the source
abbrev pub AnswersAgain : {A : Type 0} → Reader → Reader → Result A TraceFault → Device → Type 0
AnswersAgain old new result source =
    IfSome old.fault (λ fault. (result ≡ Err fault) × (new ≡ old) × (source.after ≡ source.before) × (source.faults_after ≡ source.faults_before))

-- the form, the limits, the lines and the number of dropped lines are as before
abbrev pub ReadsNothing : Reader → Reader → Type 0
ReadsNothing old new = (new.format ≡ old.format) × (new.limits ≡ old.limits) × (new.lines ≡ old.lines) × (new.dropped ≡ old.dropped)

-- whatever the bytes, this request is the first of those to come
abbrev pub GivesFirst : Reader → Reader → Object → Type 0
GivesFirst old new x = (new.given ≡ old.given + 1) × ((bytes : List ℕ) → to_come old bytes ≡ onto x (last_mark new) (to_come new bytes))

-- what is known of the objects, once this request is given at the time of its line
abbrev pub seen_with : Reader → Object → Seen
seen_with r x = with_seen r.format.fresh r.seen x r.ahead.stamp.time r.ahead.stamp.fills

-- one request more is noted, at the time of its line and with its own mark, and it was stale or not
abbrev pub NotesRequest : Reader → Reader → Object → Type 0
NotesRequest old new x =
    (new.seen ≡ with_seen old.format.fresh old.seen x new.ahead.stamp.time new.ahead.stamp.fills)
    × (new.stale ≡ is_stale old.format.fresh old.seen x new.ahead.stamp.time)

-- nothing more is noted of requests
abbrev pub NotesNone : Reader → Reader → Type 0
NotesNone old new = (new.seen.noted ≡ old.seen.noted) × (new.seen.times ≡ old.seen.times)

-- what an answer notes: the request that it gives, and else nothing; at the end nothing more is known of the objects either
abbrev pub NotesAnswer : Reader → Reader → Result (Option Object) TraceFault → Type 0
NotesAnswer old new (Ok (Some x)) = NotesRequest old new x
NotesAnswer old new (Ok None) = new.seen ≡ old.seen
NotesAnswer old new (Err fault) = NotesNone old new

-- there is room for no request, and whatever the bytes, that is what stops the reading
abbrev pub IsFull : Reader → Reader → TraceFault → Type 0
IsFull old new fault = (fault ≡ TooManyRequests) × ((bytes : List ℕ) → IsOver (to_come old bytes) new.dropped (Some fault))

-- why the first of the blocks to come is not given: there is room for no request, or no memory for what is known of its object
abbrev pub IsUngiven : Reader → Reader → TraceFault → Type 0
IsUngiven old new NoMemory = can_end old.format.fresh ≡ true
IsUngiven old new fault = IsFull old new fault

-- the bytes after those that a reader has given the lines of
abbrev pub bytes_after : Reader → Reader → List ℕ → List ℕ
bytes_after old new bytes = drop (new.lines.consumed - old.lines.consumed) bytes

-- the reader goes on from these bytes past the lines that it gave, and what is to come is what was, without the request and the mark that were given
pub record GoesOn (with_given : Reading → Reading) (old new : Reader) (bytes : List ℕ) (after : Option (List ℕ)) : Type 0 where
  pub further : old.lines.consumed ≤ new.lines.consumed
  pub rest : after ≡ Some (bytes_after old new bytes)
  pub coming : to_come old bytes ≡ with_given (to_come new (bytes_after old new bytes))

-- no request is left: none of these bytes was to come, nothing of them is left, none comes from then on, and what is known of the objects is what the reader has
abbrev pub GivesNone : Reader → Reader → List ℕ → Option (List ℕ) → Type 0
GivesNone old new bytes after =
    IsOver (to_come old bytes) new.dropped None × (after ≡ Some []) × IsOver (to_come new []) new.dropped None × ((to_come old bytes).seen ≡ new.seen)

-- how the next request is given: it is the first of those to come, and the last mark is its own; at the end none is left
abbrev pub NextRequest : Reader → Reader → Option (List ℕ) → Option (List ℕ) → ℕ → ℕ → Result (Option Object) TraceFault → Type 0
NextRequest old new before after faults_before faults_after (Ok (Some x)) = (new.given ≡ old.given + 1) × IfSome before (λ bytes. GoesOn (onto x (last_mark new)) old new bytes after)
NextRequest old new before after faults_before faults_after (Ok None) = IfSome before (λ bytes. GivesNone old new bytes after)
NextRequest old new before after faults_before faults_after (Err fault) = IsStopped old new before faults_before faults_after fault

-- the same by the source before the call and after it
abbrev pub GivesRequest : Reader → Reader → Device → Result (Option Object) TraceFault → Type 0
GivesRequest old new source result = NextRequest old new (known old source.before) (known new source.after) source.faults_before source.faults_after result

-- how the next line is taken up: nothing that is to come changes by it
abbrev pub LineTaken : Reader → Reader → Option (List ℕ) → Option (List ℕ) → ℕ → ℕ → Result Bool TraceFault → Type 0
LineTaken old new before after faults_before faults_after (Ok true) = (old.lines.consumed < new.lines.consumed) × IfSome before (λ bytes. GoesOn (λ r. r) old new bytes after)
LineTaken old new before after faults_before faults_after (Ok false) = IfSome before (λ bytes. GivesNone old new bytes after)
LineTaken old new before after faults_before faults_after (Err fault) = IsStopped old new before faults_before faults_after fault

-- the same by the source before the call and after it
abbrev pub TakesLine : Reader → Reader → Device → Result Bool TraceFault → Type 0
TakesLine old new source result = LineTaken old new (known old source.before) (known new source.after) source.faults_before source.faults_after result

-- the blocks that a line with this span asks for of the volume with this number, if any, with its time and its mark
abbrev pub ahead_by : ℕ → Stamp → Span → Option Ahead
ahead_by volume stamp Nothing = None
ahead_by volume stamp (One id size) = Some (record { volume = volume; stamp = stamp; first = id; count = 1; size = size })
ahead_by volume stamp (Blocks first count size) = Some (record { volume = volume; stamp = stamp; first = first; count = count; size = size })

-- a reader whose last line asked for these blocks, or for nothing
abbrev pub with_ahead_by : Reader → Option Ahead → Reader
with_ahead_by r (Some ahead) = record r { ahead = ahead }
with_ahead_by r None = record r { dropped = r.dropped + 1 }

-- the volumes after a line with this span
abbrev pub with_named_by : Span → List Volume → Option Volume → List Volume
with_named_by Nothing volumes volume = volumes
with_named_by (One id size) volumes volume = with_named volumes volume
with_named_by (Blocks first count size) volumes volume = with_named volumes volume

-- the number of the volume of a line with this span, which is 0 if it asks for nothing
abbrev pub number_by : Span → List Volume → Option Volume → ℕ
number_by Nothing volumes volume = 0
number_by (One id size) volumes volume = number_of volumes volume
number_by (Blocks first count size) volumes volume = number_of volumes volume

-- a reading that was not refused has these requests, marks and dropped lines
pub record IsWhole (r : Reading) (trace : Requests) (dropped : ℕ) : Type 0 where
  pub requests : r.requests ≡ trace.objects
  pub marks : r.fills ≡ trace.fills
  pub dropped_lines : r.dropped ≡ dropped
  pub stop : r.refused ≡ None

-- the requests that are still to come are all in the trace, and the dropped lines are this many in all
abbrev pub LoadsAll : Reader → Option (List ℕ) → Requests → ℕ → Type 0
LoadsAll reader left trace dropped = IfSome (known reader left) (λ bytes. IsWhole (to_come reader bytes) trace dropped)

-- what is known of the objects at the end of the reading is what the reader has
abbrev pub HasSeenAll : Reader → Option (List ℕ) → Reader → Type 0
HasSeenAll old left new = IfSome (known old left) (λ bytes. (to_come old bytes).seen ≡ new.seen)

-- no byte is left that the reader stands in
abbrev pub LeavesNone : Reader → Reader → Device → Type 0
LeavesNone old new source = IfSome (known old source.before) (λ _. known new source.after ≡ Some [])

-- the reader keeps this fault; or there was no memory to begin with, the reader is as before, and nothing was asked of the source
abbrev pub KeepsFault : Reader → Reader → Device → TraceFault → Type 0
KeepsFault old new source fault = (new.fault ≡ Some fault) ⊎ ((fault ≡ NoMemory) × (new ≡ old) × IsUntouched source)

-- the fault that was answered before is answered again, unless there is no memory to begin with, and nothing is asked of the source
abbrev pub LoadsNoMore : {A : Type 0} → Reader → Reader → Result A TraceFault → Device → Type 0
LoadsNoMore old new result source =
    IfSome old.fault (λ fault. ((result ≡ Err fault) ⊎ (result ≡ Err NoMemory)) × (new ≡ old) × (source.after ≡ source.before) × (source.faults_after ≡ source.faults_before))

-- why no trace is loaded: the reading of what is to come is refused so, or the source has a new fault; running out of memory is free
abbrev pub IsNotLoaded : Reader → Option (List ℕ) → ℕ → ℕ → TraceFault → Type 0
IsNotLoaded old before faults_before faults_after (BadLine line kind) = IfSome before (λ bytes. (to_come old bytes).refused ≡ Some (BadLine line kind))
IsNotLoaded old before faults_before faults_after InputTooLong = IfSome before (λ bytes. (to_come old bytes).refused ≡ Some InputTooLong)
IsNotLoaded old before faults_before faults_after TooManyRequests = IfSome before (λ bytes. (to_come old bytes).refused ≡ Some TooManyRequests)
IsNotLoaded old before faults_before faults_after ReadFault = HasNewFault faults_before faults_after
IsNotLoaded old before faults_before faults_after NoMemory = Unit {0}

-- the same by the source before the call and after it
abbrev pub RefusesTrace : Reader → Device → TraceFault → Type 0
RefusesTrace old source = IsNotLoaded old (known old source.before) source.faults_before source.faults_after
