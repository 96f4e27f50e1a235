-- What is to come of a reader, after one line more and after one request more.
use Rattle.std.proofs.Common.{◌≡◌, ℕ, zero, suc, ◌+◌, ◌-◌, ◌≤◌, ◌<◌, ◌∙◌, sym, refl, ap, List, [], ◌∷◌, ◌++◌, append_assoc, append-nil, length, drop, subst, arith, not, fold, min, nat_lt, if◌then◌else◌, Option, Some, None, Result, Ok, Err, IfSome, Bool, true, false, ◌||◌}
use Rattle.std.specs.Result.{IsErr, IsErrAnd, is_ok}
use Rattle.std.proofs.lemmas.List.{drop-drop}
use Rattle.std.proofs.lemmas.Bool.{le-ltb, lt-ltb, false≢true, true≢false}
use Rattle.std.specs.Io.KnownBytes.{IsAtEnd}
use Rattle.bound_io.specs.Causes.{HasNewFault}
use Rattle.bound_io.specs.Positions.{Position}
use Rattle.bound_io.specs.declared.line_reader.LineFault.{LineFault}
use Rattle.bound_io.specs.declared.line_reader.LineFault.TheVariants as line
use Rattle.cache_model.specs.declared.objects.Object.{Object}
use Rattle.cache_rules.specs.Stored.{Requests, mark_if, with_mark, with_request}
use Rattle.freshness.specs.Seen.{Seen, is_stale}
use Rattle.trace_lines.specs.declared.line.Span.{Span}
use Rattle.trace_lines.specs.declared.line.Span.TheVariants.{Nothing, One, Blocks}
use Rattle.trace_lines.specs.declared.line.LineKind.{LineKind}
use Rattle.trace_lines.specs.declared.line.LineKind.TheVariants.{TooLong}
use Rattle.trace_any.specs.declared.fault.TraceFault.{TraceFault}
use Rattle.trace_any.specs.declared.fault.TraceFault.TheVariants.{BadLine, InputTooLong, TooManyRequests}
use Rattle.trace_any.specs.Volumes.{Volume}
use Rattle.trace_any.specs.Readings.{blocks, is_marked, LineContents, Reading, Stamp, has_records, mark_of, spanned, with_one, stopped, requested, text_content, with_line, read_line, read_on, reading, nothing_read, fault_of}
use Rattle.trace_any.specs.declared.format.Format.{Format}
use Rattle.trace_any.specs.declared.format.Limits.{Limits}
use Rattle.bound_io.specs.Reading.{LosesPrefix}
use Rattle.trace_any.specs.Readers.{Reader, Ahead, fresh, last_mark, room_left, seen_with, so_far, to_come, onto, after, with_ahead, with_ahead_by, ahead_by, with_named_by, number_by, bytes_after, GoesOn, GivesNone, IsOver, IsStopped, IsWhole, LineTaken}
use Rattle.trace_any.specs.FirstLines.{coming_in}
use Rattle.trace_any.specs.NextPieces.{GivesNext, IsNextRefused, NextPiece, after_next, next_size, next_text}
use Rattle.trace_any.proofs.NextPieces.{is_given, next_size-le, next_text-le, past_next, refused_past_limit, refused_too_long}
use Rattle.trace_any.proofs.ReadingSteps.{plain, read_on-first, read_on-none, read_on-stopped, fold-onto, requested-next, requested-none, requested-full}

-- no block is left of the last line
to_come_lines : (r : Reader) (bytes : List ℕ) → r.ahead.count ≡ 0 → to_come r bytes ≡ read_on r.format (room_left r) (so_far r) bytes
to_come_lines r bytes none =
    ap (λ n. read_on r.format (room_left r) (requested (r.limits.requests - r.given) r.format (so_far r) r.ahead.volume r.ahead.stamp r.ahead.first n r.ahead.size) bytes) none
    ∙ ap (λ s. read_on r.format (room_left r) s bytes) (requested-none r.volumes r.seen (r.limits.requests - r.given) r.dropped r.lines.line r.lines.consumed r.format r.ahead.volume r.ahead.stamp r.ahead.first r.ahead.size)

-- the first line is read, whatever comes of it
to_come_line : (r : Reader) (bytes : List ℕ) → r.ahead.count ≡ 0 → 0 < length bytes
    → to_come r bytes ≡ read_on r.format (room_left r) (read_line r.format (room_left r) (so_far r) (next_text (has_records r.format) bytes, next_size (has_records r.format) bytes)) (after_next (has_records r.format) bytes)
to_come_line r bytes none some = to_come_lines r bytes none ∙ read_on-first r.format (room_left r) (so_far r) bytes some

-- a line that is neither too long nor past the limit is taken up
line_read : (r : Reader) (bytes : List ℕ) (line consumed : ℕ) → r.ahead.count ≡ 0 → 0 < length bytes → length (next_text (has_records r.format) bytes) ≤ 65535 → consumed ≤ r.limits.bytes
    → line ≡ r.lines.line + 1 → consumed ≡ r.lines.consumed + next_size (has_records r.format) bytes
    → to_come r bytes ≡ read_on r.format (room_left r) (with_line (r.limits.requests - r.given) r.format (plain r.volumes r.seen r.dropped line consumed) (text_content r.format (next_text (has_records r.format) bytes))) (after_next (has_records r.format) bytes)
line_read r bytes line consumed none some short within line_is consumed_is =
    to_come_line r bytes none some
    ∙ rw (line_is, consumed_is, le-ltb 65535 (length (next_text (has_records r.format) bytes)) short, le-ltb r.limits.bytes (r.lines.consumed + next_size (has_records r.format) bytes) (omega (arith, within, consumed_is))) refl

-- a reader after its lines have moved
abbrev pub with_lines : Reader → Position → Reader
with_lines r lines = record r { lines = lines }

-- the first line is taken up, and the rest is still there
pub record TakesUp (r new : Reader) (said : Result (Option LineContents) LineKind) (bytes : List ℕ) (after : Option (List ℕ)) : Type 0 where
  pub further : r.lines.consumed ≤ new.lines.consumed
  pub rest : after ≡ Some (bytes_after r new bytes)
  pub coming : to_come r bytes ≡ read_on r.format (room_left r) (with_line (r.limits.requests - r.given) r.format (so_far new) said) (bytes_after r new bytes)

pub takes_up : (r : Reader) (l : Position) (before after : Option (List ℕ)) (text : List ℕ) → r.ahead.count ≡ 0 → r.lines.limit ≡ r.limits.bytes → GivesNext (has_records r.format) r.lines l before after
    → IfSome before (λ bytes. (text ≡ next_text (has_records r.format) bytes) × (0 < length bytes)) → length text ≤ 65535 → IfSome before (λ bytes. TakesUp r (with_lines r l) (text_content r.format text) bytes after)
takes_up r l None after text none limit gives texts short = tt
takes_up r l (Some bytes) after text none limit gives_next texts short =
    let records = has_records r.format in
    let gives = is_given records r.lines l (Some bytes) after gives_next in
    let within : l.consumed ≤ r.limits.bytes = omega (arith, gives.within, gives.limit, limit) in
    let text_short : length (next_text records bytes) ≤ 65535 = omega (arith, ap length (texts.0), short) in
    let size : l.consumed - r.lines.consumed ≡ next_size records bytes = omega (arith, gives.consumed) in
    let past : after_next records bytes ≡ bytes_after r (with_lines r l) bytes = sym (ap (λ n. drop n bytes) size ∙ past_next records bytes) in
    let taken = line_read r bytes l.line l.consumed none (texts.1) text_short within gives.line gives.consumed in
    record {
      further = omega (arith, gives.some);
      rest = gives.rest ∙ ap (λ rest. Some rest) past;
      coming = taken ∙ (ap (λ t. read_on r.format (room_left r) (with_line (r.limits.requests - r.given) r.format (plain r.volumes r.seen r.dropped l.line l.consumed) (text_content r.format t)) (after_next records bytes)) (sym (texts.0))
          ∙ ap (λ rest. read_on r.format (room_left r) (with_line (r.limits.requests - r.given) r.format (plain r.volumes r.seen r.dropped l.line l.consumed) (text_content r.format text)) rest) past);
    }

-- a line without a word changes nothing
pub goes_blank : (r : Reader) (l : Position) (before after : Option (List ℕ)) (said : Result (Option LineContents) LineKind) → said ≡ Ok None → r.ahead.count ≡ 0
    → IfSome before (λ bytes. TakesUp r (with_lines r l) said bytes after) → IfSome before (λ bytes. GoesOn (λ s. s) r (with_lines r l) bytes after)
goes_blank r l None after said blank none takes = tt
goes_blank r l (Some bytes) after said blank none takes =
    let rest = bytes_after r (with_lines r l) bytes in
    record {
      further = takes.further;
      rest = takes.rest;
      coming = takes.coming ∙ (ap (λ t. read_on r.format (room_left r) (with_line (r.limits.requests - r.given) r.format (so_far (with_lines r l)) t) rest) blank ∙ sym (to_come_lines (with_lines r l) rest none));
    }

-- a reader whose last line asked for this
abbrev pub with_asked : Reader → Option Volume → Stamp → Span → Reader
with_asked r volume stamp span = with_ahead_by (record r { volumes = with_named_by span r.volumes volume }) (ahead_by (number_by span r.volumes volume) stamp span)

-- the blocks that a line asks for are those to come next
asked_next : (r : Reader) (volume : Option Volume) (stamp : Stamp) (span : Span) (rest : List ℕ) → r.ahead.count ≡ 0
    → read_on r.format (room_left r) (spanned (r.limits.requests - r.given) r.format (so_far r) volume stamp span) rest ≡ to_come (with_asked r volume stamp span) rest
asked_next r volume stamp Nothing rest none = sym (to_come_lines (with_asked r volume stamp Nothing) rest none)
asked_next r volume stamp (One id size) rest none = refl
asked_next r volume stamp (Blocks first count size) rest none = refl

-- what a line asks for is no matter of the lines
pub lines_asked : (r : Reader) (volume : Option Volume) (stamp : Stamp) (span : Span) → (with_asked r volume stamp span).lines ≡ r.lines
lines_asked r volume stamp Nothing = refl
lines_asked r volume stamp (One id size) = refl
lines_asked r volume stamp (Blocks first count size) = refl

-- a reader that holds the volumes and the blocks of what was asked
pub is_asked : (r : Reader) (volume : Option Volume) (stamp : Stamp) (span : Span) (number : ℕ) (volumes : List Volume) (ahead : Option Ahead) → number ≡ number_by span r.volumes volume → volumes ≡ with_named_by span r.volumes volume → ahead_by number stamp span ≡ ahead
    → with_asked r volume stamp span ≡ with_ahead_by (record r { volumes = volumes }) ahead
is_asked r volume stamp span number volumes ahead number_is volumes_are ahead_is =
    ap (λ v. with_ahead_by (record r { volumes = v }) (ahead_by (number_by span r.volumes volume) stamp span)) (sym volumes_are)
    ∙ ap (λ a. with_ahead_by (record r { volumes = volumes }) a) (ap (λ n. ahead_by n stamp span) (sym number_is) ∙ ahead_is)

-- goes on where the lines have come to this position
abbrev GoesAt : Reader → Reader → List ℕ → Option (List ℕ) → Position → Type 0
GoesAt r new bytes after p = (r.lines.consumed ≤ p.consumed) × (after ≡ Some (drop (p.consumed - r.lines.consumed) bytes)) × (to_come r bytes ≡ to_come new (drop (p.consumed - r.lines.consumed) bytes))

pub goes_asked : (r : Reader) (l : Position) (what : LineContents) (before after : Option (List ℕ)) (said : Result (Option LineContents) LineKind) → said ≡ Ok (Some what) → r.ahead.count ≡ 0
    → IfSome before (λ bytes. TakesUp r (with_lines r l) said bytes after) → IfSome before (λ bytes. GoesOn (λ s. s) r (with_asked (with_lines r l) what.volume what.stamp what.span) bytes after)
goes_asked r l what None after said asks none takes = tt
goes_asked r l what (Some bytes) after said asks none takes =
    let next = with_lines r l in
    let rest = bytes_after r next bytes in
    let coming = takes.coming ∙ (ap (λ t. read_on r.format (room_left r) (with_line (r.limits.requests - r.given) r.format (so_far next) t) rest) asks ∙ asked_next next what.volume what.stamp what.span rest none) in
    let lines = sym (lines_asked next what.volume what.stamp what.span) in
    let goes = subst (λ p. GoesAt r (with_asked next what.volume what.stamp what.span) bytes after p) lines (takes.further, takes.rest, coming) in
    record { further = goes.0; rest = goes.1; coming = goes.2 }

-- a line that is refused ends the reading
pub refused_line : (r : Reader) (l : Position) (kind : LineKind) (before after : Option (List ℕ)) (said : Result (Option LineContents) LineKind) → said ≡ Err kind
    → IfSome before (λ bytes. TakesUp r (with_lines r l) said bytes after) → IfSome before (λ bytes. IsOver (to_come r bytes) r.dropped (Some (BadLine l.line kind)))
refused_line r l kind None after said refused takes = tt
refused_line r l kind (Some bytes) after said refused takes =
    let now = so_far (with_lines r l) in
    let stop : to_come r bytes ≡ stopped now (BadLine l.line kind) = takes.coming ∙ (ap (λ t. read_on r.format (room_left r) (with_line (r.limits.requests - r.given) r.format now t) (bytes_after r (with_lines r l) bytes)) refused ∙ read_on-stopped r.format (room_left r) now (BadLine l.line kind) (bytes_after r (with_lines r l) bytes)) in
    record { requests = ap (λ s. s.requests) stop; marks = ap (λ s. s.fills) stop; dropped_lines = ap (λ s. s.dropped) stop; stop = ap (λ s. s.refused) stop }

pub too_long : (r : Reader) (line : ℕ) (before : Option (List ℕ)) → r.ahead.count ≡ 0 → line ≡ r.lines.line + 1 → IfSome before (λ bytes. 65535 < length (next_text (has_records r.format) bytes)) → IfSome before (λ bytes. IsOver (to_come r bytes) r.dropped (Some (BadLine line TooLong)))
too_long r line None none line_is long = tt
too_long r line (Some bytes) none line_is long =
    let records = has_records r.format in
    let text = next_text records bytes in
    let size = next_size records bytes in
    let now = plain r.volumes r.seen r.dropped (r.lines.line + 1) (r.lines.consumed + size) in
    let read : read_line r.format (room_left r) (so_far r) (text, size) ≡ stopped now (BadLine (r.lines.line + 1) TooLong) = rw (lt-ltb 65535 (length text) long) refl in
    let stop : to_come r bytes ≡ stopped now (BadLine (r.lines.line + 1) TooLong) = to_come_line r bytes none (omega (arith, long, next_text-le records bytes))
    ∙ (ap (λ t. read_on r.format (room_left r) t (after_next records bytes)) read ∙ read_on-stopped r.format (room_left r) now (BadLine (r.lines.line + 1) TooLong) (after_next records bytes)) in
    rw line_is (record { requests = ap (λ s. s.requests) stop; marks = ap (λ s. s.fills) stop; dropped_lines = ap (λ s. s.dropped) stop; stop = ap (λ s. s.refused) stop })

pub past_limit : (r : Reader) (before : Option (List ℕ)) → r.ahead.count ≡ 0 → r.lines.limit ≡ r.limits.bytes → r.lines.consumed ≤ r.limits.bytes
    → IfSome before (λ bytes. (length (next_text (has_records r.format) bytes) ≤ 65535) × (r.lines.limit < r.lines.consumed + next_size (has_records r.format) bytes)) → IfSome before (λ bytes. IsOver (to_come r bytes) r.dropped (Some InputTooLong))
past_limit r None none limit within past = tt
past_limit r (Some bytes) none limit within past =
    let records = has_records r.format in
    let text = next_text records bytes in
    let size = next_size records bytes in
    let now = plain r.volumes r.seen r.dropped (r.lines.line + 1) (r.lines.consumed + size) in
    let some : 0 < length bytes = omega (arith, next_size-le records bytes, past.1, limit, within) in
    let read : read_line r.format (room_left r) (so_far r) (text, size) ≡ stopped now InputTooLong = rw (le-ltb 65535 (length text) (past.0), lt-ltb r.limits.bytes (r.lines.consumed + size) (omega (arith, past.1, limit))) refl in
    let stop : to_come r bytes ≡ stopped now InputTooLong = to_come_line r bytes none some
    ∙ (ap (λ t. read_on r.format (room_left r) t (after_next records bytes)) read ∙ read_on-stopped r.format (room_left r) now InputTooLong (after_next records bytes)) in
    record { requests = ap (λ s. s.requests) stop; marks = ap (λ s. s.fills) stop; dropped_lines = ap (λ s. s.dropped) stop; stop = ap (λ s. s.refused) stop }

-- no line is left
pub no_line : (r : Reader) (before : Option (List ℕ)) → r.ahead.count ≡ 0 → IsAtEnd before → IfSome before (λ bytes. IsOver (to_come r bytes) r.dropped None)
no_line r None none end = tt
no_line r (Some bytes) none end =
    let over : to_come r bytes ≡ so_far r = to_come_lines r bytes none ∙ (ap (λ b. read_on r.format (room_left r) (so_far r) b) end ∙ read_on-none r.format (room_left r) (so_far r)) in
    record { requests = ap (λ s. s.requests) over; marks = ap (λ s. s.fills) over; dropped_lines = ap (λ s. s.dropped) over; stop = ap (λ s. s.refused) over }

-- the first of the blocks to come
abbrev pub first_ahead : Reader → Object
first_ahead r = record { volume = r.ahead.volume; id = r.ahead.first; size = r.ahead.size }

-- a reader that has given the first of its blocks, if the next one is this, and this is known then of the objects and of the first
abbrev pub with_given : Reader → ℕ → Seen → Bool → Reader
with_given r next seen stale = record r {
  given = r.given + 1;
  seen = seen;
  ahead = record { volume = r.ahead.volume; stamp = r.ahead.stamp; first = next; count = r.ahead.count - 1; size = r.ahead.size };
  stale = stale;
}

same_blocks : (volumes : List Volume) (seen : Seen) (most dropped lines bytes : ℕ) (format : Format) (volume : ℕ) (stamp : Stamp) (first next count size : ℕ) → (0 < count → next ≡ first)
    → requested most format (plain volumes seen dropped lines bytes) volume stamp first count size ≡ requested most format (plain volumes seen dropped lines bytes) volume stamp next count size
same_blocks volumes seen most dropped lines bytes format volume stamp first next zero size same =
    requested-none volumes seen most dropped lines bytes format volume stamp first size ∙ sym (requested-none volumes seen most dropped lines bytes format volume stamp next size)
same_blocks volumes seen most dropped lines bytes format volume stamp first next (suc count) size same =
    ap (λ n. requested most format (plain volumes seen dropped lines bytes) volume stamp n (suc count) size) (sym (same (omega arith)))

-- the first of the blocks is given
pub gives_block : (r : Reader) (next : ℕ) (seen : Seen) (stale : Bool) (lines : List (List ℕ × ℕ)) → r.given < r.limits.requests → 0 < r.ahead.count → (1 < r.ahead.count → next ≡ r.ahead.first + 1)
    → stale ≡ is_stale r.format.fresh r.seen (first_ahead r) r.ahead.stamp.time → seen ≡ seen_with r (first_ahead r)
    → coming_in r lines ≡ onto (first_ahead r) (last_mark (with_given r next seen stale)) (coming_in (with_given r next seen stale) lines)
gives_block r next seen stale lines room some follows stale_is seen_is =
    let a = r.ahead in
    let f = r.format in
    let x = first_ahead r in
    let mark = mark_of f r.seen a.stamp x in
    let now = with_given r next seen stale in
    let most = r.limits.requests - (r.given + 1) in
    let count = a.count - 1 in
    let places : r.limits.requests - r.given ≡ most + 1 = omega (arith, room) in
    let blocks : a.count ≡ count + 1 = omega (arith, some) in
    let v = r.volumes in let d = r.dropped in let l = r.lines.line in let c = r.lines.consumed in
    let s = seen_with r x in
    let left = requested most f (plain v s d l c) a.volume a.stamp next count a.size in
    let start : requested (r.limits.requests - r.given) f (plain v r.seen d l c) a.volume a.stamp a.first a.count a.size ≡ onto x mark left
    = ap (λ n. requested n f (plain v r.seen d l c) a.volume a.stamp a.first a.count a.size) places
    ∙ (ap (λ n. requested (most + 1) f (plain v r.seen d l c) a.volume a.stamp a.first n a.size) blocks
    ∙ (requested-next v r.seen most d l c f a.volume a.stamp a.first count a.size
    ∙ ap (onto x mark) (same_blocks v s most d l c f a.volume a.stamp (a.first + 1) next count a.size (λ h. follows (omega (arith, h, blocks)))))) in
    ap (λ s. fold (read_line r.format (room_left r)) s lines) start
    ∙ (ap (λ n. fold (read_line r.format (record { requests = n; bytes = r.limits.bytes })) (onto x mark left) lines) places
    ∙ (fold-onto r.format most r.limits.bytes x mark left lines
    ∙ (ap (λ n. onto x mark (fold (read_line r.format (room_left now)) (requested most f (plain v n d l c) a.volume a.stamp next count a.size) lines)) (sym seen_is)
    ∙ ap (λ b. onto x (mark_if (is_marked f) (a.stamp.fills || b)) (coming_in now lines)) (sym stale_is))))

-- no request more is allowed
pub no_room : (r : Reader) (bytes : List ℕ) → r.given ≡ r.limits.requests → 0 < r.ahead.count → IsOver (to_come r bytes) r.dropped (Some TooManyRequests)
no_room r bytes full some =
    let a = r.ahead in
    let now = so_far r in
    let none : r.limits.requests - r.given ≡ 0 = omega (arith, full) in
    let start = ap (λ n. requested n r.format now a.volume a.stamp a.first a.count a.size) none ∙ requested-full r.volumes r.seen r.dropped r.lines.line r.lines.consumed r.format a.volume a.stamp a.first a.count a.size some in
    let stop : to_come r bytes ≡ stopped now TooManyRequests = ap (λ s. read_on r.format (room_left r) s bytes) start ∙ read_on-stopped r.format (room_left r) now TooManyRequests bytes in
    record { requests = ap (λ s. s.requests) stop; marks = ap (λ s. s.fills) stop; dropped_lines = ap (λ s. s.dropped) stop; stop = ap (λ s. s.refused) stop }

-- requests before the others of a reading
abbrev pub after_all : Requests → Reading → Reading
after_all given = after given.objects given.fills

-- more requests are left of the last line than there is room for
pub past_room : (r : Reader) (bytes : List ℕ) → nat_lt (r.limits.requests - r.given) r.ahead.count ≡ true → (to_come r bytes).refused ≡ Some TooManyRequests
past_room r bytes past =
    let most = r.limits.requests - r.given - 0 in
    let same : most ≡ r.limits.requests - r.given = omega arith in
    let next = blocks r.ahead.volume r.ahead.first (min r.ahead.count most) r.ahead.size in
    let taken = fold (with_one r.format r.ahead.stamp) (so_far r) next in
    let start : with_ahead r ≡ stopped taken TooManyRequests = ap (λ b. if b then stopped taken TooManyRequests else taken) (ap (λ m. nat_lt m r.ahead.count) same ∙ past) in
    ap (λ s. s.refused) (ap (λ s. read_on r.format (room_left r) s bytes) start ∙ read_on-stopped r.format (room_left r) taken TooManyRequests bytes)

-- and so nothing is loaded
pub loads_past : (first second third : Reader) (given : Requests) (x : Object) (mark : Option Bool) (before between later : Option (List ℕ)) → IfSome before (λ bytes. GoesOn (after_all given) first second bytes between)
    → IfSome between (λ bytes. GoesOn (onto x mark) second third bytes later) → ((bytes : List ℕ) → (to_come third bytes).refused ≡ Some TooManyRequests)
    → IfSome before (λ bytes. (to_come first bytes).refused ≡ Some TooManyRequests)
loads_past first second third given x mark None between later one other past = tt
loads_past first second third given x mark (Some bytes) between later one other past =
    let next = rw (one.rest) at other in
    ap (λ s. s.refused) one.coming ∙ (ap (λ s. s.refused) next.coming ∙ past (bytes_after second third (bytes_after first second bytes)))

-- a fault of the lines is that fault of the trace
pub lines_refused : (r new : Reader) (before : Option (List ℕ)) (faults_before faults_after : ℕ) (fault : LineFault) → r.ahead.count ≡ 0 → r.lines.limit ≡ r.limits.bytes → r.lines.consumed ≤ r.limits.bytes → new.dropped ≡ r.dropped
    → IsNextRefused (has_records r.format) r.lines before faults_before faults_after fault → IsStopped r new before faults_before faults_after (fault_of fault)
lines_refused r new before faults_before faults_after line.ReadFault none limit within same refused = by (has_records r.format) refused
  where
    by : (records : Bool) → IsNextRefused records r.lines before faults_before faults_after line.ReadFault → HasNewFault faults_before faults_after
    by true why = why
    by false why = why
lines_refused r new before faults_before faults_after (line.LineTooLong n) none limit within same refused =
    let why = refused_too_long (has_records r.format) r.lines before faults_before faults_after n refused in
    rw same (too_long r n before none (why.0) (why.1))
lines_refused r new before faults_before faults_after line.InputTooLong none limit within same refused =
    rw same (past_limit r before none limit within (refused_past_limit (has_records r.format) r.lines before faults_before faults_after refused))

-- whether or not a line was given, the lines are within their limit, and no fewer than those that were dropped
pub record Onward (bytes dropped : ℕ) (l : Position) : Type 0 where
  pub limit : l.limit ≡ bytes
  pub within : l.consumed ≤ bytes
  pub counted : l.line ≤ l.consumed
  pub some_dropped : dropped ≤ l.line

pub goes_onward : {A : Type 0} (records : Bool) (bytes dropped : ℕ) (old new : Position) (before after : Option (List ℕ)) (result : Result (Option A) LineFault) → old.limit ≡ bytes → old.consumed ≤ bytes → old.line ≤ old.consumed → dropped ≤ old.line
    → NextPiece records old new before after result → Onward bytes dropped new
goes_onward records bytes dropped old new before after (Ok (Some text)) limit within counted fewer gives_next =
    let gives = is_given records old new before after gives_next in
    record {
      limit = gives.limit ∙ limit;
      within = omega (arith, gives.within, gives.limit, limit);
      counted = omega (arith, gives.line, gives.some, counted);
      some_dropped = omega (arith, gives.line, fewer);
    }
goes_onward records bytes dropped old new before after (Ok None) limit within counted fewer none = rw (none.still) (record { limit = limit; within = within; counted = counted; some_dropped = fewer })
goes_onward records bytes dropped old new before after (Err fault) limit within counted fewer stops = rw (stops.still) (record { limit = limit; within = within; counted = counted; some_dropped = fewer })

pub taken_err : (r new : Reader) (before after : Option (List ℕ)) (faults_before faults_after : ℕ) (fault : TraceFault) (result : Result Bool TraceFault) → IsErr result → IsErrAnd result (λ e. e ≡ fault)
    → IsStopped r new before faults_before faults_after fault → LineTaken r new before after faults_before faults_after result
taken_err r new before after faults_before faults_after fault (Ok b) err is why = absurd (false≢true err)
taken_err r new before after faults_before faults_after fault (Err e) err is why = rw is why

pub past_both : (m n k : ℕ) (bytes : List ℕ) → k ≡ m + n → drop n (drop m bytes) ≡ drop k bytes
past_both m n k bytes all = rw (all, drop-drop) refl

-- one line taken up after others
pub goes_then : (first second third : Reader) (before between after : Option (List ℕ)) → IfSome before (λ bytes. GoesOn (λ r. r) first second bytes between) → IfSome between (λ bytes. GoesOn (λ r. r) second third bytes after)
    → IfSome before (λ bytes. GoesOn (λ r. r) first third bytes after)
goes_then first second third None between after one other = tt
goes_then first second third (Some bytes) between after one other =
    let next = rw (one.rest) at other in
    let same = past_both (second.lines.consumed - first.lines.consumed) (third.lines.consumed - second.lines.consumed) (third.lines.consumed - first.lines.consumed) bytes (omega (arith, one.further, next.further)) in
    record {
      further = omega (arith, one.further, next.further);
      rest = next.rest ∙ ap (λ rest. Some rest) same;
      coming = one.coming ∙ (next.coming ∙ ap (to_come third) same);
    }

-- a reader that has read nothing yet stands where it stood
pub goes_nowhere : (r : Reader) (given : List Object) (fills : List Bool) (before : Option (List ℕ)) → given ≡ [] → fills ≡ [] → IfSome before (λ bytes. GoesOn (after given fills) r r bytes before)
goes_nowhere r given fills None empty unmarked = tt
goes_nowhere r given fills (Some bytes) empty unmarked =
    let none : r.lines.consumed - r.lines.consumed ≡ 0 = omega arith in
    let same : bytes_after r r bytes ≡ bytes = ap (λ n. drop n bytes) none in
    record {
      further = omega arith;
      rest = ap (λ rest. Some rest) (sym same);
      coming = rw (empty, unmarked) (ap (to_come r) (sym same));
    }

-- requests before a request and others are requests before the others
pub after-onto : (given : List Object) (fills : List Bool) (x : Object) (mark : Option Bool) (s : Reading) → after given fills (onto x mark s) ≡ after (given ++ x ∷ []) (fills ++ with_mark [] mark) s
after-onto given fills x mark s =
    ap (λ requests. record s { requests = requests; fills = fills ++ (with_mark [] mark ++ s.fills) }) (sym (append_assoc given (x ∷ []) s.requests))
    ∙ ap (λ marks. record s { requests = (given ++ x ∷ []) ++ s.requests; fills = marks }) (sym (append_assoc fills (with_mark [] mark) s.fills))

-- the mark of one request more
pub with_mark-one : (fills : List Bool) (mark : Option Bool) → fills ++ with_mark [] mark ≡ with_mark fills mark
with_mark-one fills None = append-nil fills
with_mark-one fills (Some only_fills) = refl

-- one request more after some
pub loads_one : (first second third : Reader) (given : List Object) (fills : List Bool) (x : Object) (mark : Option Bool) (before between later : Option (List ℕ)) → IfSome before (λ bytes. GoesOn (after given fills) first second bytes between)
    → IfSome between (λ bytes. GoesOn (onto x mark) second third bytes later) → IfSome before (λ bytes. GoesOn (after (given ++ x ∷ []) (fills ++ with_mark [] mark)) first third bytes later)
loads_one first second third given fills x mark None between later one other = tt
loads_one first second third given fills x mark (Some bytes) between later one other =
    let next = rw (one.rest) at other in
    let same = past_both (second.lines.consumed - first.lines.consumed) (third.lines.consumed - second.lines.consumed) (third.lines.consumed - first.lines.consumed) bytes (omega (arith, one.further, next.further)) in
    let coming = to_come third (bytes_after second third (bytes_after first second bytes)) in
    record {
      further = omega (arith, one.further, next.further);
      rest = next.rest ∙ ap (λ rest. Some rest) same;
      coming = one.coming ∙ (ap (after given fills) next.coming ∙ (after-onto given fills x mark coming ∙ ap (λ rest. after (given ++ x ∷ []) (fills ++ with_mark [] mark) (to_come third rest)) same));
    }

-- one request more after those of a trace
pub loads_more : (first second third : Reader) (given : Requests) (x : Object) (mark : Option Bool) (before between later : Option (List ℕ)) → IfSome before (λ bytes. GoesOn (after_all given) first second bytes between)
    → IfSome between (λ bytes. GoesOn (onto x mark) second third bytes later) → IfSome before (λ bytes. GoesOn (after_all (with_request given x mark)) first third bytes later)
loads_more first second third given x mark before between later one other =
    subst (λ fills. IfSome before (λ bytes. GoesOn (after (given.objects ++ x ∷ []) fills) first third bytes later)) (with_mark-one given.fills mark) (loads_one first second third given.objects given.fills x mark before between later one other)

-- no request more after some
pub loads_all : (first second third : Reader) (given : List Object) (fills : List Bool) (before between later : Option (List ℕ)) → IfSome before (λ bytes. GoesOn (after given fills) first second bytes between)
    → IfSome between (λ bytes. GivesNone second third bytes later) → IfSome before (λ bytes. IsWhole (to_come first bytes) (record { objects = given; fills = fills }) third.dropped)
loads_all first second third given fills None between later one none = tt
loads_all first second third given fills (Some bytes) between later one none =
    let over = rw (one.rest) at none in
    record {
      requests = ap (λ r. r.requests) one.coming ∙ (ap (λ requests. given ++ requests) over.0.requests ∙ append-nil given);
      marks = ap (λ r. r.fills) one.coming ∙ (ap (λ marks. fills ++ marks) over.0.marks ∙ append-nil fills);
      dropped_lines = ap (λ r. r.dropped) one.coming ∙ over.0.dropped_lines;
      stop = ap (λ r. r.refused) one.coming ∙ over.0.stop;
    }

pub loads_to_end : (first second third : Reader) (given : List Object) (fills : List Bool) (before between later : Option (List ℕ)) → IfSome before (λ bytes. GoesOn (after given fills) first second bytes between)
    → IfSome between (λ bytes. GivesNone second third bytes later) → IfSome before (λ _. later ≡ Some [])
loads_to_end first second third given fills None between later one none = tt
loads_to_end first second third given fills (Some bytes) between later one none = let over = rw (one.rest) at none in over.1

-- no fault is one that can't be
pub no_fault : (fault : Option TraceFault) (P : TraceFault → Type 0) → IfSome fault P → ((f : TraceFault) → P f → ⊥) → fault ≡ None
no_fault None P again not = refl
no_fault (Some f) P again not = absurd (not f again)

-- nothing is lost of what is left
pub loses_nothing : (left : Option (List ℕ)) → LosesPrefix left left
loses_nothing None = ([], tt)
loses_nothing (Some bytes) = ([], refl)

-- what holds holds of any fault
pub of_any_fault : (fault : Option TraceFault) {P : Type 0} → P → IfSome fault (λ _. P)
of_any_fault None holds = tt
of_any_fault (Some f) holds = holds

-- an answer is no error
pub no_error : {A : Type 0} (x : A) (f : TraceFault) → Ok x ≡ Err f → ⊥
no_error x f same = true≢false (ap is_ok same)

-- of a reader that has read nothing the whole reading is to come
pub fresh_to_come : (format : Format) (limits : Limits) (bytes : List ℕ) → to_come (fresh format limits) bytes ≡ reading format limits bytes
fresh_to_come format limits bytes =
    let all : limits.requests - 0 ≡ limits.requests = omega arith in
    to_come_lines (fresh format limits) bytes refl ∙ ap (λ n. read_on format (record { requests = n; bytes = limits.bytes }) nothing_read bytes) all
