-- How many marks a reading has.
use Rattle.std.proofs.Common.{◌≡◌, ◌+◌, ℕ, Bool, true, false, cond, nat_lt, List, [], ◌∷◌, ◌++◌, length, fold, refl, ap, ◌∙◌, sym, length-append, Option, Some, None, Result, Ok, Err, min, ◌-◌}
use Rattle.std.specs.Option.{is_some}
use Rattle.cache_model.specs.declared.objects.Object.{Object}
use Rattle.cache_rules.specs.Stored.{mark_if, with_mark}
use Rattle.freshness.specs.Seen.{Seen, with_seen}
use Rattle.trace_lines.specs.declared.line.Span.{Span}
use Rattle.trace_lines.specs.declared.line.Span.TheVariants.{Nothing, One, Blocks}
use Rattle.trace_lines.specs.declared.line.LineKind.{LineKind}
use Rattle.trace_lines.specs.declared.line.LineKind.TheVariants.{TooLong}
use Rattle.trace_any.specs.declared.fault.TraceFault.{TraceFault}
use Rattle.trace_any.specs.declared.fault.TraceFault.TheVariants.{BadLine, InputTooLong, TooManyRequests}
use Rattle.trace_any.specs.declared.format.Format.{Format}
use Rattle.trace_any.specs.declared.format.Limits.{Limits}
use Rattle.trace_any.specs.Volumes.{Volume}
use Rattle.trace_any.specs.Readings.{is_marked, LineContents, Reading, Stamp, blocks, number_of, nothing_read, only_fills_at, pieces_of, read_line, reading, requested, spanned, stopped, text_content, with_line, with_named, with_one}

-- a reading has a mark for each request, or none if there are none
abbrev pub HasMarks : Bool → Reading → Type 0
HasMarks true r = length r.fills ≡ length r.requests
HasMarks false r = r.fills ≡ []

-- a choice of two readings that have them
either : (marks b : Bool) (s t : Reading) → HasMarks marks s → HasMarks marks t → HasMarks marks (cond b s t)
either marks true s t one other = one
either marks false s t one other = other

-- one request more, with its mark
one_more : (marks fills : Bool) (r : Reading) (x : Object) (seen : Seen) → HasMarks marks r → HasMarks marks (record r { requests = r.requests ++ x ∷ []; fills = with_mark r.fills (mark_if marks fills); seen = seen })
one_more true fills r x seen has = length-append r.fills (fills ∷ []) ∙ (ap (λ n. n + 1) has ∙ sym (length-append r.requests (x ∷ [])))
one_more false fills r x seen has = has

-- some requests more
more : (format : Format) (stamp : Stamp) (r : Reading) (next : List Object) → HasMarks (is_marked format) r → HasMarks (is_marked format) (fold (with_one format stamp) r next)
more format stamp r [] has = has
more format stamp r (x ∷ next) has =
    more format stamp (with_one format stamp r x) next
    (one_more (is_marked format) (only_fills_at format.fresh r.seen stamp x) r x (with_seen format.fresh r.seen x stamp.time stamp.fills) has)

-- a reading that stops
stops : (marks : Bool) (r : Reading) (fault : TraceFault) → HasMarks marks r → HasMarks marks (stopped r fault)
stops true r fault has = has
stops false r fault has = has

requested-marks : (most : ℕ) (format : Format) (r : Reading) (volume : ℕ) (stamp : Stamp) (first count size : ℕ) → HasMarks (is_marked format) r → HasMarks (is_marked format) (requested most format r volume stamp first count size)
requested-marks most format r volume stamp first count size has =
    let room = most - length r.requests in
    let next = blocks volume first (min count room) size in
    let taken = fold (with_one format stamp) r next in
    let all = more format stamp r next has in
    either (is_marked format) (nat_lt room count) (stopped taken TooManyRequests) taken (stops (is_marked format) taken TooManyRequests all) all

-- a reading of the same requests and marks
same : (marks : Bool) (r s : Reading) → s.requests ≡ r.requests → s.fills ≡ r.fills → HasMarks marks r → HasMarks marks s
same true r s requests fills has = ap length fills ∙ (has ∙ ap length (sym requests))
same false r s requests fills has = fills ∙ has

spanned-marks : (most : ℕ) (format : Format) (r : Reading) (volume : Option Volume) (stamp : Stamp) (span : Span) → HasMarks (is_marked format) r → HasMarks (is_marked format) (spanned most format r volume stamp span)
spanned-marks most format r volume stamp Nothing has = same (is_marked format) r (record r { dropped = r.dropped + 1 }) refl refl has
spanned-marks most format r volume stamp (One id size) has =
    let now : Reading = record r { volumes = with_named r.volumes volume } in
    requested-marks most format now (number_of r.volumes volume) stamp id 1 size (same (is_marked format) r now refl refl has)
spanned-marks most format r volume stamp (Blocks first count size) has =
    let now : Reading = record r { volumes = with_named r.volumes volume } in
    requested-marks most format now (number_of r.volumes volume) stamp first count size (same (is_marked format) r now refl refl has)

with_line-marks : (most : ℕ) (format : Format) (r : Reading) (said : Result (Option LineContents) LineKind) → HasMarks (is_marked format) r → HasMarks (is_marked format) (with_line most format r said)
with_line-marks most format r (Ok None) has = has
with_line-marks most format r (Ok (Some what)) has = spanned-marks most format r what.volume what.stamp what.span has
with_line-marks most format r (Err kind) has = stops (is_marked format) r (BadLine r.lines kind) has

read_line-marks : (format : Format) (limits : Limits) (r : Reading) (line : List ℕ × ℕ) → HasMarks (is_marked format) r → HasMarks (is_marked format) (read_line format limits r line)
read_line-marks format limits r (text, size) has =
    let now : Reading = record r { lines = r.lines + 1; bytes = r.bytes + size } in
    let up = with_line limits.requests format now (text_content format text) in
    let taken : HasMarks (is_marked format) now = same (is_marked format) r now refl refl has in
    let within = cond (nat_lt limits.bytes now.bytes) (stopped now InputTooLong) up in
    let long = stopped now (BadLine now.lines TooLong) in
    either (is_marked format) (is_some r.refused) r (cond (nat_lt 65535 (length text)) long within) has
    (either (is_marked format) (nat_lt 65535 (length text)) long within (stops (is_marked format) now (BadLine now.lines TooLong) taken)
    (either (is_marked format) (nat_lt limits.bytes now.bytes) (stopped now InputTooLong) up (stops (is_marked format) now InputTooLong taken) (with_line-marks limits.requests format now (text_content format text) taken)))

lines-marks : (format : Format) (limits : Limits) (r : Reading) (lines : List (List ℕ × ℕ)) → HasMarks (is_marked format) r → HasMarks (is_marked format) (fold (read_line format limits) r lines)
lines-marks format limits r [] has = has
lines-marks format limits r (line ∷ lines) has = lines-marks format limits (read_line format limits r line) lines (read_line-marks format limits r line has)

no_marks : (marks : Bool) → HasMarks marks nothing_read
no_marks true = refl
no_marks false = refl

-- the reading of a trace has a mark for each request, or none if the form has none
pub reading-marks : (format : Format) (limits : Limits) (bytes : List ℕ) → HasMarks (is_marked format) (reading format limits bytes)
reading-marks format limits bytes = lines-marks format limits nothing_read (pieces_of format bytes) (no_marks (is_marked format))
