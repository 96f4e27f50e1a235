-- One line more, and one request more, of a reading.
use Rattle.std.proofs.Common.{◌≡◌, append_assoc, append-nil, ℕ, suc, ◌+◌, ◌-◌, ◌≤◌, ◌<◌, ◌∙◌, sym, refl, ap, Bool, true, false, cond, nat_lt, List, [], ◌∷◌, ◌++◌, length, min, fold, arith, inl, inr, ◌⊎◌, Option, Some, None, Result, Ok, Err}
use Rattle.std.proofs.lemmas.Bool.{cases_lt, lt-ltb, le-ltb}
use Rattle.std.specs.Option.{is_some}
use Rattle.cache_model.specs.declared.objects.Object.{Object}
use Rattle.cache_rules.specs.Stored.{with_mark}
use Rattle.freshness.specs.Seen.{Seen, with_seen}
use Rattle.trace_lines.specs.declared.line.Span.{Span}
use Rattle.trace_lines.specs.declared.line.Span.TheVariants.{Nothing, One, Blocks}
use Rattle.trace_lines.specs.declared.line.LineKind.{LineKind}
use Rattle.trace_lines.specs.declared.line.LineKind.TheVariants.{TooLong}
use Rattle.trace_any.specs.declared.fault.TraceFault.{TraceFault}
use Rattle.trace_any.specs.declared.fault.TraceFault.TheVariants.{BadLine, InputTooLong, TooManyRequests}
use Rattle.trace_any.specs.declared.format.Format.{Format}
use Rattle.trace_any.specs.declared.format.Limits.{Limits}
use Rattle.trace_any.specs.Readings.{Reading, Stamp, mark_of, stopped, blocks, requested, with_one, LineContents, spanned, with_named, number_of, text_content, with_line, read_line, has_records, pieces_of, read_on}
use Rattle.trace_any.specs.Volumes.{Volume}
use Rattle.trace_any.specs.NextPieces.{after_next, next_size, next_text}
use Rattle.trace_any.specs.Readers.{onto}
use Rattle.trace_any.proofs.NextPieces.{cut-first, cut-none}

-- the first line or the first record, and then the others
pub read_on-first : (format : Format) (limits : Limits) (r : Reading) (bytes : List ℕ) → 0 < length bytes
    → read_on format limits r bytes ≡ read_on format limits (read_line format limits r (next_text (has_records format) bytes, next_size (has_records format) bytes)) (after_next (has_records format) bytes)
read_on-first format limits r bytes some = ap (λ pieces. fold (read_line format limits) r pieces) (cut-first (has_records format) bytes some)

-- no bytes, and so no line and no record
pub read_on-none : (format : Format) (limits : Limits) (r : Reading) → read_on format limits r [] ≡ r
read_on-none format limits r = ap (λ pieces. fold (read_line format limits) r pieces) (cut-none (has_records format))

-- a reading that has stopped stays as it is
pub stays : (format : Format) (limits : Limits) (r : Reading) (lines : List (List ℕ × ℕ)) → is_some r.refused ≡ true → fold (read_line format limits) r lines ≡ r
stays format limits r [] stop = refl
stays format limits r ((text, size) ∷ lines) stop = ap (λ s. fold (read_line format limits) s lines) (still stop) ∙ stays format limits r lines stop
  where
    still : is_some r.refused ≡ true → read_line format limits r (text, size) ≡ r
    still e = rw e refl

pub read_on-stopped : (format : Format) (limits : Limits) (r : Reading) (fault : TraceFault) (bytes : List ℕ) → read_on format limits (stopped r fault) bytes ≡ stopped r fault
read_on-stopped format limits r fault bytes = stays format limits (stopped r fault) (pieces_of format bytes) refl

-- room for this many requests, and these bytes
abbrev pub room : ℕ → ℕ → Limits
room requests bytes = record { requests = requests; bytes = bytes }

onto_either : (b : Bool) (x : Object) (mark : Option Bool) (s t : Reading) → cond b (onto x mark s) (onto x mark t) ≡ onto x mark (cond b s t)
onto_either true x mark s t = refl
onto_either false x mark s t = refl

lt-next : (m n : ℕ) → nat_lt (m + 1) (n + 1) ≡ nat_lt m n
lt-next m n = by (cases_lt m n)
  where
    by : m < n ⊎ n ≤ m → nat_lt (m + 1) (n + 1) ≡ nat_lt m n
    by (inl less) = lt-ltb (m + 1) (n + 1) (omega (arith, less)) ∙ sym (lt-ltb m n less)
    by (inr more) = le-ltb (m + 1) (n + 1) (omega (arith, more)) ∙ sym (le-ltb m n more)

-- a mark more after others is one more after some in front of them
with_mark-after : (before fills : List Bool) (mark : Option Bool) → with_mark (before ++ fills) mark ≡ before ++ with_mark fills mark
with_mark-after before fills None = refl
with_mark-after before fills (Some mark) = append_assoc before fills (mark ∷ [])

-- requests more after one in prefix
ones-onto : (format : Format) (stamp : Stamp) (x : Object) (own : Option Bool) (r : Reading) (next : List Object) → fold (with_one format stamp) (onto x own r) next ≡ onto x own (fold (with_one format stamp) r next)
ones-onto format stamp x own r [] = refl
ones-onto format stamp x own r (y ∷ next) =
    ap (λ fills. fold (with_one format stamp) (record (onto x own (with_one format stamp r y)) { fills = fills }) next) (with_mark-after (with_mark [] own) r.fills (mark_of format r.seen stamp y))
    ∙ ones-onto format stamp x own (with_one format stamp r y) next

-- a request more in prefix takes one place of the room
requested-onto : (most : ℕ) (format : Format) (x : Object) (own : Option Bool) (r : Reading) (volume : ℕ) (stamp : Stamp) (first count size : ℕ)
    → requested (most + 1) format (onto x own r) volume stamp first count size ≡ onto x own (requested most format r volume stamp first count size)
requested-onto most format x own r volume stamp first count size =
    let places = most - length r.requests in
    let next = blocks volume first (min count places) size in
    let taken = fold (with_one format stamp) r next in
    let same : most + 1 - length (x ∷ r.requests) ≡ places = omega arith in
    let together : Reading → Reading = λ s. cond (nat_lt places count) (stopped s TooManyRequests) s in
    rw same (ap together (ones-onto format stamp x own r next) ∙ onto_either (nat_lt places count) x own (stopped taken TooManyRequests) taken)

spanned-onto : (most : ℕ) (format : Format) (x : Object) (own : Option Bool) (r : Reading) (volume : Option Volume) (stamp : Stamp) (span : Span)
    → spanned (most + 1) format (onto x own r) volume stamp span ≡ onto x own (spanned most format r volume stamp span)
spanned-onto most format x own r volume stamp Nothing = refl
spanned-onto most format x own r volume stamp (One id size) = requested-onto most format x own (record r { volumes = with_named r.volumes volume }) (number_of r.volumes volume) stamp id 1 size
spanned-onto most format x own r volume stamp (Blocks first count size) = requested-onto most format x own (record r { volumes = with_named r.volumes volume }) (number_of r.volumes volume) stamp first count size

with_line-onto : (most : ℕ) (format : Format) (x : Object) (own : Option Bool) (r : Reading) (said : Result (Option LineContents) LineKind) → with_line (most + 1) format (onto x own r) said ≡ onto x own (with_line most format r said)
with_line-onto most format x own r (Ok None) = refl
with_line-onto most format x own r (Ok (Some what)) = spanned-onto most format x own r what.volume what.stamp what.span
with_line-onto most format x own r (Err kind) = refl

read_line-onto : (format : Format) (most bytes : ℕ) (x : Object) (own : Option Bool) (r : Reading) (line : List ℕ × ℕ) → read_line format (room (most + 1) bytes) (onto x own r) line ≡ onto x own (read_line format (room most bytes) r line)
read_line-onto format most bytes x own r (text, size) =
    let now : Reading = record r { lines = r.lines + 1; bytes = r.bytes + size } in
    let long = nat_lt 65535 (length text) in
    let past = nat_lt bytes now.bytes in
    let said = text_content format text in
    let up = with_line most format now said in
    let within = cond past (stopped now InputTooLong) up in
    let short = cond long (stopped now (BadLine now.lines TooLong)) within in
    rw (with_line-onto most format x own now said)
    (ap (λ t. cond (is_some r.refused) (onto x own r) (cond long (onto x own (stopped now (BadLine now.lines TooLong))) t)) (onto_either past x own (stopped now InputTooLong) up)
    ∙ (ap (λ t. cond (is_some r.refused) (onto x own r) t) (onto_either long x own (stopped now (BadLine now.lines TooLong)) within)
    ∙ onto_either (is_some r.refused) x own r short))

pub fold-onto : (format : Format) (most bytes : ℕ) (x : Object) (own : Option Bool) (r : Reading) (lines : List (List ℕ × ℕ))
    → fold (read_line format (room (most + 1) bytes)) (onto x own r) lines ≡ onto x own (fold (read_line format (room most bytes)) r lines)
fold-onto format most bytes x own r [] = refl
fold-onto format most bytes x own r (line ∷ lines) =
    ap (λ s. fold (read_line format (room (most + 1) bytes)) s lines) (read_line-onto format most bytes x own r line) ∙ fold-onto format most bytes x own (read_line format (room most bytes) r line) lines

-- a reading with a request more in prefix and one place more
pub read_on-onto : (format : Format) (most bytes : ℕ) (x : Object) (own : Option Bool) (r : Reading) (rest : List ℕ) → read_on format (room (most + 1) bytes) (onto x own r) rest ≡ onto x own (read_on format (room most bytes) r rest)
read_on-onto format most bytes x own r rest = fold-onto format most bytes x own r (pieces_of format rest)

-- a reading without requests, which has not stopped
abbrev pub plain : List Volume → Seen → ℕ → ℕ → ℕ → Reading
plain volumes seen dropped lines bytes = record { requests = []; fills = []; seen = seen; volumes = volumes; dropped = dropped; lines = lines; bytes = bytes; refused = None }

-- the first of some blocks, if there is room for it
pub requested-next : (volumes : List Volume) (seen : Seen) (most dropped lines bytes : ℕ) (format : Format) (volume : ℕ) (stamp : Stamp) (first count size : ℕ)
    → let x : Object = record { volume = volume; id = first; size = size } in
    requested (most + 1) format (plain volumes seen dropped lines bytes) volume stamp first (count + 1) size
    ≡ onto x (mark_of format seen stamp x) (requested most format (plain volumes (with_seen format.fresh seen x stamp.time stamp.fills) dropped lines bytes) volume stamp (first + 1) count size)
requested-next volumes seen most dropped lines bytes format volume stamp first count size =
    let x : Object = record { volume = volume; id = first; size = size } in
    let mark = mark_of format seen stamp x in
    let r = plain volumes (with_seen format.fresh seen x stamp.time stamp.fills) dropped lines bytes in
    let next = blocks volume (first + 1) (min count most) size in
    let taken = fold (with_one format stamp) r next in
    let places : most + 1 - 0 ≡ most + 1 = omega arith in
    let before : most - 0 ≡ most = omega arith in
    let some : min (count + 1) (most + 1) ≡ suc (min count most) = omega arith in
    let together : Reading → Reading = λ s. cond (nat_lt most count) (stopped s TooManyRequests) s in
    rw (places, before, some, lt-next most count)
    (ap (λ fills. together (fold (with_one format stamp) (record (onto x mark r) { fills = fills }) next)) (sym (append-nil (with_mark [] mark)))
    ∙ (ap together (ones-onto format stamp x mark r next) ∙ onto_either (nat_lt most count) x mark (stopped taken TooManyRequests) taken))

-- no block is left
pub requested-none : (volumes : List Volume) (seen : Seen) (most dropped lines bytes : ℕ) (format : Format) (volume : ℕ) (stamp : Stamp) (first size : ℕ)
    → requested most format (plain volumes seen dropped lines bytes) volume stamp first 0 size ≡ plain volumes seen dropped lines bytes
requested-none volumes seen most dropped lines bytes format volume stamp first size =
    let none : min 0 (most - 0) ≡ 0 = omega arith in
    rw (none, le-ltb (most - 0) 0 (omega arith)) refl

-- there is no room for one
pub requested-full : (volumes : List Volume) (seen : Seen) (dropped lines bytes : ℕ) (format : Format) (volume : ℕ) (stamp : Stamp) (first count size : ℕ) → 0 < count
    → requested 0 format (plain volumes seen dropped lines bytes) volume stamp first count size ≡ stopped (plain volumes seen dropped lines bytes) TooManyRequests
requested-full volumes seen dropped lines bytes format volume stamp first count size some =
    let none : min count (0 - 0) ≡ 0 = omega arith in
    rw (none, lt-ltb 0 count some) refl
