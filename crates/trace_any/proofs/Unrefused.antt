-- A reading counts a line for each that it reads, so none of the lines before the last that a reader has gone through is refused.
use Rattle.std.proofs.Common.{◌≡◌, ℕ, ◌+◌, ◌-◌, ◌≤◌, ◌<◌, ◌∙◌, sym, refl, ap, Bool, true, false, cond, nat_lt, if◌then◌else◌, min, List, [], ◌∷◌, append-nil, length, length-take, take, drop, arith, fold, Option, Some, None, Result, Ok, Err}
use Rattle.std.specs.Option.{is_some}
use Rattle.std.proofs.Math.Seq.{take-add}
use Rattle.std.proofs.lemmas.List.Sums.{fold-append}
use Rattle.cache_model.specs.declared.objects.Object.{Object}
use Rattle.trace_lines.specs.declared.line.Span.{Span}
use Rattle.trace_lines.specs.declared.line.Span.TheVariants.{Nothing, One, Blocks}
use Rattle.trace_lines.specs.declared.line.LineKind.{LineKind}
use Rattle.trace_lines.specs.declared.line.LineKind.TheVariants.{TooLong}
use Rattle.trace_any.specs.declared.fault.TraceFault.{TraceFault}
use Rattle.trace_any.specs.declared.fault.TraceFault.TheVariants.{BadLine, InputTooLong, TooManyRequests}
use Rattle.trace_any.specs.declared.format.Format.{Format}
use Rattle.trace_any.specs.declared.format.Limits.{Limits}
use Rattle.trace_any.specs.Volumes.{Volume}
use Rattle.trace_any.specs.Readings.{LineContents, Reading, Stamp, blocks, number_of, pieces_of, read_line, requested, spanned, stopped, text_content, with_line, with_named, with_one}
use Rattle.trace_any.specs.Readers.{Reader, room_left, so_far, with_ahead}
use Rattle.trace_any.specs.FirstLines.{GoesThrough, coming_in, first_lines, lines_between}
use Rattle.trace_any.proofs.ReadingSteps.{stays}

-- requests are no lines
ones-lines : (format : Format) (stamp : Stamp) (r : Reading) (next : List Object) → (fold (with_one format stamp) r next).lines ≡ r.lines
ones-lines format stamp r [] = refl
ones-lines format stamp r (x ∷ next) = ones-lines format stamp (with_one format stamp r x) next

requested-lines : (most : ℕ) (format : Format) (r : Reading) (volume : ℕ) (stamp : Stamp) (first count size : ℕ) → (requested most format r volume stamp first count size).lines ≡ r.lines
requested-lines most format r volume stamp first count size =
    let room = most - length r.requests in
    let next = blocks volume first (min count room) size in
    by (fold (with_one format stamp) r next) (nat_lt room count) ∙ ones-lines format stamp r next
  where
    by : (taken : Reading) (past : Bool) → (if past then stopped taken TooManyRequests else taken).lines ≡ taken.lines
    by taken true = refl
    by taken false = refl

spanned-lines : (most : ℕ) (format : Format) (r : Reading) (volume : Option Volume) (stamp : Stamp) (span : Span) → (spanned most format r volume stamp span).lines ≡ r.lines
spanned-lines most format r volume stamp Nothing = refl
spanned-lines most format r volume stamp (One id size) = requested-lines most format (record r { volumes = with_named r.volumes volume }) (number_of r.volumes volume) stamp id 1 size
spanned-lines most format r volume stamp (Blocks first count size) = requested-lines most format (record r { volumes = with_named r.volumes volume }) (number_of r.volumes volume) stamp first count size

with_line-lines : (most : ℕ) (format : Format) (r : Reading) (said : Result (Option LineContents) LineKind) → (with_line most format r said).lines ≡ r.lines
with_line-lines most format r (Ok None) = refl
with_line-lines most format r (Ok (Some what)) = spanned-lines most format r what.volume what.stamp what.span
with_line-lines most format r (Err kind) = refl

-- a choice of two readings of at most this many lines
either : (b : Bool) (most : ℕ) (s t : Reading) → s.lines ≤ most → t.lines ≤ most → (cond b s t).lines ≤ most
either true most s t one other = one
either false most s t one other = other

-- a line is one more at most
read_line-lines : (format : Format) (limits : Limits) (r : Reading) (line : List ℕ × ℕ) → (read_line format limits r line).lines ≤ r.lines + 1
read_line-lines format limits r (text, size) =
    let now : Reading = record r { lines = r.lines + 1; bytes = r.bytes + size } in
    let up = with_line limits.requests format now (text_content format text) in
    let within = cond (nat_lt limits.bytes now.bytes) (stopped now InputTooLong) up in
    let long = stopped now (BadLine now.lines TooLong) in
    let same : up.lines ≡ r.lines + 1 = with_line-lines limits.requests format now (text_content format text) in
    let here : r.lines + 1 ≤ r.lines + 1 = omega arith in
    either (is_some r.refused) (r.lines + 1) r (cond (nat_lt 65535 (length text)) long within) (omega arith)
    (either (nat_lt 65535 (length text)) (r.lines + 1) long within here
    (either (nat_lt limits.bytes now.bytes) (r.lines + 1) (stopped now InputTooLong) up here (omega (arith, same))))

lines_ahead : (r : Reader) → (with_ahead r).lines ≡ r.lines.line
lines_ahead r = requested-lines (r.limits.requests - r.given) r.format (so_far r) r.ahead.volume r.ahead.stamp r.ahead.first r.ahead.count r.ahead.size

-- so many lines are as many more at most
lines_read : (format : Format) (limits : Limits) (r : Reading) (lines : List (List ℕ × ℕ)) → (fold (read_line format limits) r lines).lines ≤ r.lines + length lines
lines_read format limits r [] = omega arith
lines_read format limits r (line ∷ lines) =
    let step = read_line-lines format limits r line in
    let rest = lines_read format limits (read_line format limits r line) lines in
    omega (arith, step, rest)

-- a reading that stops in the first lines stays so in more of them
stops_in : (format : Format) (limits : Limits) (r : Reading) (lines : List (List ℕ × ℕ)) (fewer most : ℕ) → fewer ≤ most → is_some (fold (read_line format limits) r (take fewer lines)).refused ≡ true
    → fold (read_line format limits) r (take most lines) ≡ fold (read_line format limits) r (take fewer lines)
stops_in format limits r lines fewer most low stop =
    let more = take (most - fewer) (drop fewer lines) in
    let both : most ≡ fewer + (most - fewer) = omega (arith, low) in
    ap (λ n. fold (read_line format limits) r (take n lines)) both
    ∙ (ap (fold (read_line format limits) r) (take-add fewer (most - fewer) lines)
    ∙ (fold-append (read_line format limits) r (take fewer lines) more
    ∙ stays format limits (fold (read_line format limits) r (take fewer lines)) more stop))

-- none of the lines before the last that a reader has gone through is refused
pub unrefused : (with_given : Reading → Reading) (old new : Reader) (bytes : List ℕ) → ((s : Reading) → (with_given s).lines ≡ s.lines) → GoesThrough with_given old new bytes
    → (fewer : ℕ) → fewer < lines_between old new → (coming_in old (first_lines old.format fewer bytes)).refused ≡ None
unrefused with_given old new bytes same goes fewer few = by (coming_in old (first_lines old.format fewer bytes)).refused refl
  where
    by : (o : Option TraceFault) → (coming_in old (first_lines old.format fewer bytes)).refused ≡ o → (coming_in old (first_lines old.format fewer bytes)).refused ≡ None
    by None is = is
    by (Some fault) is =
        let k = lines_between old new in
        let pieces = pieces_of old.format bytes in
        let stop : coming_in old (first_lines old.format k bytes) ≡ coming_in old (first_lines old.format fewer bytes) = stops_in old.format (room_left old) (with_ahead old) pieces fewer k (omega (arith, few)) (ap is_some is) in
        let through : coming_in old (first_lines old.format k bytes) ≡ with_given (with_ahead new) = ap (coming_in old) (sym (append-nil (first_lines old.format k bytes))) ∙ goes.coming [] in
        let count : (coming_in old (first_lines old.format fewer bytes)).lines ≡ new.lines.line =
        ap (λ (s : Reading). s.lines) (sym stop ∙ through) ∙ (same (with_ahead new) ∙ lines_ahead new) in
        let most = lines_read old.format (room_left old) (with_ahead old) (first_lines old.format fewer bytes) in
        absurd (omega (arith, few, count, most, lines_ahead old, length-take fewer pieces))
