-- How far the two sources are read.
use Rattle.std.proofs.Common.{◌≡◌, ℕ, ◌+◌, ◌-◌, ◌≤◌, ◌<◌, ◌∙◌, refl, sym, ap, subst, false, List, [], ◌++◌, length, take, drop, arith, length-append, length-drop, length-take, Option, Some, None, Result, Ok, Err, IfSome}
use Rattle.std.specs.Option.{unwrap_or}
use Rattle.std.specs.Io.KnownBytes.{Keeps}
use Rattle.std.proofs.Math.Seq.{take-add}
use Rattle.std.proofs.lemmas.List.{drop-drop}
use Rattle.std.proofs.lemmas.List.Sums.{sum_by-append}
use Rattle.bound_io.specs.Devices.{Device}
use Rattle.bound_io.specs.Lines.{text_len, first_line, after_line}
use Rattle.bound_io.specs.Positions.{Position, LeavesLine, known}
use Rattle.bound_io.specs.declared.line_reader.LineFault.{LineFault}
use Rattle.cache_rules.specs.Stored.{Requests}
use Rattle.trace_any.specs.declared.format.Format.{Format}
use Rattle.trace_any.specs.FirstLines.{HasGiven, HasLostFor, bytes_of}
use Rattle.trace_any.specs.Readings.{full_limits, lines_of, reading}
use Rattle.trace_any.specs.Readers.{Reader, GoesOn, IsWhole, bytes_after, fresh, to_come, known as trace_known}
use Rattle.trace_any.proofs.Coming.{after_all, fresh_to_come, past_both}
use Rattle.trace_any.proofs.FirstLines.{lines_of-first}
use Rattle.trace_any.proofs.Lost.{at_start}
use Rattle.trace_any.proofs.NextPieces.{past_next}
use Rattle.trace_any.proofs.Through.{lost_for}
use Rattle.hit_flags.specs.declared.fault.FlagFault.{FlagFault}
use Rattle.hit_flags.specs.declared.fault.FlagFault.TheVariants.{Trace, NotFlag, Count, ReadFault, NoMemory}
use Rattle.hit_flags.specs.Lines.{nothing_read}
use Rattle.hit_flags.specs.Nearness.{AreNear, GoesLine, HaveLostLines, IsAtTurn, IsNearTurn, StandsPast}
use Rattle.hit_flags.proofs.Ends.{stands_in-nothing}

-- no line was given
past_none : (old new : Position) (before after : Option (List ℕ)) → new.line ≡ old.line → new.consumed ≡ old.consumed → Keeps before after → IfSome before (λ bytes. StandsPast old new bytes after)
past_none old new None after line consumed kept = tt
past_none old new (Some bytes) None line consumed kept = absurd kept
past_none old new (Some bytes) (Some rest) line consumed kept =
    let none : new.line - old.line ≡ 0 = omega (arith, line) in
    let nothing : new.consumed - old.consumed ≡ 0 = omega (arith, consumed) in
    record {
      further = omega (arith, line);
      consumed = omega (arith, consumed, ap (λ n. bytes_of (take n (lines_of bytes))) none);
      rest = ap (λ b. Some b) (kept ∙ sym (ap (λ n. drop n bytes) nothing));
      lines = ap (λ n. lines_of (drop n bytes)) nothing ∙ sym (ap (λ n. drop n (lines_of bytes)) none);
    }

-- one line was given
past_one : (old new : Position) (before after : Option (List ℕ)) → new.line ≡ old.line + 1 → old.consumed < new.consumed → IfSome before (λ bytes. new.consumed ≡ old.consumed + length (first_line bytes)) → IfSome before (λ bytes. after ≡ Some (after_line bytes))
    → IfSome before (λ bytes. StandsPast old new bytes after)
past_one old new None after line more consumed rest = tt
past_one old new (Some bytes) after line more consumed rest =
    let some : 0 < length bytes = omega (arith, more, consumed, length-take (text_len bytes + 1) bytes) in
    let first = lines_of-first bytes some in
    let one : new.line - old.line ≡ 1 = omega (arith, line) in
    let size : new.consumed - old.consumed ≡ length (first_line bytes) = omega (arith, consumed) in
    let past : drop (new.consumed - old.consumed) bytes ≡ after_line bytes = ap (λ n. drop n bytes) size ∙ past_next false bytes in
    record {
      further = omega (arith, line);
      consumed = omega (arith, consumed, ap (λ n. bytes_of (take n (lines_of bytes))) one, ap (λ ls. bytes_of (take 1 ls)) first);
      rest = rest ∙ ap (λ b. Some b) (sym past);
      lines = ap lines_of past ∙ (sym (ap (drop 1) first) ∙ sym (ap (λ n. drop n (lines_of bytes)) one));
    }

-- what a reader of lines leaves
pub goes_line : {A : Type 0} (old new : Position) (hits : Device) (result : Result (Option A) LineFault) → LeavesLine old hits result new → GoesLine old new hits
goes_line old new hits (Ok (Some text)) leaves = record {
  most = omega (arith, leaves.0.line);
  held = leaves.1;
  past = past_one old new (known old hits.before) (known new hits.after) leaves.0.line leaves.0.some leaves.0.consumed leaves.0.rest;
}
goes_line old new hits (Ok None) leaves = record {
  most = omega (arith, ap (λ (p : Position). p.line) leaves.0.still);
  held = leaves.1;
  past = past_none old new (known old hits.before) (known new hits.after) (ap (λ (p : Position). p.line) leaves.0.still) (ap (λ (p : Position). p.consumed) leaves.0.still) leaves.0.rest;
}
goes_line old new hits (Err fault) leaves = record {
  most = omega (arith, ap (λ (p : Position). p.line) leaves.0.still);
  held = leaves.1;
  past = past_none old new (known old hits.before) (known new hits.after) (ap (λ (p : Position). p.line) leaves.0.still) (ap (λ (p : Position). p.consumed) leaves.0.still) leaves.0.rest;
}

-- before the first flag
pub past_nothing : (at : Position) (before : Option (List ℕ)) → at ≡ nothing_read → IfSome before (λ bytes. StandsPast nothing_read at bytes (known at before))
past_nothing at before first = subst (λ (p : Position). IfSome before (λ bytes. StandsPast nothing_read p bytes (known p before))) (sym first)
    (subst (λ (o : Option (List ℕ)). IfSome before (λ bytes. StandsPast nothing_read nothing_read bytes o)) (sym (stands_in-nothing before)) (here before))
  where
    here : (left : Option (List ℕ)) → IfSome left (λ bytes. StandsPast nothing_read nothing_read bytes left)
    here None = tt
    here (Some bytes) = past_none nothing_read nothing_read (Some bytes) (Some bytes) refl refl refl

-- some lines, and then some more
pub past_then : (first second third : Position) (start between later : Option (List ℕ)) → IfSome start (λ bytes. StandsPast first second bytes between) → IfSome between (λ bytes. StandsPast second third bytes later)
    → IfSome start (λ bytes. StandsPast first third bytes later)
past_then first second third None between later one other = tt
past_then first second third (Some bytes) between later one other =
    let next = rw one.rest at other in
    let past = drop (second.consumed - first.consumed) bytes in
    let k = second.line - first.line in
    let n = third.line - second.line in
    let both : third.line - first.line ≡ k + n = omega (arith, one.further, next.further) in
    let split : take (k + n) (lines_of bytes) ≡ take k (lines_of bytes) ++ take n (lines_of past) = take-add k n (lines_of bytes) ∙ ap (λ ls. take k (lines_of bytes) ++ take n ls) (sym one.lines) in
    let size : bytes_of (take (k + n) (lines_of bytes)) ≡ bytes_of (take k (lines_of bytes)) + bytes_of (take n (lines_of past)) =
    ap bytes_of split ∙ sum_by-append (λ (line : List ℕ × ℕ). line.1) (take k (lines_of bytes)) (take n (lines_of past)) in
    let after : drop (third.consumed - second.consumed) past ≡ drop (third.consumed - first.consumed) bytes =
    past_both (second.consumed - first.consumed) (third.consumed - second.consumed) (third.consumed - first.consumed) bytes (omega (arith, one.consumed, next.consumed)) in
    record {
      further = omega (arith, one.further, next.further);
      consumed = omega (arith, one.consumed, next.consumed, size, ap (λ j. bytes_of (take j (lines_of bytes))) both);
      rest = next.rest ∙ ap (λ b. Some b) after;
      lines = ap lines_of (sym after) ∙ (next.lines ∙ (ap (drop n) one.lines ∙ (drop-drop n k (lines_of bytes) ∙ ap (λ j. drop j (lines_of bytes)) (sym both))));
    }

-- more lines have no fewer bytes
lines-more : (j k : ℕ) (bytes : List ℕ) → j ≤ k → bytes_of (take j (lines_of bytes)) ≤ bytes_of (take k (lines_of bytes))
lines-more j k bytes low =
    let more = take (k - j) (drop j (lines_of bytes)) in
    let both : bytes_of (take k (lines_of bytes)) ≡ bytes_of (take j (lines_of bytes)) + bytes_of more =
    ap (λ n. bytes_of (take n (lines_of bytes))) (omega (arith, low)) ∙ (ap bytes_of (take-add j (k - j) (lines_of bytes)) ∙ sum_by-append (λ (line : List ℕ × ℕ). line.1) (take j (lines_of bytes)) more) in
    omega (arith, both)

-- what the flags have lost once some lines were given
pub lost_lines : (now : Position) (count : ℕ) (hits : Device) → now.line ≤ count → length now.held ≤ 65536 → IfSome hits.before (λ text. StandsPast nothing_read now text (known now hits.after)) → HaveLostLines count hits
lost_lines now count hits most held past = by hits.before hits.after past
  where
    by : (before after : Option (List ℕ)) → IfSome before (λ text. StandsPast nothing_read now text (known now after)) → IfSome before (λ text. IfSome after (λ left. length text ≤ length left + bytes_of (take count (lines_of text)) + 65536))
    by None after p = tt
    by (Some text) None p = tt
    by (Some text) (Some left) p =
        let rest : now.held ++ left ≡ drop (now.consumed - 0) text = ap (λ o. unwrap_or o []) p.rest in
        let line : now.line - 0 ≡ now.line = omega arith in
        omega (arith, held, p.consumed, ap (λ n. bytes_of (take n (lines_of text))) line, lines-more now.line count text most, ap length rest, length-append now.held left, length-drop (now.consumed - 0) text)

-- what the trace has lost once these requests were given
pub lost_given : (format : Format) (start now : Reader) (given : Requests) (before after : Option (List ℕ)) → start ≡ fresh format full_limits → length now.lines.held ≤ 65536
    → IfSome (trace_known start before) (HasGiven given.objects given.fills start now) → IfSome (trace_known start before) (λ bytes. GoesOn (after_all given) start now bytes (trace_known now after))
    → IfSome before (λ bytes. IfSome after (HasLostFor format full_limits (length given.objects) bytes))
lost_given format start now given before after begins held has goes =
    by before after (at_start format full_limits start before (HasGiven given.objects given.fills start now) begins has) (at_start format full_limits start before (λ bytes. GoesOn (after_all given) start now bytes (trace_known now after)) begins goes)
  where
    by : (b a : Option (List ℕ)) → IfSome b (HasGiven given.objects given.fills start now) → IfSome b (λ bytes. GoesOn (after_all given) start now bytes (trace_known now a)) → IfSome b (λ bytes. IfSome a (HasLostFor format full_limits (length given.objects) bytes))
    by None a h g = tt
    by (Some bytes) None h g = tt
    by (Some bytes) (Some left) h g =
        let whole : reading format full_limits bytes ≡ to_come start bytes = sym (ap (λ (r : Reader). to_come r bytes) begins ∙ fresh_to_come format full_limits bytes) in
        let all = ap (λ r. r.requests) (whole ∙ g.coming) in
        lost_for start now format full_limits given.objects given.fills bytes left begins h (ap (λ o. unwrap_or o []) g.rest) held (omega (arith, ap length all, length-append given.objects (to_come now (bytes_after start now bytes)).requests))

-- what it has lost once it has ended, if one request more was asked for
pub lost_all : (format : Format) (given : Requests) (dropped : ℕ) (before after : Option (List ℕ)) → IfSome before (λ bytes. IsWhole (reading format full_limits bytes) given dropped) → IfSome before (λ _. after ≡ Some [])
    → IfSome before (λ bytes. IfSome after (HasLostFor format full_limits (length given.objects + 1) bytes))
lost_all format given dropped None after whole end = tt
lost_all format given dropped (Some bytes) None whole end = tt
lost_all format given dropped (Some bytes) (Some left) whole end = record {
  near = λ many. absurd (omega (arith, many, ap length whole.requests));
  all = λ _. ap (λ o. unwrap_or o []) end;
}

-- the flags have lost at most a line for each request that was given
pub lost_flags : (format : Format) (start now : Reader) (given : Requests) (between : Option (List ℕ)) (trace hits : Device) (at : Position) → start ≡ fresh format full_limits → at.line ≡ length given.objects → length at.held ≤ 65536
    → IfSome (trace_known start trace.before) (λ bytes. GoesOn (after_all given) start now bytes between) → IfSome hits.before (λ text. StandsPast nothing_read at text (known at hits.after))
    → IfSome trace.before (λ bytes. HaveLostLines (length (reading format full_limits bytes).requests) hits)
lost_flags format start now given between trace hits at begins line held goes past = by trace.before (at_start format full_limits start trace.before (λ bytes. GoesOn (after_all given) start now bytes between) begins goes)
  where
    by : (b : Option (List ℕ)) → IfSome b (λ bytes. GoesOn (after_all given) start now bytes between) → IfSome b (λ bytes. HaveLostLines (length (reading format full_limits bytes).requests) hits)
    by None g = tt
    by (Some bytes) g =
        let whole : reading format full_limits bytes ≡ to_come start bytes = sym (ap (λ (r : Reader). to_come r bytes) begins ∙ fresh_to_come format full_limits bytes) in
        let all = ap (λ r. r.requests) (whole ∙ g.coming) in
        lost_lines at (length (reading format full_limits bytes).requests) hits (omega (arith, line, ap length all, length-append given.objects (to_come now (bytes_after start now bytes)).requests)) held past

-- the flags stop the turns
pub near_turn : (format : Format) (turn : ℕ) (trace hits : Device) (fault : FlagFault) → IsAtTurn turn fault → IsNearTurn format turn trace hits → AreNear format trace hits fault
near_turn format turn trace hits (NotFlag line) is near = rw is near
near_turn format turn trace hits (Count flags requests) is near = rw is near
near_turn format turn trace hits (Trace fault) is near = absurd is
near_turn format turn trace hits ReadFault is near = tt
near_turn format turn trace hits NoMemory is near = absurd is
