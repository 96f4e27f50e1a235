-- Where a reader stands that gives no request for a fault.
use Rattle.std.proofs.Common.{◌≡◌, Bool, true, false, ℕ, ◌+◌, ◌-◌, ◌≤◌, ◌<◌, ◌∙◌, sym, refl, inl, inr, ◌⊎◌, ap, subst, List, [], ◌∷◌, ◌++◌, length, drop, take, min, nat_lt, if◌then◌else◌, fold, arith, Option, Some, None, Result, Ok, Err, IfSome}
use Rattle.std.proofs.lemmas.Bool.{cases_lt}
use Rattle.std.proofs.lemmas.List.Sums.{sum_by-append}
use Rattle.std.proofs.KnownBytes.{Keeps-refl}
use Rattle.std.specs.Io.KnownBytes.{Keeps}
use Rattle.std.specs.Result.{IfErr, IsErrAnd}
use Rattle.bound_io.specs.Positions.{Position}
use Rattle.bound_io.specs.declared.line_reader.LineFault.{LineFault}
use Rattle.bound_io.specs.declared.line_reader.LineFault.TheVariants as line
use Rattle.cache_model.specs.declared.objects.Object.{Object}
use Rattle.cache_rules.specs.Stored.{Requests, with_request}
use Rattle.trace_lines.specs.declared.line.Span.{Span}
use Rattle.trace_lines.specs.declared.line.Span.TheVariants.{Nothing, One, Blocks}
use Rattle.trace_lines.specs.declared.line.LineKind.{LineKind}
use Rattle.trace_any.specs.declared.fault.TraceFault.{TraceFault}
use Rattle.trace_any.specs.declared.format.Format.{Format}
use Rattle.trace_any.specs.declared.fault.TraceFault.TheVariants.{BadLine, ReadFault, InputTooLong, TooManyRequests, NoMemory}
use Rattle.trace_any.specs.Volumes.{Volume}
use Rattle.trace_any.specs.Readings.{LineContents, Reading, Stamp, blocks, fault_of, has_records, number_of, requested, spanned, stopped, with_line, with_named, with_one}
use Rattle.trace_any.specs.Readers.{GoesOn, IsUngiven, Reader, bytes_after, known, onto, so_far, with_ahead}
use Rattle.trace_any.specs.FirstLines.{GoesNoFurther, GoesThrough, HasGiven, IsNotPast, StandsAfter, bytes_of, coming_in, first_lines, lines_between}
use Rattle.trace_any.specs.NextPieces.{IsNextRefused, next_size, next_text}
use Rattle.trace_any.proofs.Coming.{TakesUp, after_all, loads_more, past_both, with_lines, with_mark-one}
use Rattle.trace_any.proofs.NextPieces.{cut-first, refused_too_long}
use Rattle.trace_any.proofs.Through.{ReadsLine, ahead_none, coming_first, given_next, given_none, split}
use Rattle.trace_any.proofs.Unrefused.{unrefused}

-- what holds of a fault holds of an answer that is this fault
pub of_fault : {A : Type 0} (result : Result A TraceFault) (fault : TraceFault) (P : TraceFault → Type 0) → IsErrAnd result (λ e. e ≡ fault) → P fault → IfErr result P
of_fault (Ok x) fault P is holds = tt
of_fault (Err e) fault P is holds = subst P (sym is) holds

-- requests drop no line
ones-dropped : (format : Format) (stamp : Stamp) (r : Reading) (next : List Object) → (fold (with_one format stamp) r next).dropped ≡ r.dropped
ones-dropped format stamp r [] = refl
ones-dropped format stamp r (x ∷ next) = ones-dropped format stamp (with_one format stamp r x) next

requested-dropped : (most : ℕ) (format : Format) (r : Reading) (volume : ℕ) (stamp : Stamp) (first count size : ℕ) → (requested most format r volume stamp first count size).dropped ≡ r.dropped
requested-dropped most format r volume stamp first count size =
    let room = most - length r.requests in
    let next = blocks volume first (min count room) size in
    by (fold (with_one format stamp) r next) (nat_lt room count) ∙ ones-dropped format stamp r next
  where
    by : (taken : Reading) (past : Bool) → (if past then stopped taken TooManyRequests else taken).dropped ≡ taken.dropped
    by taken true = refl
    by taken false = refl

-- nor does a line that asks for something
spanned-dropped : (most : ℕ) (format : Format) (r : Reading) (volume : Option Volume) (stamp : Stamp) (span : Span) → (span ≡ Nothing → ⊥) → (spanned most format r volume stamp span).dropped ≡ r.dropped
spanned-dropped most format r volume stamp Nothing some = absurd (some refl)
spanned-dropped most format r volume stamp (One id size) some = requested-dropped most format (record r { volumes = with_named r.volumes volume }) (number_of r.volumes volume) stamp id 1 size
spanned-dropped most format r volume stamp (Blocks first count size) some = requested-dropped most format (record r { volumes = with_named r.volumes volume }) (number_of r.volumes volume) stamp first count size

dropped_ahead : (r : Reader) → (with_ahead r).dropped ≡ r.dropped
dropped_ahead r = requested-dropped (r.limits.requests - r.given) r.format (so_far r) r.ahead.volume r.ahead.stamp r.ahead.first r.ahead.count r.ahead.size

-- no line was given
pub stands_still : (r new : Reader) (before between : Option (List ℕ)) → new.lines.line ≡ r.lines.line → new.lines.consumed ≡ r.lines.consumed → new.dropped ≡ r.dropped → Keeps before between → IfSome before (λ bytes. StandsAfter r new bytes between)
stands_still r new None between line consumed dropped kept = tt
stands_still r new (Some bytes) None line consumed dropped kept = absurd kept
stands_still r new (Some bytes) (Some rest) line consumed dropped kept =
    let none : lines_between r new ≡ 0 = omega (arith, line) in
    let nothing : new.lines.consumed - r.lines.consumed ≡ 0 = omega (arith, consumed) in
    let empty : first_lines r.format (lines_between r new) bytes ≡ [] = ap (λ n. first_lines r.format n bytes) none in
    record {
      further = omega (arith, line);
      none_refused = λ fewer few. absurd (omega (arith, few, none));
      consumed = omega (arith, consumed, ap bytes_of empty);
      dropped = dropped ∙ (sym (dropped_ahead r) ∙ sym (ap (λ ls. (coming_in r ls).dropped) empty));
      rest = ap (λ b. Some b) (kept ∙ sym (ap (λ n. drop n bytes) nothing));
    }

-- the lines are as they were
pub stands_as : (r new : Reader) (left : Option (List ℕ)) → new.lines ≡ r.lines → new.dropped ≡ r.dropped → IfSome (known r left) (λ bytes. StandsAfter r new bytes (known new left))
stands_as r new left same dropped =
    stands_still r new (known r left) (known new left) (ap (λ (p : Position). p.line) same) (ap (λ (p : Position). p.consumed) same) dropped
    (subst (λ (o : Option (List ℕ)). Keeps (known r left) o) (ap (λ (p : Position). known (with_lines r p) left) (sym same)) (Keeps-refl (known r left)))

-- one line was given
stands_after_line : (r new : Reader) (l : Position) (said : Result (Option LineContents) LineKind) (before between : Option (List ℕ)) → r.ahead.count ≡ 0 → new.lines ≡ l
    → (with_line (r.limits.requests - r.given) r.format (so_far (with_lines r l)) said).dropped ≡ new.dropped
    → IfSome before (ReadsLine r l said) → IfSome before (λ bytes. TakesUp r (with_lines r l) said bytes between) → IfSome before (λ bytes. StandsAfter r new bytes between)
stands_after_line r new l said None between nothing same dropped reads takes = tt
stands_after_line r new l said (Some bytes) between nothing same dropped reads takes =
    let records = has_records r.format in
    let line : List ℕ × ℕ = (next_text records bytes, next_size records bytes) in
    let number : new.lines.line ≡ r.lines.line + 1 = ap (λ (p : Position). p.line) same ∙ reads.line in
    let one : lines_between r new ≡ 1 = omega (arith, number) in
    let first : first_lines r.format (lines_between r new) bytes ≡ line ∷ [] = ap (λ n. first_lines r.format n bytes) one ∙ ap (take 1) (cut-first records bytes reads.some) in
    record {
      further = omega (arith, number);
      none_refused = λ fewer few.
          let zero_is : fewer ≡ 0 = omega (arith, few, one) in
          let zero_lines : first_lines r.format fewer bytes ≡ [] = ap (λ n. first_lines r.format n bytes) zero_is in
          ap (λ ls. (coming_in r ls).refused) zero_lines ∙ ap (λ (s : Reading). s.refused) (ahead_none r nothing);
      consumed = omega (arith, ap (λ (p : Position). p.consumed) same, reads.consumed, ap bytes_of first);
      dropped = sym dropped ∙ (sym (ap (λ (s : Reading). s.dropped) reads.step) ∙ sym (ap (λ ls. (coming_in r ls).dropped) first));
      rest = takes.rest ∙ ap (λ (p : Position). Some (drop (p.consumed - r.lines.consumed) bytes)) (sym same);
    }

-- a line that is refused
pub stands_after_refused : (r : Reader) (l : Position) (kind : LineKind) (said : Result (Option LineContents) LineKind) (before between : Option (List ℕ)) → said ≡ Err kind → r.ahead.count ≡ 0
    → IfSome before (ReadsLine r l said) → IfSome before (λ bytes. TakesUp r (with_lines r l) said bytes between) → IfSome before (λ bytes. StandsAfter r (with_lines r l) bytes between)
stands_after_refused r l kind said before between refused nothing reads takes =
    stands_after_line r (with_lines r l) l said before between nothing refl (ap (λ s. (with_line (r.limits.requests - r.given) r.format (so_far (with_lines r l)) s).dropped) refused) reads takes

-- a line whose volume found no memory
pub stands_after_unnamed : (r new : Reader) (l : Position) (what : LineContents) (said : Result (Option LineContents) LineKind) (before between : Option (List ℕ)) → said ≡ Ok (Some what) → (what.span ≡ Nothing → ⊥) → r.ahead.count ≡ 0
    → new.lines ≡ l → new.dropped ≡ r.dropped → IfSome before (ReadsLine r l said) → IfSome before (λ bytes. TakesUp r (with_lines r l) said bytes between) → IfSome before (λ bytes. StandsAfter r new bytes between)
stands_after_unnamed r new l what said before between asks some nothing same dropped reads takes =
    let most = r.limits.requests - r.given in
    stands_after_line r new l said before between nothing same
    (ap (λ s. (with_line most r.format (so_far (with_lines r l)) s).dropped) asks
    ∙ (spanned-dropped most r.format (so_far (with_lines r l)) what.volume what.stamp what.span some ∙ sym dropped))
    reads takes

-- some lines, and then those up to a fault
pub stands_then : (with_given : Reading → Reading) (first second third : Reader) (before between later : Option (List ℕ)) → ((s : Reading) → ((with_given s).dropped ≡ s.dropped) × ((with_given s).lines ≡ s.lines) × ((with_given s).refused ≡ s.refused))
    → IfSome before (λ bytes. between ≡ Some (bytes_after first second bytes)) → IfSome before (GoesThrough with_given first second)
    → IfSome between (λ bytes. StandsAfter second third bytes later) → IfSome before (λ bytes. StandsAfter first third bytes later)
stands_then with_given first second third None between later same rest goes other = tt
stands_then with_given first second third (Some bytes) between later same rest goes other =
    let next = rw rest at other in
    let past = bytes_after first second bytes in
    let k = lines_between first second in
    let n = lines_between second third in
    let lines : lines_between first third ≡ k + n = omega (arith, next.further, goes.further) in
    let size : bytes_of (first_lines first.format (k + n) bytes) ≡ bytes_of (first_lines first.format k bytes) + bytes_of (first_lines second.format n past) =
    ap bytes_of (split with_given (λ s. s) with_given (λ s. refl) first second third bytes goes n) ∙ sum_by-append (λ (line : List ℕ × ℕ). line.1) (first_lines first.format k bytes) (first_lines second.format n past) in
    record {
      further = omega (arith, goes.further, next.further);
      none_refused = λ fewer few. by fewer few next (cases_lt fewer k);
      consumed = omega (arith, goes.consumed, next.consumed, size, ap (λ j. bytes_of (first_lines first.format j bytes)) lines);
      dropped = next.dropped
          ∙ (sym (same (coming_in second (first_lines second.format n past))).0
          ∙ (sym (ap (λ (s : Reading). s.dropped) (coming_first with_given (λ s. s) with_given (λ s. refl) first second third bytes goes n)) ∙ ap (λ j. (coming_in first (first_lines first.format j bytes)).dropped) (sym lines)));
      rest = next.rest
          ∙ ap (λ b. Some b) (past_both (second.lines.consumed - first.lines.consumed) (third.lines.consumed - second.lines.consumed) (third.lines.consumed - first.lines.consumed) bytes (omega (arith, goes.consumed, next.consumed)));
    }
  where
    by : (fewer : ℕ) → fewer < lines_between first third → StandsAfter second third (bytes_after first second bytes) later → fewer < lines_between first second ⊎ lines_between first second ≤ fewer
        → (coming_in first (first_lines first.format fewer bytes)).refused ≡ None
    by fewer few next (inl less) = unrefused with_given first second bytes (λ s. (same s).1) goes fewer less
    by fewer few next (inr more) =
        let n = fewer - lines_between first second in
        let at : fewer ≡ lines_between first second + n = omega (arith, more) in
        ap (λ j. (coming_in first (first_lines first.format j bytes)).refused) at
        ∙ (ap (λ (s : Reading). s.refused) (coming_first with_given (λ s. s) with_given (λ s. refl) first second third bytes goes n)
        ∙ ((same (coming_in second (first_lines second.format n (bytes_after first second bytes)))).2 ∙ next.none_refused n (omega (arith, few, more, goes.further, next.further))))

-- a reader that goes no further goes through the lines
pub through_of : (with_given : Reading → Reading) (first second : Reader) (before : Option (List ℕ)) → IfSome before (GoesNoFurther with_given first second) → IfSome before (GoesThrough with_given first second)
through_of with_given first second None goes = tt
through_of with_given first second (Some bytes) goes = goes.through

-- a fault of the lines is of the next line, if it is of one
pub not_past_next : (r new : Reader) (before : Option (List ℕ)) (faults_before faults_after : ℕ) (fault : LineFault) → new.lines.line ≡ r.lines.line
    → IsNextRefused (has_records r.format) r.lines before faults_before faults_after fault → IsNotPast new (fault_of fault)
not_past_next r new before faults_before faults_after line.ReadFault same refused = tt
not_past_next r new before faults_before faults_after (line.LineTooLong n) same refused = omega (arith, same, (refused_too_long (has_records r.format) r.lines before faults_before faults_after n refused).0)
not_past_next r new before faults_before faults_after line.InputTooLong same refused = tt

-- a request that is not given for want of room or of memory is of no line that is refused
pub not_past_ungiven : (old new : Reader) (fault : TraceFault) → IsUngiven old new fault → IsNotPast new fault
not_past_ungiven old new (BadLine line kind) full = subst (IsNotPast new) (sym full.0) tt
not_past_ungiven old new ReadFault full = tt
not_past_ungiven old new InputTooLong full = tt
not_past_ungiven old new TooManyRequests full = tt
not_past_ungiven old new NoMemory none = tt

-- one request more after those of a trace
pub given_more : (first second third : Reader) (given : Requests) (x : Object) (mark : Option Bool) (before between : Option (List ℕ)) → IfSome before (λ bytes. between ≡ Some (bytes_after first second bytes))
    → IfSome before (HasGiven given.objects given.fills first second) → IfSome between (GoesNoFurther (onto x mark) second third)
    → IfSome before (HasGiven (with_request given x mark).objects (with_request given x mark).fills first third)
given_more first second third given x mark None between rest has next = tt
given_more first second third given x mark (Some bytes) between rest has next =
    let one : GoesNoFurther (onto x mark) second third (bytes_after first second bytes) = rw rest at next in
    subst (λ fills. HasGiven (given.objects ++ x ∷ []) fills first third bytes) (with_mark-one given.fills mark) (given_next first second third given.objects given.fills x mark bytes has one)

-- no request was given yet
pub nothing_given : (r : Reader) (given : Requests) (before : Option (List ℕ)) → given ≡ record { objects = []; fills = [] } → IfSome before (HasGiven given.objects given.fills r r)
nothing_given r given None empty = tt
nothing_given r given (Some bytes) empty = subst (λ (g : Requests). HasGiven g.objects g.fills r r bytes) (sym empty) (given_none r bytes)

-- what the reader stands in after the requests of a trace
pub rests_after : (given : Requests) (first second : Reader) (before between : Option (List ℕ)) → IfSome before (λ bytes. GoesOn (after_all given) first second bytes between) → IfSome before (λ bytes. between ≡ Some (bytes_after first second bytes))
rests_after given first second None between goes = tt
rests_after given first second (Some bytes) between goes = goes.rest

-- a reader that has given them has gone through their lines
pub through_given : (given : Requests) (first second : Reader) (before : Option (List ℕ)) → IfSome before (HasGiven given.objects given.fills first second) → IfSome before (GoesThrough (after_all given) first second)
through_given given first second None has = tt
through_given given first second (Some bytes) has = has.through

-- the next request was given too, and then came a fault that is not of a line
pub stands_given : (given : Requests) (first second third fourth : Reader) (x : Object) (mark : Option Bool) (before between left : Option (List ℕ)) → fourth.lines ≡ third.lines → fourth.dropped ≡ third.dropped
    → IfSome before (λ bytes. GoesOn (after_all given) first second bytes between) → IfSome before (HasGiven given.objects given.fills first second)
    → IfSome between (λ bytes. GoesOn (onto x mark) second third bytes (known third left)) → IfSome between (GoesNoFurther (onto x mark) second third)
    → IfSome before (λ bytes. StandsAfter first fourth bytes (known fourth left))
stands_given given first second third fourth x mark before between left lines dropped goes has next further =
    let all = with_request given x mark in
    let rest = rests_after given first second before between goes in
    stands_then (after_all all) first third fourth before (known third left) (known fourth left) (λ s. (refl, refl, refl))
    (rests_after all first third before (known third left) (loads_more first second third given x mark before between (known third left) goes next))
    (through_given all first third before (given_more first second third given x mark before between rest has further))
    (stands_as third fourth left lines dropped)
