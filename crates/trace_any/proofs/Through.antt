-- A reader goes through the lines of a trace, one after another.
use Rattle.std.proofs.Common.{◌≡◌, Bool, ℕ, ◌+◌, ◌-◌, ◌≤◌, ◌<◌, ◌∙◌, sym, refl, ap, List, [], ◌∷◌, ◌++◌, append_assoc, append-nil, length, length-append, length-drop, take, drop, inl, inr, ◌⊎◌, arith, Option, Some, None, Result, Ok, IfSome}
use Rattle.std.specs.List.{fold}
use Rattle.std.proofs.Math.Seq.{take-add}
use Rattle.std.proofs.lemmas.List.{drop-drop}
use Rattle.std.proofs.lemmas.List.Sums.{sum_by-append}
use Rattle.std.proofs.lemmas.Bool.{cases_lt, le-ltb}
use Rattle.bound_io.specs.Positions.{Position}
use Rattle.cache_model.specs.declared.objects.Object.{Object}
use Rattle.cache_rules.specs.Stored.{with_mark}
use Rattle.trace_lines.specs.declared.line.Span.{Span}
use Rattle.trace_lines.specs.declared.line.Span.TheVariants.{Nothing, One, Blocks}
use Rattle.trace_lines.specs.declared.line.LineKind.{LineKind}
use Rattle.trace_any.specs.Volumes.{Volume}
use Rattle.trace_any.specs.declared.format.Format.{Format}
use Rattle.trace_any.specs.declared.format.Limits.{Limits}
use Rattle.trace_any.specs.Readings.{LineContents, Reading, Stamp, has_records, pieces_of, nothing_read, reading, requested, read_line, spanned, text_content, with_line}
use Rattle.trace_any.specs.Readers.{GoesOn, Reader, after, bytes_after, fresh, onto, room_left, so_far, with_ahead}
use Rattle.trace_any.specs.FirstLines.{GoesNoFurther, GoesThrough, HasGiven, HasLostFor, bytes_of, coming_in, first_lines, lines_between, reading_of_first}
use Rattle.trace_any.specs.NextPieces.{GivesNext, after_next, next_size, next_text}
use Rattle.trace_any.proofs.Coming.{after-onto, past_both, with_asked, with_lines}
use Rattle.trace_any.proofs.NextPieces.{cut-first, is_given, past_next}
use Rattle.trace_any.proofs.ReadingSteps.{plain, requested-none}

-- no block is left of the last line
pub ahead_none : (r : Reader) → r.ahead.count ≡ 0 → with_ahead r ≡ so_far r
ahead_none r none =
    ap (λ n. requested (r.limits.requests - r.given) r.format (so_far r) r.ahead.volume r.ahead.stamp r.ahead.first n r.ahead.size) none
    ∙ requested-none r.volumes r.seen (r.limits.requests - r.given) r.dropped r.lines.line r.lines.consumed r.format r.ahead.volume r.ahead.stamp r.ahead.first r.ahead.size

-- the first line is read, and what it asks for is this
pub record ReadsLine (r : Reader) (l : Position) (said : Result (Option LineContents) LineKind) (bytes : List ℕ) : Type 0 where
  pub some : 0 < length bytes
  pub line : l.line ≡ r.lines.line + 1
  pub consumed : l.consumed ≡ r.lines.consumed + next_size (has_records r.format) bytes
  pub step : read_line r.format (room_left r) (with_ahead r) (next_text (has_records r.format) bytes, next_size (has_records r.format) bytes) ≡ with_line (r.limits.requests - r.given) r.format (so_far (with_lines r l)) said

pub reads_line : (r : Reader) (l : Position) (before after : Option (List ℕ)) (text : List ℕ) → r.ahead.count ≡ 0 → r.lines.limit ≡ r.limits.bytes → GivesNext (has_records r.format) r.lines l before after
    → IfSome before (λ bytes. (text ≡ next_text (has_records r.format) bytes) × (0 < length bytes)) → length text ≤ 65535 → IfSome before (ReadsLine r l (text_content r.format text))
reads_line r l None after text none limit gives texts short = tt
reads_line r l (Some bytes) after text none limit gives_next texts short =
    let records = has_records r.format in
    let gives = is_given records r.lines l (Some bytes) after gives_next in
    let within : l.consumed ≤ r.limits.bytes = omega (arith, gives.within, gives.limit, limit) in
    let first = next_text records bytes in
    let size = next_size records bytes in
    let line : List ℕ × ℕ = (first, size) in
    let taken : read_line r.format (room_left r) (so_far r) line ≡ with_line (r.limits.requests - r.given) r.format (plain r.volumes r.seen r.dropped (r.lines.line + 1) (r.lines.consumed + size)) (text_content r.format first) =
    rw (le-ltb 65535 (length first) (omega (arith, ap length (texts.0), short)), le-ltb r.limits.bytes (r.lines.consumed + size) (omega (arith, within, gives.consumed))) refl in
    record {
      some = texts.1;
      line = gives.line;
      consumed = gives.consumed;
      step = ap (λ s. read_line r.format (room_left r) s line) (ahead_none r none)
          ∙ (taken
          ∙ (ap (λ n. with_line (r.limits.requests - r.given) r.format (plain r.volumes r.seen r.dropped n (r.lines.consumed + size)) (text_content r.format first)) (sym gives.line)
          ∙ (ap (λ n. with_line (r.limits.requests - r.given) r.format (plain r.volumes r.seen r.dropped l.line n) (text_content r.format first)) (sym gives.consumed)
          ∙ ap (λ t. with_line (r.limits.requests - r.given) r.format (plain r.volumes r.seen r.dropped l.line l.consumed) (text_content r.format t)) (sym (texts.0)))));
    }

-- the lines and the room are the same for both
pub record IsNextAt (r new : Reader) (l : Position) : Type 0 where
  pub format : new.format ≡ r.format
  pub room : room_left new ≡ room_left r
  pub lines : new.lines ≡ l

one_more : (r new : Reader) (l : Position) (said : Result (Option LineContents) LineKind) (bytes : List ℕ) → r.ahead.count ≡ 0 → IsNextAt r new l → ReadsLine r l said bytes
    → with_line (r.limits.requests - r.given) r.format (so_far (with_lines r l)) said ≡ with_ahead new → GoesNoFurther (λ s. s) r new bytes
one_more r new l said bytes none next reads asks =
    let records = has_records r.format in
    let line : List ℕ × ℕ = (next_text records bytes, next_size records bytes) in
    let rest = pieces_of r.format (after_next records bytes) in
    let all : pieces_of r.format bytes ≡ line ∷ rest = cut-first records bytes (reads.some) in
    let number : new.lines.line ≡ r.lines.line + 1 = ap (λ (p : Position). p.line) (next.lines) ∙ reads.line in
    let one : lines_between r new ≡ 1 = omega (arith, number) in
    let size : new.lines.consumed - r.lines.consumed ≡ next_size records bytes = omega (arith, ap (λ (p : Position). p.consumed) (next.lines), reads.consumed) in
    let first : first_lines r.format (lines_between r new) bytes ≡ line ∷ [] = ap (λ n. first_lines r.format n bytes) one ∙ ap (take 1) all in
    let through : GoesThrough (λ s. s) r new bytes = record {
      format = next.format;
      further = omega (arith, number);
      consumed = omega (arith, ap (λ (p : Position). p.consumed) (next.lines), reads.consumed, ap bytes_of first);
      rest = ap (pieces_of r.format) (ap (λ n. drop n bytes) size ∙ past_next records bytes) ∙ (sym (ap (drop 1) all) ∙ ap (λ n. drop n (pieces_of r.format bytes)) (sym one));
      coming = λ more. ap (λ ls. coming_in r (ls ++ more)) first
          ∙ (ap (λ s. fold (read_line r.format (room_left r)) s more) (reads.step ∙ asks)
          ∙ (ap (λ f. fold (read_line f (room_left r)) (with_ahead new) more) (sym next.format)
          ∙ ap (λ m. fold (read_line new.format m) (with_ahead new) more) (sym next.room)));
    } in
    record {
      through = through;
      none_before = λ fewer few.
          let zero_is : fewer ≡ 0 = omega (arith, few, one) in
          let zero_lines : first_lines r.format fewer bytes ≡ [] = ap (λ n. first_lines r.format n bytes) zero_is in
          ap (λ ls. (coming_in r ls).requests) zero_lines ∙ ap (λ (s : Reading). s.requests) (ahead_none r none);
    }

-- a line without a word
pub through_blank : (r : Reader) (l : Position) (before : Option (List ℕ)) (said : Result (Option LineContents) LineKind) → said ≡ Ok None → r.ahead.count ≡ 0
    → IfSome before (ReadsLine r l said) → IfSome before (GoesNoFurther (λ s. s) r (with_lines r l))
through_blank r l None said blank none reads = tt
through_blank r l (Some bytes) said blank none reads =
    one_more r (with_lines r l) l said bytes none (record { format = refl; room = refl; lines = refl }) reads
    (ap (with_line (r.limits.requests - r.given) r.format (so_far (with_lines r l))) blank ∙ sym (ahead_none (with_lines r l) none))

next_asked : (r : Reader) (l : Position) (volume : Option Volume) (stamp : Stamp) (span : Span) → IsNextAt r (with_asked (with_lines r l) volume stamp span) l
next_asked r l volume stamp Nothing = record { format = refl; room = refl; lines = refl }
next_asked r l volume stamp (One id size) = record { format = refl; room = refl; lines = refl }
next_asked r l volume stamp (Blocks first count size) = record { format = refl; room = refl; lines = refl }

ahead_asked : (r : Reader) (volume : Option Volume) (stamp : Stamp) (span : Span) → r.ahead.count ≡ 0 → spanned (r.limits.requests - r.given) r.format (so_far r) volume stamp span ≡ with_ahead (with_asked r volume stamp span)
ahead_asked r volume stamp Nothing none = sym (ahead_none (with_asked r volume stamp Nothing) none)
ahead_asked r volume stamp (One id size) none = refl
ahead_asked r volume stamp (Blocks first count size) none = refl

-- a line that asks for this
pub through_asked : (r : Reader) (l : Position) (what : LineContents) (before : Option (List ℕ)) (said : Result (Option LineContents) LineKind) → said ≡ Ok (Some what) → r.ahead.count ≡ 0
    → IfSome before (ReadsLine r l said) → IfSome before (GoesNoFurther (λ s. s) r (with_asked (with_lines r l) what.volume what.stamp what.span))
through_asked r l what None said asks none reads = tt
through_asked r l what (Some bytes) said asks none reads =
    one_more r (with_asked (with_lines r l) what.volume what.stamp what.span) l said bytes none (next_asked r l what.volume what.stamp what.span) reads
    (ap (with_line (r.limits.requests - r.given) r.format (so_far (with_lines r l))) asks ∙ ahead_asked (with_lines r l) what.volume what.stamp what.span none)

-- some lines, and then some more
module _ (one other both : Reading → Reading) (same : (s : Reading) → one (other s) ≡ both s) (first second third : Reader) (bytes : List ℕ) (goes : GoesThrough one first second bytes) where
  abbrev k : ℕ
  k = lines_between first second

  abbrev rest : List ℕ
  rest = bytes_after first second bytes

  pub split : (n : ℕ) → first_lines first.format (k + n) bytes ≡ first_lines first.format k bytes ++ first_lines second.format n rest
  split n =
      take-add k n (pieces_of first.format bytes)
      ∙ (ap (λ ls. first_lines first.format k bytes ++ take n ls) (sym goes.rest)
      ∙ ap (λ f. first_lines first.format k bytes ++ first_lines f n rest) (sym goes.format))

  -- what comes of the first lines and some of those after them
  pub coming_both : (n : ℕ) (more : List (List ℕ × ℕ)) → coming_in first (first_lines first.format (k + n) bytes ++ more) ≡ one (coming_in second (first_lines second.format n rest ++ more))
  coming_both n more =
      ap (λ ls. coming_in first (ls ++ more)) (split n)
      ∙ (ap (coming_in first) (append_assoc (first_lines first.format k bytes) (first_lines second.format n rest) more) ∙ goes.coming (first_lines second.format n rest ++ more))

  pub coming_first : (n : ℕ) → coming_in first (first_lines first.format (k + n) bytes) ≡ one (coming_in second (first_lines second.format n rest))
  coming_first n =
      ap (coming_in first) (sym (append-nil (first_lines first.format (k + n) bytes))) ∙ (coming_both n [] ∙ ap (λ ls. one (coming_in second ls)) (append-nil (first_lines second.format n rest)))

  pub through_both : GoesThrough other second third rest → GoesThrough both first third bytes
  through_both next =
      let m = lines_between second third in
      let lines : lines_between first third ≡ k + m = omega (arith, next.further, goes.further) in
      let size : bytes_of (first_lines first.format (k + m) bytes) ≡ bytes_of (first_lines first.format k bytes) + bytes_of (first_lines second.format m rest) =
      ap bytes_of (split m) ∙ sum_by-append (λ (line : List ℕ × ℕ). line.1) (first_lines first.format k bytes) (first_lines second.format m rest) in
      let after_both : bytes_after second third rest ≡ bytes_after first third bytes =
      past_both (second.lines.consumed - first.lines.consumed) (third.lines.consumed - second.lines.consumed) (third.lines.consumed - first.lines.consumed) bytes (omega (arith, goes.consumed, next.consumed)) in
      let next_rest : pieces_of first.format (bytes_after second third rest) ≡ drop m (pieces_of first.format rest) = rw (goes.format) at next.rest in
      record {
        format = next.format ∙ goes.format;
        further = omega (arith, goes.further, next.further);
        consumed = omega (arith, goes.consumed, next.consumed, size, ap (λ n. bytes_of (first_lines first.format n bytes)) lines);
        rest = ap (pieces_of first.format) (sym after_both)
            ∙ (next_rest ∙ (ap (drop m) goes.rest ∙ (drop-drop m k (pieces_of first.format bytes) ∙ ap (λ n. drop n (pieces_of first.format bytes)) (sym lines))));
        coming = λ more. ap (λ n. coming_in first (first_lines first.format n bytes ++ more)) lines ∙ (coming_both m more ∙ (ap one (next.coming more) ∙ same (coming_in third more)));
      }

-- what the reader of lines stands in after some lines
pub rests_on : (first second : Reader) (before between : Option (List ℕ)) → IfSome before (λ bytes. GoesOn (λ r. r) first second bytes between) → IfSome before (λ bytes. between ≡ Some (bytes_after first second bytes))
rests_on first second None between goes = tt
rests_on first second (Some bytes) between goes = goes.rest

-- one line taken up after others
pub no_further_then : (first second third : Reader) (before between : Option (List ℕ)) → IfSome before (λ bytes. between ≡ Some (bytes_after first second bytes)) → IfSome before (GoesNoFurther (λ s. s) first second)
    → IfSome between (GoesNoFurther (λ s. s) second third) → IfSome before (GoesNoFurther (λ s. s) first third)
no_further_then first second third None between rest one other = tt
no_further_then first second third (Some bytes) between rest one other =
    let next = rw rest at other in
    let through = one.through in
    let both = through_both (λ s. s) (λ s. s) (λ s. s) (λ s. refl) first second third bytes through next.through in
    record {
      through = both;
      none_before = λ fewer few. by fewer few next (cases_lt fewer (lines_between first second));
    }
  where
    by : (fewer : ℕ) → fewer < lines_between first third → GoesNoFurther (λ s. s) second third (bytes_after first second bytes) → fewer < lines_between first second ⊎ lines_between first second ≤ fewer → (coming_in first (first_lines first.format fewer bytes)).requests ≡ []
    by fewer few next (inl less) = one.none_before fewer less
    by fewer few next (inr more) =
        let n = fewer - lines_between first second in
        let at : fewer ≡ lines_between first second + n = omega (arith, more) in
        ap (λ j. (coming_in first (first_lines first.format j bytes)).requests) at
        ∙ (ap (λ (s : Reading). s.requests) (coming_first (λ s. s) (λ s. s) (λ s. s) (λ s. refl) first second third bytes one.through n) ∙ next.none_before n (omega (arith, few, more, one.through.further, next.through.further)))

-- a request is given of the lines so far
pub no_further_given : (first second third : Reader) (x : Object) (mark : Option Bool) (before : Option (List ℕ)) → third.format ≡ second.format → third.lines ≡ second.lines → ((lines : List (List ℕ × ℕ)) → coming_in second lines ≡ onto x mark (coming_in third lines))
    → IfSome before (GoesNoFurther (λ s. s) first second) → IfSome before (GoesNoFurther (onto x mark) first third)
no_further_given first second third x mark None form same gives one = tt
no_further_given first second third x mark (Some bytes) form same gives one =
    let goes = one.through in
    let line : third.lines.line ≡ second.lines.line = ap (λ (p : Position). p.line) same in
    let consumed : third.lines.consumed ≡ second.lines.consumed = ap (λ (p : Position). p.consumed) same in
    let lines : lines_between first third ≡ lines_between first second = omega (arith, line) in
    let rest : bytes_after first third bytes ≡ bytes_after first second bytes = ap (λ n. drop (n - first.lines.consumed) bytes) consumed in
    record {
      through = record {
        format = form ∙ goes.format;
        further = omega (arith, goes.further, line);
        consumed = consumed ∙ (goes.consumed ∙ ap (λ n. first.lines.consumed + bytes_of (first_lines first.format n bytes)) (sym lines));
        rest = ap (pieces_of first.format) rest ∙ (goes.rest ∙ ap (λ n. drop n (pieces_of first.format bytes)) (sym lines));
        coming = λ more. ap (λ n. coming_in first (first_lines first.format n bytes ++ more)) lines ∙ (goes.coming more ∙ gives more);
      };
      none_before = λ fewer few. one.none_before fewer (omega (arith, few, lines));
    }

-- a reader that has gone nowhere yet
pub no_further_yet : (r : Reader) (before : Option (List ℕ)) → IfSome before (GoesNoFurther (λ s. s) r r)
no_further_yet r None = tt
no_further_yet r (Some bytes) =
    let none : lines_between r r ≡ 0 = omega arith in
    let nothing : r.lines.consumed - r.lines.consumed ≡ 0 = omega arith in
    let empty : first_lines r.format (lines_between r r) bytes ≡ [] = ap (λ n. first_lines r.format n bytes) none in
    record {
      through = record {
        format = refl;
        further = omega arith;
        consumed = omega (arith, ap bytes_of empty);
        rest = ap (λ n. pieces_of r.format (drop n bytes)) nothing ∙ ap (λ n. drop n (pieces_of r.format bytes)) (sym none);
        coming = λ more. ap (λ ls. coming_in r (ls ++ more)) empty;
      };
      none_before = λ fewer few. absurd (omega (arith, few, none));
    }

-- one request more after some
pub given_next : (first second third : Reader) (given : List Object) (fills : List Bool) (x : Object) (mark : Option Bool) (bytes : List ℕ) → HasGiven given fills first second bytes → GoesNoFurther (onto x mark) second third (bytes_after first second bytes)
    → HasGiven (given ++ x ∷ []) (fills ++ with_mark [] mark) first third bytes
given_next first second third given fills x mark bytes has next = record {
  through = through_both (after given fills) (onto x mark) (after (given ++ x ∷ []) (fills ++ with_mark [] mark)) same first second third bytes has.through next.through;
  least = λ lines some. by lines some (cases_lt lines (lines_between first third));
}
  where
    same : (s : Reading) → after given fills (onto x mark s) ≡ after (given ++ x ∷ []) (fills ++ with_mark [] mark) s
    same s = after-onto given fills x mark s

    by : (lines : ℕ) → length (given ++ x ∷ []) ≤ length (coming_in first (first_lines first.format lines bytes)).requests → lines < lines_between first third ⊎ lines_between first third ≤ lines → lines_between first third ≤ lines
    by lines some (inr more) = more
    by lines some (inl fewer) =
        let long : length (given ++ x ∷ []) ≡ length given + 1 = length-append given (x ∷ []) in
        let before : lines_between first second ≤ lines = has.least lines (omega (arith, some, long)) in
        let n = lines - lines_between first second in
        let at : lines ≡ lines_between first second + n = omega (arith, before) in
        let none : (coming_in second (first_lines second.format n (bytes_after first second bytes))).requests ≡ [] = next.none_before n (omega (arith, fewer, before, has.through.further, next.through.further)) in
        let count : (coming_in first (first_lines first.format lines bytes)).requests ≡ given = ap (λ j. (coming_in first (first_lines first.format j bytes)).requests) at
        ∙ (ap (λ (s : Reading). s.requests) (coming_first (after given fills) (onto x mark) (after (given ++ x ∷ []) (fills ++ with_mark [] mark)) same first second third bytes has.through n) ∙ (ap (λ rs. given ++ rs) none ∙ append-nil given)) in
        absurd (omega (arith, some, long, ap length count))

-- no request was given yet
pub given_none : (r : Reader) (bytes : List ℕ) → HasGiven [] [] r r bytes
given_none r bytes =
    let none : lines_between r r ≡ 0 = omega arith in
    let nothing : r.lines.consumed - r.lines.consumed ≡ 0 = omega arith in
    let empty : first_lines r.format (lines_between r r) bytes ≡ [] = ap (λ n. first_lines r.format n bytes) none in
    record {
      through = record {
        format = refl;
        further = omega arith;
        consumed = omega (arith, ap bytes_of empty);
        rest = ap (λ n. pieces_of r.format (drop n bytes)) nothing ∙ ap (λ n. drop n (pieces_of r.format bytes)) (sym none);
        coming = λ more. ap (λ ls. coming_in r (ls ++ more)) empty;
      };
      least = λ lines some. omega (arith, none);
    }

-- what a reader that has read nothing makes of the first lines
pub fresh_coming : (format : Format) (limits : Limits) (lines : ℕ) (bytes : List ℕ) → coming_in (fresh format limits) (first_lines format lines bytes) ≡ reading_of_first format limits lines bytes
fresh_coming format limits lines bytes =
    let all : limits.requests - 0 ≡ limits.requests = omega arith in
    ap (λ s. fold (read_line format (room_left (fresh format limits))) s (first_lines format lines bytes)) (ahead_none (fresh format limits) refl)
    ∙ ap (λ n. fold (read_line format (record { requests = n; bytes = limits.bytes })) nothing_read (first_lines format lines bytes)) all

-- more lines have no fewer bytes
pub bytes_of-more : (format : Format) (j k : ℕ) (bytes : List ℕ) → j ≤ k → bytes_of (first_lines format j bytes) ≤ bytes_of (first_lines format k bytes)
bytes_of-more format j k bytes low =
    let same : k ≡ j + (k - j) = omega (arith, low) in
    let more = take (k - j) (drop j (pieces_of format bytes)) in
    let both : bytes_of (first_lines format k bytes) ≡ bytes_of (first_lines format j bytes) + bytes_of more =
    ap (λ n. bytes_of (first_lines format n bytes)) same ∙ (ap bytes_of (take-add j (k - j) (pieces_of format bytes)) ∙ sum_by-append (λ (line : List ℕ × ℕ). line.1) (first_lines format j bytes) more) in
    omega (arith, both)

-- what a source lost for the requests that a reader has given
pub lost_for : (start now : Reader) (format : Format) (limits : Limits) (given : List Object) (fills : List Bool) (bytes left : List ℕ) → start ≡ fresh format limits → HasGiven given fills start now bytes → now.lines.held ++ left ≡ bytes_after start now bytes → length now.lines.held ≤ 65536
    → length given ≤ length (reading format limits bytes).requests → HasLostFor format limits (length given) bytes left
lost_for start now format limits given fills bytes left begins has rest held enough =
    let none : start.lines.consumed ≡ 0 = ap (λ (r : Reader). r.lines.consumed) begins in
    let form : start.format ≡ format = ap (λ (r : Reader). r.format) begins in
    record {
      near = λ _ lines some.
          let coming : coming_in start (first_lines start.format lines bytes) ≡ reading_of_first format limits lines bytes = ap (λ (r : Reader). coming_in r (first_lines r.format lines bytes)) begins ∙ fresh_coming format limits lines bytes in
          let many : length given ≤ length (coming_in start (first_lines start.format lines bytes)).requests = omega (arith, some, ap (λ (s : Reading). length s.requests) coming) in
          let size = bytes_of-more start.format (lines_between start now) lines bytes (has.least lines many) in
          let same = ap (λ f. bytes_of (first_lines f lines bytes)) form in
          omega (arith, size, same, held, none, has.through.consumed, ap length rest, length-append now.lines.held left, length-drop (now.lines.consumed - start.lines.consumed) bytes);
      all = λ fewer. absurd (omega (arith, fewer, enough));
    }
