-- One line more is read, which may be that of a budget.
use Rattle.std.proofs.Common.{◌≡◌, ℕ, ◌+◌, ◌*◌, ◌^◌, ◌≤◌, ◌<◌, ◌∙◌, sym, refl, ap, subst, true, false, cond, Bool, List, [], length, arith, Some, None, Option, Ok, Err, Result, IfSome, inl, inr, ◌⊎◌, length-take, length-drop}
use Rattle.std.specs.Prelude.{nat_le}
use Rattle.std.specs.Option.{option_map}
use Rattle.std.specs.Result.{is_ok}
use Rattle.std.proofs.lemmas.Bool.{true≢false, cases_Bool, leb-true, le-leb}
use Rattle.bound_io.specs.Devices.{device}
use Rattle.bound_io.specs.Reading.{LosesPrefix}
use Rattle.bound_io.specs.Lines.{text_len, first_text, first_line, stands_in}
use Rattle.bound_io.specs.Positions.{Position, GivesLine}
use Rattle.bound_io.specs.declared.line_reader.LineFault.{LineFault}
use Rattle.bound_io.specs.declared.line_reader.LineFault.TheVariants as line
use Rattle.bound_io.specs.declared.line_reader.WholeLine.{WholeLine}
use Rattle.bound_io.specs.declared.line_reader.WholeLine.TheVariants.{Whole, Unended, AtEnd}
use Rattle.bound_io.proofs.Texts.{length-first_text}
use Rattle.cert_format.specs.declared.fault.TextKind.{TextKind}
use Rattle.cert_format.specs.declared.fault.TextKind.TheVariants.{TooLong}
use Rattle.cert_format.specs.declared.fault.CertFault.{CertFault}
use Rattle.cert_format.specs.declared.fault.CertFault.TheVariants.{BadText, Truncated, ReadFault}
use Rattle.cert_format.specs.Grammar.{Slot, line_fault, value_unless}
use Rattle.cert_format.specs.Readings.{first_fault, bytes_through, in_line}
use Rattle.cert_format.specs.Lines.{known, text_given, of_line, IsTaken, Reads}
use Rattle.cert_format.proofs.Prefixes.{whole_line}
use Rattle.cert_format.proofs.Taken.{Gave, after_lines-one, at_some, if_known, known_all, known_some, line_taken, read_line, stop_line}
use Rattle.budget_format.specs.Parts.{ReadsWide, roomy}

-- what is left if there is room for it
pub is_roomy : (at : Position) (left : Option (List ℕ)) → at.consumed + 16 ≤ 64 * at.line → roomy at left ≡ left
is_roomy at left room = ap (λ b. cond b left None) (le-leb (at.consumed + 16) (64 * at.line) room)

has_room : (at : Position) (left : Option (List ℕ)) (bytes : List ℕ) → stands_in at.held (roomy at left) ≡ Some bytes → at.consumed + 16 ≤ 64 * at.line
has_room at left bytes is = by (cases_Bool (nat_le (at.consumed + 16) (64 * at.line)))
  where
    by : (nat_le (at.consumed + 16) (64 * at.line) ≡ true) ⊎ (nat_le (at.consumed + 16) (64 * at.line) ≡ false) → at.consumed + 16 ≤ 64 * at.line
    by (inl few) = leb-true (at.consumed + 16) (64 * at.line) few
    by (inr many) = let wrong : None ≡ Some bytes = sym (ap (λ b. stands_in at.held (cond b left None)) many) ∙ is in cc

no_fault : {A F : Type 0} (x : A) (f : F) → Err f ≡ Ok x → ⊥
no_fault x f same = true≢false (sym (ap is_ok same))

module _ (old new : Position) (b d : Option (List ℕ)) (y z : ℕ) where
  -- what a call for the next line says, if nothing is known of what was left
  unknown : (r : Result WholeLine LineFault) → Gave old new (device b d y z) r → Gave old new (device None d y z) r
  unknown (Ok (Whole text)) g = record {
    line = tt;
    refused = tt;
    next = record { limit = g.next.limit; line = g.next.line; some = g.next.some; within = g.next.within; fault = g.next.fault; consumed = tt; rest = tt };
    short = g.short;
    held = g.held;
    reads = record { source = ([], tt); later = g.reads.later; none_failed = g.reads.none_failed; else_none_failed = tt };
  }
  unknown (Ok (Unended text)) g = record {
    line = tt;
    refused = tt;
    next = record { limit = g.next.limit; line = g.next.line; some = g.next.some; within = g.next.within; fault = g.next.fault; consumed = tt; rest = tt };
    short = g.short;
    held = g.held;
    reads = record { source = ([], tt); later = g.reads.later; none_failed = g.reads.none_failed; else_none_failed = tt };
  }
  unknown (Ok AtEnd) g = record {
    line = tt;
    refused = tt;
    next = record { still = g.next.still; fault = g.next.fault; nothing = tt; rest = tt };
    short = g.short;
    held = g.held;
    reads = record { source = ([], tt); later = g.reads.later; none_failed = g.reads.none_failed; else_none_failed = tt };
  }
  unknown (Err line.ReadFault) g = record {
    line = tt;
    refused = g.refused;
    next = record { still = g.next.still; rest = tt; again = g.next.again };
    short = tt;
    held = g.held;
    reads = record { source = ([], tt); later = g.reads.later; none_failed = tt; else_none_failed = g.reads.else_none_failed };
  }
  unknown (Err (line.LineTooLong m)) g = record {
    line = tt;
    refused = (g.refused.0, tt);
    next = record { still = g.next.still; rest = tt; again = g.next.again };
    short = tt;
    held = g.held;
    reads = record { source = ([], tt); later = g.reads.later; none_failed = tt; else_none_failed = g.reads.else_none_failed };
  }
  unknown (Err line.InputTooLong) g = record {
    line = tt;
    refused = tt;
    next = record { still = g.next.still; rest = tt; again = g.next.again };
    short = tt;
    held = g.held;
    reads = record { source = ([], tt); later = g.reads.later; none_failed = tt; else_none_failed = g.reads.else_none_failed };
  }

  -- and if it is known where there is room
  gave_roomy : (r : Result WholeLine LineFault) → Gave old new (device b d y z) r → Gave old new (device (roomy old b) d y z) r
  gave_roomy r g = by (nat_le (old.consumed + 16) (64 * old.line))
    where
      by : (c : Bool) → Gave old new (device (cond c b None) d y z) r
      by true = g
      by false = unknown r g

  roomy_loses : LosesPrefix b d → LosesPrefix (roomy old b) d
  roomy_loses loses = by (nat_le (old.consumed + 16) (64 * old.line))
    where
      by : (c : Bool) → LosesPrefix (cond c b None) d
      by true = loses
      by false = ([], tt)

-- a line of up to 77 bytes
module _ {A : Type 0} (slots_of : List ℕ → List Slot) (value : List ℕ → A) (old new : Position) (b d : Option (List ℕ)) (y z : ℕ) (loses : LosesPrefix b d) (later : y ≤ z) where
  abbrev fault_from : ℕ → List ℕ → Option CertFault
  fault_from n bytes = first_fault n (slots_of (first_text bytes)) bytes

  abbrev fault_of : List ℕ → Option CertFault
  fault_of bytes = fault_from (old.line + 1) bytes

  abbrev Wide : Result A CertFault → Type 0
  Wide result = ReadsWide fault_from (λ bytes. value (first_text bytes)) old new (device b d y z) result

  -- no line is read
  pub wide_stop : old.limit ≡ 2 ^ 36 → old.line < 2 ^ 26 → (r : Result WholeLine LineFault) (fault : CertFault) → Gave old new (device b d y z) r → text_given (old.line + 1) r ≡ Err fault → Wide (Err fault)
  wide_stop limit few r fault gave is =
      let plain = stop_line slots_of (λ bytes. value (first_text bytes)) old new (device b d y z) limit few loses later r fault gave is in
      let roomy_one = stop_line slots_of (λ bytes. value (first_text bytes)) old new (device (roomy old b) d y z) limit few (roomy_loses old new b d y z loses) later r fault (gave_roomy old new b d y z r gave) is in
      record { reads = roomy_one; taken = plain.taken; loses = loses }

  -- a line that fits
  abbrev IsFirst : List ℕ → List ℕ → Type 0
  IsFirst text bytes = (text ≡ first_text bytes) × (text_len bytes < length bytes)

  whole_fits : (text : List ℕ) → line_fault (slots_of text) text ≡ None → length text ≤ 77 → GivesLine old new (stands_in old.held (roomy old b)) (stands_in new.held d) → length new.held ≤ 65536
      → IfSome (stands_in old.held (roomy old b)) (IsFirst text) → z ≡ y → Reads fault_of 1 (λ bytes. value (first_text bytes)) old new (device (roomy old b) d y z) (Ok (value text))
  whole_fits text fits short gives held is calm = record {
    limit = gives.limit;
    held = held;
    given = (gives.line, gives.fault);
    passes = if_known (known old (roomy old b)) _ (λ bytes e.
        let some = known_some old (roomy old b) bytes e in
        let room = has_room old b bytes some.1 in
        let first = at_some (stands_in old.held (roomy old b)) bytes (IsFirst text) some.1 is in
        let consumed = at_some (stands_in old.held (roomy old b)) bytes _ some.1 gives.consumed in
        let rest = at_some (stands_in old.held (roomy old b)) bytes _ some.1 gives.rest in
        let size = ap length first.0 ∙ length-first_text bytes in
        let fault : fault_of bytes ≡ None = whole_line (old.line + 1) (slots_of (first_text bytes)) bytes first.1 (omega (arith, size, short)) ∙ ap (option_map (in_line (old.line + 1))) (ap (λ t. line_fault (slots_of t) t) (sym first.0) ∙ fits) in
        record {
          none = fault;
          rest = known_all new d (omega (arith, consumed, room, gives.line, size, short, length-take (text_len bytes + 1) bytes)) ∙ (rest ∙ ap (λ b. Some b) (sym (after_lines-one bytes)));
        });
    value_is = if_known (known old (roomy old b)) _ (λ bytes e. ap value (at_some (stands_in old.held (roomy old b)) bytes (IsFirst text) (known_some old (roomy old b) bytes e).1 is).0);
    stopped = tt;
    within = tt;
    past = if_known (known old (roomy old b)) _ (λ bytes e.
        let consumed = at_some (stands_in old.held (roomy old b)) bytes _ (known_some old (roomy old b) bytes e).1 gives.consumed in
        record { further = omega (arith, gives.line); consumed = consumed ∙ ap (λ n. old.consumed + n) (one_line bytes ∙ ap (λ n. bytes_through n bytes) (omega (arith, gives.line))) });
    taken = line_taken old new (roomy old b) d gives;
    reads = record { source = roomy_loses old new b d y z loses; later = later; none_failed = calm; else_none_failed = tt };
  }
    where
      one_line : (bytes : List ℕ) → length (first_line bytes) ≡ bytes_through 1 bytes
      one_line bytes = omega (arith, ap length (after_lines-one bytes), length-drop (text_len bytes + 1) bytes, length-take (text_len bytes + 1) bytes)

  wide_taken : (r : Result WholeLine LineFault) (text : List ℕ) → Gave old new (device b d y z) r → text_given (old.line + 1) r ≡ Ok text → IsTaken old new b d
  wide_taken (Ok (Whole whole)) text gave is = line_taken old new b d gave.next
  wide_taken (Ok (Unended cut)) text gave is = absurd (no_fault text (Truncated (old.line + 1)) is)
  wide_taken (Ok AtEnd) text gave is = absurd (no_fault text (Truncated (old.line + 1)) is)
  wide_taken (Err line.ReadFault) text gave is = absurd (no_fault text ReadFault is)
  wide_taken (Err (line.LineTooLong m)) text gave is = absurd (no_fault text (BadText (old.line + 1) TooLong) is)
  wide_taken (Err line.InputTooLong) text gave is = absurd (no_fault text (BadText (old.line + 1) TooLong) is)

  fits_line : (r : Result WholeLine LineFault) (text : List ℕ) → line_fault (slots_of text) text ≡ None → length text ≤ 77 → Gave old new (device (roomy old b) d y z) r → text_given (old.line + 1) r ≡ Ok text
      → Reads fault_of 1 (λ bytes. value (first_text bytes)) old new (device (roomy old b) d y z) (Ok (value text))
  fits_line (Ok (Whole whole)) text fits short gave is =
      let same : whole.now ≡ text = cc in
      whole_fits text fits short gave.next gave.held (subst (λ t. IfSome (stands_in old.held (roomy old b)) (IsFirst t)) same gave.line) gave.reads.none_failed
  fits_line (Ok (Unended cut)) text fits short gave is = absurd (no_fault text (Truncated (old.line + 1)) is)
  fits_line (Ok AtEnd) text fits short gave is = absurd (no_fault text (Truncated (old.line + 1)) is)
  fits_line (Err line.ReadFault) text fits short gave is = absurd (no_fault text ReadFault is)
  fits_line (Err (line.LineTooLong m)) text fits short gave is = absurd (no_fault text (BadText (old.line + 1) TooLong) is)
  fits_line (Err line.InputTooLong) text fits short gave is = absurd (no_fault text (BadText (old.line + 1) TooLong) is)

  -- a whole line is read
  pub wide_line : (r : Result WholeLine LineFault) (text : List ℕ) → (line_fault (slots_of text) text ≡ None → length text ≤ 77) → Gave old new (device b d y z) r → text_given (old.line + 1) r ≡ Ok text
      → Wide (of_line (old.line + 1) (value_unless (line_fault (slots_of text) text) (value text)))
  wide_line r text short gave is = record { reads = by (line_fault (slots_of text) text) refl; taken = wide_taken r text gave is; loses = loses }
    where
      roomy_gave : Gave old new (device (roomy old b) d y z) r
      roomy_gave = gave_roomy old new b d y z r gave

      by : (o : Option TextKind) → line_fault (slots_of text) text ≡ o
          → Reads fault_of 1 (λ bytes. value (first_text bytes)) old new (device (roomy old b) d y z) (of_line (old.line + 1) (value_unless (line_fault (slots_of text) text) (value text)))
      by None fits =
          subst (λ o. Reads fault_of 1 (λ bytes. value (first_text bytes)) old new (device (roomy old b) d y z) (of_line (old.line + 1) (value_unless o (value text)))) (sym fits)
          (fits_line r text fits (short fits) roomy_gave is)
      by (Some kind) fault =
          read_line slots_of value old new (device (roomy old b) d y z) text (λ fits. let wrong : None ≡ Some kind = sym fits ∙ fault in cc) (roomy_loses old new b d y z loses) later r roomy_gave is
