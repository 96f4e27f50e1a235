-- One line more is read.
use Rattle.std.proofs.Common.{◌≡◌, ℕ, ◌+◌, ◌-◌, ◌*◌, ◌^◌, ◌≤◌, ◌<◌, ◌∙◌, sym, refl, ap, subst, true, false, not, cond, List, [], ◌++◌, length, length-append, arith, Some, None, Option, Ok, Err, Result, IfSome, IfOk, IfErr, inl, inr, ◌⊎◌, length-take, length-drop}
use Rattle.std.specs.Prelude.{nat_le}
use Rattle.std.specs.Option.{option_map}
use Rattle.std.specs.Result.{is_ok}
use Rattle.std.proofs.lemmas.Bool.{true≢false, cases_Bool, ne_eqb, leb-true, le-leb}
use Rattle.std.proofs.lemmas.List.Sums.{prefix_len-le-length}
use Rattle.std.specs.Io.KnownBytes.{Keeps}
use Rattle.bound_io.specs.Devices.{Device}
use Rattle.bound_io.specs.Reading.{LosesPrefix, ReadsSource}
use Rattle.bound_io.specs.Lines.{is_lf, text_len, first_text, first_line, after_line, stands_in}
use Rattle.bound_io.specs.Positions.{Position, GivesLine, GivesNone, Stops, NextLine, IsRefused, IsLine, given, given_by}
use Rattle.bound_io.specs.declared.line_reader.LineFault.{LineFault}
use Rattle.bound_io.specs.declared.line_reader.LineFault.TheVariants as line
use Rattle.bound_io.specs.declared.line_reader.WholeLine.{WholeLine}
use Rattle.bound_io.specs.declared.line_reader.WholeLine.TheVariants.{Whole, Unended, AtEnd}
use Rattle.bound_io.proofs.Texts.{length-first_text}
use Rattle.cert_format.specs.declared.fault.TextKind.{TextKind}
use Rattle.cert_format.specs.declared.fault.TextKind.TheVariants.{TooLong}
use Rattle.cert_format.specs.declared.fault.CertFault.{CertFault}
use Rattle.cert_format.specs.declared.fault.CertFault.TheVariants.{BadText, Truncated, Trailing, ReadFault}
use Rattle.cert_format.specs.Grammar.{Slot, line_fault, value_unless}
use Rattle.cert_format.specs.Readings.{first_fault, after_lines, bytes_through, in_line, trailing}
use Rattle.cert_format.specs.Lines.{known, text_given, nothing_given, of_line, IsPast, IsStopped, IsTaken, IsWithin, Reads}
use Rattle.cert_format.proofs.Prefixes.{whole_line, cut_line, long_line}
use Rattle.cert_format.proofs.Headers.{after_lines-suc, after_lines-zero}

-- the fault of a read
abbrev pub read_fault : LineFault
read_fault = line.ReadFault

-- what a call for the next line says
pub record Gave (old new : Position) (source : Device) (r : Result WholeLine LineFault) : Type 0 where
  pub line : IfOk r (λ w. IfSome (stands_in old.held source.before) (IsLine w))
  pub refused : IfErr r (IsRefused old (stands_in old.held source.before) source.faults_before source.faults_after)
  pub next : NextLine old new (stands_in old.held source.before) (stands_in new.held source.after) (given_by r)
  pub short : IfOk r (λ w. IfSome (given w) (λ text. length text ≤ 65535))
  pub held : length new.held ≤ 65536
  pub reads : ReadsSource read_fault source r

-- a fault of the reader of lines that isn't that of a read has no failed read behind it
calm_too_long : (m before now : ℕ) → (line.LineTooLong m ≡ line.ReadFault) ⊎ (now ≡ before) → now ≡ before
calm_too_long m before now (inl other) = cc
calm_too_long m before now (inr same) = same

calm_past_limit : (before now : ℕ) → (line.InputTooLong ≡ line.ReadFault) ⊎ (now ≡ before) → now ≡ before
calm_past_limit before now (inl other) = cc
calm_past_limit before now (inr same) = same

-- the bytes of no line, and of one
bytes_through-zero : (bytes : List ℕ) → bytes_through 0 bytes ≡ 0
bytes_through-zero bytes = omega (arith, ap length (after_lines-zero bytes))

pub after_lines-one : (bytes : List ℕ) → after_lines 1 bytes ≡ after_line bytes
after_lines-one bytes = after_lines-suc 0 bytes ∙ ap after_line (after_lines-zero bytes)

bytes_through-one : (bytes : List ℕ) → bytes_through 1 bytes ≡ length (first_line bytes)
bytes_through-one bytes = omega (arith, ap length (after_lines-one bytes), length-drop (text_len bytes + 1) bytes, length-take (text_len bytes + 1) bytes)

-- the bytes that are known
pub known_some : (at : Position) (left : Option (List ℕ)) (bytes : List ℕ) → known at left ≡ Some bytes → (at.consumed ≤ 64 * at.line) × (stands_in at.held left ≡ Some bytes)
known_some at left bytes is = by (cases_Bool (nat_le at.consumed (64 * at.line)))
  where
    by : (nat_le at.consumed (64 * at.line) ≡ true) ⊎ (nat_le at.consumed (64 * at.line) ≡ false) → (at.consumed ≤ 64 * at.line) × (stands_in at.held left ≡ Some bytes)
    by (inl few) = (leb-true at.consumed (64 * at.line) few, sym (ap (λ b. cond b (stands_in at.held left) None) few) ∙ is)
    by (inr many) = let wrong : None ≡ Some bytes = sym (ap (λ b. cond b (stands_in at.held left) None) many) ∙ is in cc

pub known_all : (at : Position) (left : Option (List ℕ)) → at.consumed ≤ 64 * at.line → known at left ≡ stands_in at.held left
known_all at left few = ap (λ b. cond b (stands_in at.held left) None) (le-leb at.consumed (64 * at.line) few)

-- a fact of the bytes that are known
pub if_known : (o : Option (List ℕ)) (P : List ℕ → Type 0) → ((bytes : List ℕ) → o ≡ Some bytes → P bytes) → IfSome o P
if_known None P f = tt
if_known (Some bytes) P f = f bytes refl

pub at_some : {A : Type 0} (o : Option A) (x : A) (P : A → Type 0) → o ≡ Some x → IfSome o P → P x
at_some (Some y) x P is h = let same : y ≡ x = cc in subst P same h
at_some None x P is h = let wrong : None ≡ Some x = is in cc

no_value : {A F : Type 0} (x : A) (f : F) → Ok x ≡ Err f → ⊥
no_value x f same = true≢false (ap is_ok same)

no_fault : {A F : Type 0} (x : A) (f : F) → Err f ≡ Ok x → ⊥
no_fault x f same = true≢false (sym (ap is_ok same))

-- a position that no line was given from
kept_past : (old new : Position) (bytes : List ℕ) → new.line ≡ old.line → new.consumed ≡ old.consumed → IsPast old new bytes
kept_past old new bytes line consumed =
    let none : bytes_through (new.line - old.line) bytes ≡ 0 = ap (λ n. bytes_through n bytes) (omega (arith, line)) ∙ bytes_through-zero bytes in
    record { further = omega (arith, line); consumed = omega (arith, consumed, none) }

-- a position that one line was given from
one_past : (old new : Position) (bytes : List ℕ) → new.line ≡ old.line + 1 → new.consumed ≡ old.consumed + length (first_line bytes) → IsPast old new bytes
one_past old new bytes line consumed =
    let one : bytes_through (new.line - old.line) bytes ≡ length (first_line bytes) = ap (λ n. bytes_through n bytes) (omega (arith, line)) ∙ bytes_through-one bytes in
    record { further = omega (arith, line); consumed = omega (arith, consumed, one) }

-- the bytes of a line that was given are taken
pub line_taken : (old new : Position) (before after : Option (List ℕ)) → GivesLine old new (stands_in old.held before) (stands_in new.held after) → IsTaken old new before after
line_taken old new None after gives = tt
line_taken old new (Some was) None gives = tt
line_taken old new (Some was) (Some is) gives =
    let bytes = old.held ++ was in
    let rest : new.held ++ is ≡ after_line bytes = let given : Some (new.held ++ is) ≡ Some (after_line bytes) = gives.rest in cc in
    omega (arith, gives.consumed, length-append old.held was, length-append new.held is, ap length rest, length-drop (text_len bytes + 1) bytes, length-take (text_len bytes + 1) bytes)

-- and where none was given, those that are held
pub held_taken : (old new : Position) (before after : Option (List ℕ)) → new.consumed ≡ old.consumed → Keeps (stands_in old.held before) (stands_in new.held after) → IsTaken old new before after
held_taken old new None after same keeps = tt
held_taken old new (Some was) None same keeps = tt
held_taken old new (Some was) (Some is) same keeps =
    let kept : new.held ++ is ≡ old.held ++ was = keeps in
    omega (arith, same, length-append old.held was, length-append new.held is, ap length kept)

pub same_taken : (at : Position) (left : Option (List ℕ)) → IsTaken at at left left
same_taken at None = tt
same_taken at (Some bytes) = refl

-- the fault of the first line of these bytes, which is line n, if its places depend on its text
abbrev line_fault_of : ℕ → (List ℕ → List Slot) → List ℕ → Option CertFault
line_fault_of n slots_of bytes = first_fault n (slots_of (first_text bytes)) bytes

-- no line is read: the input ends, the line is too long, or a read failed
module _ {A : Type 0} (slots_of : List ℕ → List Slot) (value : List ℕ → A) (old new : Position) (source : Device) (limit : old.limit ≡ 2 ^ 36) (few : old.line < 2 ^ 26) (loses : LosesPrefix source.before source.after) (later : source.faults_before ≤ source.faults_after) where
  abbrev Stopped : CertFault → Type 0
  Stopped fault = Reads (line_fault_of (old.line + 1) slots_of) 1 value old new source (Err fault)

  -- from its parts
  stops : (fault : CertFault) → (fault ≡ ReadFault) ⊎ (source.faults_after ≡ source.faults_before) → (new.limit ≡ old.limit) → (length new.held ≤ 65536) → IsStopped (line_fault_of (old.line + 1) slots_of) (known old source.before) source fault → IsWithin new.line fault → IfSome (known old source.before) (IsPast old new) → IsTaken old new source.before source.after → Stopped fault
  stops fault calm same held stopped within past taken = record { limit = same; held = held; given = tt; passes = tt; value_is = tt; stopped = stopped; within = within; past = past; taken = taken; reads = record { source = loses; later = later; none_failed = tt; else_none_failed = calm } }

  -- the bytes that the reader of lines stands in are known too
  in_known : (P : List ℕ → Type 0) → IfSome (stands_in old.held source.before) P → (bytes : List ℕ) → known old source.before ≡ Some bytes → P bytes
  in_known P all bytes is = at_some (stands_in old.held source.before) bytes P (known_some old source.before bytes is).1 all

  stop_unended : (text : List ℕ) → length text ≤ 65535 → GivesLine old new (stands_in old.held source.before) (stands_in new.held source.after) → length new.held ≤ 65536
      → IfSome (stands_in old.held source.before) (λ bytes. (text ≡ bytes) × (text_len bytes ≡ length bytes) × (0 < length bytes)) → source.faults_after ≡ source.faults_before → Stopped (Truncated (old.line + 1))
  stop_unended text short gives held is calm = stops (Truncated (old.line + 1)) (inr calm) gives.limit held
      (if_known (known old source.before) _ (λ bytes e. let whole = in_known _ is bytes e in (cut_line (old.line + 1) (slots_of (first_text bytes)) bytes (omega (arith, whole.1)) (omega (arith, whole.1, ap length whole.0, short)))))
      (omega (arith, gives.line)) (if_known (known old source.before) _ (λ bytes e. one_past old new bytes gives.line (in_known _ gives.consumed bytes e))) (line_taken old new source.before source.after gives)

  stop_end : GivesNone old new (stands_in old.held source.before) (stands_in new.held source.after) → length new.held ≤ 65536 → IfSome (stands_in old.held source.before) (λ bytes. bytes ≡ []) → source.faults_after ≡ source.faults_before → Stopped (Truncated (old.line + 1))
  stop_end gives held is calm = stops (Truncated (old.line + 1)) (inr calm) (ap (λ p. p.limit) gives.still) held
      (if_known (known old source.before) _ (λ bytes e. let none = in_known _ is bytes e in rw none refl))
      (omega (arith, ap (λ p. p.line) gives.still)) (if_known (known old source.before) _ (λ bytes e. kept_past old new bytes (ap (λ p. p.line) gives.still) (ap (λ p. p.consumed) gives.still)))
      (held_taken old new source.before source.after (ap (λ p. p.consumed) gives.still) gives.rest)

  stop_fault : (given : LineFault) (fault : CertFault) → Stops old new (stands_in old.held source.before) (stands_in new.held source.after) given → length new.held ≤ 65536 → IsStopped (line_fault_of (old.line + 1) slots_of) (known old source.before) source fault → IsWithin old.line fault → (fault ≡ ReadFault) ⊎ (source.faults_after ≡ source.faults_before) → Stopped fault
  stop_fault given fault stop held why within calm = stops fault calm (ap (λ p. p.limit) stop.still) held why (rw (ap (λ p. p.line) stop.still) within)
      (if_known (known old source.before) _ (λ bytes e. kept_past old new bytes (ap (λ p. p.line) stop.still) (ap (λ p. p.consumed) stop.still)))
      (held_taken old new source.before source.after (ap (λ p. p.consumed) stop.still) stop.rest)

  -- a certificate doesn't pass the limit
  not_past : IfSome (stands_in old.held source.before) (λ bytes. (text_len bytes ≤ 65535) × (old.limit < old.consumed + length (first_line bytes))) → IsStopped (line_fault_of (old.line + 1) slots_of) (known old source.before) source (BadText (old.line + 1) TooLong)
  not_past past = if_known (known old source.before) _ (λ bytes e.
      let some = known_some old source.before bytes e in
      let wrong = in_known _ past bytes e in
      absurd (omega (arith, wrong, some.0, limit, few, length-take (text_len bytes + 1) bytes)))

  pub stop_line : (r : Result WholeLine LineFault) (fault : CertFault) → Gave old new source r → text_given (old.line + 1) r ≡ Err fault → Stopped fault
  stop_line (Ok (Whole text)) fault gave is = absurd (no_value text.now fault is)
  stop_line (Ok (Unended text)) fault gave is =
      let same : Truncated (old.line + 1) ≡ fault = cc in
      subst Stopped same (stop_unended text.now gave.short gave.next gave.held gave.line gave.reads.none_failed)
  stop_line (Ok AtEnd) fault gave is =
      let same : Truncated (old.line + 1) ≡ fault = cc in
      subst Stopped same (stop_end gave.next gave.held gave.line gave.reads.none_failed)
  stop_line (Err line.ReadFault) fault gave is =
      let same : ReadFault ≡ fault = cc in
      subst Stopped same (stop_fault line.ReadFault ReadFault gave.next gave.held gave.refused tt (inl refl))
  stop_line (Err (line.LineTooLong m)) fault gave is =
      let same : BadText (old.line + 1) TooLong ≡ fault = cc in
      subst Stopped same (stop_fault (line.LineTooLong m) (BadText (old.line + 1) TooLong) gave.next gave.held
      (if_known (known old source.before) _ (λ bytes e. long_line (old.line + 1) (slots_of (first_text bytes)) bytes (in_known _ gave.refused.1 bytes e))) (omega arith) (inr (calm_too_long m _ _ gave.reads.else_none_failed)))
  stop_line (Err line.InputTooLong) fault gave is =
      let same : BadText (old.line + 1) TooLong ≡ fault = cc in
      subst Stopped same (stop_fault line.InputTooLong (BadText (old.line + 1) TooLong) gave.next gave.held (not_past gave.refused) (omega arith) (inr (calm_past_limit _ _ gave.reads.else_none_failed)))

-- a whole line is read: its text has this fault, or this value
module _ {A : Type 0} (slots_of : List ℕ → List Slot) (value : List ℕ → A) (old new : Position) (source : Device) (text : List ℕ) (short : line_fault (slots_of text) text ≡ None → length text ≤ 63) (loses : LosesPrefix source.before source.after) (later : source.faults_before ≤ source.faults_after) where
  abbrev Read : Result A CertFault → Type 0
  Read result = Reads (line_fault_of (old.line + 1) slots_of) 1 (λ bytes. value (first_text bytes)) old new source result

  -- the first line of the bytes that are known is this text
  abbrev IsFirst : List ℕ → Type 0
  IsFirst bytes = (text ≡ first_text bytes) × (text_len bytes < length bytes)

  read_whole : (o : Option TextKind) → line_fault (slots_of text) text ≡ o → GivesLine old new (stands_in old.held source.before) (stands_in new.held source.after) → length new.held ≤ 65536 → length text ≤ 65535 → IfSome (stands_in old.held source.before) IsFirst → source.faults_after ≡ source.faults_before
      → Read (of_line (old.line + 1) (value_unless o (value text)))
  read_whole None fits gives held long is calm = record {
    limit = gives.limit;
    held = held;
    given = (gives.line, gives.fault);
    passes = if_known (known old source.before) _ (λ bytes e.
        let some = known_some old source.before bytes e in
        let first = at_some (stands_in old.held source.before) bytes IsFirst some.1 is in
        let consumed = at_some (stands_in old.held source.before) bytes _ some.1 gives.consumed in
        let rest = at_some (stands_in old.held source.before) bytes _ some.1 gives.rest in
        let size = ap length first.0 ∙ length-first_text bytes in
        let fault : line_fault_of (old.line + 1) slots_of bytes ≡ None = whole_line (old.line + 1) (slots_of (first_text bytes)) bytes first.1 (omega (arith, size, long)) ∙ ap (option_map (in_line (old.line + 1))) (ap (λ t. line_fault (slots_of t) t) (sym first.0) ∙ fits) in
        record {
          none = fault;
          rest = known_all new source.after (omega (arith, consumed, some.0, gives.line, size, short fits, length-take (text_len bytes + 1) bytes)) ∙ (rest ∙ ap (λ b. Some b) (sym (after_lines-one bytes)));
        });
    value_is = if_known (known old source.before) _ (λ bytes e. ap value (at_some (stands_in old.held source.before) bytes IsFirst (known_some old source.before bytes e).1 is).0);
    stopped = tt;
    within = tt;
    past = if_known (known old source.before) _ (λ bytes e. one_past old new bytes gives.line (at_some (stands_in old.held source.before) bytes _ (known_some old source.before bytes e).1 gives.consumed));
    taken = line_taken old new source.before source.after gives;
    reads = record { source = loses; later = later; none_failed = calm; else_none_failed = tt };
  }
  read_whole (Some kind) fault gives held long is calm = record {
    limit = gives.limit;
    held = held;
    given = tt;
    passes = tt;
    value_is = tt;
    stopped = if_known (known old source.before) _ (λ bytes e.
        let first = at_some (stands_in old.held source.before) bytes IsFirst (known_some old source.before bytes e).1 is in
        let size = ap length first.0 ∙ length-first_text bytes in
        whole_line (old.line + 1) (slots_of (first_text bytes)) bytes first.1 (omega (arith, size, long)) ∙ ap (option_map (in_line (old.line + 1))) (ap (λ t. line_fault (slots_of t) t) (sym first.0) ∙ fault));
    within = omega (arith, gives.line);
    past = if_known (known old source.before) _ (λ bytes e. one_past old new bytes gives.line (at_some (stands_in old.held source.before) bytes _ (known_some old source.before bytes e).1 gives.consumed));
    taken = line_taken old new source.before source.after gives;
    reads = record { source = loses; later = later; none_failed = tt; else_none_failed = inr calm };
  }

  pub read_line : (r : Result WholeLine LineFault) → Gave old new source r → text_given (old.line + 1) r ≡ Ok text → Read (of_line (old.line + 1) (value_unless (line_fault (slots_of text) text) (value text)))
  read_line (Ok (Whole whole)) gave is =
      let same : whole.now ≡ text = cc in
      read_whole (line_fault (slots_of text) text) refl gave.next gave.held (omega (arith, gave.short, ap length same)) (subst (λ t. IfSome (stands_in old.held source.before) (λ bytes. (t ≡ first_text bytes) × (text_len bytes < length bytes))) same gave.line) gave.reads.none_failed
  read_line (Ok (Unended cut)) gave is = absurd (no_fault text (Truncated (old.line + 1)) is)
  read_line (Ok AtEnd) gave is = absurd (no_fault text (Truncated (old.line + 1)) is)
  read_line (Err line.ReadFault) gave is = absurd (no_fault text ReadFault is)
  read_line (Err (line.LineTooLong m)) gave is = absurd (no_fault text (BadText (old.line + 1) TooLong) is)
  read_line (Err line.InputTooLong) gave is = absurd (no_fault text (BadText (old.line + 1) TooLong) is)

-- a result that is another one
pub reads_as : {A : Type 0} (fault_of : List ℕ → Option CertFault) (count : ℕ) (value : List ℕ → A) (old new : Position) (source : Device) (result other : Result A CertFault) → result ≡ other
    → Reads fault_of count value old new source other → Reads fault_of count value old new source result
reads_as fault_of count value old new source result other same reads = subst (λ r. Reads fault_of count value old new source r) (sym same) reads

-- whether something follows
some_trailing : (n : ℕ) (bytes : List ℕ) → 0 < length bytes → trailing n bytes ≡ Some (Trailing n)
some_trailing n bytes some = ap (λ b. cond b None (Some (Trailing n))) (ne_eqb (length bytes) 0 (λ e. omega (arith, e, some)))

pub same_past : (at : Position) (left : Option (List ℕ)) → IfSome (known at left) (IsPast at at)
same_past at left = if_known (known at left) _ (λ bytes e. kept_past at at bytes refl refl)

longer : (o : Option (List ℕ)) (P : List ℕ → Type 0) → IfSome o P → ((bytes : List ℕ) → P bytes → 0 < length bytes) → IfSome o (λ bytes. 0 < length bytes)
longer None P h f = tt
longer (Some bytes) P h f = f bytes h

-- the next line is looked at where nothing is to come
module _ (old new : Position) (source : Device) (limit : old.limit ≡ 2 ^ 36) (few : old.line < 2 ^ 26) (loses : LosesPrefix source.before source.after) (later : source.faults_before ≤ source.faults_after) where
  abbrev Looked : Result (Unit {0}) CertFault → Type 0
  Looked result = Reads (trailing (old.line + 1)) 0 (λ bytes. tt) old new source result

  refuses : (fault : CertFault) → (fault ≡ ReadFault) ⊎ (source.faults_after ≡ source.faults_before) → (new.limit ≡ old.limit) → (length new.held ≤ 65536) → IsStopped (trailing (old.line + 1)) (known old source.before) source fault → IsWithin new.line fault → IfSome (known old source.before) (IsPast old new) → IsTaken old new source.before source.after → Looked (Err fault)
  refuses fault calm same held stopped within past taken = record { limit = same; held = held; given = tt; passes = tt; value_is = tt; stopped = stopped; within = within; past = past; taken = taken; reads = record { source = loses; later = later; none_failed = tt; else_none_failed = calm } }

  known_in : (P : List ℕ → Type 0) → IfSome (stands_in old.held source.before) P → (bytes : List ℕ) → known old source.before ≡ Some bytes → P bytes
  known_in P all bytes is = at_some (stands_in old.held source.before) bytes P (known_some old source.before bytes is).1 all

  -- a line, whatever it is
  refuse_line : GivesLine old new (stands_in old.held source.before) (stands_in new.held source.after) → length new.held ≤ 65536 → IfSome (stands_in old.held source.before) (λ bytes. 0 < length bytes) → source.faults_after ≡ source.faults_before → Looked (Err (Trailing (old.line + 1)))
  refuse_line gives held some calm = refuses (Trailing (old.line + 1)) (inr calm) gives.limit held (if_known (known old source.before) _ (λ bytes e. some_trailing (old.line + 1) bytes (known_in _ some bytes e))) (omega (arith, gives.line))
      (if_known (known old source.before) _ (λ bytes e. one_past old new bytes gives.line (known_in _ gives.consumed bytes e))) (line_taken old new source.before source.after gives)

  -- no line, for a fault of the reader of lines
  refuse_fault : (given : LineFault) (fault : CertFault) → Stops old new (stands_in old.held source.before) (stands_in new.held source.after) given → length new.held ≤ 65536 → IsStopped (trailing (old.line + 1)) (known old source.before) source fault → IsWithin old.line fault → (fault ≡ ReadFault) ⊎ (source.faults_after ≡ source.faults_before) → Looked (Err fault)
  refuse_fault given fault stop held why within calm = refuses fault calm (ap (λ p. p.limit) stop.still) held why (rw (ap (λ p. p.line) stop.still) within)
      (if_known (known old source.before) _ (λ bytes e. kept_past old new bytes (ap (λ p. p.line) stop.still) (ap (λ p. p.consumed) stop.still)))
      (held_taken old new source.before source.after (ap (λ p. p.consumed) stop.still) stop.rest)

  keeps_known : GivesNone old new (stands_in old.held source.before) (stands_in new.held source.after) → (bytes : List ℕ) → known old source.before ≡ Some bytes → known new source.after ≡ Some bytes
  keeps_known gives bytes e =
      let some = known_some old source.before bytes e in
      let kept = rw (some.1) at gives.rest in
      known_all new source.after (omega (arith, some.0, ap (λ p. p.line) gives.still, ap (λ p. p.consumed) gives.still)) ∙ by (stands_in new.held source.after) kept
    where
      by : (o : Option (List ℕ)) → Keeps (Some bytes) o → o ≡ Some bytes
      by None kept = absurd kept
      by (Some ys) kept = ap (λ b. Some b) kept

  no_line : GivesNone old new (stands_in old.held source.before) (stands_in new.held source.after) → length new.held ≤ 65536 → source.faults_after ≡ source.faults_before → Looked (Ok tt)
  no_line gives held calm = record {
    limit = ap (λ p. p.limit) gives.still;
    held = held;
    given = (omega (arith, ap (λ p. p.line) gives.still), ap (λ p. p.fault) gives.still ∙ gives.fault);
    passes = if_known (known old source.before) _ (λ bytes e.
        let none : bytes ≡ [] = rw (known_some old source.before bytes e).1 at gives.nothing in
        record { none = ap (trailing (old.line + 1)) none; rest = keeps_known gives bytes e ∙ ap (λ b. Some b) (sym (after_lines-zero bytes)) });
    value_is = if_known (known old source.before) _ (λ bytes e. refl);
    stopped = tt;
    within = tt;
    past = if_known (known old source.before) _ (λ bytes e. kept_past old new bytes (ap (λ p. p.line) gives.still) (ap (λ p. p.consumed) gives.still));
    taken = held_taken old new source.before source.after (ap (λ p. p.consumed) gives.still) gives.rest;
    reads = record { source = loses; later = later; none_failed = calm; else_none_failed = tt };
  }

  pub look_on : (r : Result WholeLine LineFault) → Gave old new source r → Looked (nothing_given (old.line + 1) r)
  look_on (Ok (Whole text)) gave = refuse_line gave.next gave.held (longer (stands_in old.held source.before) _ gave.line (λ bytes is. omega (arith, is.1))) gave.reads.none_failed
  look_on (Ok (Unended text)) gave = refuse_line gave.next gave.held (longer (stands_in old.held source.before) _ gave.line (λ bytes is. is.2)) gave.reads.none_failed
  look_on (Ok AtEnd) gave = no_line gave.next gave.held gave.reads.none_failed
  look_on (Err line.ReadFault) gave = refuse_fault line.ReadFault ReadFault gave.next gave.held gave.refused tt (inl refl)
  look_on (Err (line.LineTooLong m)) gave = refuse_fault (line.LineTooLong m) (Trailing (old.line + 1)) gave.next gave.held
      (if_known (known old source.before) _ (λ bytes e. some_trailing (old.line + 1) bytes (omega (arith, known_in _ gave.refused.1 bytes e, prefix_len-le-length (λ b. not (is_lf b)) bytes)))) (omega arith) (inr (calm_too_long m _ _ gave.reads.else_none_failed))
  look_on (Err line.InputTooLong) gave = refuse_fault line.InputTooLong (Trailing (old.line + 1)) gave.next gave.held
      (if_known (known old source.before) _ (λ bytes e.
      let past = known_in _ gave.refused bytes e in
      some_trailing (old.line + 1) bytes (omega (arith, past.1, (known_some old source.before bytes e).0, limit, few, length-take (text_len bytes + 1) bytes)))) (omega arith) (inr (calm_past_limit _ _ gave.reads.else_none_failed))

-- what is made of the text of a line
pub read_of_line : {A : Type 0} (n line : ℕ) (result : Result A CertFault) (parsed : Result A TextKind) (fault : Option TextKind) (value : A) → result ≡ of_line (n + 1) parsed → parsed ≡ value_unless fault value → n ≡ line → result ≡ of_line (line + 1) (value_unless fault value)
read_of_line n line result parsed fault value is parsed_is same = is ∙ (ap (of_line (n + 1)) parsed_is ∙ ap (λ m. of_line (m + 1) (value_unless fault value)) same)
