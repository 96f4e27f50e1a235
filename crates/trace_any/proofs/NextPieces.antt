-- The next line of some bytes or their next record, and the lines or the records after it.
use Rattle.std.proofs.Common.{◌≡◌, ℕ, suc, ◌+◌, ◌-◌, ◌≤◌, ◌<◌, ◌∙◌, refl, sym, ap, Bool, true, false, if◌then◌else◌, List, [], ◌∷◌, length, take, drop, map, arith, length-take, length-drop, inl, inr, ◌⊎◌, Option, Some, None, IfSome}
use Rattle.std.specs.Int.{div_ceil}
use Rattle.std.specs.Simd.{first_chunks}
use Rattle.std.proofs.lemmas.Bool.{cases_lt}
use Rattle.std.proofs.lemmas.List.{drop_all}
use Rattle.std.proofs.lemmas.Grind.{div_ceil_times}
use Rattle.bound_io.specs.Lines.{text_len}
use Rattle.bound_io.specs.Positions.{Position}
use Rattle.bound_io.specs.declared.line_reader.LineFault.TheVariants.{LineTooLong, InputTooLong}
use Rattle.bound_io.proofs.Texts.{length-first_text}
use Rattle.trace_any.specs.Readings.{lines_of, records_of}
use Rattle.trace_any.specs.NextPieces.{GivesNext, IsNextRefused, after_next, next_size, next_text}
use Rattle.trace_any.proofs.FirstLines.{lines_of-first}

-- with a record or a part of one more there is one more
more_records : (n : ℕ) → 0 < n → div_ceil n 24 ≡ suc (div_ceil (n - 24) 24)
more_records n some = let all = div_ceil_times n 24 (omega arith) in let rest = div_ceil_times (n - 24) 24 (omega arith) in omega (arith, all.0, all.1, rest.0, rest.1, some)

-- the first record, and the records of what stands after it
records_of-first : (bytes : List ℕ) → 0 < length bytes → records_of bytes ≡ (take 24 bytes, length (take 24 bytes)) ∷ records_of (drop 24 bytes)
records_of-first bytes some =
    let count : div_ceil (length bytes) 24 ≡ suc (div_ceil (length (drop 24 bytes)) 24) = more_records (length bytes) some ∙ ap (λ n. suc (div_ceil n 24)) (sym (length-drop 24 bytes)) in
    ap (λ n. map (λ piece. (piece, length piece)) (first_chunks 24 n bytes)) count

-- how bytes are cut
abbrev pub cut : Bool → List ℕ → List (List ℕ × ℕ)
cut records bytes = if records then records_of bytes else lines_of bytes

-- the first piece, and the pieces of what stands after it
pub cut-first : (records : Bool) (bytes : List ℕ) → 0 < length bytes → cut records bytes ≡ (next_text records bytes, next_size records bytes) ∷ cut records (after_next records bytes)
cut-first true bytes some = records_of-first bytes some
cut-first false bytes some = lines_of-first bytes some

-- no bytes have no piece
pub cut-none : (records : Bool) → cut records [] ≡ []
cut-none true = refl
cut-none false = refl

-- a piece has no more bytes than there are
pub next_text-le : (records : Bool) (bytes : List ℕ) → length (next_text records bytes) ≤ length bytes
next_text-le true bytes = omega (arith, length-take 24 bytes)
next_text-le false bytes = omega (arith, length-take (text_len bytes) bytes)

pub next_size-le : (records : Bool) (bytes : List ℕ) → next_size records bytes ≤ length bytes
next_size-le true bytes = omega (arith, length-take 24 bytes)
next_size-le false bytes = omega (arith, length-take (text_len bytes + 1) bytes)

-- this many bytes from the front, or all that there are
drop_taken : (n : ℕ) (bytes : List ℕ) → drop (length (take n bytes)) bytes ≡ drop n bytes
drop_taken n bytes = by (cases_lt n (length bytes))
  where
    by : n < length bytes ⊎ length bytes ≤ n → drop (length (take n bytes)) bytes ≡ drop n bytes
    by (inl some) = ap (λ k. drop k bytes) (omega (arith, length-take n bytes, some))
    by (inr all) = drop_all (length (take n bytes)) bytes (omega (arith, length-take n bytes, all)) ∙ sym (drop_all n bytes all)

-- what stands after a piece stands after as many bytes as it has
pub past_next : (records : Bool) (bytes : List ℕ) → drop (next_size records bytes) bytes ≡ after_next records bytes
past_next true bytes = drop_taken 24 bytes
past_next false bytes = drop_taken (text_len bytes + 1) bytes

-- a piece was given: what holds of lines and of records
pub record Given (records : Bool) (old new : Position) (before after : Option (List ℕ)) : Type 0 where
  pub limit : new.limit ≡ old.limit
  pub line : new.line ≡ old.line + 1
  pub some : old.consumed < new.consumed
  pub within : new.consumed ≤ new.limit
  pub consumed : IfSome before (λ bytes. new.consumed ≡ old.consumed + next_size records bytes)
  pub rest : IfSome before (λ bytes. after ≡ Some (after_next records bytes))

pub is_given : (records : Bool) (old new : Position) (before after : Option (List ℕ)) → GivesNext records old new before after → Given records old new before after
is_given true old new before after gives = record { limit = gives.limit; line = gives.line; some = gives.some; within = gives.within; consumed = gives.consumed; rest = gives.rest }
is_given false old new before after gives = record { limit = gives.limit; line = gives.line; some = gives.some; within = gives.within; consumed = gives.consumed; rest = gives.rest }

-- a piece is too long only if it is a line
pub refused_too_long : (records : Bool) (at : Position) (before : Option (List ℕ)) (faults_before faults_after line : ℕ) → IsNextRefused records at before faults_before faults_after (LineTooLong line)
    → (line ≡ at.line + 1) × IfSome before (λ bytes. 65535 < length (next_text records bytes))
refused_too_long true at before faults_before faults_after line refused = absurd refused
refused_too_long false at None faults_before faults_after line refused = (refused.0, tt)
refused_too_long false at (Some bytes) faults_before faults_after line refused = (refused.0, omega (arith, refused.1, length-first_text bytes))

-- the bytes through a piece pass the limit
pub refused_past_limit : (records : Bool) (at : Position) (before : Option (List ℕ)) (faults_before faults_after : ℕ) → IsNextRefused records at before faults_before faults_after InputTooLong
    → IfSome before (λ bytes. (length (next_text records bytes) ≤ 65535) × (at.limit < at.consumed + next_size records bytes))
refused_past_limit records at None faults_before faults_after refused = tt
refused_past_limit true at (Some bytes) faults_before faults_after refused = (omega (arith, length-take 24 bytes), refused)
refused_past_limit false at (Some bytes) faults_before faults_after refused = (omega (arith, refused.0, length-first_text bytes), refused.1)
