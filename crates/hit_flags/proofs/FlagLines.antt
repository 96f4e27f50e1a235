-- The flag of the first line, and the flags of those after it.
use Rattle.std.proofs.Common.{◌≡◌, ℕ, ◌+◌, ◌^◌, ◌≤◌, ◌<◌, ◌∙◌, refl, sym, ap, Bool, List, [], ◌∷◌, length, map, arith, length-take, Option, Some, None, IfSome}
use Rattle.std.proofs.lemmas.Option.{none-some}
use Rattle.std.specs.Io.KnownBytes.{IsAtEnd, Keeps}
use Rattle.bound_io.proofs.Texts.{length-first_text}
use Rattle.bound_io.specs.Lines.{text_len, first_line, first_text, after_line}
use Rattle.bound_io.specs.Positions.{Position, GivesLine, GivesNone, IsRefused}
use Rattle.bound_io.specs.declared.line_reader.LineFault.TheVariants.{LineTooLong, InputTooLong}
use Rattle.trace_any.proofs.FirstLines.{lines_of-first}
use Rattle.hit_flags.specs.Flags.{flag_of, flags_in}
use Rattle.hit_flags.specs.Lines.{AreShort, Gives, IsNoFlag}

-- the flag of the first line, and then those of the lines after it
pub flags_in-first : (bytes : List ℕ) → 0 < length bytes → flags_in bytes ≡ flag_of (first_text bytes) ∷ flags_in (after_line bytes)
flags_in-first bytes some = ap (map (λ (line : List ℕ × ℕ). flag_of line.0)) (lines_of-first bytes some)

-- a text with a flag has one byte
one_byte : (text : List ℕ) (flag : Bool) → flag_of text ≡ Some flag → length text ≡ 1
one_byte [] flag is = absurd (none-some flag is)
one_byte (byte ∷ []) flag is = refl
one_byte (byte ∷ next ∷ more) flag is = absurd (none-some flag is)

-- a line of more than two bytes has no flag
no_flag : (text : List ℕ) → 1 < length text → flag_of text ≡ None
no_flag [] long = absurd (omega (arith, long))
no_flag (byte ∷ []) long = absurd (omega (arith, long))
no_flag (byte ∷ next ∷ more) long = refl

-- the text of the first line has all of its bytes but one at most
line-le-text : (bytes : List ℕ) → length (first_line bytes) ≤ length (first_text bytes) + 1
line-le-text bytes = omega (arith, length-take (text_len bytes + 1) bytes, length-take (text_len bytes) bytes)

-- a line whose text has a flag gives that flag
pub gives_flag : (text : List ℕ) (flag : Bool) (old new : Position) (before after : Option (List ℕ)) → IfSome before (λ bytes. (text ≡ first_text bytes) × (0 < length bytes)) → GivesLine old new before after
    → flag_of text ≡ Some flag → IfSome before (λ bytes. Gives flag old new bytes after)
gives_flag text flag old new None after is gives found = tt
gives_flag text flag old new (Some bytes) after is gives found = record {
  rest = after_line bytes;
  after_is = gives.rest;
  flags = flags_in-first bytes is.1 ∙ ap (λ f. f ∷ flags_in (after_line bytes)) (ap flag_of (sym is.0) ∙ found);
  short = omega (arith, gives.consumed, line-le-text bytes, ap length is.0, one_byte text flag found);
}

-- a line whose text has none has none
pub gives_no_flag : (text : List ℕ) (before : Option (List ℕ)) → IfSome before (λ bytes. (text ≡ first_text bytes) × (0 < length bytes))
    → flag_of text ≡ None → IfSome before (λ bytes. (more : List (Option Bool)) × (flags_in bytes ≡ None ∷ more))
gives_no_flag text None is none = tt
gives_no_flag text (Some bytes) is none = (flags_in (after_line bytes), flags_in-first bytes is.1 ∙ ap (λ f. f ∷ flags_in (after_line bytes)) (ap flag_of (sym is.0) ∙ none))

-- a first line of more than one byte has no flag
long_is_none : (bytes : List ℕ) → 1 < length (first_text bytes) → (more : List (Option Bool)) × (flags_in bytes ≡ None ∷ more)
long_is_none bytes long =
    let some : 0 < length bytes = omega (arith, long, length-take (text_len bytes) bytes) in
    (flags_in (after_line bytes), flags_in-first bytes some ∙ ap (λ f. f ∷ flags_in (after_line bytes)) (no_flag (first_text bytes) long))

-- a line that is too long has no flag
pub too_long_none : (at : Position) (before : Option (List ℕ)) (faults_before faults_after line : ℕ) → IsRefused at before faults_before faults_after (LineTooLong line) → IsNoFlag at before line
too_long_none at before faults_before faults_after line refused = (refused.0, λ _. by before refused.1)
  where
    by : (known : Option (List ℕ)) → IfSome known (λ bytes. 65535 < text_len bytes) → IfSome known (λ bytes. (more : List (Option Bool)) × (flags_in bytes ≡ None ∷ more))
    by None long = tt
    by (Some bytes) long = long_is_none bytes (omega (arith, long, length-first_text bytes))

-- and so has one that passes the limit, since flags don't reach it
pub past_limit_none : (at : Position) (before : Option (List ℕ)) (faults_before faults_after : ℕ) → at.limit ≡ 2 ^ 36 → at.line ≤ 2 ^ 25 → IsRefused at before faults_before faults_after InputTooLong → IsNoFlag at before (at.line + 1)
past_limit_none at before faults_before faults_after limit few refused = (refl, λ short. by before short refused)
  where
    by : (known : Option (List ℕ)) → AreShort at → IfSome known (λ bytes. (text_len bytes ≤ 65535) × (at.limit < at.consumed + length (first_line bytes))) → IfSome known (λ bytes. (more : List (Option Bool)) × (flags_in bytes ≡ None ∷ more))
    by None short past = tt
    by (Some bytes) short past = long_is_none bytes (omega (arith, past.1, limit, few, short, line-le-text bytes))

-- without a line nothing is left
pub gives_none : (old new : Position) (before after : Option (List ℕ)) → GivesNone old new before after → IfSome before (λ bytes. (bytes ≡ []) × (after ≡ Some []))
gives_none old new None after none = tt
gives_none old new (Some []) after none = (refl, by after none.rest)
  where
    by : (left : Option (List ℕ)) → Keeps (Some []) left → left ≡ Some []
    by None kept = absurd kept
    by (Some bytes) kept = ap (λ b. Some b) kept
gives_none old new (Some (byte ∷ bytes)) after none = absurd (by none.nothing)
  where
    by : IsAtEnd (Some (byte ∷ bytes)) → ⊥
    by end = omega (arith, ap length end)
