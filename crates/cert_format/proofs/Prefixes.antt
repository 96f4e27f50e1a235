-- Bytes that begin with the lines of a certificate.
use Rattle.std.proofs.Common.{◌≡◌, ℕ, suc, ◌+◌, ◌≤◌, ◌<◌, ◌∙◌, sym, refl, ap, true, false, not, cond, List, [], ◌∷◌, ◌++◌, append_assoc, length, take, drop, get_or, arith, Some, None, Option, inl, inr, ◌⊎◌}
use Rattle.std.specs.Prelude.{position, nat_lt}
use Rattle.std.specs.Option.{option_map}
use Rattle.std.specs.List.{list_any}
use Rattle.std.proofs.lemmas.Bool.{cases_lt, lt-ltb, le-ltb, or_parts, eqb-true}
use Rattle.std.proofs.Math.Seq.{take-append_seam, drop-append-add}
use Rattle.std.proofs.lemmas.List.{length-append, take_more, take-append-drop}
use Rattle.std.proofs.lemmas.List.Quantifiers.{position-Some}
use Rattle.bound_io.specs.Lines.{is_lf, text_len, first_text, after_line}
use Rattle.cache_model.specs.Texts.{line}
use Rattle.cert_format.specs.declared.fault.TextKind.{TextKind}
use Rattle.cert_format.specs.declared.fault.TextKind.TheVariants.{TooLong}
use Rattle.cert_format.specs.declared.fault.CertFault.TheVariants.{BadText, Truncated}
use Rattle.cert_format.specs.Grammar.{Slot, line_fault}
use Rattle.cert_format.specs.Readings.{first_fault, in_line}
use Rattle.cert_format.proofs.Spellings.{IsLine}

line-append : (t rest : List ℕ) → line t ++ rest ≡ t ++ 10 ∷ rest
line-append t rest = append_assoc t (10 ∷ []) rest

text_len-first : (t rest : List ℕ) → list_any is_lf t ≡ false → text_len (t ++ 10 ∷ rest) ≡ length t
text_len-first [] rest lacks = refl
text_len-first (x ∷ t) rest lacks =
    let parts = or_parts (is_lf x) (list_any is_lf t) lacks in
    let more : 1 + text_len (t ++ 10 ∷ rest) ≡ suc (length t) = omega (arith, text_len-first t rest parts.1) in
    ap (λ b. cond (not b) (1 + text_len (t ++ 10 ∷ rest)) 0) parts.0 ∙ more

-- the first line of a text and its end, and more bytes
pub first_text-line : (t rest : List ℕ) → list_any is_lf t ≡ false → first_text (line t ++ rest) ≡ t
first_text-line t rest lacks = ap first_text (line-append t rest) ∙ (ap (λ n. take n (t ++ 10 ∷ rest)) (text_len-first t rest lacks) ∙ take-append_seam t (10 ∷ rest))

pub after_line-line : (t rest : List ℕ) → list_any is_lf t ≡ false → after_line (line t ++ rest) ≡ rest
after_line-line t rest lacks = ap after_line (line-append t rest) ∙ (ap (λ n. drop (n + 1) (t ++ 10 ∷ rest)) (text_len-first t rest lacks) ∙ drop-append-add t (10 ∷ rest) 1)

pub text_len-line : (t rest : List ℕ) → list_any is_lf t ≡ false → text_len (line t ++ rest) ≡ length t
text_len-line t rest lacks = ap text_len (line-append t rest) ∙ text_len-first t rest lacks

-- a line without a fault at the beginning
pub first_fits : (n : ℕ) (slots : List Slot) (t rest : List ℕ) → IsLine t → line_fault slots t ≡ None → first_fault n slots (line t ++ rest) ≡ None
first_fits n slots t rest is fits =
    let size = text_len-line t rest is.0 in
    let short : nat_lt 65535 (text_len (line t ++ rest)) ≡ false = le-ltb 65535 _ (omega (arith, size, is.1)) in
    let whole : nat_lt (text_len (line t ++ rest)) (length (line t ++ rest)) ≡ true = lt-ltb _ _ (omega (arith, size, length-append (line t) rest, length-append t (10 ∷ []))) in
    rw (short, whole) (ap (option_map (in_line n)) (ap (line_fault slots) (first_text-line t rest is.0) ∙ fits))

-- the first line of some bytes that have an LF
pub record HasLine (slots : List Slot) (bytes : List ℕ) : Type 0 where
  pub whole : text_len bytes < length bytes
  pub short : text_len bytes ≤ 65535
  pub fits : line_fault slots (first_text bytes) ≡ None
  pub is : bytes ≡ line (first_text bytes) ++ after_line bytes

split_line : (bytes : List ℕ) → text_len bytes < length bytes → bytes ≡ line (first_text bytes) ++ after_line bytes
split_line bytes whole =
    let place = text_len bytes in
    let found : position is_lf bytes ≡ Some place = ap (λ b. cond b (Some place) None) (lt-ltb place (length bytes) whole) in
    let lf : get_or bytes place 0 ≡ 10 = eqb-true (get_or bytes place 0) 10 (position-Some is_lf bytes place 0 found).1 in
    let prefix : take (place + 1) bytes ≡ line (first_text bytes) = take_more bytes place 0 whole ∙ ap (λ x. take place bytes ++ x ∷ []) lf in
    sym (take-append-drop (place + 1) bytes) ∙ ap (λ f. f ++ drop (place + 1) bytes) prefix

none_of_map : (n : ℕ) (o : Option TextKind) → option_map (in_line n) o ≡ None → o ≡ None
none_of_map n None h = refl
none_of_map n (Some kind) h = let wrong : Some (BadText n kind) ≡ None = h in cc

pub fits_first : (n : ℕ) (slots : List Slot) (bytes : List ℕ) → first_fault n slots bytes ≡ None → HasLine slots bytes
fits_first n slots bytes fits = by (cases_lt 65535 (text_len bytes)) (cases_lt (text_len bytes) (length bytes))
  where
    by : 65535 < text_len bytes ⊎ text_len bytes ≤ 65535 → text_len bytes < length bytes ⊎ length bytes ≤ text_len bytes → HasLine slots bytes
    by (inl long) either = let wrong : Some (BadText n TooLong) ≡ None = rw (lt-ltb 65535 (text_len bytes) long) at fits in cc
    by (inr short) (inr cut) = let wrong : Some (Truncated n) ≡ None = rw (le-ltb 65535 (text_len bytes) short, le-ltb (text_len bytes) (length bytes) cut) at fits in cc
    by (inr short) (inl whole) =
        let text : option_map (in_line n) (line_fault slots (first_text bytes)) ≡ None = rw (le-ltb 65535 (text_len bytes) short, lt-ltb (text_len bytes) (length bytes) whole) at fits in
        record { whole = whole; short = short; fits = none_of_map n (line_fault slots (first_text bytes)) text; is = split_line bytes whole }

pub whole_line : (n : ℕ) (slots : List Slot) (bytes : List ℕ) → text_len bytes < length bytes → text_len bytes ≤ 65535 → first_fault n slots bytes ≡ option_map (in_line n) (line_fault slots (first_text bytes))
whole_line n slots bytes whole short = rw (le-ltb 65535 (text_len bytes) short, lt-ltb (text_len bytes) (length bytes) whole) refl

pub cut_line : (n : ℕ) (slots : List Slot) (bytes : List ℕ) → length bytes ≤ text_len bytes → text_len bytes ≤ 65535 → first_fault n slots bytes ≡ Some (Truncated n)
cut_line n slots bytes cut short = rw (le-ltb 65535 (text_len bytes) short, le-ltb (text_len bytes) (length bytes) cut) refl

pub long_line : (n : ℕ) (slots : List Slot) (bytes : List ℕ) → 65535 < text_len bytes → first_fault n slots bytes ≡ Some (BadText n TooLong)
long_line n slots bytes long = rw (lt-ltb 65535 (text_len bytes) long) refl
