-- The first line of some bytes, and the lines after it.
use Rattle.std.proofs.Common.{◌≡◌, ℕ, suc, ◌+◌, ◌≤◌, ◌<◌, ◌∙◌, refl, ap, Bool, true, false, not, cond, List, [], ◌∷◌, length, arith, length-take, inl, inr, ◌⊎◌}
use Rattle.std.specs.List.{slice_split, onto_first}
use Rattle.std.proofs.lemmas.Bool.{cases_lt, ne_eqb}
use Rattle.std.proofs.lemmas.List.{take_all, drop_all}
use Rattle.std.proofs.lemmas.List.Sums.{prefix_len-le-length}
use Rattle.std.proofs.lemmas.List.Splits.{slice_split_first, slice_split-cons_no, length-slice_split}
use Rattle.bound_io.specs.Lines.{is_lf, text_len, first_text, first_line, after_line}
use Rattle.trace_any.specs.Readings.{ended, lines_of}

-- no byte is an LF
one_part : (bytes : List ℕ) → text_len bytes ≡ length bytes → slice_split is_lf bytes ≡ bytes ∷ []
one_part [] none = refl
one_part (byte ∷ bytes) none = by (is_lf byte) refl (one_part bytes)
  where
    by : (b : Bool) → is_lf byte ≡ b → (text_len bytes ≡ length bytes → slice_split is_lf bytes ≡ bytes ∷ []) → slice_split is_lf (byte ∷ bytes) ≡ (byte ∷ bytes) ∷ []
    by true e rest = let none' : cond (not true) (1 + text_len bytes) 0 ≡ suc (length bytes) = rw e at none in absurd (omega (arith, none'))
    by false e rest =
        let none' : cond (not false) (1 + text_len bytes) 0 ≡ suc (length bytes) = rw e at none in
        slice_split-cons_no is_lf byte bytes e ∙ ap (onto_first byte) (rest (omega (arith, none')))

ended-cons : (text : List ℕ) (parts : List (List ℕ)) → 0 < length parts → ended (text ∷ parts) ≡ (text, length text + 1) ∷ ended parts
ended-cons text [] some = absurd (omega (arith, some))
ended-cons text (next ∷ more) some = refl

ended-last : (text : List ℕ) → 0 < length text → ended (text ∷ []) ≡ (text, length text) ∷ []
ended-last text some = rw (ne_eqb (length text) 0 (omega (arith, some))) refl

-- the first line, and the lines of what stands after it
pub lines_of-first : (bytes : List ℕ) → 0 < length bytes → lines_of bytes ≡ (first_text bytes, length (first_line bytes)) ∷ lines_of (after_line bytes)
lines_of-first bytes some = by (cases_lt (text_len bytes) (length bytes))
  where
    by : text_len bytes < length bytes ⊎ length bytes ≤ text_len bytes → lines_of bytes ≡ (first_text bytes, length (first_line bytes)) ∷ lines_of (after_line bytes)
    by (inl ends) =
        let parts = slice_split is_lf (after_line bytes) in
        let size : length (first_text bytes) + 1 ≡ length (first_line bytes) = omega (arith, length-take (text_len bytes) bytes, length-take (text_len bytes + 1) bytes) in
        ap ended (slice_split_first is_lf bytes 0 ends) ∙ (ended-cons (first_text bytes) parts (omega (arith, length-slice_split is_lf (after_line bytes))) ∙ ap (λ n. (first_text bytes, n) ∷ ended parts) size)
    by (inr none) =
        let whole : text_len bytes ≡ length bytes = omega (arith, prefix_len-le-length (λ b. not (is_lf b)) bytes, none) in
        let text : first_text bytes ≡ bytes = take_all (text_len bytes) bytes (omega (arith, whole)) in
        let line : first_line bytes ≡ bytes = take_all (text_len bytes + 1) bytes (omega (arith, whole)) in
        let nothing : after_line bytes ≡ [] = drop_all (text_len bytes + 1) bytes (omega (arith, whole)) in
        rw (text, line, nothing) (ap ended (one_part bytes whole) ∙ ended-last bytes some)
