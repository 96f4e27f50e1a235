-- The lines before the records: what is written is read, and what is read is what is written.
use Rattle.std.proofs.Common.{◌≡◌, ℕ, zero, suc, ◌+◌, ◌-◌, ◌^◌, ◌<◌, ◌≤◌, ◌∙◌, sym, refl, ap, List, [], ◌∷◌, ◌++◌, append_assoc, length, get_or, cond, Bool, true, false, not, ◌==◌, arith, codes, decimal, slice_index_or, Some, None, Option}
use Rattle.std.specs.Option.{option_or, is_some}
use Rattle.std.specs.Str.{bytes_eq}
use Rattle.std.proofs.lemmas.Bool.{true≢false, eqb-true, eqb-false, ne_eqb}
use Rattle.bound_io.specs.Lines.{first_text, after_line}
use Rattle.cache_model.specs.declared.certificates.Header.{Header}
use Rattle.cache_model.specs.Certificates.{IsHeaderInRange}
use Rattle.cache_model.specs.Texts.{line, text_of, entry, objective_word, form_word, last_lines, header_len, header_lines}
use Rattle.cache_model.proofs.Apart.{header_from}
use Rattle.cert_format.specs.Grammar.{Slot, line_fault, last_slots, header_slots, number_at, word_at}
use Rattle.cert_format.specs.Readings.{first_fault, lines_fault, after_lines, line_text, header_fault, header_in, is_warmup, objective_in, version_in, warmup_in}
use Rattle.cert_format.specs.Grammar.{words}
use Rattle.cert_format.proofs.Words.{words-append}
use Rattle.cert_format.proofs.Shapes.{fixed_fits, fixed_only}
use Rattle.cert_format.proofs.Spellings.{IsLine, number_fits, number_spelled, version_fits, version_spelled, version_line, words-decimal, objective_fits, objective_spelled, form_fits, form_spelled, entry_line, objective_line, form_line}
use Rattle.cert_format.proofs.Prefixes.{HasLine, first_fits, fits_first, first_text-line, after_line-line}

-- one line after some
pub after_lines-suc : (k : ℕ) (bytes : List ℕ) → after_lines (suc k) bytes ≡ after_line (after_lines k bytes)
unfolding after_lines
after_lines-suc zero bytes = refl
after_lines-suc (suc k) bytes = after_lines-suc k (after_line bytes)

pub after_lines-zero : (bytes : List ℕ) → after_lines 0 bytes ≡ bytes
unfolding after_lines
after_lines-zero bytes = refl

-- either of two faults
pub no_either : {A : Type 0} (o p : Option A) → option_or o p ≡ None → (o ≡ None) × (p ≡ None)
no_either None p h = (refl, h)
no_either (Some x) p h = absurd (true≢false (ap is_some h))

-- each of these lines stands in its place, after the first k
abbrev Stand : List (List Slot) → ℕ → List ℕ → Type 0
Stand [] k bytes = Unit {0}
Stand (slots ∷ lines) k bytes = HasLine slots (after_lines k bytes) × Stand lines (suc k) bytes

lines_stand : (n k : ℕ) (lines : List (List Slot)) (bytes : List ℕ) → lines_fault n lines (after_lines k bytes) ≡ None → Stand lines k bytes
lines_stand n k [] bytes none = tt
lines_stand n k (slots ∷ lines) bytes none =
    let both = no_either (first_fault n slots (after_lines k bytes)) (lines_fault (n + 1) lines (after_line (after_lines k bytes))) none in
    (fits_first n slots (after_lines k bytes) both.0, lines_stand (n + 1) (suc k) lines bytes (ap (lines_fault (n + 1) lines) (after_lines-suc k bytes) ∙ both.1))

-- the bytes are these lines and the rest
abbrev At : ℕ → List ℕ → List ℕ → Type 0
At k bytes t = after_lines k bytes ≡ line t ++ after_lines (suc k) bytes

at_line : (slots : List Slot) (k : ℕ) (bytes t : List ℕ) → HasLine slots (after_lines k bytes) → first_text (after_lines k bytes) ≡ t → At k bytes t
at_line slots k bytes t has is = has.is ∙ (ap (λ x. line x ++ after_line (after_lines k bytes)) is ∙ ap (λ r. line t ++ r) (sym (after_lines-suc k bytes)))

each_line : (a b c d e f g h i j : List ℕ) (last : List (List ℕ)) (b0 b1 b2 b3 b4 b5 b6 b7 b8 b9 b10 b11 : List ℕ)
    → b0 ≡ line a ++ b1 → b1 ≡ line b ++ b2 → b2 ≡ line c ++ b3 → b3 ≡ line d ++ b4 → b4 ≡ line e ++ b5 → b5 ≡ line f ++ b6
    → b6 ≡ line g ++ b7 → b7 ≡ line h ++ b8 → b8 ≡ line i ++ b9 → b9 ≡ line j ++ b10 → b10 ≡ text_of last ++ b11
    → b0 ≡ text_of (a ∷ b ∷ c ∷ d ∷ e ∷ f ∷ g ∷ h ∷ i ∷ j ∷ last) ++ b11
each_line a b c d e f g h i j last b0 b1 b2 b3 b4 b5 b6 b7 b8 b9 b10 b11 e0 e1 e2 e3 e4 e5 e6 e7 e8 e9 e10 =
    rw (e0, e1, e2, e3, e4, e5, e6, e7, e8, e9, e10) (simp append_assoc)

one_line : (k b10 b11 : List ℕ) → b10 ≡ line k ++ b11 → b10 ≡ text_of (k ∷ []) ++ b11
one_line k b10 b11 e10 = rw e10 (simp append_assoc)

two_lines : (k l b10 b11 b12 : List ℕ) → b10 ≡ line k ++ b11 → b11 ≡ line l ++ b12 → b10 ≡ text_of (k ∷ l ∷ []) ++ b12
two_lines k l b10 b11 b12 e10 e11 = rw (e10, e11) (simp append_assoc)

-- the last lines, by whether a warm-up is stated
last_by : Bool → ℕ → List (List ℕ)
last_by none w = cond none (codes "records" ∷ []) (entry (codes "warmup") w ∷ codes "records" ∷ [])

-- a warm-up that the last lines state, and those lines
record IsLastPart (w : ℕ) (bytes : List ℕ) : Type 0 where
  small : w ≤ 2 ^ 25
  text : after_lines 10 bytes ≡ text_of (last_lines w) ++ after_lines (10 + length (last_lines w)) bytes

last_spelled : (bytes : List ℕ) → Stand (last_slots (is_warmup (line_text 11 bytes))) 10 bytes → IsLastPart (warmup_in (line_text 11 bytes)) bytes
unfolding last_by
last_spelled bytes stand = by (is_warmup (line_text 11 bytes)) stand
  where
    text : List ℕ
    text = line_text 11 bytes

    stated : (w : ℕ) → 1 ≤ w → w ≤ 2 ^ 25 → text ≡ entry (codes "warmup") w → Stand (last_slots true) 10 bytes → IsLastPart w bytes
    stated w some small is stood =
        let lines : last_lines w ≡ entry (codes "warmup") w ∷ codes "records" ∷ [] = ap (λ none. last_by none w) (ne_eqb w 0 (λ e. omega (arith, e, some))) in
        let at11 = fixed_only (codes "records") _ stood.1.0.fits in
        record {
          small = small;
          text = two_lines (entry (codes "warmup") w) (codes "records") (after_lines 10 bytes) (after_lines 11 bytes) (after_lines 12 bytes) (at_line _ 10 bytes _ stood.0 is) (at_line _ 11 bytes _ stood.1.0 at11)
              ∙ ap (λ ls. text_of ls ++ after_lines (10 + length ls) bytes) (sym lines);
        }

    by : (warm : Bool) → Stand (last_slots warm) 10 bytes → IsLastPart (cond warm (number_at 1 text) 0) bytes
    by true stood =
        let is = number_spelled (codes "warmup") 1 (2 ^ 25) text stood.0.fits (omega arith) in
        stated (number_at 1 text) is.0 is.1 is.2 stood
    by false stood = record {
      small = omega arith;
      text = one_line (codes "records") (after_lines 10 bytes) (after_lines 11 bytes) (at_line _ 10 bytes _ stood.0 (fixed_only (codes "records") text stood.0.fits));
    }

-- how many lines a header has
header_count : (h : Header) → 10 + length (last_lines h.warmup) ≡ header_len h
unfolding header_len
header_count h = omega arith

-- the header of some bytes is in range, and its lines are their prefix
pub header_spelled : (bytes : List ℕ) → header_fault bytes ≡ None → IsHeaderInRange (header_in bytes) × (bytes ≡ text_of (header_lines (header_in bytes)) ++ after_lines (header_len (header_in bytes)) bytes)
unfolding header_in header_len
header_spelled bytes none =
    let capacity = number_at 1 (line_text 3 bytes) in
    let warm = is_warmup (line_text 11 bytes) in
    let stand = lines_stand 1 0 (header_slots capacity warm) bytes (ap (lines_fault 1 (header_slots capacity warm)) (after_lines-zero bytes) ∙ none) in
    let at0 = version_spelled (line_text 1 bytes) stand.0.fits in
    let s1 = stand.1 in
    let at1 = objective_spelled (line_text 2 bytes) s1.0.fits in
    let s2 = s1.1 in
    let at2 = number_spelled (codes "capacity") 1 (2 ^ 56) (line_text 3 bytes) s2.0.fits (omega arith) in
    let s3 = s2.1 in
    let at3 = number_spelled (codes "requests") 0 (2 ^ 25) (line_text 4 bytes) s3.0.fits (omega arith) in
    let s4 = s3.1 in
    let at4 = number_spelled (codes "unit") 1 capacity (line_text 5 bytes) s4.0.fits (omega (arith, at2.1)) in
    let s5 = s4.1 in
    let at5 = number_spelled (codes "denominator") 1 (2 ^ 48) (line_text 6 bytes) s5.0.fits (omega arith) in
    let s6 = s5.1 in
    let at6 = form_spelled (line_text 7 bytes) s6.0.fits in
    let s7 = s6.1 in
    let at7 = number_spelled (codes "upper") 0 (2 ^ 127 - 1) (line_text 8 bytes) s7.0.fits (omega arith) in
    let s8 = s7.1 in
    let at8 = number_spelled (codes "flow") 0 (2 ^ 127 - 1) (line_text 9 bytes) s8.0.fits (omega arith) in
    let s9 = s8.1 in
    let at9 = number_spelled (codes "lower") 0 (2 ^ 127 - 1) (line_text 10 bytes) s9.0.fits (omega arith) in
    let last = last_spelled bytes s9.1 in (
      record {
        capacity = (at2.0, at2.1);
        requests = at3.1;
        unit = (at4.0, at4.1);
        denominator = (at5.0, at5.1);
        upper = omega (arith, at7.1);
        flow = omega (arith, at8.1);
        lower = omega (arith, at9.1);
        warmup = last.small;
        version = (at0.1, at0.2);
      },
      sym (after_lines-zero bytes)
          ∙ (each_line (entry (codes "cache-bound-certificate") (version_in (line_text 1 bytes))) (codes "objective " ++ objective_word (objective_in (line_text 2 bytes))) (entry (codes "capacity") (number_at 1 (line_text 3 bytes)))
          (entry (codes "requests") (number_at 1 (line_text 4 bytes))) (entry (codes "unit") (number_at 1 (line_text 5 bytes))) (entry (codes "denominator") (number_at 1 (line_text 6 bytes)))
          (codes "form " ++ form_word (bytes_eq (word_at 1 (line_text 7 bytes)) (codes "exact"))) (entry (codes "upper") (number_at 1 (line_text 8 bytes))) (entry (codes "flow") (number_at 1 (line_text 9 bytes)))
          (entry (codes "lower") (number_at 1 (line_text 10 bytes))) (last_lines (warmup_in (line_text 11 bytes)))
          (after_lines 0 bytes) (after_lines 1 bytes) (after_lines 2 bytes) (after_lines 3 bytes) (after_lines 4 bytes) (after_lines 5 bytes) (after_lines 6 bytes) (after_lines 7 bytes) (after_lines 8 bytes) (after_lines 9 bytes) (after_lines 10 bytes) _
          (at_line _ 0 bytes _ stand.0 at0.0) (at_line _ 1 bytes _ s1.0 at1) (at_line _ 2 bytes _ s2.0 at2.2) (at_line _ 3 bytes _ s3.0 at3.2) (at_line _ 4 bytes _ s4.0 at4.2) (at_line _ 5 bytes _ s5.0 at5.2)
          (at_line _ 6 bytes _ s6.0 at6) (at_line _ 7 bytes _ s7.0 at7.2) (at_line _ 8 bytes _ s8.0 at8.2) (at_line _ 9 bytes _ s9.0 at9.2) last.text
          ∙ ap (λ n. text_of (header_lines (header_in bytes)) ++ after_lines n bytes) (header_count (header_in bytes))),
    )

-- each line has no fault in its place
abbrev Fit : List (List Slot) → List (List ℕ) → Type 0
Fit [] [] = Unit {0}
Fit [] (t ∷ texts) = ⊥
Fit (slots ∷ lines) [] = ⊥
Fit (slots ∷ lines) (t ∷ texts) = IsLine t × (line_fault slots t ≡ None) × Fit lines texts

text_of-cons : (t : List ℕ) (texts : List (List ℕ)) (rest : List ℕ) → text_of (t ∷ texts) ++ rest ≡ line t ++ (text_of texts ++ rest)
text_of-cons t texts rest = append_assoc (line t) (text_of texts) rest

fit_none : (n : ℕ) (lines : List (List Slot)) (texts : List (List ℕ)) (rest : List ℕ) → Fit lines texts → lines_fault n lines (text_of texts ++ rest) ≡ None
fit_none n [] texts rest fit = refl
fit_none n (slots ∷ lines) [] rest fit = absurd fit
fit_none n (slots ∷ lines) (t ∷ texts) rest fit =
    let here : first_fault n slots (text_of (t ∷ texts) ++ rest) ≡ None = ap (first_fault n slots) (text_of-cons t texts rest) ∙ first_fits n slots t (text_of texts ++ rest) fit.0 fit.1 in
    let there : after_line (text_of (t ∷ texts) ++ rest) ≡ text_of texts ++ rest = ap after_line (text_of-cons t texts rest) ∙ after_line-line t (text_of texts ++ rest) fit.0.0 in
    ap (λ o. option_or o (lines_fault (n + 1) lines (after_line (text_of (t ∷ texts) ++ rest)))) here ∙ (ap (lines_fault (n + 1) lines) there ∙ fit_none (n + 1) lines texts rest fit.2)

-- the text of each line, and what stands after them
pub text_at : (lines : List (List Slot)) (texts : List (List ℕ)) (rest : List ℕ) (k : ℕ) → Fit lines texts → k < length texts → first_text (after_lines k (text_of texts ++ rest)) ≡ get_or texts k []
unfolding after_lines
text_at [] [] rest k fit below = absurd (omega (arith, below))
text_at [] (t ∷ texts) rest k fit below = absurd fit
text_at (slots ∷ lines) [] rest k fit below = absurd fit
text_at (slots ∷ lines) (t ∷ texts) rest zero fit below = ap first_text (text_of-cons t texts rest) ∙ first_text-line t (text_of texts ++ rest) fit.0.0
text_at (slots ∷ lines) (t ∷ texts) rest (suc k) fit below =
    let there : after_line (text_of (t ∷ texts) ++ rest) ≡ text_of texts ++ rest = ap after_line (text_of-cons t texts rest) ∙ after_line-line t (text_of texts ++ rest) fit.0.0 in
    ap (λ b. first_text (after_lines k b)) there ∙ text_at lines texts rest k fit.2 (omega (arith, below))

pub after_texts : (lines : List (List Slot)) (texts : List (List ℕ)) (rest : List ℕ) → Fit lines texts → after_lines (length texts) (text_of texts ++ rest) ≡ rest
unfolding after_lines
after_texts [] [] rest fit = refl
after_texts [] (t ∷ texts) rest fit = absurd fit
after_texts (slots ∷ lines) [] rest fit = absurd fit
after_texts (slots ∷ lines) (t ∷ texts) rest fit =
    let there : after_line (text_of (t ∷ texts) ++ rest) ≡ text_of texts ++ rest = ap after_line (text_of-cons t texts rest) ∙ after_line-line t (text_of texts ++ rest) fit.0.0 in
    ap (after_lines (length texts)) there ∙ after_texts lines texts rest fit.2

-- the last lines of a header in range
last_fits : (w : ℕ) → w ≤ 2 ^ 25 → Fit (last_slots (not (w == 0))) (last_lines w)
unfolding last_by
last_fits w small = by (w == 0) refl
  where
    by : (none : Bool) → (w == 0) ≡ none → Fit (last_slots (not none)) (last_by none w)
    by true is = ((refl, omega arith), fixed_fits (codes "records"), tt)
    by false is =
        let some : 1 ≤ w = omega (arith, eqb-false w 0 is) in
        (entry_line (codes "warmup") w refl (omega arith) (omega arith), (number_fits (codes "warmup") 1 (2 ^ 25) w refl some small (omega arith)).0, ((refl, omega arith), fixed_fits (codes "records"), tt))

-- the lines of a header in range
header_fits : (h : Header) → IsHeaderInRange h → Fit (header_slots h.capacity (not (h.warmup == 0))) (header_lines h)
header_fits h range =
    let capacity : h.capacity < 2 ^ 127 = omega (arith, range.capacity) in
    let requests : h.requests < 2 ^ 127 = omega (arith, range.requests) in
    let unit : h.unit < 2 ^ 127 = omega (arith, range.unit, range.capacity) in
    let denominator : h.denominator < 2 ^ 127 = omega (arith, range.denominator) in (
      version_line h.version range.version.1,
      (version_fits h.version range.version.0 range.version.1).0,
      (
        objective_line h.objective,
        (objective_fits h.objective).0,
        (
          entry_line (codes "capacity") h.capacity refl (omega arith) capacity,
          (number_fits (codes "capacity") 1 (2 ^ 56) h.capacity refl range.capacity.0 range.capacity.1 (omega arith)).0,
          (
            entry_line (codes "requests") h.requests refl (omega arith) requests,
            (number_fits (codes "requests") 0 (2 ^ 25) h.requests refl (omega arith) range.requests (omega arith)).0,
            (
              entry_line (codes "unit") h.unit refl (omega arith) unit,
              (number_fits (codes "unit") 1 h.capacity h.unit refl range.unit.0 range.unit.1 (omega arith)).0,
              (
                entry_line (codes "denominator") h.denominator refl (omega arith) denominator,
                (number_fits (codes "denominator") 1 (2 ^ 48) h.denominator refl range.denominator.0 range.denominator.1 (omega arith)).0,
                (
                  form_line h.exact,
                  (form_fits h.exact).0,
                  (
                    entry_line (codes "upper") h.upper refl (omega arith) range.upper,
                    (number_fits (codes "upper") 0 (2 ^ 127 - 1) h.upper refl (omega arith) (omega (arith, range.upper)) (omega (arith, range.upper))).0,
                    (
                      entry_line (codes "flow") h.flow refl (omega arith) range.flow,
                      (number_fits (codes "flow") 0 (2 ^ 127 - 1) h.flow refl (omega arith) (omega (arith, range.flow)) (omega (arith, range.flow))).0,
                      (
                        entry_line (codes "lower") h.lower refl (omega arith) range.lower,
                        (number_fits (codes "lower") 0 (2 ^ 127 - 1) h.lower refl (omega arith) (omega (arith, range.lower)) (omega (arith, range.lower))).0,
                        last_fits h.warmup range.warmup,
                      ),
                    ),
                  ),
                ),
              ),
            ),
          ),
        ),
      ),
    )

-- a header has few lines
pub few_lines : (h : Header) → header_len h < 64
unfolding header_len last_by
few_lines h = omega (arith, by (h.warmup == 0))
  where
    by : (none : Bool) → 10 + length (last_by none h.warmup) < 64
    by true = omega arith
    by false = omega arith

-- the line where a warm-up would stand
warmup_fits : (w : ℕ) → w ≤ 2 ^ 25 → (is_warmup (get_or (last_lines w) 0 []) ≡ not (w == 0)) × (warmup_in (get_or (last_lines w) 0 []) ≡ w)
unfolding last_by
warmup_fits w small = by (w == 0) refl
  where
    named : (word : List ℕ) → words word ≡ word ∷ [] → is_warmup (codes "warmup" ++ 32 ∷ word) ≡ true
    named word lone = ap (λ ws. bytes_eq (slice_index_or ws 0 []) (codes "warmup")) (words-append (codes "warmup") word)

    by : (none : Bool) → (w == 0) ≡ none → (is_warmup (get_or (last_by none w) 0 []) ≡ not none) × (warmup_in (get_or (last_by none w) 0 []) ≡ w)
    by true is = (refl, sym (eqb-true w 0 is))
    by false is =
        let some : 1 ≤ w = omega (arith, eqb-false w 0 is) in
        let first : is_warmup (entry (codes "warmup") w) ≡ true = ap is_warmup (append_assoc (codes "warmup") (32 ∷ []) (decimal w)) ∙ named (decimal w) (words-decimal w (omega arith)) in
        (first, ap (λ b. cond b (number_at 1 (entry (codes "warmup") w)) 0) first ∙ (number_fits (codes "warmup") 1 (2 ^ 25) w refl some small (omega arith)).1)

-- there is a last line
some_last : (w : ℕ) → 0 < length (last_lines w)
unfolding last_by
some_last w = by (w == 0)
  where
    by : (none : Bool) → 0 < length (last_by none w)
    by true = omega arith
    by false = omega arith

-- a header in range that is written is read
pub header_read : (h : Header) (rest : List ℕ) → IsHeaderInRange h
    → (header_fault (text_of (header_lines h) ++ rest) ≡ None) × (header_in (text_of (header_lines h) ++ rest) ≡ h) × (after_lines (header_len h) (text_of (header_lines h) ++ rest) ≡ rest)
unfolding header_in header_from header_len
header_read h rest range =
    let fit = header_fits h range in
    let bytes = text_of (header_lines h) ++ rest in
    let warm = not (h.warmup == 0) in
    let lines = header_slots h.capacity warm in
    let texts = header_lines h in
    let ver : version_in (line_text 1 bytes) ≡ h.version = ap version_in (text_at lines texts rest 0 fit (omega arith)) ∙ (version_fits h.version range.version.0 range.version.1).1 in
    let o : objective_in (line_text 2 bytes) ≡ h.objective = ap objective_in (text_at lines texts rest 1 fit (omega arith)) ∙ (objective_fits h.objective).1 in
    let c : number_at 1 (line_text 3 bytes) ≡ h.capacity = ap (number_at 1) (text_at lines texts rest 2 fit (omega arith)) ∙ (number_fits (codes "capacity") 1 (2 ^ 56) h.capacity refl range.capacity.0 range.capacity.1 (omega (arith, range.capacity))).1 in
    let n : number_at 1 (line_text 4 bytes) ≡ h.requests = ap (number_at 1) (text_at lines texts rest 3 fit (omega arith)) ∙ (number_fits (codes "requests") 0 (2 ^ 25) h.requests refl (omega arith) range.requests (omega (arith, range.requests))).1 in
    let u : number_at 1 (line_text 5 bytes) ≡ h.unit = ap (number_at 1) (text_at lines texts rest 4 fit (omega arith)) ∙ (number_fits (codes "unit") 1 h.capacity h.unit refl range.unit.0 range.unit.1 (omega (arith, range.unit, range.capacity))).1 in
    let d : number_at 1 (line_text 6 bytes) ≡ h.denominator = ap (number_at 1) (text_at lines texts rest 5 fit (omega arith)) ∙ (number_fits (codes "denominator") 1 (2 ^ 48) h.denominator refl range.denominator.0 range.denominator.1 (omega (arith, range.denominator))).1 in
    let x : bytes_eq (word_at 1 (line_text 7 bytes)) (codes "exact") ≡ h.exact = ap (λ t. bytes_eq (word_at 1 t) (codes "exact")) (text_at lines texts rest 6 fit (omega arith)) ∙ (form_fits h.exact).1 in
    let v : number_at 1 (line_text 8 bytes) ≡ h.upper = ap (number_at 1) (text_at lines texts rest 7 fit (omega arith)) ∙ (number_fits (codes "upper") 0 (2 ^ 127 - 1) h.upper refl (omega arith) (omega (arith, range.upper)) (omega (arith, range.upper))).1 in
    let f : number_at 1 (line_text 9 bytes) ≡ h.flow = ap (number_at 1) (text_at lines texts rest 8 fit (omega arith)) ∙ (number_fits (codes "flow") 0 (2 ^ 127 - 1) h.flow refl (omega arith) (omega (arith, range.flow)) (omega (arith, range.flow))).1 in
    let l : number_at 1 (line_text 10 bytes) ≡ h.lower = ap (number_at 1) (text_at lines texts rest 9 fit (omega arith)) ∙ (number_fits (codes "lower") 0 (2 ^ 127 - 1) h.lower refl (omega arith) (omega (arith, range.lower)) (omega (arith, range.lower))).1 in
    let line11 : line_text 11 bytes ≡ get_or (last_lines h.warmup) 0 [] = text_at lines texts rest 10 fit (omega (arith, some_last h.warmup)) in
    let is_warm : is_warmup (line_text 11 bytes) ≡ warm = ap is_warmup line11 ∙ (warmup_fits h.warmup range.warmup).0 in
    let w : warmup_in (line_text 11 bytes) ≡ h.warmup = ap warmup_in line11 ∙ (warmup_fits h.warmup range.warmup).1 in
    let same : header_from (objective_in (line_text 2 bytes)) (number_at 1 (line_text 3 bytes)) (number_at 1 (line_text 4 bytes)) (number_at 1 (line_text 5 bytes)) (number_at 1 (line_text 6 bytes))
    (bytes_eq (word_at 1 (line_text 7 bytes)) (codes "exact")) (number_at 1 (line_text 8 bytes)) (number_at 1 (line_text 9 bytes)) (number_at 1 (line_text 10 bytes)) (warmup_in (line_text 11 bytes)) (version_in (line_text 1 bytes))
    ≡ header_from h.objective h.capacity h.requests h.unit h.denominator h.exact h.upper h.flow h.lower h.warmup h.version = rw (o, c, n, u, d, x, v, f, l, w, ver) refl in
    (ap (λ cap. lines_fault 1 (header_slots cap (is_warmup (line_text 11 bytes))) bytes) c ∙ (ap (λ b. lines_fault 1 (header_slots h.capacity b) bytes) is_warm ∙ fit_none 1 lines texts rest fit), same, after_texts lines texts rest fit)
