-- The lines from the lower bound on, one after another.
use Rattle.std.proofs.Common.{◌≡◌, ℕ, suc, ◌+◌, ◌-◌, ◌*◌, ◌^◌, ◌≤◌, ◌∙◌, sym, refl, ap, cond, Bool, true, false, List, [], ◌∷◌, length, length-append, arith, codes, decimal, Some, None, Option}
use Rattle.bound_io.specs.Lines.{first_text, after_line}
use Rattle.bound_io.specs.Positions.{Position}
use Rattle.cache_model.specs.Texts.{line}
use Rattle.cert_format.specs.declared.fault.CertFault.{CertFault}
use Rattle.cert_format.specs.Grammar.{Slot, fixed_line, number_at, number_line}
use Rattle.cert_format.specs.Readings.{after_lines, bytes_through, first_fault, is_warmup, line_text, lines_fault}
use Rattle.cert_format.specs.Lines.{IsPast, known}
use Rattle.cert_format.proofs.Decimals.{length-decimal}
use Rattle.cert_format.proofs.Spellings.{number_spelled}
use Rattle.cert_format.proofs.Short.{number_short}
use Rattle.cert_format.proofs.Prefixes.{HasLine, fits_first}
use Rattle.cert_format.proofs.Headers.{after_lines-suc, after_lines-zero}
use Rattle.cert_format.proofs.Taken.{known_some}
use Rattle.cert_format.proofs.Chains.{lines_none, lines_stop}
use Rattle.budget_format.specs.declared.certificates.Budget.{Budget}
use Rattle.budget_format.specs.declared.certificates.TenthLine.TheVariants.{Warmup, Budget as Stated}
use Rattle.budget_format.specs.declared.header.Tail.{Tail}
use Rattle.budget_format.specs.Grammar.{budget_in, budget_slots, tenth_in}
use Rattle.budget_format.specs.Parts.{tail_fault, tail_in, tail_slots, tenth_fault}

abbrev pub lower : List Slot
lower = number_line (codes "lower") 0 (2 ^ 127 - 1)

abbrev pub records : List Slot
records = fixed_line (codes "records")

abbrev pub warm_slots : List Slot
warm_slots = number_line (codes "warmup") 1 (2 ^ 25)

-- the tenth line states a budget, or a warm-up
pub tenth_stated : (text : List ℕ) (b : Budget) → Stated b ≡ tenth_in text → (is_warmup text ≡ false) × (b ≡ budget_in text)
tenth_stated text b is = by (is_warmup text) refl is
  where
    by : (warm : Bool) → is_warmup text ≡ warm → Stated b ≡ cond warm (Warmup (number_at 1 text)) (Stated (budget_in text)) → (is_warmup text ≡ false) × (b ≡ budget_in text)
    by true e given = let wrong : Stated b ≡ Warmup (number_at 1 text) = given in cc
    by false e given =
        let both : Stated b ≡ Stated (budget_in text) = given in
        let same : b ≡ budget_in text = cc in
        (e, same)

pub tenth_warm : (text : List ℕ) (w : ℕ) → Warmup w ≡ tenth_in text → (is_warmup text ≡ true) × (w ≡ number_at 1 text)
tenth_warm text w is = by (is_warmup text) refl is
  where
    by : (warm : Bool) → is_warmup text ≡ warm → Warmup w ≡ cond warm (Warmup (number_at 1 text)) (Stated (budget_in text)) → (is_warmup text ≡ true) × (w ≡ number_at 1 text)
    by false e given = let wrong : Warmup w ≡ Stated (budget_in text) = given in cc
    by true e given =
        let both : Warmup w ≡ Warmup (number_at 1 text) = given in
        let same : w ≡ number_at 1 text = cc in
        (e, same)

-- the first fault of the lines after line n
module _ (n : ℕ) (bytes : List ℕ) where
  abbrev Fault : ℕ → List Slot → Option CertFault
  Fault k slots = first_fault (n + k + 1) slots (after_lines k bytes)

  pub lower_stops : (g : CertFault) → Fault 0 lower ≡ Some g → tail_fault (n + 1) bytes ≡ Some g
  lower_stops g is = by (is_warmup (line_text 2 bytes))
    where
      by : (w : Bool) → lines_fault (n + 1) (tail_slots w) bytes ≡ Some g
      by true = lines_stop n [] lower (warm_slots ∷ budget_slots ∷ records ∷ []) bytes g tt is
      by false = lines_stop n [] lower (budget_slots ∷ records ∷ []) bytes g tt is

  pub tenth_stops : (g : CertFault) → Fault 0 lower ≡ None → tenth_fault (n + 1 + 1) (after_lines 1 bytes) ≡ Some g → tail_fault (n + 1) bytes ≡ Some g
  tenth_stops g first is = by (is_warmup (line_text 2 bytes)) is
    where
      by : (w : Bool) → Fault 1 (cond w warm_slots budget_slots) ≡ Some g → lines_fault (n + 1) (tail_slots w) bytes ≡ Some g
      by true at = lines_stop n (lower ∷ []) warm_slots (budget_slots ∷ records ∷ []) bytes g (first, tt) at
      by false at = lines_stop n (lower ∷ []) budget_slots (records ∷ []) bytes g (first, tt) at

  -- the tenth line, by what it states
  tenth_as : (w : Bool) → is_warmup (line_text 2 bytes) ≡ w → tenth_fault (n + 1 + 1) (after_lines 1 bytes) ≡ None → Fault 1 (cond w warm_slots budget_slots) ≡ None
  tenth_as w is none = ap (λ b. Fault 1 (cond b warm_slots budget_slots)) (sym is) ∙ none

  tail_as : (w : Bool) → is_warmup (line_text 2 bytes) ≡ w → tail_fault (n + 1) bytes ≡ lines_fault (n + 1) (tail_slots w) bytes
  tail_as w is = ap (λ b. lines_fault (n + 1) (tail_slots b) bytes) is

  pub records_stop : (g : CertFault) → is_warmup (line_text 2 bytes) ≡ false → Fault 0 lower ≡ None → tenth_fault (n + 1 + 1) (after_lines 1 bytes) ≡ None → Fault 2 records ≡ Some g → tail_fault (n + 1) bytes ≡ Some g
  records_stop g stated first second is = tail_as false stated ∙ lines_stop n (lower ∷ budget_slots ∷ []) records [] bytes g (first, (tenth_as false stated second, tt)) is

  pub tail_none : is_warmup (line_text 2 bytes) ≡ false → Fault 0 lower ≡ None → tenth_fault (n + 1 + 1) (after_lines 1 bytes) ≡ None → Fault 2 records ≡ None → tail_fault (n + 1) bytes ≡ None
  tail_none stated first second third = tail_as false stated ∙ lines_none n (tail_slots false) bytes (first, (tenth_as false stated second, (third, tt)))

  pub budget_stops : (g : CertFault) → is_warmup (line_text 2 bytes) ≡ true → Fault 0 lower ≡ None → tenth_fault (n + 1 + 1) (after_lines 1 bytes) ≡ None → Fault 2 budget_slots ≡ Some g → tail_fault (n + 1) bytes ≡ Some g
  budget_stops g stated first second is = tail_as true stated ∙ lines_stop n (lower ∷ warm_slots ∷ []) budget_slots (records ∷ []) bytes g (first, (tenth_as true stated second, tt)) is

  pub warm_records_stop : (g : CertFault) → is_warmup (line_text 2 bytes) ≡ true → Fault 0 lower ≡ None → tenth_fault (n + 1 + 1) (after_lines 1 bytes) ≡ None → Fault 2 budget_slots ≡ None → Fault 3 records ≡ Some g → tail_fault (n + 1) bytes ≡ Some g
  warm_records_stop g stated first second third is = tail_as true stated ∙ lines_stop n (lower ∷ warm_slots ∷ budget_slots ∷ []) records [] bytes g (first, (tenth_as true stated second, (third, tt))) is

  pub warm_tail_none : is_warmup (line_text 2 bytes) ≡ true → Fault 0 lower ≡ None → tenth_fault (n + 1 + 1) (after_lines 1 bytes) ≡ None → Fault 2 budget_slots ≡ None → Fault 3 records ≡ None → tail_fault (n + 1) bytes ≡ None
  warm_tail_none stated first second third fourth = tail_as true stated ∙ lines_none n (tail_slots true) bytes (first, (tenth_as true stated second, (third, (fourth, tt))))

  -- how many bytes a line has
  one_length : (k : ℕ) (slots : List Slot) → HasLine slots (after_lines k bytes) → length (after_lines k bytes) ≡ length (first_text (after_lines k bytes)) + 1 + length (after_lines (suc k) bytes)
  one_length k slots has =
      let text = first_text (after_lines k bytes) in
      omega (arith, ap length has.is, length-append (line text) (after_line (after_lines k bytes)), length-append text (10 ∷ []), ap length (after_lines-suc k bytes))

  lower_short : Fault 0 lower ≡ None → length (first_text (after_lines 0 bytes)) ≤ 45
  lower_short none =
      let text = first_text (after_lines 0 bytes) in
      let is = number_spelled (codes "lower") 0 (2 ^ 127 - 1) text (fits_first (n + 0 + 1) lower (after_lines 0 bytes) none).fits (omega arith) in
      let value = number_at 1 text in
      omega (arith, ap length is.2, length-append (codes "lower ") (decimal value), length-decimal 39 value (omega arith) (omega (arith, is.1)) (omega (arith, is.1)))

  first_size : Fault 0 lower ≡ None → length bytes ≤ 46 + length (after_lines 1 bytes)
  first_size none = omega (arith, ap length (after_lines-zero bytes), one_length 0 lower (fits_first (n + 0 + 1) lower (after_lines 0 bytes) none), lower_short none)

  second_size : Fault 1 warm_slots ≡ None → length (after_lines 1 bytes) ≤ 64 + length (after_lines 2 bytes)
  second_size none =
      let has = fits_first (n + 1 + 1) warm_slots (after_lines 1 bytes) none in
      omega (arith, one_length 1 warm_slots has, number_short (codes "warmup") 1 (2 ^ 25) (first_text (after_lines 1 bytes)) has.fits (omega arith) (omega arith))

-- there is room for the line of a budget after the lower bound
pub room_after_lower : (old now : Position) (a : Option (List ℕ)) (bytes : List ℕ) → known old a ≡ Some bytes → now.line ≡ old.line + 1 → IsPast old now bytes
    → first_fault (old.line + 0 + 1) lower (after_lines 0 bytes) ≡ None → now.consumed + 16 ≤ 64 * now.line
room_after_lower old now a bytes e given past none =
    let through : bytes_through (now.line - old.line) bytes ≡ bytes_through 1 bytes = ap (λ n. bytes_through n bytes) (omega (arith, given)) in
    omega (arith, (known_some old a bytes e).0, given, past.consumed, through, first_size old.line bytes none)

-- and after a warm-up
pub room_after_warmup : (old now : Position) (a : Option (List ℕ)) (bytes : List ℕ) → known old a ≡ Some bytes → now.line ≡ old.line + 2 → IsPast old now bytes → is_warmup (line_text 2 bytes) ≡ true
    → first_fault (old.line + 0 + 1) lower (after_lines 0 bytes) ≡ None → tenth_fault (old.line + 1 + 1) (after_lines 1 bytes) ≡ None → now.consumed + 16 ≤ 64 * now.line
room_after_warmup old now a bytes e given past stated none also =
    let through : bytes_through (now.line - old.line) bytes ≡ bytes_through 2 bytes = ap (λ n. bytes_through n bytes) (omega (arith, given)) in
    omega (arith, (known_some old a bytes e).0, given, past.consumed, through, first_size old.line bytes none, second_size old.line bytes (tenth_as old.line bytes true stated also))

-- what the lines state
abbrev pub tail_of : ℕ → ℕ → Budget → Tail
tail_of l w b = record { lower = l; warmup = w; budget = b }

pub tail_same : (l l' w w' : ℕ) (b b' : Budget) → l ≡ l' → w ≡ w' → b ≡ b' → tail_of l w b ≡ tail_of l' w' b'
tail_same l l' w w' b b' p q r = rw (p, q, r) refl

pub plain_tail : (bytes : List ℕ) (l : ℕ) (b : Budget) → l ≡ number_at 1 (first_text (after_lines 0 bytes)) → Stated b ≡ tenth_in (first_text (after_lines 1 bytes)) → tail_of l 0 b ≡ tail_in bytes
plain_tail bytes l b first second =
    let stated = tenth_stated (line_text 2 bytes) b second in
    tail_same l _ 0 _ b _ (first ∙ ap (λ x. number_at 1 (first_text x)) (after_lines-zero bytes)) (sym (ap (λ c. cond c (number_at 1 (line_text 2 bytes)) 0) stated.0))
    (stated.1 ∙ sym (ap (λ c. budget_in (cond c (line_text 3 bytes) (line_text 2 bytes))) stated.0))

pub warm_tail : (bytes : List ℕ) (l w : ℕ) (b : Budget) → l ≡ number_at 1 (first_text (after_lines 0 bytes)) → Warmup w ≡ tenth_in (first_text (after_lines 1 bytes)) → b ≡ budget_in (first_text (after_lines 2 bytes)) → tail_of l w b ≡ tail_in bytes
warm_tail bytes l w b first second third =
    let stated = tenth_warm (line_text 2 bytes) w second in
    tail_same l _ w _ b _ (first ∙ ap (λ x. number_at 1 (first_text x)) (after_lines-zero bytes)) (stated.1 ∙ sym (ap (λ c. cond c (number_at 1 (line_text 2 bytes)) 0) stated.0))
    (third ∙ sym (ap (λ c. budget_in (cond c (line_text 3 bytes) (line_text 2 bytes))) stated.0))
