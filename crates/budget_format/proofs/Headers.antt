-- The lines before the records: what is written is read, and what is read is what is written.
use Rattle.std.proofs.Common.{◌≡◌, ℕ, ◌+◌, ◌-◌, ◌^◌, ◌<◌, ◌≤◌, ◌∙◌, sym, refl, ap, List, [], ◌∷◌, ◌++◌, append_assoc, length, get_or, cond, Bool, true, false, not, ◌==◌, arith, codes, decimal, slice_index_or, None}
use Rattle.std.specs.Str.{bytes_eq}
use Rattle.std.proofs.lemmas.Bool.{eqb-true, eqb-false, ne_eqb}
use Rattle.cache_model.specs.declared.objects.Objective.{Objective}
use Rattle.cache_model.specs.Texts.{text_of, entry, objective_word}
use Rattle.cert_format.specs.Grammar.{Slot, number_at}
use Rattle.cert_format.specs.Readings.{after_lines, is_warmup, line_text, lines_fault, objective_in, warmup_in}
use Rattle.cert_format.proofs.Words.{words-append}
use Rattle.cert_format.proofs.Shapes.{fixed_fits, fixed_only}
use Rattle.cert_format.proofs.Spellings.{entry_line, number_fits, number_spelled, objective_fits, objective_line, objective_spelled}
use Rattle.cert_format.proofs.Headers.{after_lines-zero}
use Rattle.budget_format.specs.declared.certificates.BudgetHeader.{BudgetHeader}
use Rattle.budget_format.specs.Budgets.{IsBudgetHeader}
use Rattle.budget_format.specs.Texts.{budget_line, header_len, header_lines, warmup_lines}
use Rattle.budget_format.specs.Grammar.{header_slots, last_slots}
use Rattle.budget_format.specs.Readings.{budget_text, header_fault, header_in}
use Rattle.budget_format.proofs.Fits.{Fit, Stand, after_texts, fit_none, lines_stand, stand_text, text_at, texts_in, wide}
use Rattle.budget_format.proofs.BudgetSpellings.{IsBudgetText, budget_fits, budget_spelled, budget_wide}

-- the line of a warm-up, if there is one
warmup_by : Bool → ℕ → List (List ℕ)
warmup_by none w = cond none [] (entry (codes "warmup") w ∷ [])

-- the last lines of a warm-up, a budget and its price
abbrev pub lasts : ℕ → ℕ → ℕ → List (List ℕ)
lasts w bytes price = warmup_lines w ++ budget_line bytes price ∷ codes "records" ∷ []

-- what the last lines state, and that they are its lines
record IsLastPart (bytes : List ℕ) (slots : List (List Slot)) (w : ℕ) (text : List ℕ) : Type 0 where
  warmup : w ≤ 2 ^ 25
  budget : IsBudgetText text
  lines : texts_in slots 9 bytes ≡ lasts w (number_at 1 text) (number_at 3 text)

two_same : (a b a' b' : List ℕ) → a ≡ a' → b ≡ b' → a ∷ b ∷ [] ≡ a' ∷ b' ∷ []
two_same a b a' b' p q = rw (p, q) refl

three_same : (a b d a' b' d' : List ℕ) → a ≡ a' → b ≡ b' → d ≡ d' → a ∷ b ∷ d ∷ [] ≡ a' ∷ b' ∷ d' ∷ []
three_same a b d a' b' d' p q r = rw (p, q, r) refl

last_spelled : (bytes : List ℕ) (warm : Bool) → Stand (last_slots warm) 9 bytes
    → IsLastPart bytes (last_slots warm) (cond warm (number_at 1 (line_text 10 bytes)) 0) (cond warm (line_text 11 bytes) (line_text 10 bytes))
unfolding warmup_by
last_spelled bytes true stand =
    let w = number_at 1 (line_text 10 bytes) in
    let is = number_spelled (codes "warmup") 1 (2 ^ 25) (line_text 10 bytes) stand.0.fits (omega arith) in
    let budget = budget_spelled (line_text 11 bytes) stand.1.0.fits in
    let first : warmup_lines w ≡ entry (codes "warmup") w ∷ [] = ap (λ none. warmup_by none w) (ne_eqb w 0 (λ e. omega (arith, e, is.0))) in
    record {
      warmup = is.1;
      budget = budget;
      lines = three_same _ _ _ _ _ _ is.2 budget.text_is (fixed_only (codes "records") (line_text 12 bytes) stand.1.1.0.fits) ∙ ap (λ ls. ls ++ budget_line (number_at 1 (line_text 11 bytes)) (number_at 3 (line_text 11 bytes)) ∷ codes "records" ∷ []) (sym first);
    }
last_spelled bytes false stand =
    let budget = budget_spelled (line_text 10 bytes) stand.0.fits in
    record {
      warmup = omega arith;
      budget = budget;
      lines = two_same _ _ _ _ budget.text_is (fixed_only (codes "records") (line_text 11 bytes) stand.1.0.fits);
    }

lines_same : (a b d e f g h i j a' b' d' e' f' g' h' i' j' : List ℕ) (last last' : List (List ℕ)) → a ≡ a' → b ≡ b' → d ≡ d' → e ≡ e' → f ≡ f' → g ≡ g' → h ≡ h' → i ≡ i' → j ≡ j' → last ≡ last'
    → a ∷ b ∷ d ∷ e ∷ f ∷ g ∷ h ∷ i ∷ j ∷ last ≡ a' ∷ b' ∷ d' ∷ e' ∷ f' ∷ g' ∷ h' ∷ i' ∷ j' ∷ last'
lines_same a b d e f g h i j a' b' d' e' f' g' h' i' j' last last' p0 p1 p2 p3 p4 p5 p6 p7 p8 p9 = rw (p0, p1, p2, p3, p4, p5, p6, p7, p8, p9) refl

-- the header of some bytes is in range, and its lines are their prefix
pub header_spelled : (bytes : List ℕ) → header_fault bytes ≡ None → IsBudgetHeader (header_in bytes) × (bytes ≡ text_of (header_lines (header_in bytes)) ++ after_lines (header_len (header_in bytes)) bytes)
unfolding header_in header_len
header_spelled bytes none =
    let capacity = number_at 1 (line_text 3 bytes) in
    let warm = is_warmup (line_text 10 bytes) in
    let slots = header_slots capacity warm in
    let stand = lines_stand 1 0 slots bytes (ap (lines_fault 1 slots) (after_lines-zero bytes) ∙ none) in
    let at0 = fixed_only (codes "cache-bound-certificate 3") (line_text 1 bytes) stand.0.fits in
    let s1 = stand.1 in
    let at1 = objective_spelled (line_text 2 bytes) s1.0.fits in
    let s2 = s1.1 in
    let at2 = number_spelled (codes "capacity") 1 (2 ^ 56) (line_text 3 bytes) s2.0.fits (omega arith) in
    let s3 = s2.1 in
    let at3 = number_spelled (codes "requests") 0 (2 ^ 25) (line_text 4 bytes) s3.0.fits (omega arith) in
    let s4 = s3.1 in
    let at4 = number_spelled (codes "unit") 1 capacity (line_text 5 bytes) s4.0.fits (omega (arith, at2.1)) in
    let s5 = s4.1 in
    let at5 = number_spelled (codes "denominator") 1 (2 ^ 48) (line_text 6 bytes) s5.0.fits (omega arith) in
    let s6 = s5.1 in
    let at6 = fixed_only (codes "form plain") (line_text 7 bytes) s6.0.fits in
    let s7 = s6.1 in
    let at7 = number_spelled (codes "upper") 0 (2 ^ 127 - 1) (line_text 8 bytes) s7.0.fits (omega arith) in
    let s8 = s7.1 in
    let at8 = number_spelled (codes "lower") 0 (2 ^ 127 - 1) (line_text 9 bytes) s8.0.fits (omega arith) in
    let last = last_spelled bytes warm s8.1 in
    let texts : texts_in slots 0 bytes ≡ header_lines (header_in bytes) = lines_same _ _ _ _ _ _ _ _ _ _ _ _ _ _ _ _ _ _ _ _ at0 at1 at2.2 at3.2 at4.2 at5.2 at6 at7.2 at8.2 last.lines in (
      record {
        capacity = (at2.0, at2.1);
        requests = at3.1;
        unit = (at4.0, at4.1);
        denominator = (at5.0, at5.1);
        upper = omega (arith, at7.1);
        lower = omega (arith, at8.1);
        warmup = last.warmup;
        budget = last.budget.bytes;
        price = last.budget.price;
      },
      sym (after_lines-zero bytes) ∙ (stand_text slots 0 bytes stand ∙ ap (λ ts. text_of ts ++ after_lines (0 + length ts) bytes) texts ∙ by (header_lines (header_in bytes))),
    )
  where
    by : (texts : List (List ℕ)) → text_of texts ++ after_lines (0 + length texts) bytes ≡ text_of texts ++ after_lines (length texts) bytes
    by texts = let same : 0 + length texts ≡ length texts = omega arith in ap (λ n. text_of texts ++ after_lines n bytes) same

-- the last lines of a header in range
last_fits : (w bytes price : ℕ) → w ≤ 2 ^ 25 → bytes ≤ 2 ^ 80 → price ≤ 2 ^ 126 → Fit (last_slots (not (w == 0))) (lasts w bytes price)
unfolding warmup_by
last_fits w bytes price small few low = by (w == 0) refl
  where
    others : Fit (last_slots false) (budget_line bytes price ∷ codes "records" ∷ [])
    others = (budget_wide bytes price few low, (budget_fits bytes price few low).none, ((refl, omega arith), fixed_fits (codes "records"), tt))

    by : (none : Bool) → (w == 0) ≡ none → Fit (last_slots (not none)) (warmup_by none w ++ budget_line bytes price ∷ codes "records" ∷ [])
    by true is = others
    by false is =
        let some : 1 ≤ w = omega (arith, eqb-false w 0 is) in
        (wide (entry (codes "warmup") w) (entry_line (codes "warmup") w refl (omega arith) (omega (arith, small))), (number_fits (codes "warmup") 1 (2 ^ 25) w refl some small (omega (arith, small))).0, others)

-- the lines of a header in range
header_fits : (h : BudgetHeader) → IsBudgetHeader h → Fit (header_slots h.capacity (not (h.warmup == 0))) (header_lines h)
header_fits h range =
    let capacity : h.capacity < 2 ^ 127 = omega (arith, range.capacity) in
    let requests : h.requests < 2 ^ 127 = omega (arith, range.requests) in
    let unit : h.unit < 2 ^ 127 = omega (arith, range.unit, range.capacity) in
    let denominator : h.denominator < 2 ^ 127 = omega (arith, range.denominator) in (
      (refl, omega arith),
      fixed_fits (codes "cache-bound-certificate 3"),
      (
        wide (codes "objective " ++ objective_word h.objective) (objective_line h.objective),
        (objective_fits h.objective).0,
        (
          wide (entry (codes "capacity") h.capacity) (entry_line (codes "capacity") h.capacity refl (omega arith) capacity),
          (number_fits (codes "capacity") 1 (2 ^ 56) h.capacity refl range.capacity.0 range.capacity.1 (omega (arith, capacity))).0,
          (
            wide (entry (codes "requests") h.requests) (entry_line (codes "requests") h.requests refl (omega arith) requests),
            (number_fits (codes "requests") 0 (2 ^ 25) h.requests refl (omega arith) range.requests (omega (arith, requests))).0,
            (
              wide (entry (codes "unit") h.unit) (entry_line (codes "unit") h.unit refl (omega arith) unit),
              (number_fits (codes "unit") 1 h.capacity h.unit refl range.unit.0 range.unit.1 (omega (arith, unit))).0,
              (
                wide (entry (codes "denominator") h.denominator) (entry_line (codes "denominator") h.denominator refl (omega arith) denominator),
                (number_fits (codes "denominator") 1 (2 ^ 48) h.denominator refl range.denominator.0 range.denominator.1 (omega (arith, denominator))).0,
                (
                  (refl, omega arith),
                  fixed_fits (codes "form plain"),
                  (
                    wide (entry (codes "upper") h.upper) (entry_line (codes "upper") h.upper refl (omega arith) range.upper),
                    (number_fits (codes "upper") 0 (2 ^ 127 - 1) h.upper refl (omega arith) (omega (arith, range.upper)) (omega (arith, range.upper))).0,
                    (
                      wide (entry (codes "lower") h.lower) (entry_line (codes "lower") h.lower refl (omega arith) range.lower),
                      (number_fits (codes "lower") 0 (2 ^ 127 - 1) h.lower refl (omega arith) (omega (arith, range.lower)) (omega (arith, range.lower))).0,
                      last_fits h.warmup h.budget h.price range.warmup range.budget range.price,
                    ),
                  ),
                ),
              ),
            ),
          ),
        ),
      ),
    )

-- the tenth line, by whether it states a warm-up, and the line of the budget
record IsTenth (w bytes price : ℕ) (tenth : List ℕ) (budget : List ℕ) : Type 0 where
  warm : is_warmup tenth ≡ not (w == 0)
  stated : warmup_in tenth ≡ w
  budget_is : budget ≡ budget_line bytes price

three_join : (a b d : List ℕ) → (((a ++ 32 ∷ []) ++ b) ++ 32 ∷ []) ++ d ≡ a ++ 32 ∷ (b ++ 32 ∷ d)
three_join a b d = simp append_assoc

-- the line of a budget states no warm-up
no_warmup : (bytes price : ℕ) → is_warmup (budget_line bytes price) ≡ false
no_warmup bytes price =
    let rest = entry (codes "price") price in
    ap is_warmup (three_join (codes "budget") (decimal bytes) rest) ∙ ap (λ ws. bytes_eq (slice_index_or ws 0 []) (codes "warmup")) (words-append (codes "budget") (decimal bytes ++ 32 ∷ rest))

tenth : (w bytes price : ℕ) → w ≤ 2 ^ 25 → IsTenth w bytes price (get_or (lasts w bytes price) 0 []) (cond (not (w == 0)) (get_or (lasts w bytes price) 1 []) (get_or (lasts w bytes price) 0 []))
unfolding warmup_by
tenth w bytes price small = by (w == 0) refl
  where
    all : Bool → List (List ℕ)
    all none = warmup_by none w ++ budget_line bytes price ∷ codes "records" ∷ []

    named : (word : List ℕ) → is_warmup (codes "warmup" ++ 32 ∷ word) ≡ true
    named word = ap (λ ws. bytes_eq (slice_index_or ws 0 []) (codes "warmup")) (words-append (codes "warmup") word)

    made : (none : Bool) → (w == 0) ≡ none → (is_warmup (get_or (all none) 0 []) ≡ not none) → (warmup_in (get_or (all none) 0 []) ≡ w) → (cond (not none) (get_or (all none) 1 []) (get_or (all none) 0 []) ≡ budget_line bytes price)
        → IsTenth w bytes price (get_or (all none) 0 []) (cond (not none) (get_or (all none) 1 []) (get_or (all none) 0 []))
    made none is p q r = record { warm = p ∙ ap not (sym is); stated = q; budget_is = r }

    by : (none : Bool) → (w == 0) ≡ none → IsTenth w bytes price (get_or (all none) 0 []) (cond (not none) (get_or (all none) 1 []) (get_or (all none) 0 []))
    by true is = made true is (no_warmup bytes price) (ap (λ b. cond b (number_at 1 (budget_line bytes price)) 0) (no_warmup bytes price) ∙ sym (eqb-true w 0 is)) refl
    by false is =
        let some : 1 ≤ w = omega (arith, eqb-false w 0 is) in
        let first : is_warmup (entry (codes "warmup") w) ≡ true = ap is_warmup (append_assoc (codes "warmup") (32 ∷ []) (decimal w)) ∙ named (decimal w) in
        made false is first (ap (λ b. cond b (number_at 1 (entry (codes "warmup") w)) 0) first ∙ (number_fits (codes "warmup") 1 (2 ^ 25) w refl some small (omega (arith, small))).1) refl

-- there are two last lines at least
some_last : (w bytes price : ℕ) → 2 ≤ length (lasts w bytes price)
unfolding warmup_by
some_last w bytes price = by (w == 0)
  where
    by : (none : Bool) → 2 ≤ length (warmup_by none w ++ budget_line bytes price ∷ codes "records" ∷ [])
    by true = omega arith
    by false = omega arith

unfoldable header_from : Objective → ℕ → ℕ → ℕ → ℕ → ℕ → ℕ → ℕ → ℕ → ℕ → BudgetHeader
header_from o c n u d v l w b q = record { objective = o; capacity = c; requests = n; unit = u; denominator = d; upper = v; lower = l; warmup = w; budget = b; price = q }

-- a header in range that is written is read
pub header_read : (h : BudgetHeader) (rest : List ℕ) → IsBudgetHeader h
    → (header_fault (text_of (header_lines h) ++ rest) ≡ None) × (header_in (text_of (header_lines h) ++ rest) ≡ h) × (after_lines (header_len h) (text_of (header_lines h) ++ rest) ≡ rest)
unfolding header_in header_from header_len
header_read h rest range =
    let fit = header_fits h range in
    let bytes = text_of (header_lines h) ++ rest in
    let warm = not (h.warmup == 0) in
    let lines = header_slots h.capacity warm in
    let texts = header_lines h in
    let o : objective_in (line_text 2 bytes) ≡ h.objective = ap objective_in (text_at lines texts rest 1 fit (omega arith)) ∙ (objective_fits h.objective).1 in
    let c : number_at 1 (line_text 3 bytes) ≡ h.capacity = ap (number_at 1) (text_at lines texts rest 2 fit (omega arith)) ∙ (number_fits (codes "capacity") 1 (2 ^ 56) h.capacity refl range.capacity.0 range.capacity.1 (omega (arith, range.capacity))).1 in
    let n : number_at 1 (line_text 4 bytes) ≡ h.requests = ap (number_at 1) (text_at lines texts rest 3 fit (omega arith)) ∙ (number_fits (codes "requests") 0 (2 ^ 25) h.requests refl (omega arith) range.requests (omega (arith, range.requests))).1 in
    let u : number_at 1 (line_text 5 bytes) ≡ h.unit = ap (number_at 1) (text_at lines texts rest 4 fit (omega arith)) ∙ (number_fits (codes "unit") 1 h.capacity h.unit refl range.unit.0 range.unit.1 (omega (arith, range.unit, range.capacity))).1 in
    let d : number_at 1 (line_text 6 bytes) ≡ h.denominator = ap (number_at 1) (text_at lines texts rest 5 fit (omega arith)) ∙ (number_fits (codes "denominator") 1 (2 ^ 48) h.denominator refl range.denominator.0 range.denominator.1 (omega (arith, range.denominator))).1 in
    let v : number_at 1 (line_text 8 bytes) ≡ h.upper = ap (number_at 1) (text_at lines texts rest 7 fit (omega arith)) ∙ (number_fits (codes "upper") 0 (2 ^ 127 - 1) h.upper refl (omega arith) (omega (arith, range.upper)) (omega (arith, range.upper))).1 in
    let l : number_at 1 (line_text 9 bytes) ≡ h.lower = ap (number_at 1) (text_at lines texts rest 8 fit (omega arith)) ∙ (number_fits (codes "lower") 0 (2 ^ 127 - 1) h.lower refl (omega arith) (omega (arith, range.lower)) (omega (arith, range.lower))).1 in
    let last = lasts h.warmup h.budget h.price in
    let line10 : line_text 10 bytes ≡ get_or last 0 [] = text_at lines texts rest 9 fit (omega (arith, some_last h.warmup h.budget h.price)) in
    let line11 : line_text 11 bytes ≡ get_or last 1 [] = text_at lines texts rest 10 fit (omega (arith, some_last h.warmup h.budget h.price)) in
    let is = tenth h.warmup h.budget h.price range.warmup in
    let is_warm : is_warmup (line_text 10 bytes) ≡ warm = ap is_warmup line10 ∙ is.warm in
    let w : warmup_in (line_text 10 bytes) ≡ h.warmup = ap warmup_in line10 ∙ is.stated in
    let budget : budget_text bytes ≡ budget_line h.budget h.price = rw (is_warm, line10, line11) is.budget_is in
    let fits = budget_fits h.budget h.price range.budget range.price in
    let b : number_at 1 (budget_text bytes) ≡ h.budget = ap (number_at 1) budget ∙ fits.bytes_is in
    let q : number_at 3 (budget_text bytes) ≡ h.price = ap (number_at 3) budget ∙ fits.price_is in
    let same : header_from (objective_in (line_text 2 bytes)) (number_at 1 (line_text 3 bytes)) (number_at 1 (line_text 4 bytes)) (number_at 1 (line_text 5 bytes)) (number_at 1 (line_text 6 bytes))
    (number_at 1 (line_text 8 bytes)) (number_at 1 (line_text 9 bytes)) (warmup_in (line_text 10 bytes)) (number_at 1 (budget_text bytes)) (number_at 3 (budget_text bytes))
    ≡ header_from h.objective h.capacity h.requests h.unit h.denominator h.upper h.lower h.warmup h.budget h.price = from_same _ _ _ _ _ _ _ _ _ _ _ _ _ _ _ _ _ _ _ _ o c n u d v l w b q in
    (ap (λ cap. lines_fault 1 (header_slots cap (is_warmup (line_text 10 bytes))) bytes) c ∙ (ap (λ b. lines_fault 1 (header_slots h.capacity b) bytes) is_warm ∙ fit_none 1 lines texts rest fit), same, after_texts lines texts rest fit)
  where
    from_same : (o o' : Objective) (c c' n n' u u' d d' v v' l l' w w' b b' q q' : ℕ) → o ≡ o' → c ≡ c' → n ≡ n' → u ≡ u' → d ≡ d' → v ≡ v' → l ≡ l' → w ≡ w' → b ≡ b' → q ≡ q'
        → header_from o c n u d v l w b q ≡ header_from o' c' n' u' d' v' l' w' b' q'
    from_same o o' c c' n n' u u' d d' v v' l l' w w' b b' q q' p0 p1 p2 p3 p4 p5 p6 p7 p8 p9 = rw (p0, p1, p2, p3, p4, p5, p6, p7, p8, p9) refl
