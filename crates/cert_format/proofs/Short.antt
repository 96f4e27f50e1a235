-- The lines of a certificate have few bytes.
use Rattle.std.proofs.Common.{◌≡◌, ℕ, ◌+◌, ◌^◌, ◌≤◌, ◌<◌, ap, List, ◌∷◌, ◌++◌, length, arith, codes, decimal, cond, Bool, true, false, not, ◌==◌, None, Some, Option, Result, IfOk, sym, refl, subst, inl, inr, ◌⊎◌}
use Rattle.std.proofs.lemmas.Bool.{ne_eqb}
use Rattle.std.proofs.lemmas.List.{length-append}
use Rattle.cache_model.specs.declared.certificates.Record.{Record}
use Rattle.cache_model.specs.Certificates.{IsRecordInRange}
use Rattle.cert_format.specs.declared.fault.TextKind.{TextKind}
use Rattle.cert_format.specs.declared.fault.CertFault.{CertFault}
use Rattle.cert_format.specs.Lines.{of_line}
use Rattle.cert_format.specs.Grammar.{value_unless, line_fault, fixed_line, choice_line, number_line, record_slots, number_at}
use Rattle.cert_format.specs.Parts.{warmup_slots}
use Rattle.cert_format.specs.Readings.{is_warmup, record_in, warmup_in}
use Rattle.cert_format.proofs.Words.{text_of_two}
use Rattle.cert_format.proofs.Shapes.{fixed_only, text_choice}
use Rattle.cert_format.proofs.Spellings.{number_spelled}
use Rattle.cert_format.proofs.RecordSpellings.{record_spelled, record_is_line}
use Rattle.cert_format.proofs.Decimals.{length-decimal}

pub fixed_short : (line text : List ℕ) → line_fault (fixed_line line) text ≡ None → length line ≤ 63 → length text ≤ 63
fixed_short line text fits short = omega (arith, ap length (fixed_only line text fits), short)

pub number_short : (name : List ℕ) (low high : ℕ) (text : List ℕ) → line_fault (number_line name low high) text ≡ None → length name ≤ 20 → high < 2 ^ 127 → length text ≤ 63
number_short name low high text fits short small =
    let is = number_spelled name low high text fits (omega (arith, small)) in
    let n = number_at 1 text in
    omega (arith, ap length is.2, length-append (name ++ codes " ") (decimal n), length-append name (codes " "), length-decimal 39 n (omega arith) (omega (arith, is.1, small)) (omega (arith, is.1, small)), short)

pub choice_short : (name first second text : List ℕ) → line_fault (choice_line name first second) text ≡ None → length name ≤ 23 → length first ≤ 20 → length second ≤ 20 → length text ≤ 63
choice_short name first second text fits short one two =
    let parts = text_choice name first second text fits in
    let is = text_of_two text name parts.0 parts.1 in
    let size : length text ≡ length name + (length parts.0 + 1) = omega (arith, ap length is, length-append name (32 ∷ parts.0)) in
    by parts.0 size parts.2
  where
    by : (word : List ℕ) → length text ≡ length name + (length word + 1) → (word ≡ first) ⊎ (word ≡ second) → length text ≤ 63
    by word size (inl same) = omega (arith, size, ap length same, short, one)
    by word size (inr same) = omega (arith, size, ap length same, short, two)

pub record_short : (version before : ℕ) (text : List ℕ) → before ≤ 2 ^ 126 → line_fault (record_slots version before text) text ≡ None → length text ≤ 63
record_short version before text small fits =
    let is = record_spelled version before text small fits in
    omega (arith, ap length is.1, (record_is_line version before (record_in version before text) is.0).1)

-- the line where a warm-up would stand
pub warmup_short : (text : List ℕ) → line_fault (warmup_slots text) text ≡ None → length text ≤ 63
warmup_short text fits = by (is_warmup text) fits
  where
    by : (warm : Bool) → line_fault (cond warm (number_line (codes "warmup") 1 (2 ^ 25)) (fixed_line (codes "records"))) text ≡ None → length text ≤ 63
    by true fit = number_short (codes "warmup") 1 (2 ^ 25) text fit (omega arith) (omega arith)
    by false fit = fixed_short (codes "records") text fit (omega arith)

-- a warm-up without a fault is in range, and positive where its line states one
pub warmup_range : (text : List ℕ) → line_fault (warmup_slots text) text ≡ None → (warmup_in text ≤ 2 ^ 25) × (is_warmup text ≡ (not (warmup_in text == 0)))
warmup_range text fits = by (is_warmup text) fits
  where
    by : (warm : Bool) → line_fault (cond warm (number_line (codes "warmup") 1 (2 ^ 25)) (fixed_line (codes "records"))) text ≡ None
        → (cond warm (number_at 1 text) 0 ≤ 2 ^ 25) × (warm ≡ (not (cond warm (number_at 1 text) 0 == 0)))
    by true fit =
        let is = number_spelled (codes "warmup") 1 (2 ^ 25) text fit (omega arith) in
        (is.1, sym (ap not (ne_eqb (number_at 1 text) 0 (λ none. omega (arith, none, is.0)))))
    by false fit = (omega arith, refl)

-- a record that is given is in range
pub in_range_of_line : (version before n : ℕ) (text : List ℕ) (result : Result Record CertFault) → before ≤ 2 ^ 126
    → result ≡ of_line n (value_unless (line_fault (record_slots version before text) text) (record_in version before text)) → IfOk result IsRecordInRange
in_range_of_line version before n text result small is = subst (λ r. IfOk r IsRecordInRange) (sym is) (by (line_fault (record_slots version before text) text) refl)
  where
    by : (o : Option TextKind) → line_fault (record_slots version before text) text ≡ o → IfOk (of_line n (value_unless o (record_in version before text))) IsRecordInRange
    by None fits = (record_spelled version before text small fits).0
    by (Some kind) fault = tt

-- and so is a warm-up
pub warmup_of_line : (n : ℕ) (text : List ℕ) (result : Result ℕ CertFault) → result ≡ of_line n (value_unless (line_fault (warmup_slots text) text) (warmup_in text)) → IfOk result (λ w. w ≤ 2 ^ 25)
warmup_of_line n text result is = subst (λ r. IfOk r (λ w. w ≤ 2 ^ 25)) (sym is) (by (line_fault (warmup_slots text) text) refl)
  where
    by : (o : Option TextKind) → line_fault (warmup_slots text) text ≡ o → IfOk (of_line n (value_unless o (warmup_in text))) (λ w. w ≤ 2 ^ 25)
    by None fits = (warmup_range text fits).0
    by (Some kind) fault = tt
