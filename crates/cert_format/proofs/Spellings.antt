-- Each line has one spelling: what is written is read, and what is read is what is written.
use Rattle.std.proofs.Common.{◌≡◌, ℕ, zero, suc, ◌^◌, ◌≤◌, ◌<◌, ◌∙◌, sym, refl, ap, subst, Bool, true, false, ◌&&◌, ◌==◌, List, [], ◌∷◌, ◌++◌, append_assoc, length, arith, decimal, codes, Some, None, inl, inr, ◌⊎◌}
use Rattle.std.specs.Prelude.{nat_le}
use Rattle.std.specs.Fmt.{digits}
use Rattle.std.specs.List.{list_any}
use Rattle.std.specs.Str.{bytes_eq}
use Rattle.std.proofs.lemmas.Bool.{cases_Bool, and_parts, leb-true, le-leb, or_from}
use Rattle.std.proofs.lemmas.List.{length-append}
use Rattle.std.proofs.lemmas.List.Folds.{list_any-append}
use Rattle.cache_model.specs.declared.objects.Objective.{Objective}
use Rattle.cache_model.specs.declared.objects.Objective.TheVariants.{Object as Hits, Bytes}
use Rattle.cache_model.specs.declared.version.TheConstants.{CERT_VERSION, SHORT_VERSION}
use Rattle.cache_model.specs.Texts.{entry, objective_word, form_word}
use Rattle.cert_format.specs.declared.fault.TextKind.TheVariants.{Number, Range}
use Rattle.cert_format.specs.Grammar.{Within, words, line_fault, number_line, choice_line, number_fault, number_at, number_in, word_at, is_canonical}
use Rattle.cert_format.specs.Readings.{objective_in, version_in}
use Rattle.cert_format.proofs.Words.{words-append, words_lone, text_of_two}
use Rattle.cert_format.proofs.Shapes.{number_text, text_number, text_choice}
use Rattle.cert_format.proofs.Decimals.{number_in-decimal, digits-decimal, canonical-decimal, some-decimal, lacks-digits, decimal-number_in, length-decimal}

-- a canonical number within its ends has no fault
pub fits_range : (low high n : ℕ) → low ≤ n → n ≤ high → n < 10 ^ 64 → number_fault (Within low high) (decimal n) ≡ None
fits_range low high n above below small =
    rw (canonical-decimal n small, number_in-decimal n small, le-leb low n above, le-leb n high below) refl

-- a number without a fault is canonical, and within its ends
pub range_fits : (low high : ℕ) (word : List ℕ) → number_fault (Within low high) word ≡ None → (is_canonical word ≡ true) × (low ≤ number_in word) × (number_in word ≤ high)
range_fits low high word fits = by (cases_Bool (is_canonical word)) (cases_Bool (nat_le low (number_in word) && nat_le (number_in word) high))
  where
    by : (is_canonical word ≡ true) ⊎ (is_canonical word ≡ false) → ((nat_le low (number_in word) && nat_le (number_in word) high) ≡ true) ⊎ ((nat_le low (number_in word) && nat_le (number_in word) high) ≡ false)
        → (is_canonical word ≡ true) × (low ≤ number_in word) × (number_in word ≤ high)
    by (inr other) within = let wrong : Some Number ≡ None = rw other at fits in cc
    by (inl canonical) (inl within) =
        let ends = and_parts (nat_le low (number_in word)) (nat_le (number_in word) high) within in
        (canonical, leb-true low (number_in word) ends.0, leb-true (number_in word) high ends.1)
    by (inl canonical) (inr outside) = let wrong : Some Range ≡ None = rw (canonical, outside) at fits in cc

pub words-decimal : (n : ℕ) → n < 10 ^ 64 → words (decimal n) ≡ decimal n ∷ []
words-decimal n small = words_lone (decimal n) (lacks-digits 32 (decimal n) (omega arith) (digits-decimal n small))

pub space_between : (a b : List ℕ) → (a ++ 32 ∷ []) ++ b ≡ a ++ 32 ∷ b
space_between a b = append_assoc a (32 ∷ []) b

words-entry : (name : List ℕ) (n : ℕ) → words name ≡ name ∷ [] → n < 10 ^ 64 → words (entry name n) ≡ name ∷ decimal n ∷ []
words-entry name n lone small =
    ap words (space_between name (decimal n)) ∙ (words-append name (decimal n) ∙ (ap (λ ps. ps ++ words (decimal n)) lone ∙ ap (λ ps. name ∷ ps) (words-decimal n small)))

-- the line of a number
pub number_fits : (name : List ℕ) (low high n : ℕ) → words name ≡ name ∷ [] → low ≤ n → n ≤ high → n < 10 ^ 64
    → (line_fault (number_line name low high) (entry name n) ≡ None) × (number_at 1 (entry name n) ≡ n)
number_fits name low high n lone above below small =
    let read = number_text name low high (entry name n) (decimal n) (words-entry name n lone small) (some-decimal n small) in
    (read.0 ∙ fits_range low high n above below small, read.1 ∙ number_in-decimal n small)

pub number_spelled : (name : List ℕ) (low high : ℕ) (text : List ℕ) → line_fault (number_line name low high) text ≡ None → high < 10 ^ 64
    → (low ≤ number_at 1 text) × (number_at 1 text ≤ high) × (text ≡ entry name (number_at 1 text))
number_spelled name low high text fits small =
    let parts = text_number name low high text fits in
    let word = parts.0 in
    let range = range_fits low high word parts.3 in
    let value = (number_text name low high text word parts.1 parts.2).1 in
    let digits : decimal (number_in word) ≡ word = decimal-number_in word range.0 (omega (arith, range.2, small)) in (
      omega (arith, value, range.1),
      omega (arith, value, range.2),
      text_of_two text name word parts.1 ∙ (ap (λ w. name ++ 32 ∷ w) (sym digits) ∙ (sym (space_between name (decimal (number_in word))) ∙ ap (entry name) (sym value))),
    )

-- the lines of a choice
pub objective_fits : (o : Objective) → (line_fault (choice_line (codes "objective") (codes "object") (codes "bytes")) (codes "objective " ++ objective_word o) ≡ None) × (objective_in (codes "objective " ++ objective_word o) ≡ o)
objective_fits Hits = (refl, refl)
objective_fits Bytes = (refl, refl)

-- the first line
pub version_fits : (n : ℕ) → CERT_VERSION ≤ n → n ≤ SHORT_VERSION
    → (line_fault (choice_line (codes "cache-bound-certificate") (codes "1") (codes "2")) (entry (codes "cache-bound-certificate") n) ≡ None) × (version_in (entry (codes "cache-bound-certificate") n) ≡ n)
unfolding digits
version_fits zero some few = absurd (omega arith)
version_fits (suc zero) some few = (refl, refl)
version_fits (suc (suc zero)) some few = (refl, refl)
version_fits (suc (suc (suc n))) some few = absurd (omega arith)

pub version_spelled : (text : List ℕ) → line_fault (choice_line (codes "cache-bound-certificate") (codes "1") (codes "2")) text ≡ None
    → (text ≡ entry (codes "cache-bound-certificate") (version_in text)) × (CERT_VERSION ≤ version_in text) × (version_in text ≤ SHORT_VERSION)
unfolding digits
version_spelled text fits =
    let parts = text_choice (codes "cache-bound-certificate") (codes "1") (codes "2") text fits in
    by parts.0 (text_of_two text (codes "cache-bound-certificate") parts.0 parts.1) parts.2
  where
    Spelled : List ℕ → Type 0
    Spelled t = (t ≡ entry (codes "cache-bound-certificate") (version_in t)) × (CERT_VERSION ≤ version_in t) × (version_in t ≤ SHORT_VERSION)

    by : (word : List ℕ) → text ≡ codes "cache-bound-certificate" ++ 32 ∷ word → (word ≡ codes "1") ⊎ (word ≡ codes "2") → Spelled text
    by word is (inl one) =
        let all : text ≡ codes "cache-bound-certificate 1" = is ∙ ap (λ w. codes "cache-bound-certificate" ++ 32 ∷ w) one in
        subst Spelled (sym all) (refl, omega arith, omega arith)
    by word is (inr other) =
        let all : text ≡ codes "cache-bound-certificate 2" = is ∙ ap (λ w. codes "cache-bound-certificate" ++ 32 ∷ w) other in
        subst Spelled (sym all) (refl, omega arith, omega arith)

pub form_fits : (exact : Bool) → (line_fault (choice_line (codes "form") (codes "exact") (codes "plain")) (codes "form " ++ form_word exact) ≡ None)
    × (bytes_eq (word_at 1 (codes "form " ++ form_word exact)) (codes "exact") ≡ exact)
form_fits true = (refl, refl)
form_fits false = (refl, refl)

pub objective_spelled : (text : List ℕ) → line_fault (choice_line (codes "objective") (codes "object") (codes "bytes")) text ≡ None → text ≡ codes "objective " ++ objective_word (objective_in text)
objective_spelled text fits =
    let parts = text_choice (codes "objective") (codes "object") (codes "bytes") text fits in
    by parts.0 (text_of_two text (codes "objective") parts.0 parts.1) parts.2
  where
    by : (word : List ℕ) → text ≡ codes "objective" ++ 32 ∷ word → (word ≡ codes "object") ⊎ (word ≡ codes "bytes") → text ≡ codes "objective " ++ objective_word (objective_in text)
    by word is (inl one) = let all : text ≡ codes "objective object" = is ∙ ap (λ w. codes "objective" ++ 32 ∷ w) one in all ∙ ap (λ t. codes "objective " ++ objective_word (objective_in t)) (sym all)
    by word is (inr other) = let all : text ≡ codes "objective bytes" = is ∙ ap (λ w. codes "objective" ++ 32 ∷ w) other in all ∙ ap (λ t. codes "objective " ++ objective_word (objective_in t)) (sym all)

pub form_spelled : (text : List ℕ) → line_fault (choice_line (codes "form") (codes "exact") (codes "plain")) text ≡ None → text ≡ codes "form " ++ form_word (bytes_eq (word_at 1 text) (codes "exact"))
form_spelled text fits =
    let parts = text_choice (codes "form") (codes "exact") (codes "plain") text fits in
    by parts.0 (text_of_two text (codes "form") parts.0 parts.1) parts.2
  where
    by : (word : List ℕ) → text ≡ codes "form" ++ 32 ∷ word → (word ≡ codes "exact") ⊎ (word ≡ codes "plain") → text ≡ codes "form " ++ form_word (bytes_eq (word_at 1 text) (codes "exact"))
    by word is (inl one) = let all : text ≡ codes "form exact" = is ∙ ap (λ w. codes "form" ++ 32 ∷ w) one in all ∙ ap (λ t. codes "form " ++ form_word (bytes_eq (word_at 1 t) (codes "exact"))) (sym all)
    by word is (inr other) = let all : text ≡ codes "form plain" = is ∙ ap (λ w. codes "form" ++ 32 ∷ w) other in all ∙ ap (λ t. codes "form " ++ form_word (bytes_eq (word_at 1 t) (codes "exact"))) (sym all)

-- no line has an LF, and each has few bytes
abbrev pub IsLine : List ℕ → Type 0
IsLine text = (list_any (λ b. b == 10) text ≡ false) × (length text ≤ 63)

pub both_lack : (a b : List ℕ) → list_any (λ x. x == 10) a ≡ false → list_any (λ x. x == 10) b ≡ false → list_any (λ x. x == 10) (a ++ b) ≡ false
both_lack a b la lb = list_any-append (λ x. x == 10) a b ∙ or_from _ _ la lb

pub entry_line : (name : List ℕ) (n : ℕ) → list_any (λ b. b == 10) name ≡ false → length name ≤ 23 → n < 2 ^ 127 → IsLine (entry name n)
entry_line name n lacks short small =
    let digits = digits-decimal n (omega arith) in (
      both_lack (name ++ codes " ") (decimal n) (both_lack name (codes " ") lacks refl) (lacks-digits 10 (decimal n) (omega arith) digits),
      omega (arith, length-append (name ++ codes " ") (decimal n), length-append name (codes " "), length-decimal 39 n (omega arith) (omega arith) (omega arith), short),
    )

pub version_line : (n : ℕ) → n ≤ SHORT_VERSION → IsLine (entry (codes "cache-bound-certificate") n)
version_line n small = entry_line (codes "cache-bound-certificate") n refl (omega arith) (omega arith)

pub objective_line : (o : Objective) → IsLine (codes "objective " ++ objective_word o)
objective_line Hits = (refl, omega arith)
objective_line Bytes = (refl, omega arith)

pub form_line : (exact : Bool) → IsLine (codes "form " ++ form_word exact)
form_line true = (refl, omega arith)
form_line false = (refl, omega arith)
