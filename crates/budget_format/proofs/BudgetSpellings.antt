-- The line of a budget has one spelling.
use Rattle.std.proofs.Common.{◌≡◌, ℕ, ◌^◌, ◌≤◌, ◌<◌, ◌∙◌, sym, refl, ap, List, [], ◌∷◌, ◌++◌, append_assoc, arith, decimal, codes, slice_index_or, None}
use Rattle.std.specs.Option.{option_or}
use Rattle.std.proofs.lemmas.List.{length-append}
use Rattle.cache_model.specs.Texts.{entry}
use Rattle.cert_format.specs.Grammar.{Within, line_fault, number_at, number_fault, number_in, words}
use Rattle.cert_format.proofs.Words.{words-append}
use Rattle.cert_format.proofs.Decimals.{number_in-decimal, digits-decimal, some-decimal, lacks-digits, decimal-number_in, length-decimal}
use Rattle.cert_format.proofs.Spellings.{fits_range, range_fits, words-decimal, space_between, both_lack}
use Rattle.cert_format.proofs.Headers.{no_either}
use Rattle.budget_format.specs.Grammar.{budget_slots}
use Rattle.budget_format.specs.Texts.{budget_line}
use Rattle.budget_format.proofs.BudgetShapes.{budget_text, four, text_budget, text_of_four}
use Rattle.budget_format.proofs.Fits.{IsWide}

words-entry : (name : List ℕ) (n : ℕ) → words name ≡ name ∷ [] → n < 10 ^ 64 → words (entry name n) ≡ name ∷ decimal n ∷ []
words-entry name n lone small =
    ap words (space_between name (decimal n)) ∙ (words-append name (decimal n) ∙ (ap (λ ps. ps ++ words (decimal n)) lone ∙ ap (λ ps. name ∷ ps) (words-decimal n small)))

-- the words of the line of a budget
line_words : (bytes price : ℕ) → bytes < 10 ^ 64 → price < 10 ^ 64 → words (budget_line bytes price) ≡ four (decimal bytes) (decimal price)
line_words bytes price small also =
    ap words (space_between (entry (codes "budget") bytes) (entry (codes "price") price))
    ∙ (words-append (entry (codes "budget") bytes) (entry (codes "price") price)
    ∙ (ap (λ ps. ps ++ words (entry (codes "price") price)) (words-entry (codes "budget") bytes refl small)
    ∙ ap (λ ps. codes "budget" ∷ decimal bytes ∷ ps) (words-entry (codes "price") price refl also)))

-- what the line of a budget in range is read as
pub record IsRead (bytes price : ℕ) (text : List ℕ) : Type 0 where
  pub none : line_fault budget_slots text ≡ None
  pub bytes_is : number_at 1 text ≡ bytes
  pub price_is : number_at 3 text ≡ price

pub budget_fits : (bytes price : ℕ) → bytes ≤ 2 ^ 80 → price ≤ 2 ^ 126 → IsRead bytes price (budget_line bytes price)
budget_fits bytes price small also =
    let few : bytes < 10 ^ 64 = omega (arith, small) in
    let low : price < 10 ^ 64 = omega (arith, also) in
    let text = budget_line bytes price in
    let are = line_words bytes price few low in
    let first : number_fault (Within 0 (2 ^ 80)) (decimal bytes) ≡ None = fits_range 0 (2 ^ 80) bytes (omega arith) small few in
    let second : number_fault (Within 0 (2 ^ 126)) (decimal price) ≡ None = fits_range 0 (2 ^ 126) price (omega arith) also low in
    record {
      none = budget_text text (decimal bytes) (decimal price) are (some-decimal bytes few) (some-decimal price low) ∙ (ap (λ o. option_or o (number_fault (Within 0 (2 ^ 126)) (decimal price))) first ∙ second);
      bytes_is = ap (λ ws. number_in (slice_index_or ws 1 [])) are ∙ number_in-decimal bytes few;
      price_is = ap (λ ws. number_in (slice_index_or ws 3 [])) are ∙ number_in-decimal price low;
    }

-- a line without a fault states a budget in range, and is its line
pub record IsBudgetText (text : List ℕ) : Type 0 where
  pub bytes : number_at 1 text ≤ 2 ^ 80
  pub price : number_at 3 text ≤ 2 ^ 126
  pub text_is : text ≡ budget_line (number_at 1 text) (number_at 3 text)

four_join : (a b d e : List ℕ) → a ++ 32 ∷ (b ++ 32 ∷ (d ++ 32 ∷ e)) ≡ (((a ++ 32 ∷ []) ++ b) ++ 32 ∷ []) ++ ((d ++ 32 ∷ []) ++ e)
four_join a b d e = simp append_assoc

pub budget_spelled : (text : List ℕ) → line_fault budget_slots text ≡ None → IsBudgetText text
budget_spelled text fits =
    let found = text_budget text fits in
    let faults = no_either _ _ (sym (budget_text text found.0 found.1 found.2 found.3 found.4) ∙ fits) in
    let first = range_fits 0 (2 ^ 80) found.0 faults.0 in
    let second = range_fits 0 (2 ^ 126) found.1 faults.1 in
    let bytes_is : number_at 1 text ≡ number_in found.0 = ap (λ ws. number_in (slice_index_or ws 1 [])) found.2 in
    let price_is : number_at 3 text ≡ number_in found.1 = ap (λ ws. number_in (slice_index_or ws 3 [])) found.2 in
    let bytes_text : decimal (number_at 1 text) ≡ found.0 = ap decimal bytes_is ∙ decimal-number_in found.0 first.0 (omega (arith, first.2)) in
    let price_text : decimal (number_at 3 text) ≡ found.1 = ap decimal price_is ∙ decimal-number_in found.1 second.0 (omega (arith, second.2)) in
    record {
      bytes = omega (arith, bytes_is, first.2);
      price = omega (arith, price_is, second.2);
      text_is = text_of_four text (codes "budget") found.0 (codes "price") found.1 found.2
          ∙ (four_join (codes "budget") found.0 (codes "price") found.1
          ∙ (ap (λ b. (((codes "budget" ++ 32 ∷ []) ++ b) ++ 32 ∷ []) ++ ((codes "price" ++ 32 ∷ []) ++ found.1)) (sym bytes_text)
          ∙ ap (λ q. (((codes "budget" ++ 32 ∷ []) ++ decimal (number_at 1 text)) ++ 32 ∷ []) ++ ((codes "price" ++ 32 ∷ []) ++ q)) (sym price_text)));
    }

-- the line of a budget has no LF, and is not too long
pub budget_wide : (bytes price : ℕ) → bytes ≤ 2 ^ 80 → price ≤ 2 ^ 126 → IsWide (budget_line bytes price)
budget_wide bytes price small also =
    let first = lacks-digits 10 (decimal bytes) (omega arith) (digits-decimal bytes (omega (arith, small))) in
    let second = lacks-digits 10 (decimal price) (omega arith) (digits-decimal price (omega (arith, also))) in (
      both_lack (entry (codes "budget") bytes ++ codes " ") (entry (codes "price") price) (both_lack (entry (codes "budget") bytes) (codes " ") (both_lack (codes "budget ") (decimal bytes) refl first) refl) (both_lack (codes "price ") (decimal price) refl second),
      omega (
        arith,
        length-append (entry (codes "budget") bytes ++ codes " ") (entry (codes "price") price),
        length-append (entry (codes "budget") bytes) (codes " "),
        length-append (codes "budget ") (decimal bytes),
        length-append (codes "price ") (decimal price),
        length-decimal 39 bytes (omega arith) (omega (arith, small)) (omega (arith, small)),
        length-decimal 39 price (omega arith) (omega (arith, also)) (omega (arith, also)),
      ),
    )
