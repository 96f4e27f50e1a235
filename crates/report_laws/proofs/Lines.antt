-- Lines of words and numbers: each is read in one way, and so is a text of them.
use Rattle.std.proofs.Common.{◌≡◌, ◌≢◌, ℕ, suc, ◌+◌, ◌%◌, ◌<◌, ◌∙◌, sym, refl, ap, subst, Bool, true, false, not, ◌&&◌, ◌==◌, List, [], ◌∷◌, ◌++◌, append_assoc, length, arith, decimal}
use Rattle.std.specs.Prelude.{nat_lt}
use Rattle.std.specs.List.{AllByRecursion, list_all}
use Rattle.std.specs.Str.Parse.{digits_value}
use Rattle.std.proofs.lemmas.Bool.{true≢false, and_from, and_parts, eq-eqb, ne_eqb, ltb-true}
use Rattle.std.proofs.lemmas.List.{append_cancel_right}
use Rattle.std.proofs.lemmas.List.Folds.{list_all-append}
use Rattle.std.proofs.lemmas.Fmt.{decimal_by_steps_wide, decimal_is_IsNumeral_wide}
use Rattle.cache_model.specs.Texts.{text_of}
use Rattle.report_laws.specs.Laws.{IsPrintable}

-- numbers that a report can have
abbrev pub Small : List ℕ → Type 0
Small numbers = AllByRecursion IsPrintable numbers

-- no byte of the text is this one
abbrev pub Lacks : ℕ → List ℕ → Type 0
Lacks sep text = list_all (λ byte. not (byte == sep)) text ≡ true

pub lacks-append : (sep : ℕ) (a b : List ℕ) → Lacks sep a → Lacks sep b → Lacks sep (a ++ b)
lacks-append sep a b ok_a ok_b = list_all-append (λ byte. not (byte == sep)) a b ∙ and_from _ _ ok_a ok_b

-- a byte that is no digit
abbrev pub IsNoDigit : ℕ → Type 0
IsNoDigit sep = (d : ℕ) → d < 10 → 48 + d ≢ sep

pub lacks-decimal : (sep n : ℕ) → IsNoDigit sep → IsPrintable n → Lacks sep (decimal n)
lacks-decimal sep n other small =
    decimal_by_steps_wide (λ m ds. Lacks sep ds) (λ m low. digit m low) (λ m ds high h. lacks-append sep ds ((48 + m % 10) ∷ []) h (digit (m % 10) (omega arith))) n (omega arith)
  where
    digit : (d : ℕ) → d < 10 → Lacks sep ((48 + d) ∷ [])
    digit d low = ap (λ b. not b && true) (ne_eqb (48 + d) sep (other d low))

decimal_injective_wide : (m n : ℕ) → IsPrintable m → IsPrintable n → decimal m ≡ decimal n → m ≡ n
decimal_injective_wide m n a b e = sym (decimal_is_IsNumeral_wide m (omega arith)).1 ∙ ap (digits_value 10) e ∙ (decimal_is_IsNumeral_wide n (omega arith)).1

lacks-tail : (sep x : ℕ) (a : List ℕ) → Lacks sep (x ∷ a) → Lacks sep a
lacks-tail sep x a lacks = (and_parts (not (x == sep)) (list_all (λ byte. not (byte == sep)) a) lacks).1

-- a text that lacks a byte does not have it
has_byte : (sep : ℕ) (a b : List ℕ) → Lacks sep (a ++ sep ∷ b) → ⊥
has_byte sep [] b lacks = let off : not (sep == sep) ≡ false = ap not (eq-eqb sep sep refl) in true≢false (sym (and_parts _ _ lacks).0 ∙ off)
has_byte sep (x ∷ a) b lacks = has_byte sep a b (lacks-tail sep x (a ++ sep ∷ b) lacks)

-- two texts that are cut behind the last of a byte
pub cut_last : (sep : ℕ) (a b xs ys : List ℕ) → Lacks sep xs → Lacks sep ys → a ++ sep ∷ xs ≡ b ++ sep ∷ ys → (a ≡ b) × (xs ≡ ys)
cut_last sep [] [] xs ys la lb e = (refl, cc)
cut_last sep [] (y ∷ b) xs ys la lb e = let rest : xs ≡ b ++ sep ∷ ys = cc in absurd (has_byte sep b ys (subst (Lacks sep) rest la))
cut_last sep (x ∷ a) [] xs ys la lb e = let rest : ys ≡ a ++ sep ∷ xs = cc in absurd (has_byte sep a xs (subst (Lacks sep) rest lb))
cut_last sep (x ∷ a) (y ∷ b) xs ys la lb e =
    let rest : a ++ sep ∷ xs ≡ b ++ sep ∷ ys = cc in
    let first : x ≡ y = cc in
    let both : (a ≡ b) × (xs ≡ ys) = cut_last sep a b xs ys la lb rest in
    let same : a ≡ b = both.0 in
    (cc, both.1)

-- two last words behind the same text
pub last_words : (sep : ℕ) (a b text xs ys : List ℕ) → Lacks sep xs → Lacks sep ys → (a ++ (text ++ sep ∷ [])) ++ xs ≡ (b ++ (text ++ sep ∷ [])) ++ ys → (a ≡ b) × (xs ≡ ys)
last_words sep a b text xs ys la lb e =
    let both = cut_last sep (a ++ text) (b ++ text) xs ys la lb (sym (regroup a xs) ∙ e ∙ regroup b ys) in
    (append_cancel_right a b text both.0, both.1)
  where
    regroup : (s t : List ℕ) → (s ++ (text ++ sep ∷ [])) ++ t ≡ (s ++ text) ++ sep ∷ t
    regroup s t = simp append_assoc

-- a part of a line: words, or the next number behind a byte
pub data Part : Type 0 where
  Words : List ℕ → Part
  After : ℕ → Part

-- what parts and numbers add to a text
abbrev pub spell : List ℕ → List Part → List ℕ → List ℕ
spell text [] numbers = text
spell text (Words words ∷ parts) numbers = spell (text ++ words) parts numbers
spell text (After byte ∷ parts) [] = text
spell text (After byte ∷ parts) (n ∷ numbers) = spell ((text ++ byte ∷ []) ++ decimal n) parts numbers

-- a word and a number
abbrev pub named : List ℕ → List Part
named word = Words word ∷ After 32 ∷ []

-- how many numbers there are
abbrev pub count : List Part → ℕ
count [] = 0
count (Words words ∷ parts) = count parts
count (After byte ∷ parts) = suc (count parts)

-- whether a part is on one line, with a number behind a byte that is no digit
abbrev pub is_part : Part → Bool
is_part (Words words) = list_all (λ byte. not (byte == 10)) words
is_part (After byte) = not (byte == 10) && nat_lt byte 48

below_digits : (byte : ℕ) → nat_lt byte 48 ≡ true → IsNoDigit byte
below_digits byte low d small e = omega (arith, ltb-true byte 48 low)

pub spell_lacks : (parts : List Part) (text numbers : List ℕ) → list_all is_part parts ≡ true → Small numbers → Lacks 10 text → Lacks 10 (spell text parts numbers)
spell_lacks [] text numbers ok small lacks = lacks
spell_lacks (Words words ∷ parts) text numbers ok small lacks =
    let both = and_parts (is_part (Words words)) (list_all is_part parts) ok in
    spell_lacks parts (text ++ words) numbers both.1 small (lacks-append 10 text words lacks both.0)
spell_lacks (After byte ∷ parts) text [] ok small lacks = lacks
spell_lacks (After byte ∷ parts) text (n ∷ numbers) ok small lacks =
    let both = and_parts (is_part (After byte)) (list_all is_part parts) ok in
    let no_end = (and_parts (not (byte == 10)) (nat_lt byte 48) both.0).0 in
    let begun = lacks-append 10 text (byte ∷ []) lacks (ap (λ b. b && true) no_end) in
    spell_lacks parts ((text ++ byte ∷ []) ++ decimal n) numbers both.1 small.1
    (lacks-append 10 (text ++ byte ∷ []) (decimal n) begun (lacks-decimal 10 n (λ d low e. omega arith) small.0))

-- parts and numbers make one line
pub line_lacks : (parts : List Part) (numbers : List ℕ) → list_all is_part parts ≡ true → Small numbers → Lacks 10 (spell [] parts numbers)
line_lacks parts numbers ok small = spell_lacks parts [] numbers ok small refl

pub spell_apart : (parts : List Part) (a b xs ys : List ℕ) → list_all is_part parts ≡ true → length xs ≡ count parts → length ys ≡ count parts
    → Small xs → Small ys → spell a parts xs ≡ spell b parts ys → (a ≡ b) × (xs ≡ ys)
spell_apart [] a b [] [] ok nx ny px py e = (e, refl)
spell_apart [] a b [] (y ∷ ys) ok nx ny px py e = absurd (omega arith)
spell_apart [] a b (x ∷ xs) ys ok nx ny px py e = absurd (omega arith)
spell_apart (Words words ∷ parts) a b xs ys ok nx ny px py e =
    let both = and_parts (is_part (Words words)) (list_all is_part parts) ok in
    let rest = spell_apart parts (a ++ words) (b ++ words) xs ys both.1 nx ny px py e in
    (append_cancel_right a b words rest.0, rest.1)
spell_apart (After byte ∷ parts) a b [] ys ok nx ny px py e = absurd (omega arith)
spell_apart (After byte ∷ parts) a b (x ∷ xs) [] ok nx ny px py e = absurd (omega arith)
spell_apart (After byte ∷ parts) a b (x ∷ xs) (y ∷ ys) ok nx ny px py e =
    let both = and_parts (is_part (After byte)) (list_all is_part parts) ok in
    let no_digit = below_digits byte (and_parts (not (byte == 10)) (nat_lt byte 48) both.0).1 in
    let rest = spell_apart parts ((a ++ byte ∷ []) ++ decimal x) ((b ++ byte ∷ []) ++ decimal y) xs ys both.1 (omega arith) (omega arith) px.1 py.1 e in
    let last = last_words byte a b [] (decimal x) (decimal y) (lacks-decimal byte x no_digit px.0) (lacks-decimal byte y no_digit py.0) rest.0 in
    let first : x ≡ y = decimal_injective_wide x y px.0 py.0 last.1 in
    let others : xs ≡ ys = rest.1 in
    (last.0, cc)

-- the numbers of a line are read in one way
pub numbers_apart : (parts : List Part) (xs ys : List ℕ) → list_all is_part parts ≡ true → length xs ≡ count parts → length ys ≡ count parts
    → Small xs → Small ys → spell [] parts xs ≡ spell [] parts ys → xs ≡ ys
numbers_apart parts xs ys ok nx ny px py e = (spell_apart parts [] [] xs ys ok nx ny px py e).1

-- two texts that are cut behind the first line
cut_first : (a b xs ys : List ℕ) → Lacks 10 a → Lacks 10 b → (a ++ 10 ∷ []) ++ xs ≡ (b ++ 10 ∷ []) ++ ys → (a ≡ b) × (xs ≡ ys)
cut_first [] [] xs ys la lb e = (refl, cc)
cut_first [] (y ∷ b) xs ys la lb e = let h : 10 ≡ y = cc in absurd (has_byte 10 [] b (subst (λ c. Lacks 10 (c ∷ b)) (sym h) lb))
cut_first (x ∷ a) [] xs ys la lb e = let h : 10 ≡ x = cc in absurd (has_byte 10 [] a (subst (λ c. Lacks 10 (c ∷ a)) (sym h) la))
cut_first (x ∷ a) (y ∷ b) xs ys la lb e =
    let rest : (a ++ 10 ∷ []) ++ xs ≡ (b ++ 10 ∷ []) ++ ys = cc in
    let first : x ≡ y = cc in
    let both : (a ≡ b) × (xs ≡ ys) = cut_first a b xs ys (lacks-tail 10 x a la) (lacks-tail 10 y b lb) rest in
    let same : a ≡ b = both.0 in
    (cc, both.1)

some_line : (l : List ℕ) (text : List ℕ) → [] ≡ (l ++ 10 ∷ []) ++ text → ⊥
some_line [] text e = cc
some_line (x ∷ l) text e = cc

-- two texts of lines have the same lines
pub lines_apart : (ls ms : List (List ℕ)) → AllByRecursion (Lacks 10) ls → AllByRecursion (Lacks 10) ms → text_of ls ≡ text_of ms → ls ≡ ms
lines_apart [] [] a b e = refl
lines_apart [] (m ∷ ms) a b e = absurd (some_line m (text_of ms) e)
lines_apart (l ∷ ls) [] a b e = absurd (some_line l (text_of ls) (sym e))
lines_apart (l ∷ ls) (m ∷ ms) a b e =
    let both = cut_first l m (text_of ls) (text_of ms) a.0 b.0 e in
    let first : l ≡ m = both.0 in
    let others : ls ≡ ms = lines_apart ls ms a.1 b.1 both.1 in
    cc
