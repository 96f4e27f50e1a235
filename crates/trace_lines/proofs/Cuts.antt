-- Texts cut at the bytes that pass a test.
use Rattle.std.proofs.Common.{◌≡◌, ℕ, ◌+◌, ◌<◌, ◌≤◌, ◌==◌, List, [], ◌∷◌, Bool, true, false, not, length, take, drop, get_or, refl, sym, ◌∙◌, inl, inr, Some, None, arith, one-add, add-one, add-zero}
use Rattle.std.specs.List.{All, filter, position, slice_get, slice_split, position_or_len}
use Rattle.std.specs.Option.{unwrap_or}
use Rattle.std.proofs.lemmas.Bool.{cases_lt, lt-ltb, le-ltb}
use Rattle.std.proofs.lemmas.Bool.Decides.{nat_tests}
use Rattle.std.proofs.lemmas.Option.{none-some, slice_get_past}
use Rattle.std.proofs.lemmas.List.{drop_all, drop_more, get_or-drop, length-drop, length-take-le, take_all}
use Rattle.std.proofs.lemmas.List.Elements.{All-from_get_or}
use Rattle.std.proofs.lemmas.List.Quantifiers.{position-Some}
use Rattle.std.proofs.lemmas.List.Splits.{slice_split-cons_yes, slice_split_first, slice_split_none}
use Rattle.std.proofs.lemmas.List.Sums.{prefix_len-le-length, passes_at_first, fails_before_first, position_or_len_is}
use Rattle.memchr.specs.Find.{Nowhere, NoneBefore, Passes}

-- the other test
abbrev pub other : (ℕ → Bool) → ℕ → Bool
other p byte = not (p byte)

-- a test that is not true is false
not-true : (b : Bool) → not b ≡ true → b ≡ false
not-true true h = cc
not-true false h = refl

-- the same, if true is impossible
false_unless_true : (b : Bool) → (b ≡ true → ⊥) → b ≡ false
false_unless_true true h = absurd (h refl)
false_unless_true false h = refl

-- the first byte that passes stands within the text or at its end
position_or_len-le : (p : ℕ → Bool) (text : List ℕ) → position_or_len p text ≤ length text
position_or_len-le p text = prefix_len-le-length (other p) text

-- the place of the first byte that passes, and the length where none does
pub position-or : (p : ℕ → Bool) (text : List ℕ) → unwrap_or (position p text) (length text) ≡ position_or_len p text
position-or p text =
    elim (cases_lt (position_or_len p text) (length text)) [
      | inl within ↦ rw (lt-ltb (position_or_len p text) (length text) within) refl
      | inr past ↦ rw (le-ltb (position_or_len p text) (length text) past) (let most = position_or_len-le p text in omega arith)
    ]

-- the parts between the bytes that pass, without the empty ones
abbrev pub parts : (ℕ → Bool) → List ℕ → List (List ℕ)
parts p text = filter (λ part. not (length part == 0)) (slice_split p text)

-- a byte that passes stands in no part
parts-cons_yes : (p : ℕ → Bool) (byte : ℕ) (text : List ℕ) → p byte ≡ true → parts p (byte ∷ text) ≡ parts p text
parts-cons_yes p byte text passes = rw (slice_split-cons_yes p byte text passes) refl

-- a part that is not empty stays
cons_part : (part : List ℕ) (others : List (List ℕ)) → 0 < length part → filter (λ part. not (length part == 0)) (part ∷ others) ≡ part ∷ filter (λ part. not (length part == 0)) others
cons_part part others some =
    let no : (length part == 0) ≡ false = grind (arith, nat_tests) in
    rw no refl

-- one more byte at the beginning, by whether it passes
skip_case : (p : ℕ → Bool) (byte : ℕ) (text : List ℕ) (test : Bool) → p byte ≡ test → parts p text ≡ parts p (drop (position_or_len (other p) text) text)
    → parts p (byte ∷ text) ≡ parts p (drop (position_or_len (other p) (byte ∷ text)) (byte ∷ text))
skip_case p byte text true is later = rw (parts-cons_yes p byte text is, is, one-add) later
skip_case p byte text false is later = rw (is, is) refl

-- the bytes at the beginning that pass stand in no part
pub parts-skip : (p : ℕ → Bool) (text : List ℕ) → parts p text ≡ parts p (drop (position_or_len (other p) text) text)
parts-skip p [] = refl
parts-skip p (byte ∷ text) = skip_case p byte text (p byte) refl (parts-skip p text)

-- where no byte passes, the text is the one part
parts-whole : (p : ℕ → Bool) (text : List ℕ) → 0 < length text → length text ≤ position_or_len p text → parts p text ≡ text ∷ []
parts-whole p text some past =
    let none : All (λ byte. p byte ≡ false) text = All-from_get_or (λ byte. p byte ≡ false) text 0 (λ k below. fails_before_first p text k 0 (omega arith)) in
    rw (slice_split_none p text none) (cons_part text [] some)

-- a part at the beginning ends at the first byte that passes
parts-cut : (p : ℕ → Bool) (text : List ℕ) (k : ℕ) → k ≡ position_or_len p text → 0 < k → k < length text → parts p text ≡ take k text ∷ parts p (drop k text)
parts-cut p text k is some within =
    let passes : p (get_or text k 0) ≡ true = rw is (passes_at_first p text 0 (omega (arith, is))) in
    let rest : parts p (drop k text) ≡ parts p (drop (k + 1) text) = rw (drop_more text k 0 within) (parts-cons_yes p (get_or text k 0) (drop (k + 1) text) passes) in
    let long : 0 < length (take k text) = omega (arith, length-take-le k text (omega arith)) in
    let split : slice_split p text ≡ take k text ∷ slice_split p (drop (k + 1) text) = rw is (slice_split_first p text 0 (omega (arith, is))) in
    rw (split, rest) (cons_part (take k text) (slice_split p (drop (k + 1) text)) long)

-- the same, whether a byte passes or none does
parts-first : (p : ℕ → Bool) (text : List ℕ) (k : ℕ) → k ≡ position_or_len p text → 0 < k → parts p text ≡ take k text ∷ parts p (drop k text)
parts-first p text k is some =
    let most = position_or_len-le p text in
    elim (cases_lt k (length text)) [
      | inl within ↦ parts-cut p text k is some within
      | inr past ↦
          let long : 0 < length text = omega arith in
          rw (take_all k text past, drop_all k text past) (parts-whole p text long (omega (arith, is)))
    ]

-- some bytes that do not pass, at the beginning, are a part if one that passes follows them or none at all
pub parts-leading : (p : ℕ → Bool) (text : List ℕ) (k : ℕ) → 0 < k → k ≤ length text → ((i : ℕ) → i < k → p (get_or text i 0) ≡ false) → (k < length text → p (get_or text k 0) ≡ true)
    → parts p text ≡ take k text ∷ parts p (drop k text)
parts-leading p text k some within none ends =
    let is = position_or_len_is p text k 0 within none ends in
    parts-first p text k (sym is) some

-- a text whose first byte does not pass has a byte before the first that does
prefix_len-pos : (p : ℕ → Bool) (text : List ℕ) → 0 < length text → p (get_or text 0 0) ≡ false → 0 < position_or_len p text
prefix_len-pos p [] some fails = absurd (omega arith)
prefix_len-pos p (byte ∷ text) some fails = rw fails (omega arith)

-- where every byte passes, there is no part
pub parts-none : (p : ℕ → Bool) (text : List ℕ) → position (other p) text ≡ None → parts p text ≡ []
parts-none p text none =
    let most = position_or_len-le (other p) text in
    elim (cases_lt (position_or_len (other p) text) (length text)) [
      | inl within ↦ absurd (none-some (position_or_len (other p) text) (sym none ∙ rw (lt-ltb (position_or_len (other p) text) (length text) within) refl))
      | inr past ↦ parts-skip p text ∙ rw (drop_all (position_or_len (other p) text) text past) refl
    ]

-- a part has a byte
pub part_len-pos : (p : ℕ → Bool) (text : List ℕ) (start : ℕ) → position (other p) text ≡ Some start → 0 < position_or_len p (drop start text)
part_len-pos p text start found =
    let at = position-Some (other p) text start 0 found in
    let long : 0 < length (drop start text) = omega (arith, at.0, length-drop start text) in
    let fails : p (get_or (drop start text) 0 0) ≡ false = rw (get_or-drop start text 0 0, add-zero start) (not-true (p (get_or text start 0)) at.1) in
    prefix_len-pos p (drop start text) long fails

-- the first part begins at the first byte that does not pass, and ends at the next that does
pub parts-at : (p : ℕ → Bool) (text : List ℕ) (start : ℕ) → position (other p) text ≡ Some start
    → parts p text ≡ take (position_or_len p (drop start text)) (drop start text) ∷ parts p (drop (position_or_len p (drop start text)) (drop start text))
parts-at p text start found =
    let at = position-Some (other p) text start 0 found in
    let is : position_or_len (other p) text ≡ start = position_or_len_is (other p) text start 0 (omega (arith, at.0)) at.2 (λ _. at.1) in
    let skipped : parts p text ≡ parts p (drop start text) = rw is at (parts-skip p text) in
    skipped ∙ parts-first p (drop start text) (position_or_len p (drop start text)) refl (part_len-pos p text start found)

-- no byte before the place passes
no_byte : (p : ℕ → Bool) (text : List ℕ) (k : ℕ) → Nowhere (Passes p text) 0 k → (i : ℕ) → i < k → p (get_or text i 0) ≡ false
no_byte p text k none i below = false_unless_true (p (get_or text i 0)) (none i (omega arith) below)

-- the first of the pieces, empty ones too, ends where a search finds the first byte that passes, and the others are those of what stands after that byte
pub split-found : (p : ℕ → Bool) (text : List ℕ) (k : ℕ) → NoneBefore (Passes p text) 0 (length text) k → Passes p text k → slice_split p text ≡ take k text ∷ slice_split p (drop (k + 1) text)
split-found p text k none passes =
    let is = position_or_len_is p text k 0 (omega (arith, none.high)) (no_byte p text k none.before) (λ _. passes) in
    rw is at (slice_split_first p text 0 (omega (arith, is, none.high)))

-- where a search finds no byte that passes, the text is the one piece
pub split-missing : (p : ℕ → Bool) (text : List ℕ) → Nowhere (Passes p text) 0 (length text) → slice_split p text ≡ text ∷ []
split-missing p text none = slice_split_none p text (All-from_get_or (λ byte. p byte ≡ false) text 0 (no_byte p text (length text) none))

-- the first of some pieces
pub get-first : (pieces : List (List ℕ)) (first : List ℕ) (others : List (List ℕ)) (n : ℕ) → pieces ≡ first ∷ others → n ≡ 0 → slice_get pieces n ≡ Some first
get-first pieces first others n is none = rw (is, none) refl

-- a later one, counted without the first
pub get-later : (pieces : List (List ℕ)) (first : List ℕ) (others : List (List ℕ)) (n m : ℕ) → pieces ≡ first ∷ others → n ≡ m + 1 → slice_get pieces n ≡ slice_get others m
get-later pieces first others n m is next = rw (is, next, add-one m) refl

-- after a single piece there is none
pub get-past : (pieces : List (List ℕ)) (first : List ℕ) (n : ℕ) → pieces ≡ first ∷ [] → 0 < n → slice_get pieces n ≡ None
get-past pieces first n is later = rw is (slice_get_past (first ∷ []) n (omega arith))

-- among no pieces there is none
pub get-none : (pieces : List (List ℕ)) (n : ℕ) → pieces ≡ [] → slice_get pieces n ≡ None
get-none pieces n is = rw is refl
