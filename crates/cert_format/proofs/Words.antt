-- The words of a line, put together and taken apart.
use Rattle.std.proofs.Common.{◌≡◌, ℕ, suc, ◌+◌, ◌≤◌, ◌<◌, ◌∙◌, sym, refl, ap, Bool, true, false, cond, List, [], ◌∷◌, ◌++◌, length, take, drop, arith, ◌==◌, not, Some, None, Option, inl, inr, ◌⊎◌}
use Rattle.std.specs.Prelude.{position, IsTrue}
use Rattle.std.specs.Option.{is_some}
use Rattle.std.specs.List.{onto_first, join_with_byte, list_any, position_or_len}
use Rattle.std.proofs.lemmas.Bool.{ne_eqb, true≢false, or_from, or_parts, cases_lt, lt-ltb, le-ltb}
use Rattle.std.proofs.lemmas.List.{length-append}
use Rattle.std.proofs.lemmas.List.Splits.{slice_split-cons_yes, slice_split-cons_no, slice_split_first, join_with_byte-slice_split, length-slice_split}
use Rattle.std.proofs.lemmas.List.Quantifiers.{position-Some}
use Rattle.cert_format.specs.Grammar.{words}

-- a byte that parts words
abbrev pub is_space : ℕ → Bool
is_space byte = byte == 32

pub length-words : (text : List ℕ) → 0 < length (words text)
length-words text = omega (arith, length-slice_split is_space text)

onto_first-append : (x : ℕ) (parts others : List (List ℕ)) → 0 < length parts → onto_first x (parts ++ others) ≡ onto_first x parts ++ others
onto_first-append x [] others some = absurd (omega (arith, some))
onto_first-append x (part ∷ parts) others some = refl

-- one byte more before two texts with a space between
words-append_more : (x : ℕ) (xs ys : List ℕ) → words (xs ++ 32 ∷ ys) ≡ words xs ++ words ys → (b : Bool) → is_space x ≡ b → words ((x ∷ xs) ++ 32 ∷ ys) ≡ words (x ∷ xs) ++ words ys
words-append_more x xs ys rest true e = slice_split-cons_yes is_space x (xs ++ 32 ∷ ys) e ∙ (ap (λ ps. [] ∷ ps) rest ∙ ap (λ ps. ps ++ words ys) (sym (slice_split-cons_yes is_space x xs e)))
words-append_more x xs ys rest false e =
    slice_split-cons_no is_space x (xs ++ 32 ∷ ys) e
    ∙ (ap (onto_first x) rest ∙ (onto_first-append x (words xs) (words ys) (length-words xs) ∙ ap (λ ps. ps ++ words ys) (sym (slice_split-cons_no is_space x xs e))))

-- the words of two texts with a space between
pub words-append : (xs ys : List ℕ) → words (xs ++ 32 ∷ ys) ≡ words xs ++ words ys
words-append [] ys = refl
words-append (x ∷ xs) ys = words-append_more x xs ys (words-append xs ys) (is_space x) refl

-- a text without a space is one word
pub words_lone : (text : List ℕ) → list_any is_space text ≡ false → words text ≡ text ∷ []
words_lone [] none = refl
words_lone (x ∷ xs) none =
    let parts = or_parts (is_space x) (list_any is_space xs) none in
    slice_split-cons_no is_space x xs parts.0 ∙ ap (onto_first x) (words_lone xs parts.1)

-- the words with a space between each two are the text
words-join : (text : List ℕ) (parts : List (List ℕ)) → words text ≡ parts → text ≡ join_with_byte 32 parts
words-join text parts are = sym (join_with_byte-slice_split 32 text) ∙ ap (join_with_byte 32) are

pub text_of_words : (text other : List ℕ) → words text ≡ words other → text ≡ other
text_of_words text other same = words-join text (words other) same ∙ join_with_byte-slice_split 32 other

pub text_of_two : (text a b : List ℕ) → words text ≡ a ∷ b ∷ [] → text ≡ a ++ 32 ∷ b
text_of_two text a b are = words-join text (a ∷ b ∷ []) are

pub text_of_three : (text a b d : List ℕ) → words text ≡ a ∷ b ∷ d ∷ [] → text ≡ a ++ 32 ∷ (b ++ 32 ∷ d)
text_of_three text a b d are = words-join text (a ∷ b ∷ d ∷ []) are

-- the first of more words, and those after it
first_words : (parts others more : List (List ℕ)) (a : List ℕ) → 0 < length parts → parts ++ others ≡ a ∷ more → (rest : List (List ℕ)) × (parts ≡ a ∷ rest) × (rest ++ others ≡ more)
first_words [] others more a some same = absurd (omega (arith, some))
first_words (part ∷ parts) others more a some same =
    let here : part ≡ a = cc in
    let there : parts ++ others ≡ more = cc in
    (parts, cc, there)

-- a word of a line of two words has no space
pub lone_of_two : (text a b : List ℕ) → words text ≡ a ∷ b ∷ [] → (words a ≡ a ∷ []) × (words b ≡ b ∷ [])
lone_of_two text a b are =
    let both : words a ++ words b ≡ a ∷ b ∷ [] = sym (words-append a b) ∙ (ap words (sym (text_of_two text a b are)) ∙ are) in
    let first = first_words (words a) (words b) (b ∷ []) a (length-words a) both in
    let lengths : length first.0 + length (words b) ≡ 1 = omega (arith, length-append first.0 (words b), ap length first.2) in
    let nothing = empty first.0 (omega (arith, lengths, length-words b)) in
    (first.1 ∙ ap (λ ps. a ∷ ps) nothing, ap (λ ps. ps ++ words b) (sym nothing) ∙ first.2)
  where
    empty : (parts : List (List ℕ)) → length parts ≡ 0 → parts ≡ []
    empty [] none = refl
    empty (part ∷ parts) none = absurd (omega (arith, none))

-- a word has no space in it
space_or_not : (x : ℕ) (xs : List ℕ) (b : Bool) → is_space x ≡ b → words (x ∷ xs) ≡ (x ∷ xs) ∷ [] → (b ≡ false) × (words xs ≡ xs ∷ [])
space_or_not x xs true e lone =
    let cut : [] ∷ words xs ≡ (x ∷ xs) ∷ [] = sym (slice_split-cons_yes is_space x xs e) ∙ lone in
    let no : [] ≡ x ∷ xs = cc in
    absurd (omega (arith, ap length no))
space_or_not x xs false e lone =
    let on : onto_first x (words xs) ≡ (x ∷ xs) ∷ [] = sym (slice_split-cons_no is_space x xs e) ∙ lone in
    (refl, rest (words xs) (length-words xs) on)
  where
    rest : (parts : List (List ℕ)) → 0 < length parts → onto_first x parts ≡ (x ∷ xs) ∷ [] → parts ≡ xs ∷ []
    rest [] some on = absurd (omega (arith, some))
    rest (part ∷ parts) some on =
        let same : part ≡ xs = cc in
        let none : parts ≡ [] = cc in
        cc

pub lone_words : (text : List ℕ) → words text ≡ text ∷ [] → list_any is_space text ≡ false
lone_words [] lone = refl
lone_words (x ∷ xs) lone =
    let part = space_or_not x xs (is_space x) refl lone in
    or_from (is_space x) (list_any is_space xs) part.0 (lone_words xs part.1)

-- a text cut at its first space
pub cut_words : (text : List ℕ) (place : ℕ) → position is_space text ≡ Some place → words text ≡ take place text ∷ words (drop (place + 1) text)
cut_words text place found =
    let at : position_or_len is_space text ≡ place = by (cases_lt (position_or_len is_space text) (length text)) in
    let within : position_or_len is_space text < length text = omega (arith, at, (position-Some is_space text place 0 found).0) in
    slice_split_first is_space text 0 within ∙ ap (λ n. take n text ∷ words (drop (n + 1) text)) at
  where
    by : position_or_len is_space text < length text ⊎ length text ≤ position_or_len is_space text → position_or_len is_space text ≡ place
    by (inl before) = let some : Some (position_or_len is_space text) ≡ Some place = sym (ap (λ b. cond b (Some (position_or_len is_space text)) None) (lt-ltb _ _ before)) ∙ found in cc
    by (inr past) = let none : None ≡ Some place = sym (ap (λ b. cond b (Some (position_or_len is_space text)) None) (le-ltb _ _ past)) ∙ found in cc

-- a text has one word exactly if no space is found
no_space : (text : List ℕ) → length text ≤ position_or_len is_space text → list_any is_space text ≡ false
no_space [] none = refl
no_space (x ∷ xs) none =
    let first : is_space x ≡ false = by x xs (is_space x) refl none in
    let rest : length xs ≤ position_or_len is_space xs = omega (arith, rw first at none) in
    or_from (is_space x) (list_any is_space xs) first (no_space xs rest)
  where
    by : (x : ℕ) (xs : List ℕ) (b : Bool) → is_space x ≡ b → length (x ∷ xs) ≤ position_or_len is_space (x ∷ xs) → b ≡ false
    by x xs false e none = refl
    by x xs true e none = let short : suc (length xs) ≤ cond (not true) (1 + position_or_len is_space xs) 0 = rw e at none in absurd (omega (arith, short))

pub uncut_words : (text : List ℕ) → position is_space text ≡ None → words text ≡ text ∷ []
uncut_words text none = words_lone text (no_space text (by (cases_lt (position_or_len is_space text) (length text))))
  where
    by : position_or_len is_space text < length text ⊎ length text ≤ position_or_len is_space text → length text ≤ position_or_len is_space text
    by (inl before) = let some : Some (position_or_len is_space text) ≡ None = sym (ap (λ b. cond b (Some (position_or_len is_space text)) None) (lt-ltb _ _ before)) ∙ none in cc
    by (inr past) = past

pub lone_uncut : (text : List ℕ) (o : Option ℕ) → position is_space text ≡ o → words text ≡ text ∷ [] → o ≡ None
lone_uncut text None found lone = refl
lone_uncut text (Some place) found lone =
    let two : take place text ∷ words (drop (place + 1) text) ≡ text ∷ [] = sym (cut_words text place found) ∙ lone in
    absurd (omega (arith, ap length two, length-words (drop (place + 1) text)))

-- a text that is one word of a byte at least
pub is_lone : (text : List ℕ) (b : Bool) → is_some (position is_space text) ≡ not b → 0 < length text → (IsTrue b → (words text ≡ text ∷ []) × (0 < length text)) × ((words text ≡ text ∷ []) × (0 < length text) → IsTrue b)
is_lone text b said some = (λ yes. (uncut_words text (by (position is_space text) (said ∙ ap not yes)), some), λ lone. back b (sym said ∙ ap is_some (lone_uncut text (position is_space text) refl lone.0)))
  where
    by : (o : Option ℕ) → is_some o ≡ false → o ≡ None
    by None h = refl
    by (Some x) h = absurd (true≢false h)

    back : (b : Bool) → not b ≡ false → b ≡ true
    back true h = refl
    back false h = absurd (true≢false h)

-- the word of a text of one word is the text
pub lone_word : (text word : List ℕ) → words text ≡ word ∷ [] → text ≡ word
lone_word text word are = words-join text (word ∷ []) are

-- no word of a byte after a name, if the text after it is none
pub no_word_after : (text first name rest word : List ℕ) → words text ≡ first ∷ words rest → ((words rest ≡ rest ∷ []) × (0 < length rest) → ⊥) → words text ≡ name ∷ word ∷ [] → length word ≡ 0
no_word_after text first name rest word cut none are =
    let both : first ∷ words rest ≡ name ∷ word ∷ [] = sym cut ∙ are in
    let lone : words rest ≡ word ∷ [] = cc in
    let same = lone_word rest word lone in
    by (cases_lt 0 (length word)) (lone ∙ ap (λ w. w ∷ []) (sym same)) same
  where
    by : 0 < length word ⊎ length word ≤ 0 → words rest ≡ rest ∷ [] → rest ≡ word → length word ≡ 0
    by (inl some) lone same = absurd (none (lone, omega (arith, some, ap length same)))
    by (inr empty) lone same = omega (arith, empty)

-- where the text after the first word is cut again, there are more than two words
pub three_words : (text first rest : List ℕ) (place : ℕ) → words text ≡ first ∷ words rest → position is_space rest ≡ Some place → (length (words text) == 2) ≡ false
three_words text first rest place are found =
    ne_eqb (length (words text)) 2 (λ two. omega (arith, two, ap length are, ap length (cut_words rest place found), length-words (drop (place + 1) rest)))
