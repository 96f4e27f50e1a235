-- Lists of capacities, read one word at a time.
use Rattle.std.proofs.Common.{◌≡◌, ◌∙◌, ℕ, zero, suc, ◌+◌, ◌<◌, ◌≤◌, ◌^◌, ap, sym, subst, refl, arith, Bool, true, false, cond, Bor, not, nat_le, nat_lt, eqb, ◌&&◌, List, [], ◌∷◌, ◌++◌, append-nil, append_assoc, length, get_or, Some, None, unwrap_or, Result, Ok, Err, All}
use Rattle.std.specs.declared.option.Option.{Option}
use Rattle.std.specs.List.Sorted.{IsNonDecreasing, IsStrictlyIncreasing}
use Rattle.std.specs.Option.{is_some, option_and_then, option_copied, option_map}
use Rattle.std.proofs.lemmas.Bool.{and_parts, leb-true, ltb-true, le-ltb, lt-ltb, lt-leb, le-leb}
use Rattle.std.proofs.lemmas.List.Elements.{All-cons}
use Rattle.std.proofs.lemmas.List.Splits.{length-slice_split}
use Rattle.bound_base.specs.declared.digits.NumFault.{NumFault}
use Rattle.bound_base.specs.Digits.{number_of}
use Rattle.capacity_curve.specs.Points.{IsInRange}
use Rattle.bound_words.specs.Values.{capacity_of, checked}
use Rattle.bound_words.specs.Capacities.{IsNext, capacities_in, capacities_of, rising, words_left, words_of_list}

-- the capacities behind one that is named
abbrev behind : ℕ → List (List ℕ) → ℕ → Option (List ℕ)
behind last words capacity = cond (nat_lt last capacity) (option_map (λ more. capacity ∷ more) (rising capacity words)) None

-- a word that names a greater capacity leaves those after it
rising-next : (last : ℕ) (word : List ℕ) (words : List (List ℕ)) (capacity : ℕ) → capacity_of word ≡ Some capacity → last < capacity
    → rising last (word ∷ words) ≡ option_map (λ more. capacity ∷ more) (rising capacity words)
rising-next last word words capacity named greater =
    ap (λ c. option_and_then (behind last words) c) named
    ∙ ap (λ b. cond b (option_map (λ more. capacity ∷ more) (rising capacity words)) None) (lt-ltb last capacity greater)

-- a word that names none, or none that is greater, ends the list
pub rising-stops : (last : ℕ) (word : List ℕ) (words : List (List ℕ)) (found : Option ℕ) → capacity_of word ≡ found → ((capacity : ℕ) → found ≡ Some capacity → capacity ≤ last)
    → rising last (word ∷ words) ≡ None
rising-stops last word words None named low = ap (λ c. option_and_then (behind last words) c) named
rising-stops last word words (Some capacity) named low =
    ap (λ c. option_and_then (behind last words) c) named
    ∙ ap (λ b. cond b (option_map (λ more. capacity ∷ more) (rising capacity words)) None) (le-ltb last capacity (low capacity refl))

-- what stands in front of what is found does not change whether something is
some-mapped : {A B : Type 0} (f : A → B) (found : Option A) → is_some (option_map f found) ≡ is_some found
some-mapped f None = refl
some-mapped f (Some x) = refl

-- one step of the reading
module _ (last : ℕ) (list : List ℕ) (capacity : ℕ) (left : Option (List ℕ)) (next : IsNext last list capacity left) where
  pub next-length : length (words_left (Some list)) ≡ 1 + length (words_left left)
  next-length = omega (arith, ap length next.words)

  pub next-rising : rising last (words_left (Some list)) ≡ option_map (λ more. capacity ∷ more) (rising capacity (words_left left))
  next-rising = ap (rising last) next.words ∙ rising-next last next.word (words_left left) capacity next.named next.greater

  pub next-some : is_some (rising last (words_left (Some list))) ≡ is_some (rising capacity (words_left left))
  next-some = ap is_some next-rising ∙ some-mapped (λ more. capacity ∷ more) (rising capacity (words_left left))

-- of capacities in front one more is the last
pub mapped-more : (items : List ℕ) (capacity : ℕ) (found : Option (List ℕ))
    → option_map (λ more. items ++ more) (option_map (λ more. capacity ∷ more) found) ≡ option_map (λ more. (items ++ capacity ∷ []) ++ more) found
mapped-more items capacity None = refl
mapped-more items capacity (Some more) = ap Some (sym (append_assoc items (capacity ∷ []) more))

-- a list has a word
words-some : (list : List ℕ) → 1 ≤ length (words_of_list list)
words-some list = omega (arith, length-slice_split (λ letter. eqb letter 44) list)

-- if nothing is left after at most 1,000 words, the value is as they say
pub all-read : (value : List ℕ) (n : ℕ) (left : Option (Bor (List ℕ))) → left ≡ None → n ≤ 1000 → length (words_of_list value) ≡ n + length (words_left (option_copied left))
    → capacities_of value ≡ rising 0 (words_of_list value)
all-read value n left none few counted =
    ap (λ b. cond b (rising 0 (words_of_list value)) None)
    (le-leb (length (words_of_list value)) 1000 (omega (arith, few, counted, ap (λ l. length (words_left (option_copied l))) none)))

-- if something is left after 1,000 words, it is no list
pub too-many : (value : List ℕ) (n : ℕ) (left : Option (Bor (List ℕ))) (list : Bor (List ℕ)) → left ≡ Some list → 1000 ≤ n → length (words_of_list value) ≡ n + length (words_left (option_copied left))
    → capacities_of value ≡ None
too-many value n left list more many counted =
    ap (λ b. cond b (rising 0 (words_of_list value)) None)
    (lt-leb (length (words_of_list value)) 1000 (omega (arith, many, counted, ap (λ l. length (words_left (option_copied l))) more, words-some list.now)))

-- a word that is no greater capacity ends the list
pub stopped : (few : Bool) (value : List ℕ) (found : Option (List ℕ)) → found ≡ None → capacities_of value ≡ cond few found None → capacities_of value ≡ None
stopped true value found none is = is ∙ none
stopped false value found none is = is

-- after 1,000 words the value is a list if nothing is left
decided : (value : List ℕ) (last n : ℕ) (left : Option (Bor (List ℕ))) → n ≡ 1000 → length (words_of_list value) ≡ n + length (words_left (option_copied left))
    → is_some (rising 0 (words_of_list value)) ≡ is_some (rising last (words_left (option_copied left))) → is_some (capacities_of value) ≡ not (is_some left)
decided value last n None all counted same = ap is_some (all-read value n None refl (omega arith) counted) ∙ same
decided value last n (Some list) all counted same = ap is_some (too-many value n (Some list) list refl (omega arith) counted)

not-not : (b : Bool) → not (not b) ≡ b
not-not true = refl
not-not false = refl

pub list-decided : (value : List ℕ) (last n : ℕ) (left : Option (Bor (List ℕ))) (none : Bool) → is_some left ≡ not none → n ≡ 1000 → length (words_of_list value) ≡ n + length (words_left (option_copied left))
    → is_some (rising 0 (words_of_list value)) ≡ is_some (rising last (words_left (option_copied left))) → none ≡ is_some (capacities_of value)
list-decided value last n left none is all counted same = sym (decided value last n left all counted same ∙ ap not is ∙ not-not none)

-- if nothing is left, the capacities are those that were read
pub all-gathered : (value items : List ℕ) (last n : ℕ) (left : Option (Bor (List ℕ))) → is_some left ≡ false → n ≤ 1000 → length (words_of_list value) ≡ n + length (words_left (option_copied left))
    → rising 0 (words_of_list value) ≡ option_map (λ more. items ++ more) (rising last (words_left (option_copied left))) → unwrap_or (capacities_of value) [] ≡ items
all-gathered value items last n None none few counted same =
    ap (λ found. unwrap_or found []) (all-read value n None refl few counted ∙ same) ∙ append-nil items
all-gathered value items last n (Some list) none few counted same = absurd cc

-- so they are after 1,000 words of a list
pub all-of-list : (value items : List ℕ) (last n : ℕ) (left : Option (Bor (List ℕ))) → is_some (capacities_of value) ≡ true → n ≡ 1000
    → length (words_of_list value) ≡ n + length (words_left (option_copied left))
    → rising 0 (words_of_list value) ≡ option_map (λ more. items ++ more) (rising last (words_left (option_copied left))) → unwrap_or (capacities_of value) [] ≡ items
all-of-list value items last n None listed all counted same = all-gathered value items last n None refl (omega arith) counted same
all-of-list value items last n (Some list) listed all counted same =
    absurd (some-none (ap is_some (sym (too-many value n (Some list) list refl (omega arith) counted)) ∙ listed))
  where
    some-none : false ≡ true → ⊥
    some-none is = cc

-- no word of a list ends it early
pub never-stops : (value items : List ℕ) (found : Option (List ℕ)) → is_some (capacities_of value) ≡ true → found ≡ None
    → rising 0 (words_of_list value) ≡ option_map (λ more. items ++ more) found → unwrap_or (capacities_of value) [] ≡ items
never-stops value items found listed none same = absurd (some-none (ap is_some (sym stops) ∙ listed))
  where
    some-none : false ≡ true → ⊥
    some-none is = cc

    stops : capacities_of value ≡ None
    stops = stopped (nat_le (length (words_of_list value)) 1000) value (rising 0 (words_of_list value)) (same ∙ ap (λ f. option_map (λ more. items ++ more) f) none) refl

-- capacities in range, each greater than the one before it
abbrev pub Climbs : ℕ → List ℕ → Type 0
Climbs last [] = Unit {0}
Climbs last (capacity ∷ more) = (last < capacity) × IsInRange capacity × Climbs capacity more

-- a number that is checked is in range
checked-range : (found : Result ℕ NumFault) (capacity : ℕ) → checked (2 ^ 56) found ≡ Some capacity → IsInRange capacity
checked-range (Err e) capacity is = absurd (none-some is)
  where
    none-some : None ≡ Some capacity → ⊥
    none-some is = cc
checked-range (Ok n) capacity is = at (nat_le 1 n && nat_le n (2 ^ 56)) refl is
  where
    at : (b : Bool) → (nat_le 1 n && nat_le n (2 ^ 56)) ≡ b → cond b (Some n) None ≡ Some capacity → IsInRange capacity
    at true within is =
        let same : n ≡ capacity = cc in
        let parts = and_parts (nat_le 1 n) (nat_le n (2 ^ 56)) within in
        subst IsInRange same (leb-true 1 n parts.0, leb-true n (2 ^ 56) parts.1)
    at false within is = absurd cc

-- a capacity and those after it climb, if those after it do
module _ (last : ℕ) (words : List (List ℕ)) (capacities : List ℕ) (rest_climbs : (capacity : ℕ) (rest : List ℕ) → rising capacity words ≡ Some rest → Climbs capacity rest) where
  with-rest : (capacity : ℕ) → last < capacity → IsInRange capacity → (found : Option (List ℕ)) → rising capacity words ≡ found
      → option_map (λ more. capacity ∷ more) found ≡ Some capacities → Climbs last capacities
  with-rest capacity greater within None rises is = absurd cc
  with-rest capacity greater within (Some rest) rises is =
      let same : capacity ∷ rest ≡ capacities = cc in
      subst (Climbs last) same (greater, within, rest_climbs capacity rest rises)

  if-greater : (capacity : ℕ) → IsInRange capacity → (b : Bool) → nat_lt last capacity ≡ b
      → cond b (option_map (λ more. capacity ∷ more) (rising capacity words)) None ≡ Some capacities → Climbs last capacities
  if-greater capacity within true above is = with-rest capacity (ltb-true last capacity above) within (rising capacity words) refl is
  if-greater capacity within false above is = absurd cc

  if-named : (word : List ℕ) (found : Option ℕ) → capacity_of word ≡ found → option_and_then (behind last words) found ≡ Some capacities → Climbs last capacities
  if-named word None here is = absurd cc
  if-named word (Some capacity) here is = if-greater capacity (checked-range (number_of (2 ^ 64) word) capacity here) (nat_lt last capacity) refl is

-- what rises climbs
rising-climbs : (last : ℕ) (words : List (List ℕ)) (capacities : List ℕ) → rising last words ≡ Some capacities → Climbs last capacities
rising-climbs last [] capacities is = let same : [] ≡ capacities = cc in subst (Climbs last) same tt
rising-climbs last (word ∷ words) capacities is =
    if-named last words capacities (λ capacity rest rises. rising-climbs capacity words rest rises) word (capacity_of word) refl is

-- capacities that climb are in range
pub climbs-range : (last : ℕ) (capacities : List ℕ) → Climbs last capacities → All IsInRange capacities
climbs-range last [] climbs = λ k d low. absurd (omega arith)
climbs-range last (capacity ∷ more) climbs = All-cons IsInRange capacity more climbs.1 (climbs-range capacity more climbs.2)

-- they are above what came before
climbs-above : (last : ℕ) (capacities : List ℕ) (i d : ℕ) → Climbs last capacities → i < length capacities → last < get_or capacities i d
climbs-above last [] i d climbs low = absurd (omega arith)
climbs-above last (capacity ∷ more) zero d climbs low = climbs.0
climbs-above last (capacity ∷ more) (suc i) d climbs low = omega (arith, climbs.0, climbs-above capacity more i d climbs.2 (omega arith))

-- and they ascend
pub climbs-ascend : (last : ℕ) (capacities : List ℕ) → Climbs last capacities → IsNonDecreasing capacities
climbs-ascend last [] climbs i j d order low = absurd (omega arith)
climbs-ascend last (capacity ∷ more) climbs zero zero d order low = omega arith
climbs-ascend last (capacity ∷ more) climbs zero (suc j) d order low = omega (arith, climbs-above capacity more j d climbs.2 (omega arith))
climbs-ascend last (capacity ∷ more) climbs (suc i) zero d order low = absurd (omega arith)
climbs-ascend last (capacity ∷ more) climbs (suc i) (suc j) d order low = climbs-ascend capacity more climbs.2 i j d (omega arith) (omega arith)

-- each above the one before it
pub climbs-strictly : (last : ℕ) (capacities : List ℕ) → Climbs last capacities → IsStrictlyIncreasing capacities
climbs-strictly last [] climbs k low = absurd (omega arith)
climbs-strictly last (capacity ∷ more) climbs zero low = climbs-above capacity more 0 0 climbs.2 (omega (arith, low))
climbs-strictly last (capacity ∷ more) climbs (suc k) low =
    let next : suc (k + 1) ≡ suc k + 1 = omega arith in
    subst (λ n. get_or (capacity ∷ more) (suc k) 0 < get_or (capacity ∷ more) n 0) next (climbs-strictly capacity more climbs.2 k (omega (arith, low)))

-- the capacities of a list climb
pub list-climbs : (list : List ℕ) → Climbs 0 (capacities_in list)
list-climbs list = of-words (nat_le (length (words_of_list list)) 1000) (words_of_list list)
  where
    found-climbs : (words : List (List ℕ)) (found : Option (List ℕ)) → rising 0 words ≡ found → Climbs 0 (unwrap_or found [])
    found-climbs words None is = tt
    found-climbs words (Some capacities) is = rising-climbs 0 words capacities is

    of-words : (few : Bool) (words : List (List ℕ)) → Climbs 0 (unwrap_or (cond few (rising 0 words) None) [])
    of-words false words = tt
    of-words true words = found-climbs words (rising 0 words) refl
