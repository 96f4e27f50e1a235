-- Operands found by name, and looked at one by one.
use Rattle.std.proofs.Common.{◌≡◌, ◌∙◌, ℕ, ◌+◌, ◌<◌, ap, sym, refl, arith, Bool, true, false, cond, List, [], ◌∷◌, ◌++◌, take, drop, length, map, get_or, Some, None, zero-add}
use Rattle.std.specs.declared.option.Option.{Option}
use Rattle.std.specs.List.{find, position_from}
use Rattle.std.specs.Option.{option_map, option_or}
use Rattle.std.specs.Str.{bytes_eq}
use Rattle.std.proofs.lemmas.List.{take_more, drop_more, take-map, get_or-map, length-map}
use Rattle.bound_terms.specs.declared.words.WordKind.{WordKind}
use Rattle.bound_words.specs.declared.commands.Command.{Command}
use Rattle.bound_words.specs.Named.{name_of, place_given, value_given, value_of}
use Rattle.bound_words.specs.Faults.{fault}
use Rattle.bound_words.specs.Words.{operand_fault, operands_fault}

-- a choice among images
choice_mapped : {A B : Type 0} (f : A → B) (b : Bool) (x : A) (xs : Option A) (ys : Option B) → ys ≡ option_map f xs → cond b (Some (f x)) ys ≡ option_map f (cond b (Some x) xs)
choice_mapped f true x xs ys h = refl
choice_mapped f false x xs ys h = h

-- what is found among the images is the image of what is found
find-map : {A B : Type 0} (f : A → B) (p : B → Bool) (xs : List A) → find p (map f xs) ≡ option_map f (find (λ x. p (f x)) xs)
find-map f p [] = refl
find-map f p (x ∷ xs) = choice_mapped f (p (f x)) x _ _ (find-map f p xs)

-- the value of what is found
value_of_found : {A : Type 0} (f : A → List ℕ) (found : Option A) → option_map value_of (option_map f found) ≡ option_map (λ x. value_of (f x)) found
value_of_found f None = refl
value_of_found f (Some x) = refl

-- the value that the items give to a name is that of the first item of the name
pub value_given_by : {A : Type 0} (f : A → List ℕ) (name : List ℕ) (items : List A) (found : Option A)
    → found ≡ find (λ x. bytes_eq (name_of (f x)) name) items → value_given name (map f items) ≡ option_map (λ x. value_of (f x)) found
value_given_by f name items found is =
    ap (option_map value_of) (find-map f (λ word. bytes_eq (name_of word) name) items ∙ ap (option_map f) (sym is)) ∙ value_of_found f found

-- a place among the images, counted on from a start
place_mapped : {A : Type 0} (f : A → List ℕ) (p : List ℕ → Bool) (at start : ℕ) (items : List A)
    → position_from p (at + start) (map f items) ≡ option_map (λ n. n + start) (position_from (λ x. p (f x)) at items)
place_mapped f p at start [] = refl
place_mapped f p at start (x ∷ xs) =
    let next : at + start + 1 ≡ at + 1 + start = omega arith in
    ap (λ n. cond (p (f x)) (Some (at + start)) (position_from p n (map f xs))) next
    ∙ choice_mapped (λ n. n + start) (p (f x)) at _ _ (place_mapped f p (at + 1) start xs)

-- the place that the items give to a name is that of the first item of the name
pub place_given_by : {A : Type 0} (f : A → List ℕ) (name : List ℕ) (items : List A) (first : ℕ) (found : Option ℕ)
    → found ≡ position_from (λ x. bytes_eq (name_of (f x)) name) 0 items → place_given first name (map f items) ≡ option_map (λ n. n + first) found
place_given_by f name items first found is =
    ap (λ n. position_from (λ word. bytes_eq (name_of word) name) n (map f items)) (sym (zero-add first))
    ∙ place_mapped f (λ word. bytes_eq (name_of word) name) 0 first items
    ∙ ap (option_map (λ n. n + first)) (sym is)

-- the operands from one on are refused at that one, or from the next one on
next_operand : (command : Command) (place at : ℕ) (words : List (List ℕ)) → at < length words
    → operands_fault command (place + at) (take at words) (drop at words)
    ≡ option_or (option_map (fault (place + at)) (operand_fault command (take at words) (get_or words at []))) (operands_fault command (place + (at + 1)) (take (at + 1) words) (drop (at + 1) words))
next_operand command place at words below =
    let next : place + at + 1 ≡ place + (at + 1) = omega arith in
    let word = get_or words at [] in
    ap (operands_fault command (place + at) (take at words)) (drop_more words at [] below)
    ∙ ap (λ n. option_or (option_map (fault (place + at)) (operand_fault command (take at words) word)) (operands_fault command n (take at words ++ word ∷ []) (drop (at + 1) words))) next
    ∙ ap (λ prefix. option_or (option_map (fault (place + at)) (operand_fault command (take at words) word)) (operands_fault command (place + (at + 1)) prefix (drop (at + 1) words))) (sym (take_more words at [] below))

-- the words of the items, of which those before one passed
module _ {A : Type 0} (command : Command) (f : A → List ℕ) (items : List A) (place at : ℕ) (item : A) (below : at < length items) (is : item ≡ get_or items at item) where
  looked_at : operand_fault command (take at (map f items)) (get_or (map f items) at []) ≡ operand_fault command (map f (take at items)) (f item)
  looked_at =
      ap (λ prefix. operand_fault command prefix (get_or (map f items) at [])) (take-map f at items)
      ∙ ap (operand_fault command (map f (take at items))) (get_or-map f items at item [] below ∙ ap f (sym is))

  one_more : (found : Option WordKind) → found ≡ operand_fault command (map f (take at items)) (f item)
      → operands_fault command (place + at) (take at (map f items)) (drop at (map f items))
      ≡ option_or (option_map (fault (place + at)) found) (operands_fault command (place + (at + 1)) (take (at + 1) (map f items)) (drop (at + 1) (map f items)))
  one_more found here =
      next_operand command place at (map f items) (omega (arith, length-map items f))
      ∙ ap (λ k. option_or (option_map (fault (place + at)) k) (operands_fault command (place + (at + 1)) (take (at + 1) (map f items)) (drop (at + 1) (map f items)))) (looked_at ∙ sym here)

  -- one that is refused is the first
  pub stops_here : (kind : WordKind) → Some kind ≡ operand_fault command (map f (take at items)) (f item)
      → operands_fault command (place + at) (take at (map f items)) (drop at (map f items)) ≡ Some (fault (place + at) kind)
  stops_here kind here = one_more (Some kind) here

  -- one that passes leaves those after it
  pub goes_on : None ≡ operand_fault command (map f (take at items)) (f item)
      → operands_fault command (place + at) (take at (map f items)) (drop at (map f items)) ≡ operands_fault command (place + (at + 1)) (take (at + 1) (map f items)) (drop (at + 1) (map f items))
  goes_on here = one_more None here
