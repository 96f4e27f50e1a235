-- The operand capacities: capacities between commas, each greater than the one before it.
use Rattle.std.specs.Prelude.{◌≡◌, ℕ, ◌<◌, ◌==◌, nat_le, nat_lt, if◌then◌else◌, List, [], ◌∷◌, length, option_and_then, unwrap_or, None, Some}
use Rattle.std.specs.declared.option.Option.{Option}
use Rattle.std.specs.List.{slice_split}
use Rattle.std.specs.Option.{option_map}
use Rattle.bound_words.specs.Values.{capacity_of}

-- the words of a list, between its commas
abbrev pub words_of_list : List ℕ → List (List ℕ)
words_of_list list = slice_split (λ letter. letter == 44) list

-- the capacities that words name, if each is greater than the one before it, and the first greater than `last`
abbrev pub rising : ℕ → List (List ℕ) → Option (List ℕ)
rising last [] = Some []
rising last (word ∷ words) =
    option_and_then (λ capacity. if nat_lt last capacity then option_map (λ more. capacity ∷ more) (rising capacity words) else None) (capacity_of word)

-- the capacities that a value names, of which there are at most 1,000
abbrev pub capacities_of : List ℕ → Option (List ℕ)
capacities_of value = if nat_le (length (words_of_list value)) 1000 then rising 0 (words_of_list value) else None

-- the capacities of a list of them
abbrev pub capacities_in : List ℕ → List ℕ
capacities_in list = unwrap_or (capacities_of list) []

-- a value as a list of capacities, if it is one
abbrev pub capacity_list : List ℕ → Option (List ℕ)
capacity_list value = option_map (λ capacities. value) (capacities_of value)

-- the words of what is left of a list after a comma, if something is
abbrev pub words_left : Option (List ℕ) → List (List ℕ)
words_left None = []
words_left (Some list) = words_of_list list

-- the first word of a list names this capacity, which is greater than the last one before, and this is left of the list
pub record IsNext (last : ℕ) (list : List ℕ) (capacity : ℕ) (left : Option (List ℕ)) : Type 0 where
  pub word : List ℕ
  pub words : words_of_list list ≡ word ∷ words_left left
  pub named : capacity_of word ≡ Some capacity
  pub greater : last < capacity
