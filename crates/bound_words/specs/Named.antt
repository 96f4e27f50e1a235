-- Operands by their names: a name, `=` and a value.
use Rattle.std.specs.Prelude.{ℕ, List, ◌==◌, Bool, find}
use Rattle.std.specs.declared.option.Option.{Option}
use Rattle.std.specs.List.{list_any, before_first, after_first, position_from}
use Rattle.std.specs.Option.{option_map}
use Rattle.std.specs.Str.{bytes_eq}

-- whether a word has a `=`
abbrev pub has_equals : List ℕ → Bool
has_equals word = list_any (λ b. b == 61) word

-- the name of an operand is what stands before its first `=`
abbrev pub name_of : List ℕ → List ℕ
name_of word = before_first (λ b. b == 61) word

-- the value of an operand is what stands after its first `=`
abbrev pub value_of : List ℕ → List ℕ
value_of word = after_first (λ b. b == 61) word

-- the value that the operands give to a name
abbrev pub value_given : List ℕ → List (List ℕ) → Option (List ℕ)
value_given name operands = option_map value_of (find (λ word. bytes_eq (name_of word) name) operands)

-- the place of the operand of this name, if the first operand is at this place
abbrev pub place_given : ℕ → List ℕ → List (List ℕ) → Option ℕ
place_given first name operands = position_from (λ word. bytes_eq (name_of word) name) first operands
