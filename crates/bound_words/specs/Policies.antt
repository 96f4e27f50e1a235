-- The operand policies: words of policies between commas, each policy once, and none that looks ahead.
use Rattle.std.specs.Prelude.{◌≡◌, ℕ, List, [], ◌∷◌, Bool, true, false, ◌||◌, if◌then◌else◌, option_and_then, unwrap_or, None, Some}
use Rattle.std.specs.declared.option.Option.{Option}
use Rattle.std.specs.List.{list_any}
use Rattle.std.specs.Option.{option_map}
use Rattle.std.specs.Str.{bytes_eq}
use Rattle.policy_model.specs.declared.names.PolicyName.{PolicyName}
use Rattle.policy_model.specs.declared.names.PolicyName.TheVariants.{Belady}
use Rattle.policy_model.specs.Names.{policy_named, policy_word}
use Rattle.bound_words.specs.Capacities.{words_left, words_of_list}

-- whether a policy goes by requests that are yet to come
abbrev pub looks_ahead : PolicyName → Bool
looks_ahead Belady = true
looks_ahead policy = false

-- whether one of some words names a policy
abbrev pub is_named : PolicyName → List (List ℕ) → Bool
is_named policy words = list_any (λ word. bytes_eq word (policy_word policy)) words

-- the policies that words name, if each names one that doesn't look ahead, and that no later word names
abbrev pub named_once : List (List ℕ) → Option (List PolicyName)
named_once [] = Some []
named_once (word ∷ words) =
    option_and_then (λ policy. if looks_ahead policy || is_named policy words then None else option_map (λ more. policy ∷ more) (named_once words)) (policy_named word)

-- the policies that a value names
abbrev pub policies_of : List ℕ → Option (List PolicyName)
policies_of value = named_once (words_of_list value)

-- the policies of a list of them
abbrev pub policies_in : List ℕ → List PolicyName
policies_in list = unwrap_or (policies_of list) []

-- a value as a list of policies, if it is one
abbrev pub policy_list : List ℕ → Option (List ℕ)
policy_list value = option_map (λ policies. value) (policies_of value)

-- the first word of a list names this policy, which doesn't look ahead and is not named again, and this is left of the list
pub record IsNextPolicy (list : List ℕ) (policy : PolicyName) (left : Option (List ℕ)) : Type 0 where
  pub word : List ℕ
  pub words : words_of_list list ≡ word ∷ words_left left
  pub named : policy_named word ≡ Some policy
  pub blind : looks_ahead policy ≡ false
  pub once : is_named policy (words_left left) ≡ false
