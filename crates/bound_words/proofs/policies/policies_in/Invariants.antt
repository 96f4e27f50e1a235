use Rattle.std.proofs.Common.{◌≡◌, ◌++◌, length}
use Rattle.std.specs.Option.{option_copied, option_map}
use Rattle.bound_words.specs.Capacities.{words_left, words_of_list}
use Rattle.bound_words.specs.Policies.{named_once}
use Rattle.bound_words.proofs.policies.policies_in.Given as goal

-- the policies that were read stand in front of those of what is left
abbrev pub invariant-loop-left : goal.invariant-loop-left
invariant-loop-left l = named_once (words_of_list l.value) ≡ option_map (λ more. l.policies.items ++ more) (named_once (words_left (option_copied l.left)))

abbrev pub decreases-loop-left : goal.decreases-loop-left
decreases-loop-left l = length (words_left (option_copied l.left))
