use Rattle.std.proofs.Common.{◌≡◌, length}
use Rattle.std.specs.Option.{is_some, option_copied}
use Rattle.bound_words.specs.Capacities.{words_left, words_of_list}
use Rattle.bound_words.specs.Policies.{named_once}
use Rattle.bound_words.proofs.policies.are_policies.Given as goal

-- what is left decides
abbrev pub invariant-loop-left : goal.invariant-loop-left
invariant-loop-left l = is_some (named_once (words_of_list l.value)) ≡ is_some (named_once (words_left (option_copied l.left)))

abbrev pub decreases-loop-left : goal.decreases-loop-left
decreases-loop-left l = length (words_left (option_copied l.left))
