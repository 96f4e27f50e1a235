use Rattle.std.proofs.Common.{◌≡◌, ◌+◌, length}
use Rattle.std.specs.Option.{is_some, option_copied}
use Rattle.bound_words.specs.Capacities.{rising, words_left, words_of_list}
use Rattle.bound_words.proofs.capacities.are_capacities.Given as goal

-- as many words were read, and what is left decides
abbrev pub invariant-loop-at : goal.invariant-loop-at
invariant-loop-at l = record {
  counted : length (words_of_list l.value) ≡ l._at + length (words_left (option_copied l.left));
  same : is_some (rising 0 (words_of_list l.value)) ≡ is_some (rising l.last (words_left (option_copied l.left)));
}
