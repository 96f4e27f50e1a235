use Rattle.std.proofs.Common.{◌≡◌, ◌+◌, ◌++◌, length}
use Rattle.std.specs.Option.{option_copied, option_map}
use Rattle.bound_words.specs.Capacities.{rising, words_left, words_of_list}
use Rattle.bound_words.proofs.capacities.capacities_in.Given as goal

-- as many words were read, and their capacities stand in front of those of what is left
abbrev pub invariant-loop-at : goal.invariant-loop-at
invariant-loop-at l = record {
  counted : length (words_of_list l.value) ≡ l._at + length (words_left (option_copied l.left));
  same : rising 0 (words_of_list l.value) ≡ option_map (λ more. l.capacities.items ++ more) (rising l.last (words_left (option_copied l.left)));
}
