use Rattle.std.proofs.Common.{◌≡◌, ◌+◌, ◌-◌, map, string_bytes}
use Rattle.bound_words.specs.Words.{paths}
use Rattle.bound_words.proofs.words.check_paths.Given as goal

abbrev pub invariant-loop-at : goal.invariant-loop-at
invariant-loop-at l = paths 1 l.at-end (map string_bytes l.words) ≡ paths (l.at + 1) (l.at-end - l.at) (map string_bytes l.words)
