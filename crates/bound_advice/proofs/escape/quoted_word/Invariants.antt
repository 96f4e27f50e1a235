use Rattle.std.proofs.Common.{◌≡◌, ◌++◌, codes, string_bytes, flat_map}
use Rattle.bound_advice.specs.Shell.{quoted_letter}
use Rattle.bound_advice.proofs.escape.quoted_word.Given as goal

abbrev pub invariant-loop-letter : goal.invariant-loop-letter
invariant-loop-letter l = string_bytes l.quoted ≡ codes "'" ++ flat_map quoted_letter l.yielded
