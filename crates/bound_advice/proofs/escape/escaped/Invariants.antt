use Rattle.std.proofs.Common.{◌≡◌, string_bytes, flat_map, encode_utf8_all}
use Rattle.bound_advice.specs.Shown.{shown_letter}
use Rattle.bound_advice.proofs.escape.escaped.Given as goal

abbrev pub invariant-loop-letter : goal.invariant-loop-letter
invariant-loop-letter l = string_bytes l.shown ≡ encode_utf8_all (flat_map shown_letter l.yielded)
