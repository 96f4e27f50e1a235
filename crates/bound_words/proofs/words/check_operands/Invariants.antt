use Rattle.std.proofs.Common.{◌≡◌, ◌+◌, [], map, take, drop, string_bytes}
use Rattle.bound_words.specs.Words.{operands_fault}
use Rattle.bound_words.proofs.words.check_operands.Given as goal

abbrev pub invariant-loop-at : goal.invariant-loop-at
invariant-loop-at l = operands_fault l.command l.first [] (map string_bytes l.operands) ≡ operands_fault l.command (l.first + l.at) (take l.at (map string_bytes l.operands)) (drop l.at (map string_bytes l.operands))
