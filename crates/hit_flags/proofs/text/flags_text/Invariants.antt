use Rattle.std.proofs.Common.{◌≡◌, take}
use Rattle.bit_list.specs.Bits.{bits_of}
use Rattle.hit_flags.specs.Laws.{flags_text}
use Rattle.hit_flags.proofs.text.flags_text.Given as goal

abbrev pub invariant-loop-at : goal.invariant-loop-at
invariant-loop-at l = l.text.items ≡ flags_text (take l.at (bits_of l.flags))
