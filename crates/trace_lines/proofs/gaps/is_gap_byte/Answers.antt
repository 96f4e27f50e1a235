use Rattle.std.proofs.Common.{◌≡◌, ◌==◌, false, refl, arith}
use Rattle.std.proofs.lemmas.Bool.Decides.{nat_tests}
use Rattle.trace_lines.proofs.gaps.is_gap_byte.Goals as goal

pub returns-else-byte-eq32 : goal.returns-else-byte-eq32
returns-else-byte-eq32 c =
    let no_space : (c.args.byte == 32) ≡ false = grind (arith, nat_tests) in
    rw no_space refl
