use Rattle.std.proofs.Common.{refl, arith}
use Rattle.std.proofs.lemmas.Grind.{common_steps}
use Rattle.bound_io.proofs.Rests.{copied}
use Rattle.bound_io.proofs.memory_source.MemSourceSource.read.Goals as goal

pub returns-clause-bytes : goal.returns-clause-bytes
returns-clause-bytes c = rw c.as_slice.ensures.value at (copied c.as_slice.result.now _ _ c.args.self.now.at c.copy_prefix-count.result _ _ _ (omega (arith, c.args.self.now.in_range, c.as_slice.ensures.len)) (λ _. c.args.self.now.moves) refl c.copy_prefix-count.ensures.count c.copy_prefix-count.ensures.copied c.copy_prefix-count.ensures.len)

pub returns-clause-count : goal.returns-clause-count
returns-clause-count c = grind (arith, common_steps)
