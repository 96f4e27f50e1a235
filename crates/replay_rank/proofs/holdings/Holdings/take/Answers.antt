use Rattle.std.proofs.Common.{◌∙◌, sym}
use Rattle.std.specs.BTreeMap.{is_at}
use Rattle.std.specs.Ordering.{nat_cmp}
use Rattle.replay_rank.proofs.Pairs.{removed-none}
use Rattle.replay_rank.proofs.holdings.Holdings.take.Goals as goal

pub returns-in_default-clause-rest : goal.returns-in_default-clause-rest
returns-in_default-clause-rest g c = sym (removed-none (is_at (nat_cmp c.args.object)) c.args.self.now (sym c.get.ensures.found ∙ c.in_default.is))
