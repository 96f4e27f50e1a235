use Rattle.std.proofs.Common.{◌∙◌, ap, arith}
use Rattle.std.specs.BTreeMap.{is_at}
use Rattle.std.specs.Map.{remove_entry}
use Rattle.std.specs.Ordering.{nat_cmp}
use Rattle.sparse_list.specs.Sparse.{Sparse}
use Rattle.replay_rank.specs.declared.holdings.Held.{Held}
use Rattle.replay_rank.specs.HeldPairs.{pairs_from}
use Rattle.replay_rank.proofs.Cells.{pairs-removed}
use Rattle.replay_rank.proofs.holdings.Holdings.remove.Goals as goal

pub returns : goal.returns
returns g c =
    ap (λ (s : Sparse (Held g.row.X.Denot)). pairs_from 0 s.items) c.remove.ensures
    ∙ (pairs-removed c.self.inside.cells.items 0 c.args.object c.args.object c.self.inside.cells.none (omega arith) c.self.invariant
    ∙ ap (remove_entry (is_at (nat_cmp c.args.object))) c.self.view_is)
