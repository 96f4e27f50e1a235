use Rattle.std.proofs.Common.{◌∙◌, ap, subst}
use Rattle.std.specs.BTreeMap.{insert_entry}
use Rattle.std.specs.List.Sorted.{IsStrictlySortedBy}
use Rattle.std.specs.Map.{keys_of}
use Rattle.std.specs.Ordering.{nat_cmp}
use Rattle.sparse_list.specs.Sparse.{Sparse}
use Rattle.replay_rank.specs.declared.holdings.Held.{Held}
use Rattle.replay_rank.specs.HeldPairs.{pairs_from}
use Rattle.replay_rank.proofs.Cells.{pairs-put-up, keys-rise}
use Rattle.replay_rank.proofs.holdings.Holdings.put.Goals as goal

pub returns-in_err-put-clause-was_ordered : goal.returns-in_err-put-clause-was_ordered
returns-in_err-put-clause-was_ordered g c = subst (λ ps. IsStrictlySortedBy nat_cmp (keys_of ps)) c.self.view_is (keys-rise c.self.inside.cells.items 0)

pub returns-clause-put : goal.returns-clause-put
returns-clause-put g c =
    ap (λ (s : Sparse (Held g.row.X.Denot)). pairs_from 0 s.items) c.in_ok-put.ensures.put
    ∙ (pairs-put-up c.self.inside.cells c.args.object c.args.held c.self.invariant c.requires.size
    ∙ ap (λ ps. insert_entry nat_cmp ps c.args.object c.args.held) c.self.view_is)

pub returns-clause-was_ordered : goal.returns-clause-was_ordered
returns-clause-was_ordered g c = subst (λ ps. IsStrictlySortedBy nat_cmp (keys_of ps)) c.self.view_is (keys-rise c.self.inside.cells.items 0)
