use Rattle.std.proofs.Common.{◌<◌, ◌∙◌, ap, subst, sym, length, arith, IsSome}
use Rattle.std.specs.BTreeMap.{is_at, insert_entry}
use Rattle.std.specs.List.Sorted.{IsStrictlySortedBy}
use Rattle.std.specs.Map.{keys_of, lookup}
use Rattle.std.specs.Ordering.{nat_cmp}
use Rattle.sparse_list.specs.Sparse.{Sparse}
use Rattle.replay_rank.specs.declared.holdings.Held.{Held}
use Rattle.replay_rank.specs.HeldPairs.{pairs_from}
use Rattle.replay_rank.proofs.Cells.{cell-there, item-there, pairs-put, keys-rise}
use Rattle.replay_rank.proofs.holdings.Holdings.renew.Goals as goal

pub change-requires : goal.change-requires
change-requires g c =
    record { there = item-there c.self.inside.cells c.args.object c.self.invariant (subst (λ ps. IsSome (lookup (is_at (nat_cmp c.args.object)) ps)) (sym c.self.view_is) c.requires.there) }

pub returns-clause-renewed : goal.returns-clause-renewed
returns-clause-renewed g c =
    let within : c.args.object < length c.self.inside.cells.items =
    cell-there c.self.inside.cells.items c.args.object (subst (λ ps. IsSome (lookup (is_at (nat_cmp c.args.object)) ps)) (sym c.self.view_is) c.requires.there) in
    ap (λ (s : Sparse (Held g.row.X.Denot)). pairs_from 0 s.items) c.change.ensures
    ∙ (pairs-put c.self.inside.cells.items 0 c.args.object c.args.object c.args.held (omega arith) within c.requires.size
    ∙ ap (λ ps. insert_entry nat_cmp ps c.args.object c.args.held) c.self.view_is)

pub returns-clause-was_ordered : goal.returns-clause-was_ordered
returns-clause-was_ordered g c = subst (λ ps. IsStrictlySortedBy nat_cmp (keys_of ps)) c.self.view_is (keys-rise c.self.inside.cells.items 0)
