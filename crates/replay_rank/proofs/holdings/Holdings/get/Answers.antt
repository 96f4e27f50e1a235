use Rattle.std.proofs.Common.{◌∙◌, ap, subst, sym, Some}
use Rattle.std.specs.BTreeMap.{is_at}
use Rattle.std.specs.List.Sorted.{IsStrictlySortedBy}
use Rattle.std.specs.Map.{keys_of, lookup}
use Rattle.std.specs.Ordering.{nat_cmp}
use Rattle.replay_rank.specs.declared.holdings.Held.{Held}
use Rattle.replay_rank.proofs.Cells.{item-empty, item-held, keys-rise}
use Rattle.replay_rank.proofs.holdings.Holdings.get.Goals as goal

pub returns-then-held-eq0-clause-found : goal.returns-then-held-eq0-clause-found
returns-then-held-eq0-clause-found g c =
    item-empty c.self.inside.cells c.args.object c.self.invariant (sym (ap (λ (h : Held g.row.X.Denot). h.size) c.get-held.ensures) ∙ c.if-held-eq0.true)
    ∙ ap (lookup (is_at (nat_cmp c.args.object))) c.self.view_is

pub returns-clause-found : goal.returns-clause-found
returns-clause-found g c =
    ap Some c.get-held.ensures
    ∙ item-held c.self.inside.cells c.args.object c.self.invariant (λ e. c.if-held-eq0.false (ap (λ (h : Held g.row.X.Denot). h.size) c.get-held.ensures ∙ e))
    ∙ ap (lookup (is_at (nat_cmp c.args.object))) c.self.view_is

pub returns-then-held-eq0-clause-is_ordered : goal.returns-then-held-eq0-clause-is_ordered
returns-then-held-eq0-clause-is_ordered g c = subst (λ ps. IsStrictlySortedBy nat_cmp (keys_of ps)) c.self.view_is (keys-rise c.self.inside.cells.items 0)

pub returns-clause-is_ordered : goal.returns-clause-is_ordered
returns-clause-is_ordered g c = subst (λ ps. IsStrictlySortedBy nat_cmp (keys_of ps)) c.self.view_is (keys-rise c.self.inside.cells.items 0)
