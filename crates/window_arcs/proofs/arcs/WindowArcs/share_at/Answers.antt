use Rattle.std.proofs.Common.{◌≡◌, ◌∙◌, ◌<◌, ℕ, List, ap, subst, arith, get_or, length}
use Rattle.std.proofs.lemmas.List.{get_or_read}
use Rattle.flow_model.specs.declared.arcs.OuterArc.{OuterArc}
use Rattle.flow_model.specs.Instances.{arc_at}
use Rattle.window_arcs.specs.Current.{Current}
use Rattle.window_arcs.specs.Passing.{IsOrder, whole_share}
use Rattle.window_arcs.proofs.CurrentLemmas.{arc_of_rank}
use Rattle.window_arcs.proofs.arcs.WindowArcs.share_at.Goals as goal

pub bounds-arcs-index : goal.bounds-arcs-index
bounds-arcs-index c =
    let inside = c.self.inside in
    let within : c.args.rank < length inside.order.numbers.items = omega (arith, c.requires, ap (λ (v : Current). length v.order) c.self.view_is) in
    (arc_of_rank inside.whole.now inside.width c.args.rank c.index.result.now inside.order.numbers.items inside.order.ranks.items c.arcs.result.now c.self.invariant.in_range c.self.invariant.ordered within
    (get_or_read inside.order.numbers.items c.args.rank c.index.result.now within c.index.ensures 0) c.arcs.ensures.arcs).0

pub whole_share-requires-clause-order : goal.whole_share-requires-clause-order
whole_share-requires-clause-order c =
    let inside = c.self.inside in
    let within : c.args.rank < length inside.order.numbers.items = omega (arith, c.requires, ap (λ (v : Current). length v.order) c.self.view_is) in
    (arc_of_rank inside.whole.now inside.width c.args.rank c.index.result.now inside.order.numbers.items inside.order.ranks.items c.arcs.result.now c.self.invariant.in_range c.self.invariant.ordered within
    (get_or_read inside.order.numbers.items c.args.rank c.index.result.now within c.index.ensures 0) c.arcs.ensures.arcs).1.order

pub whole_share-requires-clause-cost : goal.whole_share-requires-clause-cost
whole_share-requires-clause-cost c =
    let inside = c.self.inside in
    let within : c.args.rank < length inside.order.numbers.items = omega (arith, c.requires, ap (λ (v : Current). length v.order) c.self.view_is) in
    (arc_of_rank inside.whole.now inside.width c.args.rank c.index.result.now inside.order.numbers.items inside.order.ranks.items c.arcs.result.now c.self.invariant.in_range c.self.invariant.ordered within
    (get_or_read inside.order.numbers.items c.args.rank c.index.result.now within c.index.ensures 0) c.arcs.ensures.arcs).1.small_cost

pub returns-clause-share : goal.returns-clause-share
returns-clause-share c =
    let inside = c.self.inside in
    let order : List ℕ = inside.order.numbers.items in
    let within : c.args.rank < length order = omega (arith, c.requires, ap (λ (v : Current). length v.order) c.self.view_is) in
    let read : c.index.result.now ≡ get_or order c.args.rank 0 = get_or_read order c.args.rank c.index.result.now within c.index.ensures 0 in
    subst (λ (v : Current). c.whole_share.result ≡ whole_share v.cut.width (arc_at v.cut.whole.arcs (get_or v.order c.args.rank 0))) c.self.view_is
    (c.whole_share.ensures
    ∙ ap (λ (some : List OuterArc). whole_share inside.width (arc_at some c.index.result.now)) c.arcs.ensures.arcs
    ∙ ap (λ i. whole_share inside.width (arc_at inside.whole.now.arcs i)) read)

pub returns-clause-before : goal.returns-clause-before
returns-clause-before c =
    λ r low.
    let order : IsOrder c.args.self.now.cut.width c.args.self.now.cut.whole.arcs c.args.self.now.order c.self.inside.order.ranks.items =
    subst (λ (v : Current). IsOrder v.cut.width v.cut.whole.arcs v.order c.self.inside.order.ranks.items) c.self.view_is c.self.invariant.ordered in
    omega (arith, returns-clause-share c, order.falling r c.args.rank low c.requires)

pub returns-clause-after : goal.returns-clause-after
returns-clause-after c =
    λ r high within.
    let order : IsOrder c.args.self.now.cut.width c.args.self.now.cut.whole.arcs c.args.self.now.order c.self.inside.order.ranks.items =
    subst (λ (v : Current). IsOrder v.cut.width v.cut.whole.arcs v.order c.self.inside.order.ranks.items) c.self.view_is c.self.invariant.ordered in
    omega (arith, returns-clause-share c, order.falling c.args.rank r high within)
