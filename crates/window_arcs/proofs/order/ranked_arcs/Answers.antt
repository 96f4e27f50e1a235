use Rattle.std.proofs.Common.{◌+◌, ◌∙◌, ℕ, sym, subst, ap, length, arith, rules}
use Rattle.std.proofs.lemmas.List.Sorted.{IsNonDecreasingBy-from_sort_by_key}
use Rattle.std.specs.List.Sorted.{IsNonDecreasingBy}
use Rattle.window_arcs.specs.declared.order.Ranked.{Ranked}
use Rattle.window_arcs.proofs.OrderLemmas.{AreCollected, collected_more, collected_same, ordered}
use Rattle.window_arcs.proofs.order.ranked_arcs.Goals as goal
use Rattle.window_arcs.proofs.order.ranked_arcs.Goals.{then-passes_some+in_ok-push, else-passes_some}

pub loop-number-preserved : goal.loop-number-preserved
loop-number-preserved c =
    let arcs = c.arcs-arcs.result.now in
    let k : ℕ = c.loop-number.number in
    let before = c.loop-number.ranked.items in
    elim c.if-passes_some.branch [
      | then-passes_some+in_ok-push w ↦
          subst (AreCollected c.args.width arcs (k + 1)) (sym (ap (λ v. v.items) w.ranked-is ∙ w.in_ok-push.ensures.items))
          (collected_more c.args.width arcs k w.whole_share.result before c.loop-number.invariant (sym c.passes_some.ensures ∙ w.if-passes_some.true) w.whole_share.type_inv w.whole_share.ensures)
      | else-passes_some w ↦
          subst (AreCollected c.args.width arcs (k + 1)) (sym (ap (λ v. v.items) w.ranked-is))
          (collected_same c.args.width arcs k before c.loop-number.invariant (sym c.passes_some.ensures ∙ w.if-passes_some.false))
    ]

pub returns : goal.returns
returns c =
    let ys = c.sort_unstable_by_key.new.self.items in
    let rises : IsNonDecreasingBy (λ (r : Ranked). r.below) ys =
    IsNonDecreasingBy-from_sort_by_key (λ (r : Ranked). r.below) ys c.sort_unstable_by_key.ensures.sorted (λ a r q k. search rules) in
    let arcs = c.args.whole.now.arcs in
    let collected : AreCollected c.args.width arcs c.loop-number.number c.loop-number.ranked.items = subst (λ xs. AreCollected c.args.width xs c.loop-number.number c.loop-number.ranked.items) c.arcs-arcs.ensures.arcs c.loop-number.invariant in
    ordered c.args.width c.loop-number.number arcs c.loop-number.ranked.items ys collected (omega (arith, ap length c.arcs-arcs.ensures.arcs, c.loop-number-test.false, c.loop-number.auto.number-end)) c.arcs-arcs.ensures.in_range.few_arcs
    c.sort_unstable_by_key.ensures.permutation rises
