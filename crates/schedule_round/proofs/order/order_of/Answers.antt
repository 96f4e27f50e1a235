use Rattle.std.proofs.Common.{◌<◌, ◌∙◌, true, false, arith, ap, length}
use Rattle.std.proofs.lemmas.List.{get_or_default}
use Rattle.schedule_round.proofs.Ranking.{collected_flagged, collected_next, rank_order}
use Rattle.schedule_round.proofs.order.order_of.Goals as goal
use Rattle.schedule_round.proofs.order.order_of.Goals.{then-not-full-number+in_ok-push, else-not-full-number}

pub loop-number-preserved : goal.loop-number-preserved
loop-number-preserved c =
    let items = c.args.intervals.now.items in
    let full = c.args.full.now in
    let number = c.loop-number.number in
    let before = c.loop-number.order.items in
    let within : number < length full = omega (arith, c.loop-number-test.true, ap length c.as_slice-items.ensures.items, c.requires.flags) in
    elim c.if-not-full-number.branch [
      | then-not-full-number+in_ok-push w ↦
          collected_next items full number before c.if-not-full-number.order.items w.new.result (get_or_default full number true false within ∙ w.if-not-full-number.true) w.new.ensures.number (w.new.ensures.rank ∙ (rw c.as_slice-items.ensures.items at w.rank.ensures.rank))
          (ap (λ v. v.items) w.order-is ∙ w.in_ok-push.ensures.items) c.loop-number.invariant
      | else-not-full-number w ↦
          collected_flagged items full number before c.if-not-full-number.order.items (get_or_default full number true false within ∙ w.if-not-full-number.false) (ap (λ v. v.items) w.order-is) c.loop-number.invariant
    ]

pub returns : goal.returns
returns c =
    rank_order c.args.intervals.now.items c.args.full.now c.requires.flags c.loop-number.number c.loop-number.order.items c.sort_unstable.new.self.items c.loop-number.invariant (omega (arith, ap length c.as_slice-items.ensures.items)) c.as_slice-items.ensures.timeline.order
    c.sort_unstable.ensures.permutation c.sort_unstable.ensures.sorted
