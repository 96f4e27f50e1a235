use Rattle.std.proofs.Common.{◌≡◌, ℕ, ◌<◌, ◌≤◌, ◌∙◌, sym, ap, length, drop, arith}
use Rattle.std.proofs.lemmas.Bool.{ltb-true, ltb-false}
use Rattle.policy_model.specs.WTinyLfu.{Main, without_first}
use Rattle.replay_tinylfu.specs.Queues.{Queues, with_main, with_probation, with_protected}
use Rattle.replay_tinylfu.proofs.MoveLemmas.{first-probation, first-protected}
use Rattle.replay_tinylfu.proofs.moves.remove_first.Goals as goal
use Rattle.replay_tinylfu.proofs.moves.remove_first.Goals.{then-has_probation, else-has_probation}

pub loop-gone-preserved : goal.loop-gone-preserved
loop-gone-preserved c =
    let old : Queues = c.args.ring.now in
    let m : Main = old.segments.main in
    let n : ℕ = c.loop-gone._gone in
    let is : c.loop-gone.ring ≡ with_main (without_first n m) old = c.loop-gone.invariant in
    let left : length c.loop-gone.ring.segments.main.probation ≡ length (drop n m.probation) = ap (λ (q : Queues). length q.segments.main.probation) is in
    elim c.if-has_probation.branch [
      | then-has_probation w ↦
          let some : 0 < length c.loop-gone.ring.segments.main.probation = ltb-true 0 (length c.loop-gone.ring.segments.main.probation) (sym c.has_probation.ensures ∙ w.if-has_probation.true) in
          w.ring-is ∙ w.pop_probation.ensures.rest ∙ ap (λ (q : Queues). with_probation (drop 1 q.segments.main.probation) q) is ∙ ap (λ k. with_main k old) (first-probation m n (omega arith))
      | else-has_probation w ↦
          let none : length c.loop-gone.ring.segments.main.probation ≤ 0 = ltb-false 0 (length c.loop-gone.ring.segments.main.probation) (sym c.has_probation.ensures ∙ w.if-has_probation.false) in
          w.ring-is ∙ w.pop_protected.ensures.rest ∙ ap (λ (q : Queues). with_protected (drop 1 q.segments.main.protected) q) is ∙ ap (λ k. with_main k old) (first-protected m n (omega arith))
    ]
