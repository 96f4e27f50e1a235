use Rattle.std.proofs.Common.{◌∙◌, sym, ap}
use Rattle.policy_model.specs.Sieve.{Cut, begin_again}
use Rattle.policy_model.specs.Steps.{without_entry}
use Rattle.replay_queues.specs.SieveQueues.{cut_at}
use Rattle.replay_queues.specs.declared.hand.Hand.{Hand}
use Rattle.replay_queues.proofs.HandLemmas.{none-leaves}
use Rattle.replay_queues.proofs.hand.Hand.leave.Goals.{then-holds, else-holds}
use Rattle.replay_queues.proofs.hand.Hand.leave.Goals as goal

pub returns-clause-cut : goal.returns-clause-cut
returns-clause-cut c =
    let of : Cut → Cut = λ cut. begin_again cut.behind cut.ahead in
    c.begin_again.ensures.cut ∙ elim c.if-holds.branch [
      | then-holds w ↦ ap (λ (h : Hand). of (cut_at h)) w.self-is ∙ ap (λ es. begin_again es (cut_at w.take_out-freed.new.self).ahead) w.take_out-freed.ensures.behind
          ∙ ap (begin_again (without_entry c.args.object (cut_at c.args.self.now).behind)) w.take_out-freed.ensures.ahead
      | else-holds w ↦ ap (λ (h : Hand). of (cut_at h)) w.self-is ∙ ap of (none-leaves c.args.self.now c.requires.held c.args.object (sym c.holds.ensures ∙ w.if-holds.false))
    ]
