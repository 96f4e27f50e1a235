use Rattle.std.proofs.Common.{◌≡◌, ℕ, ◌∙◌, ap, [], ◌∷◌, cond, option_to_list}
use Rattle.policy_model.specs.Asks.{ask_at}
use Rattle.policy_model.specs.States.{has_member}
use Rattle.replay_fresh.specs.FreshRuns.{members_without}
use Rattle.replay_fresh.proofs.Left.{has_member-left}
use Rattle.replay_fresh.proofs.leaving.let_leave.Goals as goal

pub returns-clause-own_stays : goal.returns-clause-own_stays
returns-clause-own_stays g c = λ fresh.
    let k : ℕ = (ask_at c.args.trace.now.objects c.args.t).object in
    let none : option_to_list c.own_if_stale-own.result ≡ [] = c.own_if_stale-own.ensures.own ∙ ap (λ b. cond b (k ∷ []) []) fresh in
    ap (λ ms. has_member ms k) (c.let_go_of-2.ensures.contents ∙ ap (λ ms. members_without ms (option_to_list c.in_ok-replaced.replaced)) c.let_go_of.ensures.contents)
    ∙ has_member-left (g.P.Policy.contents c.args.policy.now) k (option_to_list c.own_if_stale-own.result) c.in_ok-replaced.replaced none c.in_ok-replaced.ensures.other
