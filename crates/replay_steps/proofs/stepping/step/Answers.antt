use Rattle.std.proofs.Common.{◌≡◌, ◌≤◌, ◌+◌, ◌∙◌, ap, sym, subst, All, List, option_to_list}
use Rattle.policy_model.specs.States.{Member, has_member, members_size}
use Rattle.replay_core.specs.Outcomes.{is_hit}
use Rattle.replay_core.specs.Laws.{IsSound, StateFits}
use Rattle.replay_fresh.proofs.Left.{All-members_without}
use Rattle.replay_steps.specs.Steps.{IsReplayedTo, counted_more, leaving_of, own_leaving}
use Rattle.replay_steps.proofs.OneMore.{members_without-both, one-more}
use Rattle.replay_steps.proofs.stepping.step.Goals as goal

pub request-requires-clause-kept_size : goal.request-requires-clause-kept_size
request-requires-clause-kept_size g c =
    subst (All (λ (m : Member). m.object ≡ c.args.asked.now.object → m.size ≡ c.args.asked.now.size)) (sym c.let_leave.ensures.contents)
    (All-members_without (λ m. m.object ≡ c.args.asked.now.object → m.size ≡ c.args.asked.now.size) (g.P.Policy.contents c.args.policy.now) (leaving_of c.args.asked.now) c.requires.kept_size)

pub returns-clause-replayed : goal.returns-clause-replayed
returns-clause-replayed g c = λ r t capacity is so_far.
    let old : List Member = g.P.Policy.contents c.args.policy.now in
    let left : List Member = g.P.Policy.contents c.let_leave.new.policy in
    let new : List Member = g.P.Policy.contents c.request.new.self in
    let sound : IsSound (g.P.Policy.room c.request.new.self) new = c.request.ensures.sound in
    let room : g.P.Policy.room c.request.new.self ≡ r.capacity = c.request.ensures.same_capacity ∙ (c.let_leave.ensures.same_capacity ∙ sym capacity) in
    let hit : is_hit c.in_ok-outcome.outcome ≡ has_member left c.args.asked.now.object = c.in_ok-outcome.ensures.outcome in
    subst (IsReplayedTo r (t + 1) (g.P.Policy.known_state c.request.new.self) new)
    (sym (c.counted_more.ensures ∙ (ap (λ b. counted_more c.args.counts c.args.asked.now b c.holds-is_held.result) c.is_hit.ensures
    ∙ ap (counted_more c.args.counts c.args.asked.now (is_hit c.in_ok-outcome.outcome)) c.holds-is_held.ensures)))
    (one-more r t c.args.asked.now (g.P.Policy.known_state c.args.policy.now) (g.P.Policy.known_state c.let_leave.new.policy) (g.P.Policy.known_state c.request.new.self) old left new
    (g.P.Policy.room c.let_leave.new.policy) c.args.counts (is_hit c.in_ok-outcome.outcome) is
    so_far c.let_leave.ensures.state c.let_leave.ensures.contents
    (c.let_leave.ensures.contents ∙ members_without-both old (own_leaving c.args.asked.now) (option_to_list c.args.asked.now.replaced))
    (g.met.P.Policy.state_fits c.let_leave.new.policy) c.in_ok-outcome.ensures.step hit c.in_ok-outcome.ensures.only_the_request_enters
    (subst (λ n. members_size new ≤ n) room sound.within_capacity) sound.without_repeats
    (subst (λ n. StateFits (g.P.Policy.known_state c.request.new.self) new n) c.request.ensures.same_capacity (g.met.P.Policy.state_fits c.request.new.self)) c.requires.size.1)
