use Rattle.std.proofs.Common.{◌≡◌, ◌≤◌, ◌<◌, ◌+◌, ◌∙◌, ℕ, Bool, false, List, sym, ap, refl, subst, arith, length}
use Rattle.cache_model.specs.declared.objects.Object.{Object}
use Rattle.cache_model.specs.Claim.{request_at}
use Rattle.bit_list.specs.Bits.{bits_of}
use Rattle.policy_model.specs.Asks.{next_request, number_of}
use Rattle.policy_model.specs.States.{Member, has_member, members_size}
use Rattle.policy_model.proofs.Numbers.{number_of-found, next_request-found}
use Rattle.policy_model.proofs.Replays.{IsAsked}
use Rattle.replay_core.specs.Outcomes.{is_hit}
use Rattle.replay_core.specs.Laws.{IsSound}
use Rattle.replay_fresh.specs.Fresh.{is_stale, leaving, unless_stale}
use Rattle.replay_fresh.specs.Latest.{AreLatest}
use Rattle.replay_fresh.proofs.KnownRuns.{IsRunTo, run-none, run-more}
use Rattle.replay_fresh.proofs.Left.{is_asked, size-left}
use Rattle.replay_fresh.proofs.Versions.{latest-none}
use Rattle.replay_hits.proofs.FreshFlags.{flagged-all, flagged-more, flagged-none, none_counts, unscored}
use Rattle.replay_hits.proofs.freshly.fresh_hits.Goals as goal

pub loop-t-init : goal.loop-t-init
loop-t-init g c =
    let capacity : ℕ = g.P.Policy.room c.args.policy.now in
    let stale : List Bool = bits_of c.args.stale.now in
    let trace : List Object = c.args.trace.now.objects in
    record {
      capacity = refl;
      objects = refl;
      latest = λ _. subst (λ es. AreLatest es trace 0) (sym c.new-latest.ensures.empty) (latest-none trace);
      run = run-none (none_counts capacity stale c.args.replace trace) stale c.args.replace trace (g.P.Policy.known_state c.args.policy.now);
      hits = rw c.new-flags.ensures (flagged-none capacity stale c.args.replace trace (g.P.Policy.known_state c.args.policy.now) (g.P.Policy.contents c.args.policy.now) c.requires.empty (g.met.P.Policy.state_fits c.args.policy.now));
    }

pub request-requires-clause-kept_size : goal.request-requires-clause-kept_size
request-requires-clause-kept_size g c =
    let trace : List Object = c.args.trace.now.objects in
    let asked : IsAsked trace c.loop-t.t c.request-object.result c.size_of-size.result =
    is_asked trace c.loop-t.t c.request-object.result c.size_of-size.result (omega arith) c.request-object.ensures.number c.request-object.ensures.object c.size_of-size.ensures.size in
    size-left trace c.loop-t.t c.request-object.result c.size_of-size.result (g.P.Policy.contents c.loop-t.policy) (g.P.Policy.contents c.let_leave.new.policy)
    (leaving (bits_of c.args.stale.now) c.args.replace trace c.loop-t.t) asked c.loop-t.invariant.hits.played.scores.numbered c.in_ok-let_leave.ensures.contents

pub loop-t-preserved : goal.loop-t-preserved
loop-t-preserved g c =
    let capacity : ℕ = g.P.Policy.room c.args.policy.now in
    let trace : List Object = c.args.trace.now.objects in
    let stale : List Bool = bits_of c.args.stale.now in
    let t : ℕ = c.loop-t.t in
    let k : ℕ = c.request-object.result in
    let size : ℕ = c.size_of-size.result in
    let old : List Member = g.P.Policy.contents c.loop-t.policy in
    let left : List Member = g.P.Policy.contents c.let_leave.new.policy in
    let hit : Bool = is_hit c.in_ok-outcome.outcome in
    let within : t < length trace = omega arith in
    let asked : IsAsked trace t k size = is_asked trace t k size within c.request-object.ensures.number c.request-object.ensures.object c.size_of-size.ensures.size in
    let number_is : number_of trace (request_at trace t) ≡ k = number_of-found trace (request_at trace t) k c.request-object.ensures.number in
    let hit_is : hit ≡ has_member left k = c.in_ok-outcome.ensures.outcome in
    let stays : is_stale stale t ≡ false → has_member left k ≡ has_member old k = λ fresh. subst (λ n. has_member left n ≡ has_member old n) number_is (c.in_ok-let_leave.ensures.own_stays fresh) in
    let next_is : c.unless_stale-next.result ≡ unless_stale stale (next_request trace t) =
    c.unless_stale-next.ensures ∙ ap (unless_stale stale) (sym (next_request-found trace t c.next.result within c.next.ensures.nearest)) in
    let run : IsRunTo (none_counts capacity stale c.args.replace trace) stale c.args.replace trace (g.P.Policy.known_state c.args.policy.now) (g.P.Policy.known_state c.request.new.self) (t + 1) 0 0 =
    run-more (none_counts capacity stale c.args.replace trace) stale c.args.replace trace (g.P.Policy.known_state c.args.policy.now) (g.P.Policy.known_state c.loop-t.policy) (g.P.Policy.known_state c.let_leave.new.policy)
    (g.P.Policy.known_state c.request.new.self) t k size c.unless_stale-next.result left (g.P.Policy.room c.let_leave.new.policy) 0 0 0 0 hit within
    number_is (sym asked.size_is) next_is c.loop-t.invariant.run c.in_ok-let_leave.ensures.state (g.met.P.Policy.state_fits c.let_leave.new.policy) c.in_ok-outcome.ensures.step hit_is
    (unscored capacity stale c.args.replace trace t 1 hit within) (unscored capacity stale c.args.replace trace t size hit within) in
    let sound : IsSound (g.P.Policy.room c.request.new.self) (g.P.Policy.contents c.request.new.self) = c.request.ensures.sound in
    let same_capacity : g.P.Policy.room c.request.new.self ≡ g.P.Policy.room c.args.policy.now = c.request.ensures.same_capacity ∙ c.let_leave.ensures.same_capacity ∙ c.loop-t.invariant.capacity in
    record {
      capacity = same_capacity;
      objects = c.request.ensures.same_objects ∙ c.let_leave.ensures.same_objects ∙ c.loop-t.invariant.objects;
      latest = c.in_ok-let_leave.ensures.latest;
      run = run;
      hits = rw (c.push_reserved.ensures.bits, c.make_room.ensures.bits, c.is_hit.ensures)
          (flagged-more capacity stale c.args.replace trace (g.P.Policy.known_state c.args.policy.now) (g.P.Policy.known_state c.request.new.self) t k size (g.P.Policy.room c.request.new.self)
          old left (g.P.Policy.contents c.request.new.self) _ hit asked number_is c.loop-t.invariant.hits c.in_ok-let_leave.ensures.contents stays hit_is c.in_ok-outcome.ensures.only_the_request_enters
          (let fits : members_size (g.P.Policy.contents c.request.new.self) ≤ g.P.Policy.room c.request.new.self = sound.within_capacity in omega (arith, same_capacity))
          sound.without_repeats run (g.met.P.Policy.state_fits c.request.new.self));
    }

pub returns : goal.returns
returns g c = record {
  hits = flagged-all (g.P.Policy.room c.args.policy.now) (bits_of c.args.stale.now) c.args.replace c.args.trace.now.objects (g.P.Policy.known_state c.args.policy.now) c.loop-t.t (g.P.Policy.contents c.loop-t.policy) _ (omega arith) c.requires.fresh
      c.loop-t.invariant.hits;
}
