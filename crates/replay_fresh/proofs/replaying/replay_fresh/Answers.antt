use Rattle.std.proofs.Common.{nat_le, not, ◌||◌, ◌≡◌, ◌≤◌, ◌<◌, ◌+◌, ◌*◌, ◌^◌, ◌∙◌, ℕ, Bool, IfSome, subst, ◌&&◌, cond, true, false, add-zero, List, sym, ap, refl, arith, length}
use Rattle.cache_model.specs.declared.objects.Object.{Object}
use Rattle.cache_model.specs.Claim.{counts_past, only_fills, request_at}
use Rattle.bit_list.specs.Bits.{bits_of}
use Rattle.policy_model.specs.Asks.{next_request, number_of}
use Rattle.policy_model.specs.States.{Member, has_member, members_size}
use Rattle.policy_model.proofs.Numbers.{number_of-found, next_request-found}
use Rattle.policy_model.proofs.Replays.{IsAsked, played-all}
use Rattle.replay_core.specs.Outcomes.{is_hit}
use Rattle.replay_core.specs.Laws.{IsSound, IsTallied}
use Rattle.replay_core.proofs.Tallies.{tally-none, tally-more}
use Rattle.replay_fresh.specs.Fresh.{is_stale, leaving, unless_stale}
use Rattle.replay_fresh.specs.Latest.{AreLatest}
use Rattle.replay_fresh.proofs.KnownRuns.{IsRunTo, run-none, run-more, run-all, state-all}
use Rattle.replay_fresh.proofs.Left.{if_counts, is_asked, size-left}
use Rattle.replay_fresh.proofs.Versions.{latest-none}
use Rattle.replay_fresh.proofs.Writes.{written-none, written-more, written-all}
use Rattle.replay_fresh.proofs.replaying.replay_fresh.Goals as goal
use Rattle.replay_fresh.proofs.replaying.replay_fresh.Goals.{then-hit_counts, else-hit_counts, then-has_written, else-has_written}

-- what counts or not is at most what counts
cond_le : (b : Bool) (n : ℕ) → cond b n 0 ≤ n
cond_le true n = omega arith
cond_le false n = omega arith

pub loop-t-init : goal.loop-t-init
loop-t-init g c = record {
  capacity = refl;
  objects = refl;
  latest = λ _. subst (λ es. AreLatest es c.args.trace.now.objects 0) (sym c.new-latest.ensures.empty) (latest-none c.args.trace.now.objects);
  played = written-none (g.P.Policy.room c.args.policy.now) c.args.warmup c.args.trace.now.fills (bits_of c.args.stale.now) c.args.replace c.args.trace.now.objects (g.P.Policy.known_state c.args.policy.now)
      (g.P.Policy.contents c.args.policy.now) c.requires.empty (g.met.P.Policy.state_fits c.args.policy.now);
  run = run-none (counts_past c.args.warmup c.args.trace.now.fills) (bits_of c.args.stale.now) c.args.replace c.args.trace.now.objects (g.P.Policy.known_state c.args.policy.now);
  tallied = tally-none (g.P.Policy.tally c.args.policy.now) c.args.warmup c.args.trace.now.fills;
  few_hits = omega arith;
  few_bytes = omega arith;
  few_written = omega arith;
}

pub request-requires-clause-kept_size : goal.request-requires-clause-kept_size
request-requires-clause-kept_size g c =
    let trace : List Object = c.args.trace.now.objects in
    let asked : IsAsked trace c.loop-t.t c.request-object.result c.size_of-size.result =
    is_asked trace c.loop-t.t c.request-object.result c.size_of-size.result (omega arith) c.request-object.ensures.number c.request-object.ensures.object c.size_of-size.ensures.size in
    size-left trace c.loop-t.t c.request-object.result c.size_of-size.result (g.P.Policy.contents c.loop-t.policy) (g.P.Policy.contents c.let_leave.new.policy)
    (leaving (bits_of c.args.stale.now) c.args.replace trace c.loop-t.t) asked c.loop-t.invariant.played.scores.numbered c.in_ok-let_leave.ensures.contents

pub loop-t-preserved : goal.loop-t-preserved
loop-t-preserved g c =
    let trace : List Object = c.args.trace.now.objects in
    let fills : List Bool = c.args.trace.now.fills in
    let stale : List Bool = bits_of c.args.stale.now in
    let t : ℕ = c.loop-t.t in
    let k : ℕ = c.request-object.result in
    let size : ℕ = c.size_of-size.result in
    let old : List Member = g.P.Policy.contents c.loop-t.policy in
    let left : List Member = g.P.Policy.contents c.let_leave.new.policy in
    let hit : Bool = is_hit c.in_ok-outcome.outcome in
    let counts : Bool = counts_past c.args.warmup fills t && hit in
    let within : t < length trace = omega arith in
    let asked : IsAsked trace t k size = is_asked trace t k size within c.request-object.ensures.number c.request-object.ensures.object c.size_of-size.ensures.size in
    let number_is : number_of trace (request_at trace t) ≡ k = number_of-found trace (request_at trace t) k c.request-object.ensures.number in
    let hit_is : hit ≡ has_member left k = c.in_ok-outcome.ensures.outcome in
    let stays : is_stale stale t ≡ false → hit ≡ has_member old k = λ fresh. hit_is ∙ subst (λ n. has_member left n ≡ has_member old n) number_is (c.in_ok-let_leave.ensures.own_stays fresh) in
    let held : only_fills fills t ≡ false → hit ≡ has_member old k = if_counts (is_stale stale t) (only_fills fills t) hit (has_member old k) (c.requires.only_fill t within) stays in
    let hits_more : c.if-hit_counts.hits ≡ c.loop-t.hits + cond counts 1 0 =
    elim c.if-hit_counts.branch [
      | then-hit_counts w ↦ w.hits-is ∙ ap (λ b. c.loop-t.hits + cond b 1 0) (sym w.if-hit_counts.true ∙ c.hit_counts.ensures)
      | else-hit_counts w ↦ w.hits-is ∙ sym (add-zero c.loop-t.hits) ∙ ap (λ b. c.loop-t.hits + cond b 1 0) (sym w.if-hit_counts.false ∙ c.hit_counts.ensures)
    ] in
    let bytes_more : c.if-hit_counts.bytes ≡ c.loop-t.bytes + cond counts size 0 =
    elim c.if-hit_counts.branch [
      | then-hit_counts w ↦ w.bytes-is ∙ ap (λ b. c.loop-t.bytes + cond b size 0) (sym w.if-hit_counts.true ∙ c.hit_counts.ensures)
      | else-hit_counts w ↦ w.bytes-is ∙ sym (add-zero c.loop-t.bytes) ∙ ap (λ b. c.loop-t.bytes + cond b size 0) (sym w.if-hit_counts.false ∙ c.hit_counts.ensures)
    ] in
    let writes : Bool = nat_le c.args.warmup t && ((only_fills fills t || not hit) && has_member (g.P.Policy.contents c.request.new.self) k) in
    let written_more : c.if-has_written.written ≡ c.loop-t.written + cond writes size 0 =
    elim c.if-has_written.branch [
      | then-has_written w ↦ w.written-is ∙ ap (λ b. c.loop-t.written + cond b size 0) (sym w.if-has_written.true ∙ c.has_written.ensures)
      | else-has_written w ↦ w.written-is ∙ sym (add-zero c.loop-t.written) ∙ ap (λ b. c.loop-t.written + cond b size 0) (sym w.if-has_written.false ∙ c.has_written.ensures)
    ] in
    let next_is : c.unless_stale-next.result ≡ unless_stale stale (next_request trace t) =
    c.unless_stale-next.ensures ∙ ap (unless_stale stale) (sym (next_request-found trace t c.next.result within c.next.ensures.nearest)) in
    let run : IsRunTo (counts_past c.args.warmup fills) stale c.args.replace trace (g.P.Policy.known_state c.args.policy.now) (g.P.Policy.known_state c.request.new.self) (t + 1) c.if-hit_counts.hits c.if-hit_counts.bytes =
    run-more (counts_past c.args.warmup fills) stale c.args.replace trace (g.P.Policy.known_state c.args.policy.now) (g.P.Policy.known_state c.loop-t.policy) (g.P.Policy.known_state c.let_leave.new.policy)
    (g.P.Policy.known_state c.request.new.self) t k size c.unless_stale-next.result left (g.P.Policy.room c.let_leave.new.policy) c.loop-t.hits c.loop-t.bytes c.if-hit_counts.hits c.if-hit_counts.bytes hit within
    number_is (sym asked.size_is) next_is c.loop-t.invariant.run c.in_ok-let_leave.ensures.state (g.met.P.Policy.state_fits c.let_leave.new.policy) c.in_ok-outcome.ensures.step hit_is hits_more bytes_more in
    let sound : IsSound (g.P.Policy.room c.request.new.self) (g.P.Policy.contents c.request.new.self) = c.request.ensures.sound in
    let same_capacity : g.P.Policy.room c.request.new.self ≡ g.P.Policy.room c.args.policy.now = c.request.ensures.same_capacity ∙ c.let_leave.ensures.same_capacity ∙ c.loop-t.invariant.capacity in
    record {
      capacity = same_capacity;
      objects = c.request.ensures.same_objects ∙ c.let_leave.ensures.same_objects ∙ c.loop-t.invariant.objects;
      latest = c.in_ok-let_leave.ensures.latest;
      played = (written-more (g.P.Policy.room c.args.policy.now) c.args.warmup fills stale c.args.replace trace (g.P.Policy.known_state c.args.policy.now) (g.P.Policy.known_state c.request.new.self) t k size
          (g.P.Policy.room c.request.new.self) old left (g.P.Policy.contents c.request.new.self) c.loop-t.hits c.loop-t.bytes c.loop-t.written c.if-hit_counts.hits c.if-hit_counts.bytes c.if-has_written.written hit asked
          c.loop-t.invariant.played c.in_ok-let_leave.ensures.contents
          held c.in_ok-outcome.ensures.only_the_request_enters
          (let fits : members_size (g.P.Policy.contents c.request.new.self) ≤ g.P.Policy.room c.request.new.self = sound.within_capacity in omega (arith, same_capacity))
          sound.without_repeats hits_more bytes_more written_more run (g.met.P.Policy.state_fits c.request.new.self)).0;
      run = run;
      tallied = tally-more (g.P.Policy.tally c.args.policy.now) (g.P.Policy.tally c.let_leave.new.policy) (g.P.Policy.tally c.request.new.self) t c.args.warmup fills c.loop-t.hits c.if-hit_counts.hits hit
          (subst (λ n. IfSome (g.P.Policy.tally c.args.policy.now) (λ before. IsTallied before n t c.args.warmup fills c.loop-t.hits)) (sym c.let_leave.ensures.same_tally) c.loop-t.invariant.tallied)
          c.in_ok-outcome.ensures.counted hits_more;
      few_hits = (let most : cond counts 1 0 ≤ 1 = cond_le counts 1 in let few : c.loop-t.hits ≤ t = c.loop-t.invariant.few_hits in omega arith);
      few_bytes = (let most : cond counts size 0 ≤ size = cond_le counts size in let few : c.loop-t.bytes ≤ t * 2 ^ 48 = c.loop-t.invariant.few_bytes in
          let small : size ≤ 2 ^ 48 = c.size_of-size.ensures.range.1 in omega arith);
      few_written = (let most : cond writes size 0 ≤ size = cond_le writes size in let few : c.loop-t.written ≤ t * 2 ^ 48 = c.loop-t.invariant.few_written in
          let small : size ≤ 2 ^ 48 = c.size_of-size.ensures.range.1 in omega arith);
    }

pub returns-clause-run : goal.returns-clause-run
returns-clause-run g c =
    run-all c.args.warmup c.args.trace.now.fills (bits_of c.args.stale.now) c.args.replace c.args.trace.now.objects (g.P.Policy.known_state c.args.policy.now) (g.P.Policy.known_state c.loop-t.policy)
    c.loop-t.t c.loop-t.hits c.loop-t.bytes (omega arith) c.requires.fresh c.loop-t.invariant.run

pub returns-clause-state : goal.returns-clause-state
returns-clause-state g c =
    state-all c.args.warmup c.args.trace.now.fills (bits_of c.args.stale.now) c.args.replace c.args.trace.now.objects (g.P.Policy.known_state c.args.policy.now) (g.P.Policy.known_state c.loop-t.policy)
    c.loop-t.t c.loop-t.hits c.loop-t.bytes (omega arith) c.requires.fresh c.loop-t.invariant.run

pub returns-clause-played : goal.returns-clause-played
returns-clause-played g c =
    played-all (g.P.Policy.room c.args.policy.now) c.args.warmup c.args.trace.now.fills c.args.trace.now.objects (g.P.Policy.contents c.loop-t.policy) c.loop-t.t c.loop-t.hits c.loop-t.bytes
    (omega arith) c.loop-t.invariant.played.scores

pub returns-clause-written : goal.returns-clause-written
returns-clause-written g c =
    written-all (g.P.Policy.room c.args.policy.now) c.args.warmup c.args.trace.now.fills (bits_of c.args.stale.now) c.args.replace c.args.trace.now.objects (g.P.Policy.known_state c.args.policy.now)
    c.loop-t.t (g.P.Policy.contents c.loop-t.policy) c.loop-t.hits c.loop-t.bytes c.loop-t.written (omega arith) c.requires.fresh c.loop-t.invariant.played

pub returns-clause-counted : goal.returns-clause-counted
returns-clause-counted g c =
    subst (λ n. IfSome (g.P.Policy.tally c.args.policy.now) (λ before. IsTallied before (g.P.Policy.tally c.loop-t.policy) n c.args.warmup c.args.trace.now.fills c.loop-t.hits)) (omega arith) c.loop-t.invariant.tallied
