use Rattle.std.proofs.Common.{nat_le, not, ◌||◌, ◌≡◌, ◌≤◌, ◌<◌, ◌+◌, ◌*◌, ◌^◌, ◌∙◌, ℕ, Bool, IfSome, subst, ◌&&◌, cond, true, false, add-zero, List, sym, ap, refl, arith, length}
use Rattle.std.proofs.lemmas.Option.{get_or_from_slice_get}
use Rattle.cache_model.specs.declared.objects.Object.{Object}
use Rattle.cache_model.specs.Objects.{objects_of}
use Rattle.cache_model.specs.Claim.{counts_past, no_object, only_fills, request_at}
use Rattle.policy_model.specs.Asks.{object_numbered}
use Rattle.policy_model.proofs.Numbers.{number_of-found, next_request-found}
use Rattle.policy_model.proofs.Replays.{IsAsked, played-all}
use Rattle.replay_core.specs.Outcomes.{is_hit}
use Rattle.replay_core.specs.Laws.{IsSound, IsTallied}
use Rattle.policy_model.specs.States.{has_member, members_size}
use Rattle.replay_core.proofs.Tallies.{tally-none, tally-more}
use Rattle.replay_core.proofs.KnownRuns.{IsRunTo, run-none, run-more, run-all, state-all}
use Rattle.replay_core.proofs.Writes.{written-none, written-more, written-all}
use Rattle.replay_core.proofs.replaying.replay.Goals as goal
use Rattle.replay_core.proofs.replaying.replay.Goals.{then-hit_counts, else-hit_counts, then-has_written, else-has_written}

-- what counts or not is at most what counts
cond_le : (b : Bool) (n : ℕ) → cond b n 0 ≤ n
cond_le true n = omega arith
cond_le false n = omega arith

pub loop-t-init : goal.loop-t-init
loop-t-init g c = record {
  capacity = refl;
  objects = refl;
  played = written-none (g.P.Policy.known_state c.args.policy.now) (g.P.Policy.room c.args.policy.now) c.args.warmup c.args.trace.now.fills c.args.trace.now.objects (g.P.Policy.contents c.args.policy.now) c.requires.empty
      (g.met.P.Policy.state_fits c.args.policy.now);
  run = run-none (g.P.Policy.known_state c.args.policy.now) (counts_past c.args.warmup c.args.trace.now.fills) c.args.trace.now.objects;
  tallied = tally-none (g.P.Policy.tally c.args.policy.now) c.args.warmup c.args.trace.now.fills;
  few_hits = omega arith;
  few_bytes = omega arith;
  few_written = omega arith;
}

pub loop-t-preserved : goal.loop-t-preserved
loop-t-preserved g c =
    let trace : List Object = c.args.trace.now.objects in
    let t : ℕ = c.loop-t.t in
    let k : ℕ = c.request-object.result in
    let size : ℕ = c.size_of-size.result in
    let hit : Bool = is_hit c.in_ok-outcome.outcome in
    let counts : Bool = counts_past c.args.warmup c.args.trace.now.fills t && hit in
    let within : t < length trace = omega arith in
    let object : object_numbered trace k ≡ request_at trace t = get_or_from_slice_get (objects_of trace) k (request_at trace t) no_object c.request-object.ensures.object in
    let size_is : size ≡ (request_at trace t).size = c.size_of-size.ensures.size ∙ ap (λ (x : Object). x.size) object in
    let asked : IsAsked trace t k size = record { within = within; found = c.request-object.ensures.number; object = object; size_is = size_is } in
    let hit_is : hit ≡ has_member (g.P.Policy.contents c.loop-t.policy) k = c.in_ok-outcome.ensures.outcome in
    let hits_more : c.if-hit_counts.hits ≡ c.loop-t.hits + cond counts 1 0 =
    elim c.if-hit_counts.branch [
      | then-hit_counts w ↦ w.hits-is ∙ ap (λ b. c.loop-t.hits + cond b 1 0) (sym w.if-hit_counts.true ∙ c.hit_counts.ensures)
      | else-hit_counts w ↦ w.hits-is ∙ sym (add-zero c.loop-t.hits) ∙ ap (λ b. c.loop-t.hits + cond b 1 0) (sym w.if-hit_counts.false ∙ c.hit_counts.ensures)
    ] in
    let bytes_more : c.if-hit_counts.bytes ≡ c.loop-t.bytes + cond counts size 0 =
    elim c.if-hit_counts.branch [
      | then-hit_counts w ↦ w.bytes-is ∙ ap (λ b. c.loop-t.bytes + cond b size 0) (sym w.if-hit_counts.true ∙ c.hit_counts.ensures)
      | else-hit_counts w ↦ w.bytes-is ∙ sym (add-zero c.loop-t.bytes) ∙ ap (λ b. c.loop-t.bytes + cond b size 0) (sym w.if-hit_counts.false ∙ c.hit_counts.ensures)
    ] in
    let writes : Bool = nat_le c.args.warmup t && ((only_fills c.args.trace.now.fills t || not hit) && has_member (g.P.Policy.contents c.request.new.self) k) in
    let written_more : c.if-has_written.written ≡ c.loop-t.written + cond writes size 0 =
    elim c.if-has_written.branch [
      | then-has_written w ↦ w.written-is ∙ ap (λ b. c.loop-t.written + cond b size 0) (sym w.if-has_written.true ∙ c.has_written.ensures)
      | else-has_written w ↦ w.written-is ∙ sym (add-zero c.loop-t.written) ∙ ap (λ b. c.loop-t.written + cond b size 0) (sym w.if-has_written.false ∙ c.has_written.ensures)
    ] in
    let run : IsRunTo (g.P.Policy.known_state c.args.policy.now) (g.P.Policy.known_state c.request.new.self) (counts_past c.args.warmup c.args.trace.now.fills) trace (t + 1) c.if-hit_counts.hits c.if-hit_counts.bytes =
    run-more (g.P.Policy.known_state c.args.policy.now) (g.P.Policy.known_state c.loop-t.policy) (g.P.Policy.known_state c.request.new.self) (counts_past c.args.warmup c.args.trace.now.fills) trace t k size c.next.result
    (g.P.Policy.contents c.loop-t.policy) (g.P.Policy.room c.loop-t.policy) c.loop-t.hits c.loop-t.bytes c.if-hit_counts.hits c.if-hit_counts.bytes hit within
    (number_of-found trace (request_at trace t) k c.request-object.ensures.number) (sym size_is) (next_request-found trace t c.next.result within c.next.ensures.nearest)
    c.loop-t.invariant.run (g.met.P.Policy.state_fits c.loop-t.policy) c.in_ok-outcome.ensures.step hit_is hits_more bytes_more in
    let sound : IsSound (g.P.Policy.room c.request.new.self) (g.P.Policy.contents c.request.new.self) = c.request.ensures.sound in
    record {
      capacity = c.request.ensures.same_capacity ∙ c.loop-t.invariant.capacity;
      objects = c.request.ensures.same_objects ∙ c.loop-t.invariant.objects;
      played = written-more (g.P.Policy.known_state c.args.policy.now) (g.P.Policy.known_state c.request.new.self) (g.P.Policy.room c.args.policy.now) c.args.warmup c.args.trace.now.fills trace t k size (g.P.Policy.room c.request.new.self)
          (g.P.Policy.contents c.loop-t.policy) (g.P.Policy.contents c.request.new.self)
          c.loop-t.hits c.loop-t.bytes c.loop-t.written c.if-hit_counts.hits c.if-hit_counts.bytes c.if-has_written.written hit asked c.loop-t.invariant.played c.in_ok-outcome.ensures.only_the_request_enters
          (let fits : members_size (g.P.Policy.contents c.request.new.self) ≤ g.P.Policy.room c.request.new.self = sound.within_capacity in
          let same : g.P.Policy.room c.request.new.self ≡ g.P.Policy.room c.args.policy.now = c.request.ensures.same_capacity ∙ c.loop-t.invariant.capacity in
          omega arith)
          sound.without_repeats hit_is hits_more bytes_more written_more run (g.met.P.Policy.state_fits c.request.new.self);
      run = run;
      tallied = tally-more (g.P.Policy.tally c.args.policy.now) (g.P.Policy.tally c.loop-t.policy) (g.P.Policy.tally c.request.new.self) t c.args.warmup c.args.trace.now.fills c.loop-t.hits c.if-hit_counts.hits hit
          c.loop-t.invariant.tallied c.in_ok-outcome.ensures.counted hits_more;
      few_hits = (let most : cond counts 1 0 ≤ 1 = cond_le counts 1 in let few : c.loop-t.hits ≤ t = c.loop-t.invariant.few_hits in omega arith);
      few_bytes = (let most : cond counts size 0 ≤ size = cond_le counts size in let few : c.loop-t.bytes ≤ t * 2 ^ 48 = c.loop-t.invariant.few_bytes in
          let small : size ≤ 2 ^ 48 = c.size_of-size.ensures.range.1 in omega arith);
      few_written = (let most : cond writes size 0 ≤ size = cond_le writes size in let few : c.loop-t.written ≤ t * 2 ^ 48 = c.loop-t.invariant.few_written in
          let small : size ≤ 2 ^ 48 = c.size_of-size.ensures.range.1 in omega arith);
    }

pub returns-clause-run : goal.returns-clause-run
returns-clause-run g c =
    run-all (g.P.Policy.known_state c.args.policy.now) (g.P.Policy.known_state c.loop-t.policy) c.args.warmup c.args.trace.now.fills c.args.trace.now.objects c.loop-t.t c.loop-t.hits c.loop-t.bytes
    (omega arith) c.requires.fresh c.loop-t.invariant.run

pub returns-clause-state : goal.returns-clause-state
returns-clause-state g c =
    state-all (g.P.Policy.known_state c.args.policy.now) (g.P.Policy.known_state c.loop-t.policy) c.args.warmup c.args.trace.now.fills c.args.trace.now.objects c.loop-t.t c.loop-t.hits c.loop-t.bytes
    (omega arith) c.requires.fresh c.loop-t.invariant.run

pub returns-clause-played : goal.returns-clause-played
returns-clause-played g c =
    played-all (g.P.Policy.room c.args.policy.now) c.args.warmup c.args.trace.now.fills c.args.trace.now.objects (g.P.Policy.contents c.loop-t.policy) c.loop-t.t c.loop-t.hits c.loop-t.bytes
    (omega arith) c.loop-t.invariant.played.scores

pub returns-clause-written : goal.returns-clause-written
returns-clause-written g c =
    written-all (g.P.Policy.known_state c.args.policy.now) (g.P.Policy.room c.args.policy.now) c.args.warmup c.args.trace.now.fills c.args.trace.now.objects c.loop-t.t (g.P.Policy.contents c.loop-t.policy)
    c.loop-t.hits c.loop-t.bytes c.loop-t.written (omega arith) c.requires.fresh c.loop-t.invariant.played

pub returns-clause-counted : goal.returns-clause-counted
returns-clause-counted g c =
    subst (λ n. IfSome (g.P.Policy.tally c.args.policy.now) (λ before. IsTallied before (g.P.Policy.tally c.loop-t.policy) n c.args.warmup c.args.trace.now.fills c.loop-t.hits)) (omega arith) c.loop-t.invariant.tallied
