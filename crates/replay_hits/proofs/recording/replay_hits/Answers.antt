use Rattle.std.proofs.Common.{◌≡◌, ◌≤◌, ◌<◌, ◌∙◌, ℕ, Bool, List, sym, ap, refl, arith, ◌+◌, length, subst, IfSome, []}
use Rattle.std.proofs.lemmas.Option.{get_or_from_slice_get}
use Rattle.cache_model.specs.declared.objects.Object.{Object}
use Rattle.cache_model.specs.Objects.{objects_of}
use Rattle.cache_model.specs.Claim.{no_object, request_at}
use Rattle.policy_model.specs.Asks.{object_numbered}
use Rattle.policy_model.specs.States.{has_member, members_size}
use Rattle.policy_model.proofs.Numbers.{number_of-found, next_request-found}
use Rattle.policy_model.proofs.Replays.{IsAsked}
use Rattle.replay_core.specs.Outcomes.{is_hit}
use Rattle.replay_core.specs.Laws.{IsSound}
use Rattle.replay_core.proofs.KnownRuns.{IsRunTo, run-none, run-more}
use Rattle.replay_core.proofs.Tallies.{tally-none, tally-more}
use Rattle.bit_list.specs.Bits.{bits_of}
use Rattle.replay_core.specs.Laws.{IsTallied}
use Rattle.replay_hits.specs.Hits.{flag_count}
use Rattle.replay_hits.proofs.Flagged.{flag_count-more, none_counts, flagged-none, flagged-more, flagged-all, are_possible}
use Rattle.replay_hits.proofs.recording.replay_hits.Goals as goal

pub loop-t-init : goal.loop-t-init
loop-t-init g c = record {
  capacity = refl;
  objects = refl;
  run = run-none (g.P.Policy.known_state c.args.policy.now) none_counts c.args.trace.now.objects;
  tallied = rw c.new-flags.ensures (tally-none (g.P.Policy.tally c.args.policy.now) 0 []);
  hits = rw c.new-flags.ensures (flagged-none (g.P.Policy.known_state c.args.policy.now) (g.P.Policy.room c.args.policy.now) c.args.trace.now.objects (g.P.Policy.contents c.args.policy.now) c.requires.empty
      (g.met.P.Policy.state_fits c.args.policy.now));
}

pub loop-t-preserved : goal.loop-t-preserved
loop-t-preserved g c =
    let trace : List Object = c.args.trace.now.objects in
    let t : ℕ = c.loop-t.t in
    let k : ℕ = c.request-object.result in
    let size : ℕ = c.size_of-size.result in
    let hit : Bool = is_hit c.in_ok-outcome.outcome in
    let within : t < length trace = omega arith in
    let object : object_numbered trace k ≡ request_at trace t = get_or_from_slice_get (objects_of trace) k (request_at trace t) no_object c.request-object.ensures.object in
    let size_is : size ≡ (request_at trace t).size = c.size_of-size.ensures.size ∙ ap (λ (x : Object). x.size) object in
    let asked : IsAsked trace t k size = record { within = within; found = c.request-object.ensures.number; object = object; size_is = size_is } in
    let hit_is : hit ≡ has_member (g.P.Policy.contents c.loop-t.policy) k = c.in_ok-outcome.ensures.outcome in
    let sound : IsSound (g.P.Policy.room c.request.new.self) (g.P.Policy.contents c.request.new.self) = c.request.ensures.sound in
    let run : IsRunTo (g.P.Policy.known_state c.args.policy.now) (g.P.Policy.known_state c.request.new.self) none_counts trace (t + 1) 0 0 =
    run-more (g.P.Policy.known_state c.args.policy.now) (g.P.Policy.known_state c.loop-t.policy) (g.P.Policy.known_state c.request.new.self) none_counts trace t k size c.next.result
    (g.P.Policy.contents c.loop-t.policy) (g.P.Policy.room c.loop-t.policy) 0 0 0 0 hit within
    (number_of-found trace (request_at trace t) k c.request-object.ensures.number) (sym size_is) (next_request-found trace t c.next.result within c.next.ensures.nearest)
    c.loop-t.invariant.run (g.met.P.Policy.state_fits c.loop-t.policy) c.in_ok-outcome.ensures.step hit_is refl refl in
    record {
      capacity = c.request.ensures.same_capacity ∙ c.loop-t.invariant.capacity;
      objects = c.request.ensures.same_objects ∙ c.loop-t.invariant.objects;
      run = run;
      tallied = rw (c.push_reserved.ensures.bits, c.make_room.ensures.bits, c.is_hit.ensures)
          (tally-more (g.P.Policy.tally c.args.policy.now) (g.P.Policy.tally c.loop-t.policy) (g.P.Policy.tally c.request.new.self) t 0 [] (flag_count (bits_of c.loop-t.flags)) _ hit
          c.loop-t.invariant.tallied c.in_ok-outcome.ensures.counted (flag_count-more (bits_of c.loop-t.flags) hit t));
      hits = rw (c.push_reserved.ensures.bits, c.make_room.ensures.bits, c.is_hit.ensures)
          (flagged-more (g.P.Policy.known_state c.args.policy.now) (g.P.Policy.known_state c.request.new.self) (g.P.Policy.room c.args.policy.now) trace t k size (g.P.Policy.room c.request.new.self)
          (g.P.Policy.contents c.loop-t.policy) (g.P.Policy.contents c.request.new.self) _ hit asked c.loop-t.invariant.hits c.in_ok-outcome.ensures.only_the_request_enters
          (let fits : members_size (g.P.Policy.contents c.request.new.self) ≤ g.P.Policy.room c.request.new.self = sound.within_capacity in
          let same : g.P.Policy.room c.request.new.self ≡ g.P.Policy.room c.args.policy.now = c.request.ensures.same_capacity ∙ c.loop-t.invariant.capacity in
          omega arith)
          sound.without_repeats hit_is run (g.met.P.Policy.state_fits c.request.new.self));
    }

pub returns-clause-hits : goal.returns-clause-hits
returns-clause-hits g c =
    flagged-all (g.P.Policy.known_state c.args.policy.now) (g.P.Policy.room c.args.policy.now) c.args.trace.now.objects c.loop-t.t (g.P.Policy.contents c.loop-t.policy) _ (omega arith) c.requires.fresh c.loop-t.invariant.hits

pub returns-clause-possible : goal.returns-clause-possible
returns-clause-possible g c =
    are_possible (g.P.Policy.known_state c.args.policy.now) (g.P.Policy.room c.args.policy.now) c.args.trace.now.objects _ (returns-clause-hits g c)

pub returns-clause-counted : goal.returns-clause-counted
returns-clause-counted g c =
    subst (λ n. IfSome (g.P.Policy.tally c.args.policy.now) (λ before. IsTallied before (g.P.Policy.tally c.loop-t.policy) n 0 [] (flag_count (bits_of c.loop-t.flags)))) (omega arith) c.loop-t.invariant.tallied
