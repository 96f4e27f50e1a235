use Rattle.std.proofs.Common.{◌≡◌, ◌≤◌, ◌<◌, ◌+◌, ◌*◌, ◌^◌, ◌∙◌, ℕ, Bool, true, false, not, ◌&&◌, ◌||◌, nat_le, cond, get_or, set, replicate, List, [], All, sym, ap, refl, subst, arith, length}
use Rattle.std.proofs.lemmas.List.{get_or_read, length-replicate}
use Rattle.cache_model.specs.declared.objects.Object.{Object}
use Rattle.cache_model.specs.Claim.{counts_past, only_fills, request_at}
use Rattle.cache_model.specs.Objects.{objects_of}
use Rattle.bit_list.specs.Bits.{bits_of}
use Rattle.freshness.specs.Stale.{clock}
use Rattle.policy_model.specs.Asks.{next_request, number_of}
use Rattle.policy_model.specs.States.{Member, has_member, members_size}
use Rattle.policy_model.proofs.Holdings.{IsNumbered}
use Rattle.policy_model.proofs.Numbers.{number_of-found, next_request-found}
use Rattle.policy_model.proofs.Replays.{IsAsked}
use Rattle.replay_core.specs.Laws.{IsSound}
use Rattle.replay_fresh.specs.Fresh.{is_stale, leaving, unless_stale}
use Rattle.replay_fresh.specs.FreshRuns.{LetsGoAll, members_without}
use Rattle.replay_fresh.specs.Latest.{AreLatest}
use Rattle.replay_fresh.proofs.Left.{All-members_without, is_asked, size-left}
use Rattle.replay_fresh.proofs.Versions.{latest-none}
use Rattle.ttl_laws.proofs.Idle.{clock-more}
use Rattle.replay_ttl.specs.Runs.{Timed, is_too_old, own_if_old}
use Rattle.replay_ttl.specs.Played.{timed}
use Rattle.replay_ttl.proofs.Gone.{hit-found}
use Rattle.replay_ttl.proofs.KnownRuns.{IsRunTo, run-none, run-more}
use Rattle.replay_ttl.proofs.PlayedTo.{played-all, played-more, played-none}
use Rattle.replay_ttl.proofs.replaying.replay_with_ttl.Goals as goal
use Rattle.replay_ttl.proofs.replaying.replay_with_ttl.Goals.{then-writes, else-writes}

-- what counts or not is at most what counts
cond_le : (b : Bool) (n : ℕ) → cond b n 0 ≤ n
cond_le true n = omega arith
cond_le false n = omega arith

pub loop-t-init : goal.loop-t-init
loop-t-init g c =
    let r : Timed = timed c.args.trace.now.objects c.args.trace.now.fills c.args.times.now (bits_of c.args.stale.now) c.args.settings in
    let clocks : List ℕ = c.in_ok-clocks.clocks.items in
    let none : clocks ≡ replicate (length (objects_of c.args.trace.now.objects)) 0 = c.in_ok-clocks.ensures.items_if_clones_equal (λ y same. same) ∙ ap (λ n. replicate n 0) c.objects.ensures.different in
    record {
      capacity = refl;
      objects = refl;
      latest = λ _. subst (λ es. AreLatest es c.args.trace.now.objects 0) (sym c.new-latest.ensures.empty) (latest-none c.args.trace.now.objects);
      clock = refl;
      known = ap (λ ks. length ks) none ∙ length-replicate (length (objects_of c.args.trace.now.objects)) 0;
      played = played-none (g.P.Policy.room c.args.policy.now) r (g.P.Policy.known_state c.args.policy.now) (g.P.Policy.contents c.args.policy.now) clocks (bits_of c.new-flags.result)
          c.requires.empty (g.met.P.Policy.state_fits c.args.policy.now) none c.new-flags.ensures;
      run = run-none r (g.P.Policy.known_state c.args.policy.now) clocks none;
      few_hits = omega arith;
      few_bytes = omega arith;
      few_written = omega arith;
    }

pub request-requires-clause-kept_size : goal.request-requires-clause-kept_size
request-requires-clause-kept_size g c =
    let trace : List Object = c.args.trace.now.objects in
    let old : List Member = g.P.Policy.contents c.loop-t.policy in
    let middle : List Member = g.P.Policy.contents c.let_go_if_old.new.policy in
    let own : List ℕ = own_if_old c.is_too_old-is_old.result c.request-object.result in
    let asked : IsAsked trace c.loop-t.t c.request-object.result c.size_of-size.result =
    is_asked trace c.loop-t.t c.request-object.result c.size_of-size.result (omega arith) c.request-object.ensures.number c.request-object.ensures.object c.size_of-size.ensures.size in
    let numbered : All (IsNumbered trace) middle =
    subst (All (IsNumbered trace)) (sym c.let_go_if_old.ensures.contents) (All-members_without (IsNumbered trace) old own c.loop-t.invariant.played.scores.numbered) in
    size-left trace c.loop-t.t c.request-object.result c.size_of-size.result middle (g.P.Policy.contents c.let_leave.new.policy)
    (leaving (bits_of c.args.stale.now) c.args.settings.replace trace c.loop-t.t) asked numbered c.in_ok-let_leave.ensures.contents

pub loop-t-preserved : goal.loop-t-preserved
loop-t-preserved g c =
    let trace : List Object = c.args.trace.now.objects in
    let fills : List Bool = c.args.trace.now.fills in
    let stale : List Bool = bits_of c.args.stale.now in
    let r : Timed = timed trace fills c.args.times.now stale c.args.settings in
    let room : ℕ = g.P.Policy.room c.args.policy.now in
    let first = g.P.Policy.known_state c.args.policy.now in
    let t : ℕ = c.loop-t.t in
    let k : ℕ = c.request-object.result in
    let size : ℕ = c.size_of-size.result in
    let now : ℕ = c.max-clock.result in
    let hit : Bool = c.is_hit-hit.result in
    let anew : Bool = c.writes_anew-writes.result in
    let old : List Member = g.P.Policy.contents c.loop-t.policy in
    let middle : List Member = g.P.Policy.contents c.let_go_if_old.new.policy in
    let left : List Member = g.P.Policy.contents c.let_leave.new.policy in
    let new : List Member = g.P.Policy.contents c.request.new.self in
    let clocks : List ℕ = c.loop-t.clocks.items in
    let within : t < length trace = omega arith in
    let asked : IsAsked trace t k size = is_asked trace t k size within c.request-object.ensures.number c.request-object.ensures.object c.size_of-size.ensures.size in
    let number_is : number_of trace (request_at trace t) ≡ k = number_of-found trace (request_at trace t) k c.request-object.ensures.number in
    let clock_is : now ≡ clock c.args.times.now t =
    clock-more c.args.times.now t c.loop-t.clock now (omega (arith, within, c.requires.one_time_each)) c.loop-t.invariant.clock c.max-clock.ensures in
    let last_is : c.index.result.now ≡ get_or clocks k 0 =
    get_or_read clocks k c.index.result.now (omega (arith, c.request-object.ensures.known, c.loop-t.invariant.known)) c.index.ensures 0 in
    let old_is : c.is_too_old-is_old.result ≡ is_too_old now (get_or clocks k 0) c.args.settings.ttl =
    c.is_too_old-is_old.ensures ∙ ap (λ n. is_too_old now n c.args.settings.ttl) last_is in
    let aged : List ℕ = own_if_old (is_too_old now (get_or clocks k 0) c.args.settings.ttl) k in
    let middle_is : middle ≡ members_without old aged = c.let_go_if_old.ensures.contents ∙ ap (λ b. members_without old (own_if_old b k)) old_is in
    let ages : LetsGoAll (g.P.Policy.known_state c.loop-t.policy) (g.P.Policy.known_state c.let_go_if_old.new.policy) aged =
    subst (λ b. LetsGoAll (g.P.Policy.known_state c.loop-t.policy) (g.P.Policy.known_state c.let_go_if_old.new.policy) (own_if_old b k)) old_is c.let_go_if_old.ensures.state in
    let hit_is : hit ≡ has_member left k = c.is_hit-hit.ensures ∙ c.in_ok-outcome.ensures.outcome in
    let stays : is_stale stale t ≡ false → has_member left k ≡ has_member middle k = λ fresh. subst (λ n. has_member left n ≡ has_member middle n) number_is (c.in_ok-let_leave.ensures.own_stays fresh) in
    let found : hit ≡ (has_member old k && not (is_stale stale t) && nat_le now (get_or clocks k 0 + c.args.settings.ttl)) =
    hit-found stale c.args.settings.replace trace t k old middle left (nat_le now (get_or clocks k 0 + c.args.settings.ttl)) hit number_is middle_is c.in_ok-let_leave.ensures.contents stays hit_is in
    let anew_is : anew ≡ ((only_fills fills t || not hit) && has_member new k) = c.writes_anew-writes.ensures ∙ ap (λ b. (only_fills fills t || not hit) && b) c.holds-held.ensures in
    let clocks_more : c.if-writes.clocks.items ≡ cond anew (set clocks k now) clocks =
    elim c.if-writes.branch [
      | then-writes w ↦ ap (λ v. v.items) w.clocks-is ∙ ap (λ b. cond b (set clocks k now) clocks) (sym w.if-writes.true)
      | else-writes w ↦ ap (λ v. v.items) w.clocks-is ∙ ap (λ b. cond b (set clocks k now) clocks) (sym w.if-writes.false)
    ] in
    let counts : Bool = counts_past c.args.settings.warmup fills t && hit in
    let writes : Bool = nat_le c.args.settings.warmup t && anew in
    let hits_more : c.counted_more-counts.result.hits ≡ c.loop-t.counts.hits + cond counts 1 0 =
    c.counted_more-counts.ensures.hits ∙ ap (λ b. c.loop-t.counts.hits + cond b 1 0) c.earns-earned.ensures in
    let bytes_more : c.counted_more-counts.result.bytes ≡ c.loop-t.counts.bytes + cond counts size 0 =
    c.counted_more-counts.ensures.bytes ∙ ap (λ b. c.loop-t.counts.bytes + cond b size 0) c.earns-earned.ensures in
    let written_more : c.counted_more-counts.result.written ≡ c.loop-t.counts.written + cond writes size 0 =
    c.counted_more-counts.ensures.written ∙ ap (λ b. c.loop-t.counts.written + cond b size 0) c.is_paid-paid.ensures in
    let next_is : c.unless_stale-next.result ≡ unless_stale stale (next_request trace t) =
    c.unless_stale-next.ensures ∙ ap (unless_stale stale) (sym (next_request-found trace t c.next.result within c.next.ensures.nearest)) in
    let run : IsRunTo r first (g.P.Policy.known_state c.request.new.self) (t + 1) c.if-writes.clocks.items c.counted_more-counts.result.hits c.counted_more-counts.result.bytes =
    run-more r first (g.P.Policy.known_state c.loop-t.policy) (g.P.Policy.known_state c.let_go_if_old.new.policy) (g.P.Policy.known_state c.let_leave.new.policy) (g.P.Policy.known_state c.request.new.self)
    t k size now c.unless_stale-next.result clocks c.if-writes.clocks.items left new (g.P.Policy.room c.let_leave.new.policy) (g.P.Policy.room c.request.new.self)
    c.loop-t.counts.hits c.loop-t.counts.bytes c.counted_more-counts.result.hits c.counted_more-counts.result.bytes hit anew within number_is (sym asked.size_is) next_is clock_is
    c.loop-t.invariant.run ages c.in_ok-let_leave.ensures.state (g.met.P.Policy.state_fits c.let_leave.new.policy) c.in_ok-outcome.ensures.step (g.met.P.Policy.state_fits c.request.new.self)
    hit_is anew_is clocks_more hits_more bytes_more in
    let sound : IsSound (g.P.Policy.room c.request.new.self) new = c.request.ensures.sound in
    let same_capacity : g.P.Policy.room c.request.new.self ≡ room =
    c.request.ensures.same_capacity ∙ c.let_leave.ensures.same_capacity ∙ c.let_go_if_old.ensures.same_capacity ∙ c.loop-t.invariant.capacity in
    let fill : is_stale stale t ≡ true → only_fills fills t ≡ true = c.requires.only_fill t within in
    let more =
    played-more room r first (g.P.Policy.known_state c.request.new.self) t k size now (g.P.Policy.room c.request.new.self) old middle left new aged clocks c.if-writes.clocks.items
    c.loop-t.counts.hits c.loop-t.counts.bytes c.loop-t.counts.written c.counted_more-counts.result.hits c.counted_more-counts.result.bytes c.counted_more-counts.result.written (bits_of c.loop-t.flags) hit anew
    asked c.loop-t.invariant.played clock_is middle_is c.in_ok-let_leave.ensures.contents found fill c.in_ok-outcome.ensures.only_the_request_enters
    (let fits : members_size new ≤ g.P.Policy.room c.request.new.self = sound.within_capacity in omega (arith, same_capacity))
    sound.without_repeats anew_is clocks_more hits_more bytes_more written_more run (g.met.P.Policy.state_fits c.request.new.self) in
    record {
      capacity = same_capacity;
      objects = c.request.ensures.same_objects ∙ c.let_leave.ensures.same_objects ∙ c.let_go_if_old.ensures.same_objects ∙ c.loop-t.invariant.objects;
      latest = c.in_ok-let_leave.ensures.latest;
      clock = clock_is;
      known = (more.counted more.scores.contents (λ j low. refl)).clocks_are.known;
      played = rw (c.push_reserved.ensures.bits, c.make_room.ensures.bits) more;
      run = run;
      few_hits = (let most : cond counts 1 0 ≤ 1 = cond_le counts 1 in let few : c.loop-t.counts.hits ≤ t = c.loop-t.invariant.few_hits in omega (arith, hits_more));
      few_bytes = (let most : cond counts size 0 ≤ size = cond_le counts size in let few : c.loop-t.counts.bytes ≤ t * 2 ^ 48 = c.loop-t.invariant.few_bytes in
          let small : size ≤ 2 ^ 48 = c.size_of-size.ensures.range.1 in omega (arith, bytes_more));
      few_written = (let most : cond writes size 0 ≤ size = cond_le writes size in let few : c.loop-t.counts.written ≤ t * 2 ^ 48 = c.loop-t.invariant.few_written in
          let small : size ≤ 2 ^ 48 = c.size_of-size.ensures.range.1 in omega (arith, written_more));
    }

pub returns : goal.returns
returns g c = record {
  played =
      played-all (g.P.Policy.room c.args.policy.now) (timed c.args.trace.now.objects c.args.trace.now.fills c.args.times.now (bits_of c.args.stale.now) c.args.settings)
      (g.P.Policy.known_state c.args.policy.now) (g.P.Policy.known_state c.loop-t.policy) c.loop-t.t (g.P.Policy.contents c.loop-t.policy) c.loop-t.clocks.items
      c.loop-t.counts.hits c.loop-t.counts.bytes c.loop-t.counts.written (bits_of c.loop-t.flags) (omega arith) c.loop-t.invariant.played c.loop-t.invariant.run;
}
