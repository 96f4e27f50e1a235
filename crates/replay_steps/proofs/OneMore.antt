-- One request more of a replay.
use Rattle.std.proofs.Common.{◌≡◌, ◌≢◌, ℕ, ◌+◌, ◌^◌, ◌≤◌, ◌⊎◌, ◌∙◌, ap, sym, refl, subst, true, false, not, ◌&&◌, ◌||◌, nat_le, cond, Bool, List, [], ◌∷◌, ◌++◌, take, arith, Some, None, IfSome, AllPairs, Contains, option_to_list}
use Rattle.std.specs.declared.option.Option.{Option}
use Rattle.cache_model.specs.declared.objects.Object.{Object}
use Rattle.cache_model.specs.Claim.{counts_past, only_fills, request_at}
use Rattle.policy_model.specs.States.{Member, State, has_member, member, members_size}
use Rattle.policy_model.specs.Asks.{next_request}
use Rattle.policy_model.specs.Leaving.{without_member}
use Rattle.policy_model.specs.Steps.{next_kept}
use Rattle.policy_model.specs.Rules.{policy_step}
use Rattle.policy_model.specs.Runs.{Run, run_from}
use Rattle.policy_model.proofs.Numbers.{number_of-found}
use Rattle.policy_model.proofs.Replays.{IsAsked}
use Rattle.replay_core.specs.declared.counts.Replay.{Replay}
use Rattle.replay_core.specs.Laws.{StateFits, StepsBy}
use Rattle.replay_fresh.specs.Fresh.{fresh_asks, leaving, unless_stale}
use Rattle.replay_fresh.specs.FreshRuns.{LetsGoAll, let_go_all, members_without}
use Rattle.replay_fresh.proofs.KnownRuns.{IsRunTo, run-more, run_to}
use Rattle.replay_fresh.proofs.Left.{has_member-left, if_counts}
use Rattle.replay_fresh.proofs.Writes.{written-more}
use Rattle.replay_steps.specs.declared.asked.Asked.{Asked}
use Rattle.replay_steps.specs.Steps.{IsReplayedTo, IsRequest, Replaying, counted_more, if_so, leaving_of, own_leaving}
use Rattle.replay_steps.proofs.NextKept.{let_go_all-name, run-name, step-next}

-- a state that is known takes the step of the request's own next request
steps-next : (first now left after : Option State) (counted : ℕ → Bool) (stale : List Bool) (replace : Bool) (trace : List Object) (t k size hits bytes : ℕ) (n m : Option ℕ)
    → IsRunTo counted stale replace trace first now t hits bytes → LetsGoAll now left (leaving stale replace trace t)
    → IfSome first (λ s. next_kept s.name n ≡ next_kept s.name m) → StepsBy left after k size n → IfSome first (λ _. StepsBy left after k size m)
steps-next None now left after counted stale replace trace t k size hits bytes n m run goes same steps = tt
steps-next (Some s) now left after counted stale replace trace t k size hits bytes n m run goes same steps =
    let r : Run = run_to counted stale replace trace s t in
    let u : State = let_go_all r.state (leaving stale replace trace t) in
    let goes_now : left ≡ Some u = subst (λ o. LetsGoAll o left (leaving stale replace trace t)) run.0 goes in
    let steps_now : after ≡ Some (policy_step u k size n).after = subst (λ o. StepsBy o after k size n) goes_now steps in
    let name : u.name ≡ s.name = let_go_all-name r.state (leaving stale replace trace t) ∙ run-name counted (leaving stale replace trace) (run_from s) (take t (fresh_asks stale trace)) in
    let same_now : next_kept u.name n ≡ next_kept u.name m = subst (λ name. next_kept name n ≡ next_kept name m) (sym name) same in
    subst (λ o. StepsBy o after k size m) (sym goes_now) (steps_now ∙ ap Some (step-next u k size n m same_now))

-- one more request of the run
run-asked : (first now left after : Option State) (counted : ℕ → Bool) (stale : List Bool) (replace : Bool) (trace : List Object) (t k size : ℕ) (next : Option ℕ) (members : List Member)
    (room hits bytes more_hits more_bytes : ℕ) (hit : Bool)
    → IsAsked trace t k size
    → IfSome first (λ s. next_kept s.name next ≡ next_kept s.name (unless_stale stale (next_request trace t)))
    → IsRunTo counted stale replace trace first now t hits bytes
    → LetsGoAll now left (leaving stale replace trace t)
    → StateFits left members room
    → StepsBy left after k size next
    → hit ≡ has_member members k
    → more_hits ≡ hits + cond (counted t && hit) 1 0
    → more_bytes ≡ bytes + cond (counted t && hit) size 0
    → IsRunTo counted stale replace trace first after (t + 1) more_hits more_bytes
run-asked None now left after counted stale replace trace t k size next members room hits bytes more_hits more_bytes hit asked same run goes tells steps hit_is hits_more bytes_more = tt
run-asked (Some s) now left after counted stale replace trace t k size next members room hits bytes more_hits more_bytes hit asked same run goes tells steps hit_is hits_more bytes_more =
    run-more counted stale replace trace (Some s) now left after t k size (unless_stale stale (next_request trace t)) members room hits bytes more_hits more_bytes hit asked.within
    (number_of-found trace (request_at trace t) k asked.found) (sym asked.size_is) refl run goes tells
    (steps-next (Some s) now left after counted stale replace trace t k size hits bytes next (unless_stale stale (next_request trace t)) run goes same steps)
    hit_is hits_more bytes_more

if_so-le : (b : Bool) (n : ℕ) → if_so b n ≤ n
if_so-le true n = omega arith
if_so-le false n = omega arith

-- one more request
module _ (r : Replaying) (t : ℕ) (asked : Asked) (now left after : Option State) (old left_members new : List Member) (room : ℕ) (counts : Replay) (hit : Bool) (is : IsRequest r t asked) where
  earns : Bool → Bool
  earns h = (asked.is_past && not asked.only_fills) && h

  earns-is : ((asked.is_past && not asked.only_fills) && hit) ≡ (counts_past r.warmup r.fills t && hit)
  earns-is = ap (λ b. (b && not asked.only_fills) && hit) is.past ∙ ap (λ b. (nat_le r.warmup t && not b) && hit) is.fills

  writes-is : (held : Bool) → (asked.is_past && ((asked.only_fills || not hit) && held)) ≡ (nat_le r.warmup t && ((only_fills r.fills t || not hit) && held))
  writes-is held = ap (λ b. b && ((asked.only_fills || not hit) && held)) is.past ∙ ap (λ b. nat_le r.warmup t && ((b || not hit) && held)) is.fills

  -- if it is not stale, its object is held once others have left exactly if it was before
  stays : left_members ≡ members_without (members_without old (own_leaving asked)) (option_to_list asked.replaced) → hit ≡ has_member left_members asked.object → asked.is_stale ≡ false → hit ≡ has_member old asked.object
  stays left_is hit_is fresh =
      hit_is ∙ ap (λ ms. has_member ms asked.object) left_is
      ∙ has_member-left old asked.object (own_leaving asked) asked.replaced (ap (λ b. cond b (asked.object ∷ []) []) fresh) is.other

  -- a request that counts is none that is stale
  held : left_members ≡ members_without (members_without old (own_leaving asked)) (option_to_list asked.replaced) → hit ≡ has_member left_members asked.object → only_fills r.fills t ≡ false → hit ≡ has_member old asked.object
  held left_is hit_is counts = if_counts asked.is_stale asked.only_fills hit (has_member old asked.object) is.stale_fills (stays left_is hit_is) (is.fills ∙ counts)

  pub one-more :
      IsReplayedTo r t now old counts
      → LetsGoAll now left (leaving_of asked)
      → left_members ≡ members_without old (leaving_of asked)
      → left_members ≡ members_without (members_without old (own_leaving asked)) (option_to_list asked.replaced)
      → StateFits left left_members room
      → StepsBy left after asked.object asked.size asked.next
      → hit ≡ has_member left_members asked.object
      → ((m : Member) → Contains new m → Contains left_members m ⊎ (m ≡ member asked.object asked.size))
      → members_size new ≤ r.capacity
      → AllPairs (λ m n. m.object ≢ n.object) new
      → StateFits after new room
      → asked.size ≤ 2 ^ 48
      → IsReplayedTo r (t + 1) after new (counted_more counts asked hit (has_member new asked.object))
  one-more so_far goes left_is left_twice tells steps hit_is enters fits apart tells_after small =
      let more : Replay = counted_more counts asked hit (has_member new asked.object) in
      let hits_more : more.hits ≡ counts.hits + cond (counts_past r.warmup r.fills t && hit) 1 0 = ap (λ b. counts.hits + cond b 1 0) earns-is in
      let bytes_more : more.bytes ≡ counts.bytes + cond (counts_past r.warmup r.fills t && hit) asked.size 0 = ap (λ b. counts.bytes + cond b asked.size 0) earns-is in
      let written_more : more.written ≡ counts.written + cond (nat_le r.warmup t && ((only_fills r.fills t || not hit) && has_member new asked.object)) asked.size 0 =
      ap (λ b. counts.written + cond b asked.size 0) (writes-is (has_member new asked.object)) in
      let goes_now : LetsGoAll now left (leaving r.stale r.replace r.trace t) = subst (LetsGoAll now left) is.leaving goes in
      let run : IsRunTo (counts_past r.warmup r.fills) r.stale r.replace r.trace r.first after (t + 1) more.hits more.bytes =
      run-asked r.first now left after (counts_past r.warmup r.fills) r.stale r.replace r.trace t asked.object asked.size asked.next left_members room counts.hits counts.bytes more.hits more.bytes hit
      is.is_asked is.next so_far.run goes_now tells steps hit_is hits_more bytes_more in
      record {
        played = (written-more r.capacity r.warmup r.fills r.stale r.replace r.trace r.first after t asked.object asked.size room old left_members new counts.hits counts.bytes counts.written
            more.hits more.bytes more.written hit is.is_asked so_far.played (left_is ∙ ap (members_without old) is.leaving) (held left_twice hit_is) enters fits apart hits_more bytes_more written_more run tells_after).0;
        run = run;
        few_hits = omega (arith, so_far.few_hits, if_so-le ((asked.is_past && not asked.only_fills) && hit) 1);
        few_bytes = omega (arith, so_far.few_bytes, small, if_so-le ((asked.is_past && not asked.only_fills) && hit) asked.size);
        few_written = omega (arith, so_far.few_written, small, if_so-le (asked.is_past && ((asked.only_fills || not hit) && has_member new asked.object)) asked.size);
      }

-- members leave one after the other
pub members_without-both : (members : List Member) (first second : List ℕ) → members_without members (first ++ second) ≡ members_without (members_without members first) second
members_without-both members [] second = refl
members_without-both members (k ∷ first) second = members_without-both (without_member k members) first second
