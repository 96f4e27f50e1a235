-- A state that is known goes through the run of its rule, from which objects leave before requests.
use Rattle.std.proofs.Common.{◌≡◌, ℕ, ◌+◌, ◌<◌, ◌∙◌, sym, refl, ap, subst, Bool, ◌&&◌, cond, List, [], ◌∷◌, ◌++◌, length, map, take, fold, arith, Some, None, IfSome}
use Rattle.std.specs.declared.option.Option.{Option}
use Rattle.std.specs.List.{range_with_len}
use Rattle.std.proofs.lemmas.List.{take_all}
use Rattle.std.proofs.lemmas.List.FromFn.{get_or-map-range_with_len, length-map-range_with_len, map-range_with_len_more}
use Rattle.std.proofs.lemmas.List.Sums.{fold_more}
use Rattle.cache_model.specs.declared.objects.Object.{Object}
use Rattle.cache_model.specs.Claim.{counts_past}
use Rattle.policy_model.specs.States.{Member, State, has_member, has_entry, members_of, start_of}
use Rattle.policy_model.specs.Rules.{policy_step}
use Rattle.policy_model.specs.Asks.{Ask}
use Rattle.policy_model.specs.Runs.{Run, objects_held, run_from, run_step}
use Rattle.policy_model.proofs.Replays.{has_entry-members}
use Rattle.replay_core.specs.Laws.{StateFits, StepsBy, IsFresh}
use Rattle.replay_fresh.specs.Fresh.{fresh_ask, fresh_asks, leaving}
use Rattle.replay_fresh.specs.FreshRuns.{IsFreshRunOf, IsFreshStateAfter, LetsGoAll, fresh_contents, fresh_held_after, fresh_rule_step, fresh_run, fresh_step, let_go_all}

-- ---- the run of a rule
module _ (counted : ℕ → Bool) (stale : List Bool) (replace : Bool) (trace : List Object) where
  -- the run over the first t requests
  abbrev pub run_to : State → ℕ → Run
  run_to s t = fold (fresh_step counted (leaving stale replace trace)) (run_from s) (take t (fresh_asks stale trace))

  length-asks : length (fresh_asks stale trace) ≡ length trace
  length-asks = length-map-range_with_len (fresh_ask stale trace) 0 (length trace)

  -- one more request of a run
  run_to-more : (s : State) (t : ℕ) → t < length trace → run_to s (t + 1) ≡ fresh_step counted (leaving stale replace trace) (run_to s t) (fresh_ask stale trace t)
  run_to-more s t within =
      fold_more (fresh_step counted (leaving stale replace trace)) (run_from s) (fresh_asks stale trace) t (fresh_ask stale trace t) (omega (arith, length-asks))
      ∙ ap (fresh_step counted (leaving stale replace trace) (run_to s t)) (get_or-map-range_with_len (fresh_ask stale trace) 0 (length trace) t t (fresh_ask stale trace t) within (omega arith))

  -- the whole run
  run_to-all : (s : State) (t : ℕ) → t ≡ length trace → run_to s t ≡ fold (fresh_step counted (leaving stale replace trace)) (run_from s) (fresh_asks stale trace)
  run_to-all s t end = ap (fold (fresh_step counted (leaving stale replace trace)) (run_from s)) (take_all t (fresh_asks stale trace) (omega (arith, length-asks)))

  -- the state of a run is that of its rule
  run-state : (r : Run) (asks : List Ask) → (fold (fresh_step counted (leaving stale replace trace)) r asks).state ≡ fold (fresh_rule_step (leaving stale replace trace)) r.state asks
  run-state r [] = refl
  run-state r (a ∷ asks) = run-state (fresh_step counted (leaving stale replace trace) r a) asks

  -- what the state of a run holds after t requests
  held_after-run : (s : State) (t : ℕ) → fresh_held_after s trace stale replace t ≡ objects_held trace (members_of (run_to s t).state.entries)
  held_after-run s t = ap (λ (u : State). objects_held trace (members_of u.entries)) (sym (run-state (run_from s) (take t (fresh_asks stale trace))))

  -- ---- a state that is known
  -- after t requests it is that of the run, and so are the hits and bytes
  abbrev pub IsRunTo : Option State → Option State → ℕ → ℕ → ℕ → Type 0
  IsRunTo first now t hits bytes = IfSome first (λ s. (now ≡ Some (run_to s t).state) × (hits ≡ (run_to s t).hits) × (bytes ≡ (run_to s t).bytes))

  pub run-none : (first : Option State) → IsRunTo first first 0 0 0
  run-none None = tt
  run-none (Some s) = (refl, refl, refl)

  -- one more request, before which the state has let go of what leaves
  pub run-more : (first now left after : Option State) (t k size : ℕ) (next : Option ℕ) (members : List Member) (room hits bytes more_hits more_bytes : ℕ) (hit : Bool)
      → t < length trace
      → (fresh_ask stale trace t).object ≡ k → (fresh_ask stale trace t).size ≡ size → next ≡ (fresh_ask stale trace t).next
      → IsRunTo first now t hits bytes
      → LetsGoAll now left (leaving stale replace trace t)
      → StateFits left members room
      → StepsBy left after k size next
      → hit ≡ has_member members k
      → more_hits ≡ hits + cond (counted t && hit) 1 0
      → more_bytes ≡ bytes + cond (counted t && hit) size 0
      → IsRunTo first after (t + 1) more_hits more_bytes
  run-more None now left after t k size next members room hits bytes more_hits more_bytes hit within of_k of_size of_next run goes tells steps hit_is hits_more bytes_more = tt
  run-more (Some s) now left after t k size next members room hits bytes more_hits more_bytes hit within of_k of_size of_next run goes tells steps hit_is hits_more bytes_more =
      let r : Run = run_to s t in
      let u : State = let_go_all r.state (leaving stale replace trace t) in
      let a : Ask = fresh_ask stale trace t in
      let goes_now : left ≡ Some u = subst (λ o. LetsGoAll o left (leaving stale replace trace t)) run.0 goes in
      let tells_now : StateFits (Some u) members room = subst (λ o. StateFits o members room) goes_now tells in
      let steps_now : StepsBy (Some u) after k size next = subst (λ o. StepsBy o after k size next) goes_now steps in
      let one : run_to s (t + 1) ≡ run_step counted (record r { state = u }) a = run_to-more s t within in
      let hit_of : hit ≡ has_entry u.entries a.object =
      hit_is ∙ ap (λ ms. has_member ms k) (sym tells_now.0) ∙ sym (has_entry-members u.entries k) ∙ ap (has_entry u.entries) (sym of_k) in (
        steps_now
            ∙ ap (λ (n : ℕ). Some (policy_step u n size next).after) (sym of_k)
            ∙ ap (λ (n : ℕ). Some (policy_step u a.object n next).after) (sym of_size)
            ∙ ap (λ (n : Option ℕ). Some (policy_step u a.object a.size n).after) of_next
            ∙ ap (λ (v : Run). Some v.state) (sym one),
        hits_more ∙ ap (λ n. n + cond (counted t && hit) 1 0) run.1 ∙ ap (λ b. r.hits + cond (counted t && b) 1 0) hit_of ∙ ap (λ (v : Run). v.hits) (sym one),
        bytes_more ∙ ap (λ n. n + cond (counted t && hit) size 0) run.2 ∙ ap (λ b. r.bytes + cond (counted t && b) size 0) hit_of
            ∙ ap (λ n. r.bytes + cond (counted t && has_entry u.entries a.object) n 0) (sym of_size) ∙ ap (λ (v : Run). v.bytes) (sym one),
      )

  -- ---- the contents of its rule
  -- so far
  abbrev pub HeldTo : Option State → ℕ → List (List Object) → Type 0
  HeldTo first t contents = IfSome first (λ s. contents ≡ map (fresh_held_after s trace stale replace) (range_with_len 0 (t + 1)))

  -- before the first request
  pub held-none : (first : Option State) (capacity : ℕ) (members : List Member) → members ≡ [] → StateFits first members capacity → (contents : List (List Object)) → contents ≡ [] ∷ [] → HeldTo first 0 contents
  held-none None capacity members empty fits contents same = tt
  held-none (Some s) capacity members empty fits contents same = same ∙ ap (λ ms. objects_held trace ms ∷ []) (sym empty ∙ sym fits.0)

  -- one request later
  pub held-more : (first after : Option State) (t room hits bytes : ℕ) (new : List Member) (was more : List (List Object))
      → HeldTo first t was → IsRunTo first after (t + 1) hits bytes → StateFits after new room → more ≡ was ++ objects_held trace new ∷ [] → HeldTo first (t + 1) more
  held-more None after t room hits bytes new was more held run fits more_is = tt
  held-more (Some s) after t room hits bytes new was more held run fits more_is =
      let tells : StateFits (Some (run_to s (t + 1)).state) new room = subst (λ o. StateFits o new room) run.0 fits in
      more_is
      ∙ ap (λ ks. ks ++ objects_held trace new ∷ []) held
      ∙ ap (λ (h : List Object). map (fresh_held_after s trace stale replace) (range_with_len 0 (t + 1)) ++ h ∷ []) (ap (objects_held trace) (sym tells.0) ∙ sym (held_after-run s (t + 1)))
      ∙ sym (map-range_with_len_more (fresh_held_after s trace stale replace) 0 (t + 1) (t + 1) (omega arith))

  -- of the whole trace
  pub held-all : (first : Option State) (t : ℕ) (was contents : List (List Object)) → t ≡ length trace → IsFresh first → HeldTo first t was → contents ≡ was
      → IfSome first (λ s. contents ≡ fresh_contents s.name trace s.capacity stale replace)
  held-all None t was contents end fresh held same = tt
  held-all (Some s) t was contents end fresh held same =
      same ∙ held ∙ ap (λ n. map (fresh_held_after s trace stale replace) (range_with_len 0 (n + 1))) end
      ∙ ap (λ (u : State). map (fresh_held_after u trace stale replace) (range_with_len 0 (length trace + 1))) fresh

-- ---- the run over the whole trace
module _ (warmup : ℕ) (fills stale : List Bool) (replace : Bool) (trace : List Object) where
  whole : (s : State) (t : ℕ) → t ≡ length trace → s ≡ start_of s.name s.capacity → run_to (counts_past warmup fills) stale replace trace s t ≡ fresh_run s.name trace s.capacity warmup fills stale replace
  whole s t end fresh =
      ap (λ u. run_to (counts_past warmup fills) stale replace trace u t) fresh ∙ run_to-all (counts_past warmup fills) stale replace trace (start_of s.name s.capacity) t end

  -- its hits and bytes
  pub run-all : (first now : Option State) (t hits bytes : ℕ) → t ≡ length trace → IsFresh first → IsRunTo (counts_past warmup fills) stale replace trace first now t hits bytes → IsFreshRunOf first trace warmup fills stale replace hits bytes
  run-all None now t hits bytes end fresh run = tt
  run-all (Some s) now t hits bytes end fresh run =
      let e = whole s t end fresh in
      (run.1 ∙ ap (λ (u : Run). u.hits) e, run.2 ∙ ap (λ (u : Run). u.bytes) e)

  -- the state after it
  pub state-all : (first now : Option State) (t hits bytes : ℕ) → t ≡ length trace → IsFresh first → IsRunTo (counts_past warmup fills) stale replace trace first now t hits bytes → IsFreshStateAfter first now trace warmup fills stale replace
  state-all None now t hits bytes end fresh run = tt
  state-all (Some s) now t hits bytes end fresh run = run.0 ∙ ap (λ (u : Run). Some u.state) (whole s t end fresh)
