-- A state that is known goes through the run of its rule, with a time to live.
use Rattle.std.proofs.Common.{◌≡◌, ℕ, ◌+◌, ◌<◌, ◌∙◌, sym, refl, ap, subst, Bool, not, ◌&&◌, ◌||◌, cond, List, [], ◌∷◌, ◌++◌, length, map, get_or, replicate, set, arith, Some, None, IfSome}
use Rattle.std.specs.declared.option.Option.{Option}
use Rattle.std.specs.List.{range_with_len}
use Rattle.std.proofs.lemmas.List.FromFn.{get_or-map-range_with_len, length-map-range_with_len, map-range_with_len_more}
use Rattle.std.proofs.lemmas.List.Sums.{fold_more}
use Rattle.cache_model.specs.declared.objects.Object.{Object}
use Rattle.cache_model.specs.Claim.{counts_past, only_fills}
use Rattle.cache_model.specs.Objects.{objects_of}
use Rattle.freshness.specs.Stale.{clock}
use Rattle.policy_model.specs.States.{Member, State, has_member, has_entry}
use Rattle.policy_model.specs.Rules.{policy_step}
use Rattle.policy_model.specs.Asks.{Ask}
use Rattle.policy_model.specs.Runs.{Run, objects_held, run_step}
use Rattle.policy_model.proofs.Replays.{has_entry-members}
use Rattle.replay_core.specs.Laws.{StateFits, StepsBy}
use Rattle.replay_fresh.specs.Fresh.{fresh_ask, fresh_asks, leaving}
use Rattle.replay_fresh.specs.FreshRuns.{LetsGoAll, let_go_all}
use Rattle.replay_ttl.specs.Runs.{Timed, TtlRun, is_too_old, own_if_old, ttl_held_after, ttl_run, ttl_step, without_leaving}
use Rattle.replay_ttl.specs.Played.{IsOfRule}

module _ (r : Timed) where
  length-asks : length (fresh_asks r.stale r.trace) ≡ length r.trace
  length-asks = length-map-range_with_len (fresh_ask r.stale r.trace) 0 (length r.trace)

  -- one more request of a run
  ttl_run-more : (s : State) (t : ℕ) → t < length r.trace → ttl_run r s (t + 1) ≡ ttl_step r (ttl_run r s t) (fresh_ask r.stale r.trace t)
  ttl_run-more s t within =
      fold_more (ttl_step r) (ttl_run r s 0) (fresh_asks r.stale r.trace) t (fresh_ask r.stale r.trace t) (omega (arith, length-asks))
      ∙ ap (ttl_step r (ttl_run r s t)) (get_or-map-range_with_len (fresh_ask r.stale r.trace) 0 (length r.trace) t t (fresh_ask r.stale r.trace t) within (omega arith))

  -- after t requests the state is that of the run, and so are the clocks, hits and bytes
  pub record AreOfRun (u : TtlRun) (now : Option State) (clocks : List ℕ) (hits bytes : ℕ) : Type 0 where
    pub state_is : now ≡ Some u.run.state
    pub clocks_are : clocks ≡ u.clocks
    pub hits_are : hits ≡ u.run.hits
    pub bytes_are : bytes ≡ u.run.bytes

  abbrev pub IsRunTo : Option State → Option State → ℕ → List ℕ → ℕ → ℕ → Type 0
  IsRunTo first now t clocks hits bytes = IfSome first (λ s. AreOfRun (ttl_run r s t) now clocks hits bytes)

  pub run-none : (first : Option State) (clocks : List ℕ) → clocks ≡ replicate (length (objects_of r.trace)) 0 → IsRunTo first first 0 clocks 0 0
  run-none None clocks none = tt
  run-none (Some s) clocks none = record { state_is = refl; clocks_are = none; hits_are = refl; bytes_are = refl }

  -- one more request, before which the state has let go of what leaves
  pub run-more : (first now middle left after : Option State) (t k size clock_now : ℕ) (next : Option ℕ) (clocks more_clocks : List ℕ) (members new : List Member) (room new_room hits bytes more_hits more_bytes : ℕ) (hit anew : Bool)
      → t < length r.trace
      → (fresh_ask r.stale r.trace t).object ≡ k → (fresh_ask r.stale r.trace t).size ≡ size → next ≡ (fresh_ask r.stale r.trace t).next
      → clock_now ≡ clock r.times t
      → IsRunTo first now t clocks hits bytes
      → LetsGoAll now middle (own_if_old (is_too_old clock_now (get_or clocks k 0) r.ttl) k)
      → LetsGoAll middle left (leaving r.stale r.replace r.trace t)
      → StateFits left members room
      → StepsBy left after k size next
      → StateFits after new new_room
      → hit ≡ has_member members k
      → anew ≡ ((only_fills r.fills t || not hit) && has_member new k)
      → more_clocks ≡ cond anew (set clocks k clock_now) clocks
      → more_hits ≡ hits + cond (counts_past r.warmup r.fills t && hit) 1 0
      → more_bytes ≡ bytes + cond (counts_past r.warmup r.fills t && hit) size 0
      → IsRunTo first after (t + 1) more_clocks more_hits more_bytes
  run-more None now middle left after t k size clock_now next clocks more_clocks members new room new_room hits bytes more_hits more_bytes hit anew within of_k of_size of_next clock_is run ages goes tells steps tells_new hit_is anew_is clocks_more hits_more bytes_more = tt
  run-more (Some s) now middle left after t k size clock_now next clocks more_clocks members new room new_room hits bytes more_hits more_bytes hit anew within of_k of_size of_next clock_is run ages goes tells steps tells_new hit_is anew_is clocks_more hits_more bytes_more =
      let so_far : TtlRun = ttl_run r s t in
      let a : Ask = fresh_ask r.stale r.trace t in
      let aged : List ℕ = own_if_old (is_too_old clock_now (get_or clocks k 0) r.ttl) k in
      let aged_is : aged ≡ own_if_old (is_too_old (clock r.times t) (get_or so_far.clocks a.object 0) r.ttl) a.object =
      ap (λ n. own_if_old (is_too_old n (get_or clocks k 0) r.ttl) k) clock_is
      ∙ ap (λ ks. own_if_old (is_too_old (clock r.times t) (get_or ks k 0) r.ttl) k) run.clocks_are
      ∙ ap (λ n. own_if_old (is_too_old (clock r.times t) (get_or so_far.clocks n 0) r.ttl) n) (sym of_k) in
      let u : Run = without_leaving r so_far a in
      let middle_now : middle ≡ Some (let_go_all so_far.run.state aged) = subst (λ o. LetsGoAll o middle aged) run.state_is ages in
      let left_then : left ≡ Some (let_go_all (let_go_all so_far.run.state aged) (leaving r.stale r.replace r.trace t)) = subst (λ o. LetsGoAll o left (leaving r.stale r.replace r.trace t)) middle_now goes in
      let left_now : left ≡ Some u.state = left_then ∙ ap (λ ks. Some (let_go_all (let_go_all so_far.run.state ks) (leaving r.stale r.replace r.trace t))) aged_is in
      let tells_now : StateFits (Some u.state) members room = subst (λ o. StateFits o members room) left_now tells in
      let steps_now : after ≡ Some (policy_step u.state k size next).after = subst (λ o. StepsBy o after k size next) left_now steps in
      let v : Run = run_step (counts_past r.warmup r.fills) u a in
      let state_is : after ≡ Some v.state =
      steps_now
      ∙ ap (λ (n : ℕ). Some (policy_step u.state n size next).after) (sym of_k)
      ∙ ap (λ (n : ℕ). Some (policy_step u.state a.object n next).after) (sym of_size)
      ∙ ap (λ (n : Option ℕ). Some (policy_step u.state a.object a.size n).after) of_next in
      let tells_after : StateFits (Some v.state) new new_room = subst (λ o. StateFits o new new_room) state_is tells_new in
      let hit_of : hit ≡ has_entry u.state.entries a.object =
      hit_is ∙ ap (λ ms. has_member ms k) (sym tells_now.0) ∙ sym (has_entry-members u.state.entries k) ∙ ap (has_entry u.state.entries) (sym of_k) in
      let held_of : has_member new k ≡ has_entry v.state.entries a.object =
      ap (λ ms. has_member ms k) (sym tells_after.0) ∙ sym (has_entry-members v.state.entries k) ∙ ap (has_entry v.state.entries) (sym of_k) in
      let anew_of : anew ≡ ((only_fills r.fills t || not (has_entry u.state.entries a.object)) && has_entry v.state.entries a.object) =
      anew_is ∙ ap (λ b. (only_fills r.fills t || not b) && has_member new k) hit_of ∙ ap (λ b. (only_fills r.fills t || not (has_entry u.state.entries a.object)) && b) held_of in
      subst (λ (w : TtlRun). AreOfRun w after more_clocks more_hits more_bytes) (sym (ttl_run-more s t within)) (record {
        state_is = state_is;
        clocks_are = clocks_more
            ∙ ap (λ b. cond b (set clocks k clock_now) clocks) anew_of
            ∙ ap (λ ks. cond ((only_fills r.fills t || not (has_entry u.state.entries a.object)) && has_entry v.state.entries a.object) (set ks k clock_now) ks) run.clocks_are
            ∙ ap (λ n. cond ((only_fills r.fills t || not (has_entry u.state.entries a.object)) && has_entry v.state.entries a.object) (set so_far.clocks n clock_now) so_far.clocks) (sym of_k)
            ∙ ap (λ n. cond ((only_fills r.fills t || not (has_entry u.state.entries a.object)) && has_entry v.state.entries a.object) (set so_far.clocks a.object n) so_far.clocks) clock_is;
        hits_are = hits_more ∙ ap (λ n. n + cond (counts_past r.warmup r.fills t && hit) 1 0) run.hits_are ∙ ap (λ b. so_far.run.hits + cond (counts_past r.warmup r.fills t && b) 1 0) hit_of;
        bytes_are = bytes_more ∙ ap (λ n. n + cond (counts_past r.warmup r.fills t && hit) size 0) run.bytes_are
            ∙ ap (λ b. so_far.run.bytes + cond (counts_past r.warmup r.fills t && b) size 0) hit_of
            ∙ ap (λ n. so_far.run.bytes + cond (counts_past r.warmup r.fills t && has_entry u.state.entries a.object) n 0) (sym of_size);
      })

  -- ---- the contents of its rule
  -- so far
  abbrev pub HeldTo : Option State → ℕ → List (List Object) → Type 0
  HeldTo first t contents = IfSome first (λ s. contents ≡ map (ttl_held_after r s) (range_with_len 0 (t + 1)))

  -- before the first request
  pub held-none : (first : Option State) (capacity : ℕ) (members : List Member) → members ≡ [] → StateFits first members capacity → (contents : List (List Object)) → contents ≡ [] ∷ [] → HeldTo first 0 contents
  held-none None capacity members empty fits contents same = tt
  held-none (Some s) capacity members empty fits contents same = same ∙ ap (λ ms. objects_held r.trace ms ∷ []) (sym empty ∙ sym fits.0)

  -- one request later
  pub held-more : (first after : Option State) (t room hits bytes : ℕ) (clocks : List ℕ) (new : List Member) (was more : List (List Object))
      → HeldTo first t was → IsRunTo first after (t + 1) clocks hits bytes → StateFits after new room → more ≡ was ++ objects_held r.trace new ∷ [] → HeldTo first (t + 1) more
  held-more None after t room hits bytes clocks new was more held run fits more_is = tt
  held-more (Some s) after t room hits bytes clocks new was more held run fits more_is =
      let tells : StateFits (Some (ttl_run r s (t + 1)).run.state) new room = subst (λ o. StateFits o new room) run.state_is fits in
      more_is
      ∙ ap (λ ks. ks ++ objects_held r.trace new ∷ []) held
      ∙ ap (λ (h : List Object). map (ttl_held_after r s) (range_with_len 0 (t + 1)) ++ h ∷ []) (ap (objects_held r.trace) (sym tells.0))
      ∙ sym (map-range_with_len_more (ttl_held_after r s) 0 (t + 1) (t + 1) (omega arith))

  -- of the whole trace
  pub of_rule-all : (first now : Option State) (t hits bytes : ℕ) (clocks : List ℕ) (contents : List (List Object)) → t ≡ length r.trace → HeldTo first t contents → IsRunTo first now t clocks hits bytes
      → IfSome first (λ s. IsOfRule r s contents hits bytes)
  of_rule-all None now t hits bytes clocks contents end held run = tt
  of_rule-all (Some s) now t hits bytes clocks contents end held run = record {
    contents_are = held ∙ ap (λ n. map (ttl_held_after r s) (range_with_len 0 (n + 1))) end;
    hits_are = run.hits_are ∙ ap (λ n. (ttl_run r s n).run.hits) end;
    bytes_are = run.bytes_are ∙ ap (λ n. (ttl_run r s n).run.bytes) end;
  }
