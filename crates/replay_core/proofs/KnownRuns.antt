-- A state that is known goes through the run of its rule.
use Rattle.std.proofs.Common.{◌≡◌, ℕ, ◌+◌, ◌<◌, ◌∙◌, sym, refl, ap, subst, Bool, ◌&&◌, cond, List, length, Some, None, IfSome}
use Rattle.std.specs.declared.option.Option.{Option}
use Rattle.cache_model.specs.declared.objects.Object.{Object}
use Rattle.cache_model.specs.Claim.{counts_past}
use Rattle.policy_model.specs.States.{Member, State, has_member, has_entry, start_of}
use Rattle.policy_model.specs.Rules.{policy_step}
use Rattle.policy_model.specs.Asks.{ask_at}
use Rattle.policy_model.specs.Runs.{Run, run_step, policy_run}
use Rattle.policy_model.proofs.Replays.{run_to, run_to-more, run_to-all, has_entry-members}
use Rattle.replay_core.specs.Laws.{StateFits, StepsBy, IsFresh, IsRunOf, IsStateAfter}

-- after t requests the state told is that of the run, and so are the hits and bytes
abbrev pub IsRunTo : Option State → Option State → (ℕ → Bool) → List Object → ℕ → ℕ → ℕ → Type 0
IsRunTo first now counted trace t hits bytes =
    IfSome first (λ s. (now ≡ Some (run_to counted s trace t).state) × (hits ≡ (run_to counted s trace t).hits) × (bytes ≡ (run_to counted s trace t).bytes))

pub run-none : (first : Option State) (counted : ℕ → Bool) (trace : List Object) → IsRunTo first first counted trace 0 0 0
run-none None counted trace = tt
run-none (Some s) counted trace = (refl, refl, refl)

-- one more request
pub run-more : (first now after : Option State) (counted : ℕ → Bool) (trace : List Object) (t k size : ℕ) (next : Option ℕ) (members : List Member) (room hits bytes more_hits more_bytes : ℕ) (hit : Bool)
    → t < length trace
    → (ask_at trace t).object ≡ k → (ask_at trace t).size ≡ size → (ask_at trace t).next ≡ next
    → IsRunTo first now counted trace t hits bytes
    → StateFits now members room
    → StepsBy now after k size next
    → hit ≡ has_member members k
    → more_hits ≡ hits + cond (counted t && hit) 1 0
    → more_bytes ≡ bytes + cond (counted t && hit) size 0
    → IsRunTo first after counted trace (t + 1) more_hits more_bytes
run-more None now after counted trace t k size next members room hits bytes more_hits more_bytes hit within of_k of_size of_next run tells steps hit_is hits_more bytes_more = tt
run-more (Some s) now after counted trace t k size next members room hits bytes more_hits more_bytes hit within of_k of_size of_next run tells steps hit_is hits_more bytes_more =
    let r : Run = run_to counted s trace t in
    let tells_now : StateFits (Some r.state) members room = subst (λ o. StateFits o members room) run.0 tells in
    let steps_now : StepsBy (Some r.state) after k size next = subst (λ o. StepsBy o after k size next) run.0 steps in
    let one : run_to counted s trace (t + 1) ≡ run_step counted r (ask_at trace t) = run_to-more counted s trace t within in
    let hit_of : hit ≡ has_entry r.state.entries (ask_at trace t).object =
    hit_is ∙ ap (λ ms. has_member ms k) (sym tells_now.0) ∙ sym (has_entry-members r.state.entries k) ∙ ap (has_entry r.state.entries) (sym of_k) in (
      steps_now
          ∙ ap (λ (n : ℕ). Some (policy_step r.state n size next).after) (sym of_k)
          ∙ ap (λ (n : ℕ). Some (policy_step r.state (ask_at trace t).object n next).after) (sym of_size)
          ∙ ap (λ (n : Option ℕ). Some (policy_step r.state (ask_at trace t).object (ask_at trace t).size n).after) (sym of_next)
          ∙ ap (λ (u : Run). Some u.state) (sym one),
      hits_more ∙ ap (λ n. n + cond (counted t && hit) 1 0) run.1 ∙ ap (λ b. r.hits + cond (counted t && b) 1 0) hit_of ∙ ap (λ (u : Run). u.hits) (sym one),
      bytes_more ∙ ap (λ n. n + cond (counted t && hit) size 0) run.2 ∙ ap (λ b. r.bytes + cond (counted t && b) size 0) hit_of
          ∙ ap (λ n. r.bytes + cond (counted t && has_entry r.state.entries (ask_at trace t).object) n 0) (sym of_size) ∙ ap (λ (u : Run). u.bytes) (sym one),
    )

-- the run over the whole trace
whole : (s : State) (warmup : ℕ) (fills : List Bool) (trace : List Object) (t : ℕ) → t ≡ length trace → s ≡ start_of s.name s.capacity → run_to (counts_past warmup fills) s trace t ≡ policy_run s.name trace s.capacity warmup fills
whole s warmup fills trace t end fresh =
    ap (run_to (counts_past warmup fills) s trace) end ∙ ap (λ u. run_to (counts_past warmup fills) u trace (length trace)) fresh ∙ run_to-all (counts_past warmup fills) (start_of s.name s.capacity) trace (length trace) refl

-- the hits and bytes of the whole trace
pub run-all : (first now : Option State) (warmup : ℕ) (fills : List Bool) (trace : List Object) (t hits bytes : ℕ) → t ≡ length trace → IsFresh first → IsRunTo first now (counts_past warmup fills) trace t hits bytes → IsRunOf first trace warmup fills hits bytes
run-all None now warmup fills trace t hits bytes end fresh run = tt
run-all (Some s) now warmup fills trace t hits bytes end fresh run =
    let e = whole s warmup fills trace t end fresh in
    (run.1 ∙ ap (λ (u : Run). u.hits) e, run.2 ∙ ap (λ (u : Run). u.bytes) e)

-- the state after the whole trace
pub state-all : (first now : Option State) (warmup : ℕ) (fills : List Bool) (trace : List Object) (t hits bytes : ℕ) → t ≡ length trace → IsFresh first → IsRunTo first now (counts_past warmup fills) trace t hits bytes → IsStateAfter first now trace warmup fills
state-all None now warmup fills trace t hits bytes end fresh run = tt
state-all (Some s) now warmup fills trace t hits bytes end fresh run = run.0 ∙ ap (λ (u : Run). Some u.state) (whole s warmup fills trace t end fresh)
