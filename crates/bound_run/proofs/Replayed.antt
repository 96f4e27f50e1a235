-- What a replay shows, from what it answers: that allowed contents are within the bound of each valid certificate, and whose run it is.
use Rattle.std.proofs.Common.{◌≡◌, ℕ, ◌≤◌, Bool, true, false, ◌&&◌, not, cond, nat_le, [], ◌∷◌, sym, ap, subst, refl, arith, List, length, sum_by, ◌∙◌, Some, IfOk, Result, Ok, Err}
use Rattle.std.specs.declared.option.Option.{Option}
use Rattle.std.specs.Prelude.{slice_index_or}
use Rattle.std.specs.List.{range_with_len}
use Rattle.std.proofs.Math.Nat.{mul-le-mul_left}
use Rattle.std.proofs.lemmas.Bool.{and_parts, and_from, le-leb, leb-true}
use Rattle.std.proofs.lemmas.List.Sums.{sum_by-cons}
use Rattle.std.proofs.lemmas.List.FromFn.{get_or-map-range_with_len}
use Rattle.cache_model.specs.declared.objects.Object.{Object}
use Rattle.cache_model.specs.declared.objects.Objective.{Objective}
use Rattle.cache_model.specs.declared.objects.Objective.TheVariants.{Object as Hits, Bytes}
use Rattle.cache_model.specs.Claim.{BoundsEveryPolicy, IsAllowed, before_request, gain_of, holds, only_fills, request_at, score, terms_from, terms_of}
use Rattle.cache_model.proofs.Headline.{valid_bounds}
use Rattle.cache_rules.specs.Stored.{Requests}
use Rattle.policy_model.specs.Runs.{AreScores, IsPlayed, policy_run}
use Rattle.policy_model.specs.States.{State, start_of}
use Rattle.policy_model.specs.declared.names.PolicyName.{PolicyName}
use Rattle.policy_model.specs.declared.names.PolicyName.TheVariants.{Belady}
use Rattle.replay_core.specs.declared.counts.Replay.{Replay}
use Rattle.replay_core.specs.Laws.{IsRunOf}
use Rattle.belady_laws.proofs.BestLemmas.{best}
use Rattle.bit_list.specs.Bits.{bits_of}
use Rattle.bit_list.specs.declared.list.BitList.{BitList}
use Rattle.replay_fresh.specs.FreshRuns.{IsFreshRunOf, IsFreshlyPlayed, OnlyFill, fresh_run}
use Rattle.replay_hits.specs.Hits.{AreHits}
use Rattle.replay_hits.specs.FreshHits.{AreFreshHits}
use Rattle.bound_run.specs.Replays.{earned_by, IsFreshReplay, IsWithinBounds, IsReplay, stale_flags}

-- what contents earn is their score, at any capacity
earned-score : (capacity warmup other : ℕ) (trace : Requests) (hits bytes : ℕ) (scores : AreScores capacity warmup trace.fills trace.objects hits bytes) (o : Objective)
    → score (terms_from o other warmup trace.fills) trace.objects scores.contents ≡ earned_by o hits bytes
earned-score capacity warmup other trace hits bytes scores Hits = sym scores.hits_are
earned-score capacity warmup other trace hits bytes scores Bytes = sym scores.bytes_are

sum_by-mono : {X : Type 0} (f g : X → ℕ) (xs : List X) → ((x : X) → f x ≤ g x) → sum_by f xs ≤ sum_by g xs
sum_by-mono f g [] below = omega arith
sum_by-mono f g (x ∷ xs) below = omega (arith, sum_by-cons f x xs, sum_by-cons g x xs, below x, sum_by-mono f g xs below)

-- what implies more is gained more often
gained : (a b : Bool) (gain : ℕ) → (a ≡ true → b ≡ true) → cond a gain 0 ≤ cond b gain 0
gained false b gain more = omega arith
gained true b gain more = rw (more refl) (omega arith)

-- after a longer warm-up fewer requests count
scores_less : (o : Objective) (capacity shorter longer : ℕ) (trace : Requests) (contents : List (List Object)) → shorter ≤ longer
    → score (terms_from o capacity longer trace.fills) trace.objects contents ≤ score (terms_from o capacity shorter trace.fills) trace.objects contents
scores_less o capacity shorter longer trace contents low =
    sum_by-mono _ _ (range_with_len 0 (length trace.objects)) (λ t.
    let x = request_at trace.objects t in
    let hit = holds (before_request contents t) x in
    let counting = not (only_fills trace.fills t) in
    gained ((nat_le longer t && counting) && hit) ((nat_le shorter t && counting) && hit) (gain_of o x) (λ is.
    let outer = and_parts (nat_le longer t && counting) hit is in
    let inner = and_parts (nat_le longer t) counting outer.0 in
    let past : longer ≤ t = leb-true longer t inner.0 in
    and_from _ _ (and_from _ _ (le-leb shorter t (omega arith)) inner.1) outer.1))

within_bounds : (capacity warmup : ℕ) (trace : Requests) (hits bytes : ℕ) → AreScores capacity warmup trace.fills trace.objects hits bytes → IsWithinBounds capacity warmup trace hits bytes
within_bounds capacity warmup trace hits bytes scores = λ h records valid same shorter.
    let bounds : BoundsEveryPolicy trace.objects trace.fills h = valid_bounds trace.objects trace.fills h records valid in
    let allowed : IsAllowed h.capacity trace.objects scores.contents = subst (λ c. IsAllowed c trace.objects scores.contents) (sym same) scores.allowed in
    let earned : score (terms_from h.objective h.capacity warmup trace.fills) trace.objects scores.contents ≡ earned_by h.objective hits bytes = earned-score capacity warmup h.capacity trace hits bytes scores h.objective in
    let less : earned_by h.objective hits bytes ≤ score (terms_of h trace.fills) trace.objects scores.contents
    = subst (λ n. n ≤ score (terms_of h trace.fills) trace.objects scores.contents) earned (scores_less h.objective h.capacity h.warmup warmup trace scores.contents shorter) in
    record {
      upper = omega (arith, mul-le-mul_left h.denominator less, bounds.no_policy_scores_more scores.contents allowed);
      floor = omega (arith, less, bounds.no_policy_passes_the_floor scores.contents allowed);
    }

pub bounded : {E : Type 0} (capacity warmup : ℕ) (trace : Requests) (r : Result Replay E) → IfOk r (λ a. AreScores capacity warmup trace.fills trace.objects a.hits a.bytes) → IfOk r (λ a. IsWithinBounds capacity warmup trace a.hits a.bytes)
bounded capacity warmup trace (Ok a) scores = within_bounds capacity warmup trace a.hits a.bytes scores
bounded capacity warmup trace (Err e) scores = tt

-- the counts of a rule's run that are scores of allowed contents
is_replay : (name : PolicyName) (capacity warmup : ℕ) (trace : Requests) (a : Replay) → AreScores capacity warmup trace.fills trace.objects a.hits a.bytes
    → IsPlayed (Some (start_of name capacity)) capacity warmup trace.fills trace.objects a.hits a.bytes a.written
    → (a.hits ≡ (policy_run name trace.objects capacity warmup trace.fills).hits) × (a.bytes ≡ (policy_run name trace.objects capacity warmup trace.fills).bytes) → IsReplay name capacity warmup trace a
is_replay name capacity warmup trace a scores played run = record {
  hits = run.0;
  bytes = run.1;
  played = played;
  bounded = within_bounds capacity warmup trace a.hits a.bytes scores;
  best = λ belady every unmarked one.
      best capacity 0 trace.objects one a.hits a.bytes
      (subst (λ fills. AreScores capacity 0 fills trace.objects a.hits a.bytes) unmarked (subst (λ m. AreScores capacity m trace.fills trace.objects a.hits a.bytes) every scores)) (
        run.0 ∙ ap (λ p. (policy_run p trace.objects capacity warmup trace.fills).hits) belady ∙ ap (λ m. (policy_run Belady trace.objects capacity m trace.fills).hits) every ∙ ap (λ fills. (policy_run Belady trace.objects capacity 0 fills).hits) unmarked,
        run.1 ∙ ap (λ p. (policy_run p trace.objects capacity warmup trace.fills).bytes) belady ∙ ap (λ m. (policy_run Belady trace.objects capacity m trace.fills).bytes) every ∙ ap (λ fills. (policy_run Belady trace.objects capacity 0 fills).bytes) unmarked,
      );
}

-- whatever a replay of a policy answers that begins as the rule does
pub replayed : {E : Type 0} (name : PolicyName) (capacity warmup : ℕ) (trace : Requests) (r : Result Replay E) (room : ℕ) (known_state : Option State)
    → room ≡ capacity → known_state ≡ Some (start_of name capacity) → IfOk r (λ a. AreScores room warmup trace.fills trace.objects a.hits a.bytes)
    → IfOk r (λ a. IsPlayed known_state room warmup trace.fills trace.objects a.hits a.bytes a.written)
    → IfOk r (λ a. IsRunOf known_state trace.objects warmup trace.fills a.hits a.bytes) → IfOk r (IsReplay name capacity warmup trace)
replayed name capacity warmup trace (Ok a) room known_state room_is state_is scores played run =
    is_replay name capacity warmup trace a (subst (λ c. AreScores c warmup trace.fills trace.objects a.hits a.bytes) room_is scores)
    (subst (λ s. IsPlayed s capacity warmup trace.fills trace.objects a.hits a.bytes a.written) state_is
    (subst (λ c. IsPlayed known_state c warmup trace.fills trace.objects a.hits a.bytes a.written) room_is played))
    (subst (λ s. IsRunOf s trace.objects warmup trace.fills a.hits a.bytes) state_is run)
replayed name capacity warmup trace (Err e) room known_state room_is state_is scores played run = tt

-- and whatever hits it answers
pub hits_are : {E : Type 0} (name : PolicyName) (capacity : ℕ) (trace : Requests) (r : Result BitList E) (room : ℕ) (known_state : Option State)
    → room ≡ capacity → known_state ≡ Some (start_of name capacity) → IfOk r (λ flags. AreHits known_state room trace.objects (bits_of flags))
    → IfOk r (λ flags. AreHits (Some (start_of name capacity)) capacity trace.objects (bits_of flags))
hits_are name capacity trace (Ok flags) room known_state room_is state_is hits =
    subst (λ s. AreHits s capacity trace.objects (bits_of flags)) state_is (subst (λ c. AreHits known_state c trace.objects (bits_of flags)) room_is hits)
hits_are name capacity trace (Err e) room known_state room_is state_is hits = tt

-- ---- a replay from which objects leave
-- the counts of a rule's run that are scores of allowed contents
is_fresh_replay : (name : PolicyName) (capacity warmup : ℕ) (trace : Requests) (stale : List Bool) (replace : Bool) (a : Replay) → AreScores capacity warmup trace.fills trace.objects a.hits a.bytes
    → IsFreshlyPlayed (Some (start_of name capacity)) capacity warmup trace.fills stale replace trace.objects a.hits a.bytes a.written
    → (a.hits ≡ (fresh_run name trace.objects capacity warmup trace.fills stale replace).hits) × (a.bytes ≡ (fresh_run name trace.objects capacity warmup trace.fills stale replace).bytes)
    → IsFreshReplay name capacity warmup trace stale replace a
is_fresh_replay name capacity warmup trace stale replace a scores played run =
    record { hits = run.0; bytes = run.1; played = played; bounded = within_bounds capacity warmup trace a.hits a.bytes scores }

-- whatever a replay of a policy answers that begins as the rule does
pub fresh_replayed : {E : Type 0} (name : PolicyName) (capacity warmup : ℕ) (trace : Requests) (stale : List Bool) (replace : Bool) (r : Result Replay E) (room : ℕ) (known_state : Option State)
    → room ≡ capacity → known_state ≡ Some (start_of name capacity) → IfOk r (λ a. AreScores room warmup trace.fills trace.objects a.hits a.bytes)
    → IfOk r (λ a. IsFreshlyPlayed known_state room warmup trace.fills stale replace trace.objects a.hits a.bytes a.written)
    → IfOk r (λ a. IsFreshRunOf known_state trace.objects warmup trace.fills stale replace a.hits a.bytes) → IfOk r (IsFreshReplay name capacity warmup trace stale replace)
fresh_replayed name capacity warmup trace stale replace (Ok a) room known_state room_is state_is scores played run =
    is_fresh_replay name capacity warmup trace stale replace a (subst (λ c. AreScores c warmup trace.fills trace.objects a.hits a.bytes) room_is scores)
    (subst (λ s. IsFreshlyPlayed s capacity warmup trace.fills stale replace trace.objects a.hits a.bytes a.written) state_is
    (subst (λ c. IsFreshlyPlayed known_state c warmup trace.fills stale replace trace.objects a.hits a.bytes a.written) room_is played))
    (subst (λ s. IsFreshRunOf s trace.objects warmup trace.fills stale replace a.hits a.bytes) state_is run)
fresh_replayed name capacity warmup trace stale replace (Err e) room known_state room_is state_is scores played run = tt

-- and whatever hits it answers
pub fresh_hits_are : {E : Type 0} (name : PolicyName) (capacity : ℕ) (trace : Requests) (stale : List Bool) (replace : Bool) (r : Result BitList E) (room : ℕ) (known_state : Option State)
    → room ≡ capacity → known_state ≡ Some (start_of name capacity) → IfOk r (λ flags. AreFreshHits known_state room trace.objects stale replace (bits_of flags))
    → IfOk r (λ flags. AreFreshHits (Some (start_of name capacity)) capacity trace.objects stale replace (bits_of flags))
fresh_hits_are name capacity trace stale replace (Ok flags) room known_state room_is state_is hits =
    subst (λ s. AreFreshHits s capacity trace.objects stale replace (bits_of flags)) state_is (subst (λ c. AreFreshHits known_state c trace.objects stale replace (bits_of flags)) room_is hits)
fresh_hits_are name capacity trace stale replace (Err e) room known_state room_is state_is hits = tt

-- each request that is flagged stale only fills
pub stale_flags-fill : (trace : Requests) (stale : List Bool) → OnlyFill (stale_flags trace stale) trace.fills trace.objects
stale_flags-fill trace stale t within is =
    let f : ℕ → Bool = λ u. slice_index_or stale u false && only_fills trace.fills u in
    (and_parts (slice_index_or stale t false) (only_fills trace.fills t) (sym (get_or-map-range_with_len f 0 (length trace.objects) t t false within (omega arith)) ∙ is)).1
