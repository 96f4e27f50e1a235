-- The hits of LRU's run are those of the curve.
use Rattle.std.proofs.Common.{◌≡◌, ℕ, zero, suc, ◌+◌, ◌-◌, ◌/◌, ◌<◌, ◌≤◌, ◌∙◌, sym, refl, ap, subst, ⊎_elim, Bool, true, false, not, ◌&&◌, cond, eqb, leb, List, [], ◌∷◌, length, take, reverse, get_or, arith, Some, None}
use Rattle.std.specs.List.{AllByRecursion}
use Rattle.std.proofs.lemmas.Bool.{cases_Bool, le-leb, eqb-true, eq-eqb, false_from_ne_true}
use Rattle.std.proofs.lemmas.List.{length-reverse, length-take-le, take_more, get_or-take, get_or-reverse, reverse-append}
use Rattle.std.proofs.lemmas.List.Elements.{All-get_or}
use Rattle.cache_model.specs.declared.objects.Object.{Object}
use Rattle.cache_model.specs.Claim.{counts_past, only_fills, same_object, request_at, no_object}
use Rattle.cache_model.proofs.Duality.{same_object-true, same_object-refl}
use Rattle.cache_model.proofs.Streams.{sum_by-range_last}
use Rattle.policy_model.specs.declared.names.PolicyName.{PolicyName}
use Rattle.policy_model.specs.declared.names.PolicyName.TheVariants.{Lru}
use Rattle.policy_model.specs.States.{State, start_of, has_entry, nothing_beside, Beside}
use Rattle.policy_model.specs.Asks.{ask_at, number_of, object_numbered, next_request}
use Rattle.policy_model.specs.Rules.{entries_after, beside_after}
use Rattle.policy_model.specs.Runs.{Run, run_step}
use Rattle.policy_model.proofs.Replays.{run_to, run_to-more, run_to-all}
use Rattle.policy_laws.proofs.Asked.{number_of-object}
use Rattle.stack_curve.specs.Counts.{hits_before}
use Rattle.stack_curve.specs.Distances.{counted_distance, earlier, since, different, stack_distance, is_within}
use Rattle.stack_curve.specs.Laws.{HaveSize, CurveIsOfLru}
use Rattle.stack_curve.proofs.Different.{asks_for, kinds, different-since}
use Rattle.stack_curve.proofs.Recent.{recent, asks-recent, length-recent, since-recent, asks-take}
use Rattle.stack_curve.proofs.LruEntries.{entries_of, lru_state, IsToldApart, all-recent, all-take, has-entries, after-request}

pub hits-more : (trace : List Object) (fills : List Bool) (slots t : ℕ) → hits_before trace fills slots (t + 1) ≡ hits_before trace fills slots t + cond (is_within slots (counted_distance trace fills t)) 1 0
hits-more trace fills slots t =
    let one : t + 1 ≡ suc t = omega arith in
    ap (hits_before trace fills slots) one ∙ sum_by-range_last (λ u. cond (is_within slots (counted_distance trace fills u)) 1 0) t

-- a distance that counts is within the slots, or not
counted-within : (trace : List Object) (fills : List Bool) (slots t : ℕ) → is_within slots (counted_distance trace fills t) ≡ (not (only_fills fills t) && is_within slots (stack_distance trace t))
counted-within trace fills slots t = at (only_fills fills t)
  where
    at : (b : Bool) → is_within slots (cond b None (stack_distance trace t)) ≡ (not b && is_within slots (stack_distance trace t))
    at true = refl
    at false = refl

by_index : (P : Object → Type 0) (xs : List Object) → ((k : ℕ) → k < length xs → P (get_or xs k no_object)) → AllByRecursion P xs
by_index P [] each = tt
by_index P (x ∷ xs) each = (each 0 (omega arith), by_index P xs (λ k low. each (suc k) (omega arith)))

module _ (trace : List Object) where
  -- one more request stands before the earlier ones
  pub earlier-more : (t : ℕ) → t < length trace → earlier trace (t + 1) ≡ request_at trace t ∷ earlier trace t
  earlier-more t within = ap reverse (take_more trace t no_object within) ∙ reverse-append (take t trace) (request_at trace t ∷ [])

  -- what holds of each request holds of those before one
  pub all-earlier : (P : Object → Type 0) (t : ℕ) → t ≤ length trace → ((k : ℕ) → k < t → P (request_at trace k)) → AllByRecursion P (earlier trace t)
  all-earlier P t within each =
      by_index P (earlier trace t) (λ k low.
      let short : length (take t trace) ≡ t = length-take-le t trace within in
      let inside : k < length (take t trace) = omega (arith, length-reverse (take t trace)) in
      let place : ℕ = length (take t trace) - 1 - k in
      subst P (sym (get_or-reverse (take t trace) k no_object inside ∙ get_or-take t trace place no_object (omega arith))) (each place (omega arith)))

  -- a request is within its distance where its object is among as many of the most recently used ones
  pub within-recent : (slots t : ℕ) → is_within slots (stack_distance trace t) ≡ asks_for (request_at trace t) (take slots (recent (earlier trace t)))
  within-recent slots t =
      let x : Object = request_at trace t in
      let h : List Object = earlier trace t in
      at (asks_for x h)
      ∙ ap (λ d. asks_for x h && leb d slots) (different-since x h ∙ one (kinds (since x h)))
      ∙ ap (λ n. asks_for x h && leb (suc n) slots) (sym (ap length (since-recent x h) ∙ length-recent (since x h)))
      ∙ ap (λ b. b && leb (suc (length (since x (recent h)))) slots) (sym (asks-recent x h))
      ∙ sym (asks-take x slots (recent h))
    where
      one : (n : ℕ) → 1 + n ≡ suc n
      one n = omega arith

      at : (b : Bool) → is_within slots (cond b (Some (different (request_at trace t ∷ since (request_at trace t) (earlier trace t)))) None)
          ≡ (b && leb (different (request_at trace t ∷ since (request_at trace t) (earlier trace t))) slots)
      at true = refl
      at false = refl

  -- requests have one number exactly if they are of one object
  pub same_numbers : (t u : ℕ) → t < length trace → u < length trace
      → eqb (number_of trace (request_at trace t)) (number_of trace (request_at trace u)) ≡ same_object (request_at trace u) (request_at trace t)
  same_numbers t u within_t within_u =
      let x : Object = request_at trace t in
      let y : Object = request_at trace u in
      ⊎_elim
      (λ (same : same_object y x ≡ true). eq-eqb (number_of trace x) (number_of trace y) (ap (number_of trace) (sym (same_object-true y x same))) ∙ sym same)
      (λ (other : same_object y x ≡ false).
      false_from_ne_true (eqb (number_of trace x) (number_of trace y)) (λ numbers.
      let e : number_of trace x ≡ number_of trace y = eqb-true (number_of trace x) (number_of trace y) numbers in
      let here : x ≡ y = sym (number_of-object trace t within_t).1 ∙ ap (object_numbered trace) e ∙ (number_of-object trace u within_u).1 in
      let own : same_object y x ≡ true = ap (same_object y) here ∙ same_object-refl y in cc)
      ∙ sym other)
      (cases_Bool (same_object y x))

  module _ (fills : List Bool) (size capacity : ℕ) (positive : 1 ≤ size) (sized : HaveSize size trace) where
    -- LRU's run after t requests: the most recently used objects are kept, and the hits are the curve's
    record Follows (t : ℕ) (run : Run) : Type 0 where
      pub name : run.state.name ≡ Lru
      pub same_capacity : run.state.capacity ≡ capacity
      pub beside : run.state.beside ≡ nothing_beside
      pub kept : run.state.entries ≡ entries_of (number_of trace) (take (capacity / size) (recent (earlier trace t)))
      pub hits : run.hits ≡ hits_before trace fills (capacity / size) t

    one_more : (t : ℕ) (run : Run) → t < length trace → Follows t run → Follows (t + 1) (run_step (counts_past 0 fills) run (ask_at trace t))
    one_more t run within so_far =
        let num : Object → ℕ = number_of trace in
        let slots : ℕ = capacity / size in
        let x : Object = request_at trace t in
        let h : List Object = earlier trace t in
        let own : x.size ≡ size = All-get_or (λ y. y.size ≡ size) trace t no_object within sized in
        let sizes : AllByRecursion (λ y. y.size ≡ size) h = all-earlier (λ y. y.size ≡ size) t (omega arith) (λ k low. All-get_or (λ y. y.size ≡ size) trace k no_object (omega arith) sized) in
        let told : IsToldApart num x h = all-earlier (λ y. eqb (num y) (num x) ≡ same_object x y) t (omega arith)
        (λ k low. same_numbers k t (omega arith) within) in
        let state : run.state ≡ lru_state num capacity run.state.now (entries_of num (take slots (recent h))) =
        ap (λ (n : PolicyName). record { name = n; capacity = run.state.capacity; now = run.state.now; entries = run.state.entries; beside = run.state.beside }) so_far.name
        ∙ ap (λ c. record { name = Lru; capacity = c; now = run.state.now; entries = run.state.entries; beside = run.state.beside }) so_far.same_capacity
        ∙ ap (λ (b : Beside). record { name = Lru; capacity = capacity; now = run.state.now; entries = run.state.entries; beside = b }) so_far.beside
        ∙ ap (lru_state num capacity run.state.now) so_far.kept in
        let hit : has_entry run.state.entries (num x) ≡ is_within slots (stack_distance trace t) =
        ap (λ es. has_entry es (num x)) so_far.kept ∙ has-entries num x (take slots (recent h)) (all-take _ slots (recent h) (all-recent _ h told)) ∙ sym (within-recent slots t) in
        let always : leb 0 t ≡ true = le-leb 0 t (omega arith) in
        record {
          name = so_far.name;
          same_capacity = so_far.same_capacity;
          beside = ap (λ (s : State). beside_after s (num x) x.size (next_request trace t)) state;
          kept = ap (λ (s : State). entries_after s (num x) x.size (next_request trace t)) state
              ∙ after-request num capacity size positive slots run.state.now (next_request trace t) x h refl own sizes told
              ∙ ap (λ g. entries_of num (take slots (recent g))) (sym (earlier-more t within));
          hits = ap (λ n. n + cond (counts_past 0 fills t && has_entry run.state.entries (num x)) 1 0) so_far.hits
              ∙ ap (λ b. hits_before trace fills slots t + cond ((b && not (only_fills fills t)) && has_entry run.state.entries (num x)) 1 0) always
              ∙ ap (λ b. hits_before trace fills slots t + cond (not (only_fills fills t) && b) 1 0) hit
              ∙ ap (λ b. hits_before trace fills slots t + cond b 1 0) (sym (counted-within trace fills slots t))
              ∙ sym (hits-more trace fills slots t);
        }

    follows : (t : ℕ) → t ≤ length trace → Follows t (run_to (counts_past 0 fills) (start_of Lru capacity) trace t)
    follows zero within = record { name = refl; same_capacity = refl; beside = refl; kept = sym (ap (entries_of (number_of trace)) (nothing (capacity / size))); hits = refl }
      where
        nothing : (k : ℕ) → take {A = Object} k [] ≡ []
        nothing zero = refl
        nothing (suc k) = refl
    follows (suc t) within =
        let low : t < length trace = omega arith in
        let one : t + 1 ≡ suc t = omega arith in
        subst (λ n. Follows n (run_to (counts_past 0 fills) (start_of Lru capacity) trace n)) one
        (subst (Follows (t + 1)) (sym (run_to-more (counts_past 0 fills) (start_of Lru capacity) trace t low)) (one_more t (run_to (counts_past 0 fills) (start_of Lru capacity) trace t) low (follows t (omega arith))))

pub curve_is_of_lru : CurveIsOfLru
curve_is_of_lru trace fills size capacity positive some sized =
    ap (λ (r : Run). r.hits) (sym (run_to-all (counts_past 0 fills) (start_of Lru capacity) trace (length trace) refl))
    ∙ (follows trace fills size capacity positive sized (length trace) (omega arith)).hits
