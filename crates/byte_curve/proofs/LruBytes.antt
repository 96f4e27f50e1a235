-- The hits and bytes of LRU's run are those of the distances in bytes.
use Rattle.std.proofs.Common.{◌≡◌, ℕ, zero, suc, ◌+◌, ◌<◌, ◌≤◌, ◌∙◌, sym, refl, ap, subst, ⊎_elim, Bool, true, false, ◌&&◌, cond, eqb, leb, List, ◌∷◌, length, filter, arith, Some, None, sum_by}
use Rattle.std.specs.List.{range_with_len}
use Rattle.std.proofs.lemmas.Bool.{cases_lt, le-leb, lt-leb}
use Rattle.cache_model.specs.declared.objects.Object.{Object}
use Rattle.cache_model.specs.Claim.{counts_past, same_object, request_at, total_size}
use Rattle.cache_model.specs.Objects.{objects_of}
use Rattle.cache_model.proofs.Streams.{sum_by-range_last}
use Rattle.policy_model.specs.declared.names.PolicyName.{PolicyName}
use Rattle.policy_model.specs.declared.names.PolicyName.TheVariants.{Lru}
use Rattle.policy_model.specs.States.{State, start_of, has_entry, nothing_beside, Beside}
use Rattle.policy_model.specs.Asks.{ask_at, number_of, next_request}
use Rattle.policy_model.specs.Rules.{entries_after, beside_after}
use Rattle.policy_model.specs.Runs.{Run, run_step}
use Rattle.policy_model.proofs.Replays.{run_to, run_to-more, run_to-all}
use Rattle.stack_curve.specs.Distances.{earlier, since, is_within}
use Rattle.stack_curve.proofs.Different.{asks_for, since-without}
use Rattle.stack_curve.proofs.Recent.{recent, asks-recent, since-recent}
use Rattle.stack_curve.proofs.LruCurve.{all-earlier, earlier-more, same_numbers}
use Rattle.stack_curve.proofs.LruEntries.{entries_of, lru_state, IsToldApart, has-entries}
use Rattle.byte_curve.specs.Distances.{fits_in, bytes_asked, is_hit, is_counted_hit}
use Rattle.byte_curve.specs.Laws.{DistancesAreOfLru}
use Rattle.byte_curve.proofs.Weights.{weigh, passed, sum-objects, sum-recent, sum-filter, weigh-filter, asks-filter, since-filter}
use Rattle.byte_curve.proofs.Fitting.{down_to, asks-fitting, fitting-large}
use Rattle.byte_curve.proofs.FittingEntries.{recent_small, kept_of, all-kept, after-request}

-- one more request in a sum
pub sum-more : (f : ℕ → ℕ) (t : ℕ) → sum_by f (range_with_len 0 (t + 1)) ≡ sum_by f (range_with_len 0 t) + f t
sum-more f t = let one : t + 1 ≡ suc t = omega arith in ap (λ n. sum_by f (range_with_len 0 n)) one ∙ sum_by-range_last f t

-- the bytes asked for since the latest request of x, with its own
pub bytes-weigh : (capacity : ℕ) (x : Object) (h : List Object) → x.size ≤ capacity → bytes_asked capacity (x ∷ since x h) ≡ x.size + weigh (λ z. z.size) (filter (fits_in capacity) (since x h))
bytes-weigh capacity x h small =
    let p : Object → Bool = fits_in capacity in
    let size : Object → ℕ = λ z. z.size in
    let own : p x ≡ true = le-leb x.size capacity small in
    sum-filter p size (objects_of (x ∷ since x h))
    ∙ sum-objects (passed p size) (x ∷ since x h)
    ∙ ap (λ b. cond b (weigh (passed p size) (since x h)) (passed p size x + weigh (passed p size) (since x h))) (since-without x h)
    ∙ ap (λ b. cond b x.size 0 + weigh (passed p size) (since x h)) own
    ∙ ap (λ n. x.size + n) (weigh-filter p size (since x h))

-- they are the sizes down to x
bytes-down_to : (capacity : ℕ) (x : Object) (h : List Object) → x.size ≤ capacity → bytes_asked capacity (x ∷ since x h) ≡ down_to x (recent_small capacity h)
bytes-down_to capacity x h small =
    let p : Object → Bool = fits_in capacity in
    let size : Object → ℕ = λ z. z.size in
    bytes-weigh capacity x h small
    ∙ ap (λ n. x.size + n)
    (sym (sum-recent size (filter p (since x h)))
    ∙ ap (λ zs. total_size (recent zs)) (sym (since-filter p x h (le-leb x.size capacity small))) ∙ ap total_size (sym (since-recent x (filter p h))))
    ∙ swap x.size (total_size (since x (recent_small capacity h)))
  where
    swap : (m n : ℕ) → m + n ≡ n + m
    swap m n = omega arith

module _ (trace : List Object) where
  module _ (capacity : ℕ) where
    -- a request is within the capacity exactly if LRU keeps its object
    hit-kept : (t : ℕ) → is_hit capacity trace t ≡ asks_for (request_at trace t) (kept_of capacity (earlier trace t))
    hit-kept t =
        let x : Object = request_at trace t in
        let h : List Object = earlier trace t in
        let bytes : ℕ = bytes_asked capacity (x ∷ since x h) in
        ⊎_elim
        (λ (large : capacity < x.size).
        ap (λ b. is_within capacity (cond (b && asks_for x h) (Some bytes) None)) (lt-leb x.size capacity large)
        ∙ sym (fitting-large x capacity (recent_small capacity h) large))
        (λ (small : x.size ≤ capacity).
        let own : fits_in capacity x ≡ true = le-leb x.size capacity small in
        ap (λ b. is_within capacity (cond (b && asks_for x h) (Some bytes) None)) own
        ∙ at (asks_for x h) bytes
        ∙ ap (λ n. asks_for x h && leb n capacity) (bytes-down_to capacity x h small)
        ∙ ap (λ b. b && leb (down_to x (recent_small capacity h)) capacity) (sym (asks-recent x (filter (fits_in capacity) h) ∙ asks-filter (fits_in capacity) x h own))
        ∙ sym (asks-fitting x capacity (recent_small capacity h)))
        (cases_lt capacity x.size)
      where
        at : (b : Bool) (n : ℕ) → is_within capacity (cond (true && b) (Some n) None) ≡ (b && leb n capacity)
        at true n = refl
        at false n = refl

    module _ (warmup : ℕ) (fills : List Bool) where
      -- LRU's run after t requests: the entries, the hits and their bytes
      record Follows (t : ℕ) (run : Run) : Type 0 where
        pub name : run.state.name ≡ Lru
        pub same_capacity : run.state.capacity ≡ capacity
        pub beside : run.state.beside ≡ nothing_beside
        pub kept : run.state.entries ≡ entries_of (number_of trace) (kept_of capacity (earlier trace t))
        pub hits : run.hits ≡ sum_by (λ u. cond (is_counted_hit capacity warmup trace fills u) 1 0) (range_with_len 0 t)
        pub bytes : run.bytes ≡ sum_by (λ u. cond (is_counted_hit capacity warmup trace fills u) (request_at trace u).size 0) (range_with_len 0 t)

      one_more : (t : ℕ) (run : Run) → t < length trace → Follows t run → Follows (t + 1) (run_step (counts_past warmup fills) run (ask_at trace t))
      one_more t run within so_far =
          let num : Object → ℕ = number_of trace in
          let x : Object = request_at trace t in
          let h : List Object = earlier trace t in
          let hits_at : ℕ → ℕ = λ u. cond (is_counted_hit capacity warmup trace fills u) 1 0 in
          let bytes_of : ℕ → ℕ = λ u. cond (is_counted_hit capacity warmup trace fills u) (request_at trace u).size 0 in
          let told : IsToldApart num x h = all-earlier trace (λ y. eqb (num y) (num x) ≡ same_object x y) t (omega arith)
          (λ k low. same_numbers trace k t (omega arith) within) in
          let state : run.state ≡ lru_state num capacity run.state.now (entries_of num (kept_of capacity h)) =
          ap (λ (n : PolicyName). record { name = n; capacity = run.state.capacity; now = run.state.now; entries = run.state.entries; beside = run.state.beside }) so_far.name
          ∙ ap (λ c. record { name = Lru; capacity = c; now = run.state.now; entries = run.state.entries; beside = run.state.beside }) so_far.same_capacity
          ∙ ap (λ (b : Beside). record { name = Lru; capacity = capacity; now = run.state.now; entries = run.state.entries; beside = b }) so_far.beside
          ∙ ap (lru_state num capacity run.state.now) so_far.kept in
          let hit : has_entry run.state.entries (num x) ≡ is_hit capacity trace t =
          ap (λ es. has_entry es (num x)) so_far.kept
          ∙ has-entries num x (kept_of capacity h) (all-kept (λ y. eqb (num y) (num x) ≡ same_object x y) capacity h told)
          ∙ sym (hit-kept t) in
          record {
            name = so_far.name;
            same_capacity = so_far.same_capacity;
            beside = ap (λ (s : State). beside_after s (num x) x.size (next_request trace t)) state;
            kept = ap (λ (s : State). entries_after s (num x) x.size (next_request trace t)) state
                ∙ after-request num capacity run.state.now (next_request trace t) x h told
                ∙ ap (λ g. entries_of num (kept_of capacity g)) (sym (earlier-more trace t within));
            hits = ap (λ n. n + cond (counts_past warmup fills t && has_entry run.state.entries (num x)) 1 0) so_far.hits
                ∙ ap (λ b. sum_by hits_at (range_with_len 0 t) + cond (counts_past warmup fills t && b) 1 0) hit
                ∙ sym (sum-more hits_at t);
            bytes = ap (λ n. n + cond (counts_past warmup fills t && has_entry run.state.entries (num x)) x.size 0) so_far.bytes
                ∙ ap (λ b. sum_by bytes_of (range_with_len 0 t) + cond (counts_past warmup fills t && b) x.size 0) hit
                ∙ sym (sum-more bytes_of t);
          }

      follows : (t : ℕ) → t ≤ length trace → Follows t (run_to (counts_past warmup fills) (start_of Lru capacity) trace t)
      follows zero within = record { name = refl; same_capacity = refl; beside = refl; kept = refl; hits = refl; bytes = refl }
      follows (suc t) within =
          let low : t < length trace = omega arith in
          let one : t + 1 ≡ suc t = omega arith in
          subst (λ n. Follows n (run_to (counts_past warmup fills) (start_of Lru capacity) trace n)) one
          (subst (Follows (t + 1)) (sym (run_to-more (counts_past warmup fills) (start_of Lru capacity) trace t low))
          (one_more t (run_to (counts_past warmup fills) (start_of Lru capacity) trace t) low (follows t (omega arith))))

pub distances_are_of_lru : DistancesAreOfLru
distances_are_of_lru trace fills capacity warmup = (
  ap (λ (r : Run). r.hits) (sym (run_to-all (counts_past warmup fills) (start_of Lru capacity) trace (length trace) refl)) ∙ (follows trace capacity warmup fills (length trace) (omega arith)).hits,
  ap (λ (r : Run). r.bytes) (sym (run_to-all (counts_past warmup fills) (start_of Lru capacity) trace (length trace) refl)) ∙ (follows trace capacity warmup fills (length trace) (omega arith)).bytes,
)
