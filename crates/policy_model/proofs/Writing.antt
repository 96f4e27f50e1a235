-- What contents write, one request later, and the contents of a rule.
use Rattle.std.proofs.Common.{◌≡◌, ℕ, suc, ◌+◌, ◌∙◌, sym, refl, ap, Bool, not, ◌&&◌, ◌||◌, cond, nat_le, List, [], ◌∷◌, ◌++◌, length, fold, map, take, arith, sum_by}
use Rattle.std.specs.List.{range_with_len}
use Rattle.std.proofs.Math.Seq.{get_or-append_seam}
use Rattle.std.proofs.lemmas.List.{get_or_append_left, length-append}
use Rattle.std.proofs.lemmas.List.FromFn.{map-range_with_len_more}
use Rattle.cache_model.specs.declared.objects.Object.{Object}
use Rattle.cache_model.specs.Claim.{holds, before_request, no_object, only_fills, request_at}
use Rattle.cache_model.specs.Written.{writes, written_bytes}
use Rattle.cache_model.proofs.Streams.{sum_by-range_agree, sum_by-range_last}
use Rattle.policy_model.specs.States.{State, members_of}
use Rattle.policy_model.specs.Asks.{Ask, asks_of}
use Rattle.policy_model.specs.Runs.{Run, run_step, run_from, rule_step, held_after, objects_held}
use Rattle.policy_model.proofs.Replays.{run_to}

-- what a request writes, of its object, the contents before it and after it
abbrev pub own_written : ℕ → List Bool → ℕ → Object → List Object → List Object → ℕ
own_written warmup fills t x before after = cond (nat_le warmup t && (holds after x && (only_fills fills t || not (holds before x)))) x.size 0

-- what one more request writes
pub written_bytes-more : (warmup : ℕ) (fills : List Bool) (xs : List Object) (x : Object) (ks : List (List Object)) (next : List Object) → length ks ≡ length xs + 1
    → written_bytes warmup fills (xs ++ x ∷ []) (ks ++ next ∷ [])
    ≡ written_bytes warmup fills xs ks + own_written warmup fills (length xs) x (before_request ks (length xs)) next
written_bytes-more warmup fills xs x ks next long =
    let longer : length (xs ++ x ∷ []) ≡ suc (length xs) = omega (arith, length-append xs (x ∷ [])) in
    let at : List Object → List (List Object) → ℕ → ℕ = λ ys cs t. cond (nat_le warmup t && writes fills ys cs t) (request_at ys t).size 0 in
    let f : ℕ → ℕ = at (xs ++ x ∷ []) (ks ++ next ∷ []) in
    let same : (t : ℕ) (y z : Object) (before held after kept : List Object) → y ≡ z → before ≡ held → after ≡ kept → own_written warmup fills t y before after ≡ own_written warmup fills t z held kept =
    λ t y z before held after kept of_object of_before of_after.
    ap (λ (u : Object). own_written warmup fills t u before after) of_object ∙ ap (λ h. own_written warmup fills t z h after) of_before ∙ ap (λ h. own_written warmup fills t z held h) of_after in
    ap (λ k. sum_by f (range_with_len 0 k)) longer
    ∙ sum_by-range_last f (length xs)
    ∙ omega (
      arith,
      sum_by-range_agree f (at xs ks) 0 (length xs)
          (λ t low high. same t (request_at (xs ++ x ∷ []) t) (request_at xs t) (before_request (ks ++ next ∷ []) t) (before_request ks t) (before_request (ks ++ next ∷ []) (t + 1)) (before_request ks (t + 1))
          (get_or_append_left xs (x ∷ []) no_object t (omega arith))
          (get_or_append_left ks (next ∷ []) [] t (omega arith))
          (get_or_append_left ks (next ∷ []) [] (t + 1) (omega arith))),
      same (length xs) (request_at (xs ++ x ∷ []) (length xs)) x (before_request (ks ++ next ∷ []) (length xs)) (before_request ks (length xs)) (before_request (ks ++ next ∷ []) (length xs + 1)) next
          (get_or-append_seam xs x [] no_object)
          (get_or_append_left ks (next ∷ []) [] (length xs) (omega arith))
          (ap (before_request (ks ++ next ∷ [])) (sym long) ∙ get_or-append_seam ks next [] []),
    )

-- the state of a run is that of its rule
run-state : (counted : ℕ → Bool) (r : Run) (asks : List Ask) → (fold (run_step counted) r asks).state ≡ fold rule_step r.state asks
run-state counted r [] = refl
run-state counted r (a ∷ asks) = run-state counted (run_step counted r a) asks

-- what the state of a run holds after t requests
pub held_after-run : (counted : ℕ → Bool) (s : State) (trace : List Object) (t : ℕ) → held_after s trace t ≡ objects_held trace (members_of (run_to counted s trace t).state.entries)
held_after-run counted s trace t =
    ap (λ (u : State). objects_held trace (members_of u.entries)) (sym (run-state counted (run_from s) (take t (asks_of trace))))

-- the contents of a rule, one request later
pub held_after-more : (s : State) (trace : List Object) (t : ℕ)
    → map (held_after s trace) (range_with_len 0 (t + 1 + 1)) ≡ map (held_after s trace) (range_with_len 0 (t + 1)) ++ held_after s trace (t + 1) ∷ []
held_after-more s trace t = map-range_with_len_more (held_after s trace) 0 (t + 1) (t + 1) (omega arith)
