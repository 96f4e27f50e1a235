-- What the contents of keeps write, request by request.
use Rattle.std.proofs.Common.{◌≡◌, ◌≢◌, ℕ, suc, ◌+◌, ◌<◌, ⊎_elim, ◌∙◌, sym, ap, Bool, true, false, not, ◌&&◌, ◌||◌, cond, nat_le, List, length, arith, filter, sum_by}
use Rattle.std.specs.List.{range_with_len}
use Rattle.std.proofs.lemmas.Bool.{cases_Bool, cases_eq, both_ways, and_parts, and_from, not-true}
use Rattle.std.proofs.lemmas.List.Elements.{All-map}
use Rattle.std.proofs.lemmas.List.Folds.{list_any_none}
use Rattle.cache_model.specs.declared.objects.Object.{Object}
use Rattle.cache_model.specs.Claim.{same_object, holds, before_request, only_fills, request_at, no_object, is_kept, is_held, is_latest, held_before, contents_of}
use Rattle.cache_model.specs.Written.{writes, written_bytes}
use Rattle.cache_model.proofs.Pairs.{same_object-sym}
use Rattle.cache_model.proofs.Eligible.{list_any-range_true}
use Rattle.cache_model.proofs.Keeps.{All-filter_range, Contains-filter_range}
use Rattle.cache_model.proofs.Scores.{before_request-contents_of, is_latest-own}
use Rattle.cache_model.proofs.Steps.{holds-from_Contains}
use Rattle.cache_model.proofs.Streams.{sum_by-range_agree, sum_by-range_last}

-- the contents of keeps have the object of a request right after it exactly if it is kept
pub holds-own : (trace : List Object) (keeps : List Bool) (t : ℕ) → t < length trace → holds (held_before trace keeps (t + 1)) (request_at trace t) ≡ is_kept keeps t
holds-own trace keeps t within =
    ⊎_elim
    (λ (kept : is_kept keeps t ≡ true).
    holds-from_Contains (held_before trace keeps (t + 1)) (request_at trace t)
    (Contains-filter_range (request_at trace) (is_held trace keeps (t + 1)) t 0 (t + 1) (omega arith) (omega arith) (and_from _ _ kept (is_latest-own trace t within)))
    ∙ sym kept)
    (λ (bypassed : is_kept keeps t ≡ false). none bypassed ∙ sym bypassed)
    (cases_Bool (is_kept keeps t))
  where
    others : is_kept keeps t ≡ false → (k : ℕ) → k < t + 1 → is_held trace keeps (t + 1) k ≡ true → same_object (request_at trace t) (request_at trace k) ≡ false
    others bypassed k low held =
        let parts : (is_kept keeps k ≡ true) × (is_latest trace (t + 1) k ≡ true) = and_parts _ _ held in
        ⊎_elim
        (λ (e : k ≡ t). absurd (both_ways (is_kept keeps t) bypassed (ap (is_kept keeps) (sym e) ∙ parts.0)))
        (λ (ne : k ≢ t).
        ⊎_elim
        (λ (same : same_object (request_at trace k) (request_at trace t) ≡ true).
        absurd (both_ways _ (not-true _ parts.1) (list_any-range_true (same_object (request_at trace k)) trace no_object (k + 1) (t + 1) t (omega arith) (omega arith) (omega arith) same)))
        (λ (differs : same_object (request_at trace k) (request_at trace t) ≡ false). same_object-sym (request_at trace t) (request_at trace k) ∙ differs)
        (cases_Bool (same_object (request_at trace k) (request_at trace t))))
        (cases_eq k t)

    none : is_kept keeps t ≡ false → holds (held_before trace keeps (t + 1)) (request_at trace t) ≡ false
    none bypassed =
        let P : Object → Type 0 = λ x. same_object (request_at trace t) x ≡ false in
        list_any_none (same_object (request_at trace t)) (held_before trace keeps (t + 1))
        (All-map P (request_at trace) (filter (is_held trace keeps (t + 1)) (range_with_len 0 (t + 1)))
        (All-filter_range (λ k. P (request_at trace k)) (is_held trace keeps (t + 1)) 0 (t + 1) (λ k low high held. others bypassed k (omega arith) held)))

-- what request t writes
abbrev pub written_at : ℕ → List Bool → List Object → List Bool → ℕ → ℕ
written_at warmup fills trace keeps t =
    cond (nat_le warmup t && (is_kept keeps t && (only_fills fills t || not (holds (held_before trace keeps t) (request_at trace t))))) (request_at trace t).size 0

-- the written bytes of the contents of keeps are what each request writes, summed
pub written-requests : (warmup : ℕ) (fills : List Bool) (trace : List Object) (keeps : List Bool)
    → written_bytes warmup fills trace (contents_of trace keeps) ≡ sum_by (written_at warmup fills trace keeps) (range_with_len 0 (length trace))
written-requests warmup fills trace keeps =
    sum_by-range_agree (λ t. cond (nat_le warmup t && writes fills trace (contents_of trace keeps) t) (request_at trace t).size 0)
    (written_at warmup fills trace keeps) 0 (length trace) (λ t low high. each t (omega arith))
  where
    each : (t : ℕ) → t < length trace → cond (nat_le warmup t && writes fills trace (contents_of trace keeps) t) (request_at trace t).size 0 ≡ written_at warmup fills trace keeps t
    each t within =
        let own : List Object → List Object → ℕ = λ after before. cond (nat_le warmup t && (holds after (request_at trace t) && (only_fills fills t || not (holds before (request_at trace t))))) (request_at trace t).size 0 in
        ap (λ after. own after (before_request (contents_of trace keeps) t)) (before_request-contents_of trace keeps (t + 1) (omega arith))
        ∙ ap (λ before. own (held_before trace keeps (t + 1)) before) (before_request-contents_of trace keeps t (omega arith))
        ∙ ap (λ b. cond (nat_le warmup t && (b && (only_fills fills t || not (holds (held_before trace keeps t) (request_at trace t))))) (request_at trace t).size 0)
        (holds-own trace keeps t within)

-- one more request
pub written-more : (warmup : ℕ) (fills : List Bool) (trace : List Object) (keeps : List Bool) (t : ℕ)
    → sum_by (written_at warmup fills trace keeps) (range_with_len 0 (t + 1)) ≡ sum_by (written_at warmup fills trace keeps) (range_with_len 0 t) + written_at warmup fills trace keeps t
written-more warmup fills trace keeps t =
    let e : t + 1 ≡ suc t = omega arith in
    ap (λ n. sum_by (written_at warmup fills trace keeps) (range_with_len 0 n)) e ∙ sum_by-range_last (written_at warmup fills trace keeps) t
