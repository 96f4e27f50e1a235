-- The request before one of the same object, and its flow.
use Rattle.std.proofs.Common.{◌≡◌, ◌≢◌, ℕ, ◌+◌, ◌<◌, ◌≤◌, ◌∙◌, sym, refl, ap, Bool, true, false, not, ◌&&◌, ◌==◌, cond, nat_lt, List, length, find, arith, Any, None, Some, ⊎_elim, subst}
use Rattle.std.specs.List.{list_any, range_with_len}
use Rattle.std.proofs.lemmas.Bool.{and_from, and_left, and_right, both_ways, cases_Bool, cases_lt, cases_eq, eqb-true}
use Rattle.std.proofs.lemmas.List.Folds.{Any-from_list_any}
use Rattle.cache_model.specs.declared.objects.Object.{Object}
use Rattle.cache_model.specs.declared.certificates.Header.{Header}
use Rattle.cache_model.specs.declared.certificates.Record.{Record}
use Rattle.cache_model.specs.Claim.{counts_past, same_object, request_at, no_object, is_latest, terms_of}
use Rattle.cache_model.specs.Objects.{IsFirst, IsNext}
use Rattle.cache_model.specs.Laws.{IsEligible}
use Rattle.cache_model.specs.Certificates.{eligible_of, flow_at}
use Rattle.cache_model.proofs.Duality.{same_object-true, same_object-refl}
use Rattle.cache_model.proofs.Pairs.{same_object-sym}
use Rattle.cache_model.proofs.Eligible.{list_any-range_false, list_any-range_true}
use Rattle.cache_model.proofs.Members.{All-eligible_intervals}
use Rattle.cert_checker.specs.Rules.{has_flow_until}
use Rattle.cert_checker.proofs.Unused.{find-range_first, find-range_none}

module _ (trace : List Object) (t : ℕ) (a : ℕ) (next : IsNext trace a t) where
  own : same_object (request_at trace t) (request_at trace a) ≡ true
  own = same_object-sym (request_at trace t) (request_at trace a) ∙ next.same

  latest : is_latest trace t a ≡ true
  latest = ap not (list_any-range_false (same_object (request_at trace a)) trace no_object (a + 1) t (let w : t < length trace = next.within in omega arith) (λ k low high. next.others k (omega arith) high))

  -- another request before t is of another object, or not the latest
  only_latest : (k : ℕ) → k < t → k ≢ a → (same_object (request_at trace t) (request_at trace k) && is_latest trace t k) ≡ false
  only_latest k low other =
      ⊎_elim
      (λ (same : same_object (request_at trace t) (request_at trace k) ≡ true).
      let objects : request_at trace a ≡ request_at trace k = same_object-true (request_at trace a) (request_at trace t) next.same ∙ same_object-true (request_at trace t) (request_at trace k) same in
      let both : same_object (request_at trace a) (request_at trace k) ≡ true = ap (λ y. same_object y (request_at trace k)) objects ∙ same_object-refl (request_at trace k) in
      ⊎_elim
      (λ (after : a < k). absurd (both_ways _ (next.others k after low) both))
      (λ (not_after : k ≤ a).
      let before : k < a = omega (arith, below k a not_after other) in
      and_right _ (is_latest trace t k)
      (ap not (list_any-range_true (same_object (request_at trace k)) trace no_object (k + 1) t a (let w : t < length trace = next.within in omega arith) next.before (omega arith) (same_object-sym (request_at trace k) (request_at trace a) ∙ both))))
      (cases_lt a k))
      (λ (differs : same_object (request_at trace t) (request_at trace k) ≡ false). and_left _ (is_latest trace t k) differs)
      (cases_Bool (same_object (request_at trace t) (request_at trace k)))
    where
      below : (j b : ℕ) → j ≤ b → j ≢ b → j < b
      below j b le ne = ⊎_elim (λ (lt : j < b). lt) (λ (ge : b ≤ j). absurd (ne (omega arith))) (cases_lt j b)

  -- it is found if it has a flow
  pub find-next : (records : List Record) → find (has_flow_until trace records t) (range_with_len 0 t) ≡ cond (nat_lt 0 (flow_at records a)) (Some a) None
  find-next records = at (nat_lt 0 (flow_at records a)) refl
    where
      others : (k : ℕ) → k < t → k ≢ a → has_flow_until trace records t k ≡ false
      others k low other = and_left _ (nat_lt 0 (flow_at records k)) (only_latest k low other)

      at : (b : Bool) → nat_lt 0 (flow_at records a) ≡ b → find (has_flow_until trace records t) (range_with_len 0 t) ≡ cond b (Some a) None
      at true flows = find-range_first (has_flow_until trace records t) a 0 t (omega arith) (let w : a < t = next.before in omega arith) (and_from _ _ (and_from _ _ own latest) flows) (λ k low high. others k (let w : a < t = next.before in omega arith) (λ e. omega (arith, e)))
      at false none = find-range_none (has_flow_until trace records t) 0 t (λ k low high.
          ⊎_elim
          (λ (here : k ≡ a). and_right _ (nat_lt 0 (flow_at records k)) (ap (λ j. nat_lt 0 (flow_at records j)) here ∙ none))
          (λ (other : k ≢ a). others k (omega arith) other)
          (cases_eq k a))

-- none is before the first request of an object
pub find-first : (trace : List Object) (records : List Record) (t : ℕ) → IsFirst trace t → find (has_flow_until trace records t) (range_with_len 0 t) ≡ None
find-first trace records t first = find-range_none (has_flow_until trace records t) 0 t (λ k low high.
    and_left _ (nat_lt 0 (flow_at records k)) (and_left _ (is_latest trace t k) (first k (omega arith))))

-- a request has one next request at most
next_unique : (trace : List Object) (a b c : ℕ) → IsNext trace a b → IsNext trace a c → b ≡ c
next_unique trace a b c one other =
    ⊎_elim
    (λ (low : b < c). absurd (both_ways _ (other.others b one.before low) one.same))
    (λ (high : c ≤ b).
    ⊎_elim
    (λ (below : c < b). absurd (both_ways _ (one.others c other.before below) other.same))
    (λ (same : b ≤ c). omega arith)
    (cases_lt c b))
    (cases_lt b c)

-- no eligible interval starts at a request whose next one doesn't count
pub none-starts : (h : Header) (fills : List Bool) (trace : List Object) (a t : ℕ) → IsNext trace a t → counts_past h.warmup fills t ≡ false → list_any (λ i. i.start == a) (eligible_of trace fills h) ≡ false
none-starts h fills trace a t next warm = at (list_any (λ i. i.start == a) (eligible_of trace fills h)) refl
  where
    started : Any (λ i. (i.start == a) ≡ true) (eligible_of trace fills h) → ⊥
    started (k, i, kl, there, starts) =
        let e : IsEligible (terms_of h fills) trace i = subst (IsEligible (terms_of h fills) trace) there (All-eligible_intervals (terms_of h fills) trace k i kl) in
        let here : i.start ≡ a = eqb-true i.start a starts in
        let own_next : IsNext trace a i.end = subst (λ b. IsNext trace b i.end) here e.next in
        let ends : i.end ≡ t = next_unique trace a i.end t own_next next in
        both_ways (counts_past h.warmup fills t) warm (ap (counts_past h.warmup fills) (sym ends) ∙ e.counts)

    at : (b : Bool) → list_any (λ i. i.start == a) (eligible_of trace fills h) ≡ b → list_any (λ i. i.start == a) (eligible_of trace fills h) ≡ false
    at true starts = absurd (started (Any-from_list_any (λ i. i.start == a) (eligible_of trace fills h) starts))
    at false none = none
