-- One more request of contents, and of its score.
use Rattle.std.proofs.Common.{sum_by, ◌≡◌, ◌≢◌, ℕ, suc, ◌+◌, ◌<◌, ◌≤◌, ◌⊎◌, inl, inr, ⊎_elim, ◌∙◌, sym, refl, ap, subst, Bool, ◌&&◌, cond, List, [], ◌∷◌, ◌++◌, length, arith, Some, slice_get, AllPairs, Contains}
use Rattle.std.specs.List.{range_with_len}
use Rattle.std.proofs.Math.Seq.{get_or-append_seam}
use Rattle.std.proofs.lemmas.Bool.{cases_lt}
use Rattle.std.proofs.lemmas.List.{get_or_append_left, length-append}
use Rattle.std.proofs.lemmas.List.Elements.{All-push, All-cons, All-nil}
use Rattle.std.proofs.lemmas.Option.{slice_get-get_or}
use Rattle.cache_model.specs.declared.objects.Object.{Object}
use Rattle.cache_model.specs.declared.objects.Objective.{Objective}
use Rattle.cache_model.specs.Claim.{gain_of, total_size, holds, before_request, request_at, IsAllowed}
use Rattle.cache_model.specs.Claim.{no_object}
use Rattle.cache_model.proofs.Streams.{sum_by-range_agree, sum_by-range_last}

-- the contents of no requests holds nothing
pub allowed-none : (c : ℕ) → IsAllowed c [] ([] ∷ [])
allowed-none c = record {
  one_more_than_requests = omega arith;
  empty_at_first = refl;
  only_requests_enter = λ t within x m. absurd (omega arith);
  within_capacity = All-cons (λ held. total_size held ≤ c) [] [] (omega arith) (All-nil (λ held. total_size held ≤ c));
  without_repeats = All-cons (AllPairs (λ x y. x ≢ y)) [] [] (λ i j d low high. absurd (omega arith)) (All-nil (AllPairs (λ (x y : Object). x ≢ y)));
}

module _ (c : ℕ) (xs : List Object) (x : Object) (ks : List (List Object)) (next : List Object) (allowed : IsAllowed c xs ks) where
  long : length ks ≡ length xs + 1
  long = allowed.one_more_than_requests

  before_early : (t : ℕ) → t ≤ length xs → before_request (ks ++ next ∷ []) t ≡ before_request ks t
  before_early t low = get_or_append_left ks (next ∷ []) [] t (omega (arith, long))

  before_late : before_request (ks ++ next ∷ []) (length xs + 1) ≡ next
  before_late = ap (λ n. before_request (ks ++ next ∷ []) n) (sym long) ∙ get_or-append_seam ks next [] []

  get_early : (t : ℕ) → t < length xs → slice_get (xs ++ x ∷ []) t ≡ slice_get xs t
  get_early t low =
      slice_get-get_or (xs ++ x ∷ []) t no_object (omega (arith, length-append xs (x ∷ [])))
      ∙ ap Some (get_or_append_left xs (x ∷ []) no_object t low)
      ∙ sym (slice_get-get_or xs t no_object low)

  get_late : slice_get (xs ++ x ∷ []) (length xs) ≡ Some x
  get_late = slice_get-get_or (xs ++ x ∷ []) (length xs) no_object (omega (arith, length-append xs (x ∷ []))) ∙ ap Some (get_or-append_seam xs x [] no_object)

  -- contents that hold only former members and the object requested, and that fit, go on with the contents
  pub allowed-more : ((y : Object) → Contains next y → Contains (before_request ks (length xs)) y ⊎ (x ≡ y)) → total_size next ≤ c → AllPairs (λ y z. y ≢ z) next
      → IsAllowed c (xs ++ x ∷ []) (ks ++ next ∷ [])
  allowed-more enters fits apart = record {
    one_more_than_requests = omega (arith, long, length-append xs (x ∷ []), length-append ks (next ∷ []));
    empty_at_first = before_early 0 (omega arith) ∙ allowed.empty_at_first;
    only_requests_enter = λ t within y m.
        ⊎_elim
        (λ (early : t < length xs).
        let was : Contains (before_request ks (t + 1)) y = subst (λ held. Contains held y) (before_early (t + 1) (omega arith)) m in
        ⊎_elim
        (λ (held : Contains (before_request ks t) y). inl (subst (λ h. Contains h y) (sym (before_early t (omega arith))) held))
        (λ (asked : slice_get xs t ≡ Some y). inr (get_early t early ∙ asked))
        (allowed.only_requests_enter t early y was))
        (λ (late : length xs ≤ t).
        let here : length xs ≡ t = omega (arith, length-append xs (x ∷ [])) in
        subst (λ k. Contains (before_request (ks ++ next ∷ []) (k + 1)) y → Contains (before_request (ks ++ next ∷ []) k) y ⊎ (slice_get (xs ++ x ∷ []) k ≡ Some y)) here
        (last y) m)
        (cases_lt t (length xs));
    within_capacity = All-push (λ held. total_size held ≤ c) ks next allowed.within_capacity fits;
    without_repeats = All-push (AllPairs (λ y z. y ≢ z)) ks next allowed.without_repeats apart;
  }
    where
      last : (y : Object) → Contains (before_request (ks ++ next ∷ []) (length xs + 1)) y → Contains (before_request (ks ++ next ∷ []) (length xs)) y ⊎ (slice_get (xs ++ x ∷ []) (length xs) ≡ Some y)
      last y m =
          ⊎_elim
          (λ (held : Contains (before_request ks (length xs)) y). inl (subst (λ h. Contains h y) (sym (before_early (length xs) (omega arith))) held))
          (λ (asked : x ≡ y). inr (get_late ∙ ap Some asked))
          (enters y (subst (λ h. Contains h y) before_late m))

-- what request t earns at contents
abbrev earns_at : (ℕ → Bool) → Objective → List Object → List (List Object) → ℕ → ℕ
earns_at counted o trace contents t = cond (counted t && holds (before_request contents t) (request_at trace t)) (gain_of o (request_at trace t)) 0

-- the score, at any capacity
abbrev pub score_from : (ℕ → Bool) → Objective → List Object → List (List Object) → ℕ
score_from counted o trace contents = sum_by (earns_at counted o trace contents) (range_with_len 0 (length trace))

-- what one more request earns
pub score_from-more : (counted : ℕ → Bool) (o : Objective) (xs : List Object) (x : Object) (ks : List (List Object)) (next : List Object) → length ks ≡ length xs + 1
    → score_from counted o (xs ++ x ∷ []) (ks ++ next ∷ []) ≡ score_from counted o xs ks + cond (counted (length xs) && holds (before_request ks (length xs)) x) (gain_of o x) 0
score_from-more counted o xs x ks next long =
    let n : ℕ = length xs in
    let longer : length (xs ++ x ∷ []) ≡ suc (length xs) = omega (arith, length-append xs (x ∷ [])) in
    let f : ℕ → ℕ = earns_at counted o (xs ++ x ∷ []) (ks ++ next ∷ []) in
    let same : (y z : Object) (held kept : List Object) (t : ℕ) → y ≡ z → held ≡ kept
    → cond (counted t && holds held y) (gain_of o y) 0 ≡ cond (counted t && holds kept z) (gain_of o z) 0 =
    λ y z held kept t objects contents. ap (λ (u : Object). cond (counted t && holds held u) (gain_of o u) 0) objects ∙ ap (λ h. cond (counted t && holds h z) (gain_of o z) 0) contents in
    ap (λ k. sum_by f (range_with_len 0 k)) longer
    ∙ sum_by-range_last f (length xs)
    ∙ omega (
      arith,
      sum_by-range_agree f (earns_at counted o xs ks) 0 (length xs)
          (λ t low high. same _ _ _ _ t (get_or_append_left xs (x ∷ []) no_object t (omega arith)) (get_or_append_left ks (next ∷ []) [] t (omega arith))),
      same _ _ _ _ (length xs) (get_or-append_seam xs x [] no_object) (get_or_append_left ks (next ∷ []) [] (length xs) (omega arith)),
    )
