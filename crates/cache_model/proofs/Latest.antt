-- Sums over the latest request of each object, as a checker keeps them request by request.
use Rattle.std.proofs.Common.{◌≡◌, ◌≢◌, ℕ, suc, ◌+◌, ◌<◌, ◌≤◌, ◌∙◌, sym, refl, ap, Bool, true, false, not, ◌&&◌, ◌||◌, cond, List, [], ◌∷◌, ◌++◌, length, arith, ⊎_elim, sum_by, filter, slice_range}
use Rattle.std.specs.List.{range_with_len, list_any}
use Rattle.std.proofs.Math.Seq.{get_or-append_seam}
use Rattle.std.proofs.lemmas.Bool.{cases_Bool, cases_lt}
use Rattle.std.proofs.lemmas.List.{get_or_append_left, length-append}
use Rattle.cache_model.specs.declared.objects.Object.{Object}
use Rattle.cache_model.specs.Claim.{same_object, total_size, request_at, no_object, is_kept, is_held, held_before, is_latest}
use Rattle.cache_model.specs.Objects.{IsLatest}
use Rattle.cache_model.specs.Keeps.{latest_sum}
use Rattle.cache_model.proofs.Duality.{same_object-true}
use Rattle.cache_model.proofs.Sums.{sum_by-map, sum_by-filter, sum_by-agree}
use Rattle.cache_model.proofs.Eligible.{list_any-range_false, list_any-range_true, list_any-range_more, or_false}
use Rattle.cache_model.proofs.Pairs.{same_object-sym}
use Rattle.cache_model.proofs.Streams.{sum_by-range_agree, sum_by-range_one, sum_by-range_last, slice_range-append}

-- the contents of keeps, as such a sum
pub held-latest : (trace : List Object) (keeps : List Bool) (t : ℕ)
    → total_size (held_before trace keeps t) ≡ latest_sum trace (λ a. cond (is_kept keeps a) (request_at trace a).size 0) t
held-latest trace keeps t =
    sum_by-map (λ (x : Object). x.size) (request_at trace) (filter (is_held trace keeps t) (range_with_len 0 t))
    ∙ sum_by-filter (λ a. (request_at trace a).size) (is_held trace keeps t) (range_with_len 0 t)
    ∙ sum_by-agree _ _ (range_with_len 0 t) (λ a. at (is_kept keeps a) (is_latest trace t a) (request_at trace a).size)
  where
    at : (k l : Bool) (n : ℕ) → cond (k && l) n 0 ≡ cond l (cond k n 0) 0
    at true true n = refl
    at true false n = refl
    at false true n = refl
    at false false n = refl

module _ (trace : List Object) (x : Object) (g : ℕ → ℕ) where
  term : List Object → ℕ → ℕ → ℕ
  term ts t a = cond (is_latest ts t a) (g a) 0

  size_more : length (trace ++ x ∷ []) ≡ suc (length trace)
  size_more = omega (arith, length-append trace (x ∷ []))

  last_object : request_at (trace ++ x ∷ []) (length trace) ≡ x
  last_object = get_or-append_seam trace x [] no_object

  early_object : (a : ℕ) → a < length trace → request_at (trace ++ x ∷ []) a ≡ request_at trace a
  early_object a la = get_or_append_left trace (x ∷ []) no_object a la

  -- the request itself is the latest of its object
  own_term : term (trace ++ x ∷ []) (length trace + 1) (length trace) ≡ g (length trace)
  unfolding term
  own_term =
      ap (λ b. cond (not b) (g (length trace)) 0)
      (list_any-range_false (same_object (request_at (trace ++ x ∷ []) (length trace))) (trace ++ x ∷ []) no_object (length trace + 1) (length trace + 1) (omega (arith, size_more))
      (λ k low high. absurd (omega arith)))

  -- an earlier request of another object stays what it was
  other_term : (a : ℕ) → a < length trace → same_object x (request_at trace a) ≡ false → term (trace ++ x ∷ []) (length trace + 1) a ≡ term trace (length trace) a
  unfolding term
  other_term a la differs =
      let ts : List Object = trace ++ x ∷ [] in
      let p : Object → Bool = same_object (request_at trace a) in
      let last : p (request_at ts (length trace)) ≡ false = ap p last_object ∙ same_object-sym (request_at trace a) x ∙ differs in
      ap (λ b. cond (not b) (g a) 0)
      (ap (λ y. list_any (same_object y) (slice_range ts (a + 1) (length trace + 1))) (early_object a la)
      ∙ list_any-range_more p ts no_object (a + 1) (length trace) (omega arith) (omega (arith, size_more))
      ∙ ap (λ b. list_any p (slice_range ts (a + 1) (length trace)) || b) last ∙ or_false _
      ∙ ap (list_any p) (slice_range-append trace x (a + 1) (length trace) (omega arith) (omega arith)))

  -- an earlier request of the object is no latest any more
  past_term : (a : ℕ) → a < length trace → same_object x (request_at trace a) ≡ true → term (trace ++ x ∷ []) (length trace + 1) a ≡ 0
  unfolding term
  past_term a la same =
      let ts : List Object = trace ++ x ∷ [] in
      let p : Object → Bool = same_object (request_at ts a) in
      let last : p (request_at ts (length trace)) ≡ true =
      ap (λ y. same_object y (request_at ts (length trace))) (early_object a la) ∙ ap (same_object (request_at trace a)) last_object ∙ same_object-sym (request_at trace a) x ∙ same in
      ap (λ b. cond (not b) (g a) 0) (list_any-range_true p ts no_object (a + 1) (length trace + 1) (length trace) (omega arith) (omega arith) (omega (arith, size_more)) last)

  -- nor was it if a later one stood before
  past_before : (a b : ℕ) → a < b → b < length trace → same_object (request_at trace a) (request_at trace b) ≡ true → term trace (length trace) a ≡ 0
  unfolding term
  past_before a b ab lb same =
      ap (λ t. cond (not t) (g a) 0) (list_any-range_true (same_object (request_at trace a)) trace no_object (a + 1) (length trace) b (omega arith) lb (omega arith) same)

  latest_before : (a : ℕ) → IsLatest trace x a → term trace (length trace) a ≡ g a
  unfolding term
  latest_before a l =
      let here : x ≡ request_at trace a = same_object-true x (request_at trace a) l.same in
      ap (λ t. cond (not t) (g a) 0)
      (list_any-range_false (same_object (request_at trace a)) trace no_object (a + 1) (length trace) (omega arith)
      (λ k low high. ap (λ y. same_object y (request_at trace k)) (sym here) ∙ l.others k (omega arith) high))

  all_terms : latest_sum (trace ++ x ∷ []) g (length trace + 1) ≡ sum_by (term (trace ++ x ∷ []) (length trace + 1)) (range_with_len 0 (length trace)) + g (length trace)
  unfolding term
  all_terms =
      let e : length trace + 1 ≡ suc (length trace) = omega arith in
      let f : ℕ → ℕ = term (trace ++ x ∷ []) (length trace + 1) in
      ap (λ k. sum_by f (range_with_len 0 k)) e ∙ sum_by-range_last f (length trace) ∙ omega (arith, own_term)

  -- a request of a new object adds its amount
  pub latest_sum_push_first : ((k : ℕ) → k < length trace → same_object x (request_at trace k) ≡ false)
      → latest_sum (trace ++ x ∷ []) g (length trace + 1) ≡ latest_sum trace g (length trace) + g (length trace)
  unfolding term
  latest_sum_push_first new =
      omega (
        arith,
        all_terms,
        sum_by-range_agree (term (trace ++ x ∷ []) (length trace + 1)) (term trace (length trace)) 0 (length trace) (λ a low high. other_term a (omega arith) (new a (omega arith))),
      )

  -- a request of an object that was asked for puts its amount in place of the latest one's
  pub latest_sum_push_again : (a : ℕ) → IsLatest trace x a
      → latest_sum (trace ++ x ∷ []) g (length trace + 1) + g a ≡ latest_sum trace g (length trace) + g (length trace)
  unfolding term
  latest_sum_push_again a l =
      let new : ℕ → ℕ = term (trace ++ x ∷ []) (length trace + 1) in
      let old : ℕ → ℕ = term trace (length trace) in
      let here : a < length trace = l.within in
      let exchange : sum_by old (range_with_len 0 (length trace)) ≡ sum_by new (range_with_len 0 (length trace)) + g a =
      sum_by-range_one old new a (g a) 0 (length trace) (omega arith) (omega arith)
      (omega (arith, latest_before a l, past_term a l.within l.same)) (λ k low high ne. others k (omega arith) ne) in
      omega (arith, all_terms, exchange)
    where
      others : (k : ℕ) → k < length trace → k ≢ a → term trace (length trace) k ≡ term (trace ++ x ∷ []) (length trace + 1) k
      others k lk ne =
          ⊎_elim
          (λ (late : a < k). sym (other_term k lk (l.others k late lk)))
          (λ (early : k ≤ a).
          ⊎_elim
          (λ (same : same_object x (request_at trace k) ≡ true).
          let xk : x ≡ request_at trace k = same_object-true x (request_at trace k) same in
          past_before k a (omega arith) l.within (ap (λ y. same_object y (request_at trace a)) (sym xk) ∙ l.same) ∙ sym (past_term k lk same))
          (λ (differs : same_object x (request_at trace k) ≡ false). sym (other_term k lk differs))
          (cases_Bool (same_object x (request_at trace k))))
          (cases_lt a k)
