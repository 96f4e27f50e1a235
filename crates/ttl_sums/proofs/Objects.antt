-- The objects of the first requests, and their numbers.
use Rattle.std.proofs.Common.{◌≡◌, ◌≢◌, ℕ, zero, suc, ◌+◌, ◌-◌, ◌<◌, ◌≤◌, ◌⊎◌, ◌∙◌, inl, inr, sym, refl, ap, subst, Bool, true, false, cond, List, [], ◌∷◌, ◌++◌, length, arith, append_assoc, append-nil, length-append, ⊎_elim, map, filter, position, slice_index_or, Some}
use Rattle.std.specs.List.{range_with_len}
use Rattle.std.proofs.lemmas.Bool.{both_ways, cases_eq, cases_lt}
use Rattle.std.proofs.lemmas.List.{get_or_append_left, get_or_push, map-append}
use Rattle.std.proofs.lemmas.List.Elements.{filter-append}
use Rattle.cache_model.specs.declared.objects.Object.{Object}
use Rattle.cache_model.specs.Claim.{no_object, request_at, same_object}
use Rattle.cache_model.specs.Objects.{IsFirst, IsNext, is_first, objects_of}
use Rattle.cache_model.proofs.DifferentObjects.{is_first-yes}
use Rattle.cache_model.proofs.Duality.{same_object-refl, same_object-true}
use Rattle.cache_model.proofs.Eligible.{range-suc}
use Rattle.cache_model.proofs.Scores.{first_or_next}
use Rattle.ttl_laws.proofs.Numbered.{object_at, object_at-other}
use Rattle.ttl_sums.specs.Walked.{objects_before}

module _ (trace : List Object) where
  -- the object of request n, if it is its first
  abbrev newcomer : ℕ → List Object
  newcomer n = cond (is_first trace n) (request_at trace n ∷ []) []

  objects_before-suc : (n : ℕ) → objects_before trace (suc n) ≡ objects_before trace n ++ newcomer n
  objects_before-suc n =
      let f : ℕ → Object = request_at trace in
      let p : ℕ → Bool = is_first trace in
      ap (λ ns. map f (filter p ns)) (range-suc 0 n n (omega arith))
      ∙ ap (map f) (filter-append p (range_with_len 0 n) (n ∷ []))
      ∙ map-append f (filter p (range_with_len 0 n)) (filter p (n ∷ []))
      ∙ ap (λ xs. objects_before trace n ++ xs) (at (p n))
    where
      at : (b : Bool) → map (request_at trace) (cond b (n ∷ []) []) ≡ cond b (request_at trace n ∷ []) []
      at true = refl
      at false = refl

  objects_before-add : (n m : ℕ) → (rest : List Object) × (objects_before trace (n + m) ≡ objects_before trace n ++ rest)
  objects_before-add n zero =
      let none : n + 0 ≡ n = omega arith in
      ([], ap (objects_before trace) none ∙ sym (append-nil (objects_before trace n)))
  objects_before-add n (suc m) =
      let longer : n + suc m ≡ suc (n + m) = omega arith in
      let before = objects_before-add n m in (
        before.0 ++ newcomer (n + m),
        ap (objects_before trace) longer ∙ objects_before-suc (n + m) ∙ ap (λ xs. xs ++ newcomer (n + m)) before.1
            ∙ append_assoc (objects_before trace n) before.0 (newcomer (n + m)),
      )

  -- the objects of the first requests come first
  pub object_at-before : (n k : ℕ) → n ≤ length trace → k < length (objects_before trace n)
      → object_at trace k ≡ slice_index_or (objects_before trace n) k no_object
  object_at-before n k within low = at (length trace) (omega arith)
    where
      at : (m : ℕ) → n ≤ m → slice_index_or (objects_before trace m) k no_object ≡ slice_index_or (objects_before trace n) k no_object
      at m longer =
          let all : m ≡ n + (m - n) = omega arith in
          let split = objects_before-add n (m - n) in
          ap (λ j. slice_index_or (objects_before trace j) k no_object) all
          ∙ ap (λ xs. slice_index_or xs k no_object) split.1
          ∙ get_or_append_left (objects_before trace n) split.0 no_object k low

  pub few_before : (n : ℕ) → n ≤ length trace → length (objects_before trace n) ≤ length (objects_of trace)
  few_before n within = at (length trace) (omega arith)
    where
      at : (m : ℕ) → n ≤ m → length (objects_before trace n) ≤ length (objects_before trace m)
      at m longer =
          let all : m ≡ n + (m - n) = omega arith in
          let split = objects_before-add n (m - n) in
          omega (arith, ap (λ j. length (objects_before trace j)) all, ap length split.1, length-append (objects_before trace n) split.0)

  -- a place among the objects of the first n requests
  abbrev IsPlace : ℕ → Object → ℕ → Type 0
  IsPlace n x i = (i < length (objects_before trace n)) × (slice_index_or (objects_before trace n) i no_object ≡ x)

  place-suc : (n i : ℕ) (x : Object) → IsPlace n x i → IsPlace (suc n) x i
  place-suc n i x place =
      let more = objects_before-suc n in (
        omega (arith, place.0, ap length more, length-append (objects_before trace n) (newcomer n)),
        ap (λ xs. slice_index_or xs i no_object) more ∙ get_or_append_left (objects_before trace n) (newcomer n) no_object i place.0 ∙ place.1,
      )

  -- what was asked for has one
  place-asked : (n k : ℕ) → k < n → n ≤ length trace → (i : ℕ) × IsPlace n (request_at trace k) i
  place-asked zero k low within = absurd (omega arith)
  place-asked (suc n) k low within =
      ⊎_elim
      (λ (earlier : k < n). let found = place-asked n k earlier (omega arith) in (found.0, place-suc n found.0 (request_at trace k) found.1))
      (λ (last : n ≤ k).
      let here : n ≡ k = omega arith in
      subst (λ j. (i : ℕ) × IsPlace (suc n) (request_at trace j) i) here (own (λ a earlier. place-asked n a earlier (omega arith)) (first_or_next trace n (omega arith))))
      (cases_lt k n)
    where
      own : ((a : ℕ) → a < n → (i : ℕ) × IsPlace n (request_at trace a) i) → IsFirst trace n ⊎ ((a : ℕ) × IsNext trace a n)
          → (i : ℕ) × IsPlace (suc n) (request_at trace n) i
      own place (inl first) =
          let more : objects_before trace (suc n) ≡ objects_before trace n ++ request_at trace n ∷ [] =
          objects_before-suc n ∙ ap (λ b. objects_before trace n ++ cond b (request_at trace n ∷ []) []) (is_first-yes trace n (omega arith) first) in (
            length (objects_before trace n),
            (
              omega (arith, ap length more, length-append (objects_before trace n) (request_at trace n ∷ [])),
              ap (λ xs. slice_index_or xs (length (objects_before trace n)) no_object) more
                  ∙ get_or_push (objects_before trace n) (request_at trace n) no_object (length (objects_before trace n)) refl,
            ),
          )
      own place (inr next) =
          let a : ℕ = next.0 in
          let found = place a next.1.before in
          let same : request_at trace a ≡ request_at trace n = same_object-true (request_at trace a) (request_at trace n) next.1.same in
          subst (λ x. (i : ℕ) × IsPlace (suc n) x i) same (found.0, place-suc n found.0 (request_at trace a) found.1)

  module _ (n number : ℕ) (within : n < length trace)
      (numbered : position (same_object (request_at trace n)) (objects_of trace) ≡ Some number) where
    abbrev x : Object
    x = request_at trace n

    -- so each place that it has is its number
    one_place : (m i : ℕ) → m ≤ length trace → IsPlace m x i → i ≡ number
    one_place m i short place =
        ⊎_elim (λ (same : i ≡ number). same)
        (λ (apart : i ≢ number).
        let is : object_at trace i ≡ x = object_at-before m i short place.0 ∙ place.1 in
        let differs : same_object x (object_at trace i) ≡ false = object_at-other trace n number numbered i (omega (arith, few_before m short, place.0)) apart in
        absurd (both_ways (same_object x (object_at trace i)) differs (ap (same_object x) is ∙ same_object-refl x)))
        (cases_eq i number)

    pub number_low : number < length (objects_before trace (suc n))
    number_low =
        let own = place-asked (suc n) n (omega arith) (omega arith) in
        let is : own.0 ≡ number = one_place (suc n) own.0 (omega arith) own.1 in
        omega (arith, own.1.0, is)

    -- a new object has the next number, and is asked for the first time
    pub new-first : length (objects_before trace n) ≤ number → IsFirst trace n
    new-first high = by (first_or_next trace n within)
      where
        by : IsFirst trace n ⊎ ((a : ℕ) × IsNext trace a n) → IsFirst trace n
        by (inl first) = first
        by (inr next) =
            let a : ℕ = next.0 in
            let same : request_at trace a ≡ x = same_object-true (request_at trace a) x next.1.same in
            let own = place-asked n a next.1.before (omega arith) in
            let is : own.0 ≡ number = one_place n own.0 (omega arith) (own.1.0, own.1.1 ∙ same) in
            absurd (omega (arith, own.1.0, is, high))

    -- how many objects there are after the request
    pub objects-known : number < length (objects_before trace n) → length (objects_before trace (suc n)) ≡ length (objects_before trace n)
    objects-known low = by (is_first trace n) refl
      where
        by : (b : Bool) → is_first trace n ≡ b → length (objects_before trace (suc n)) ≡ length (objects_before trace n)
        by false other =
            ap length (objects_before-suc n ∙ ap (λ b. objects_before trace n ++ cond b (x ∷ []) []) other ∙ append-nil (objects_before trace n))
        by true first =
            let more : objects_before trace (suc n) ≡ objects_before trace n ++ x ∷ [] =
            objects_before-suc n ∙ ap (λ b. objects_before trace n ++ cond b (x ∷ []) []) first in
            let last : IsPlace (suc n) x (length (objects_before trace n)) = (
              omega (arith, ap length more, length-append (objects_before trace n) (x ∷ [])),
              ap (λ xs. slice_index_or xs (length (objects_before trace n)) no_object) more
                  ∙ get_or_push (objects_before trace n) x no_object (length (objects_before trace n)) refl,
            ) in
            let is : length (objects_before trace n) ≡ number = one_place (suc n) (length (objects_before trace n)) (omega arith) last in
            absurd (omega (arith, is, low))

    pub objects-new : length (objects_before trace n) ≤ number → length (objects_before trace (suc n)) ≡ length (objects_before trace n) + 1
    objects-new high =
        let more : objects_before trace (suc n) ≡ objects_before trace n ++ x ∷ [] =
        objects_before-suc n ∙ ap (λ b. objects_before trace n ++ cond b (x ∷ []) []) (is_first-yes trace n (omega arith) (new-first high)) in
        ap length more ∙ length-append (objects_before trace n) (x ∷ [])
