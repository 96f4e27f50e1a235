-- What a trace asks, by recursion on it: objects are told apart by their numbers.
use Rattle.std.proofs.Common.{◌≡◌, ℕ, zero, suc, ◌+◌, ◌<◌, ◌∙◌, sym, refl, ap, subst, ⊎_elim, Bool, true, false, not, cond, eqb, nat_lt, List, [], ◌∷◌, length, get_or, drop, map, arith, Some, None, position, Contains}
use Rattle.std.specs.declared.option.Option.{Option}
use Rattle.std.specs.Option.{option_map}
use Rattle.std.specs.List.{position_or_len, range_with_len, AllByRecursion}
use Rattle.std.proofs.lemmas.Bool.{eq-eqb, eqb-true, lt-ltb, false_from_ne_true}
use Rattle.std.proofs.lemmas.List.{drop_more, drop_all, get_or_default}
use Rattle.cache_model.specs.declared.objects.Object.{Object}
use Rattle.cache_model.specs.Claim.{same_object}
use Rattle.cache_model.specs.Objects.{objects_of, is_first, IsFirst, IsNext}
use Rattle.cache_model.specs.Claim.{no_object, request_at}
use Rattle.cache_model.proofs.Duality.{same_object-true, same_object-refl}
use Rattle.cache_model.proofs.DifferentObjects.{is_first-yes}
use Rattle.cache_model.proofs.Keeps.{Contains-filter_range}
use Rattle.cache_model.proofs.Pairs.{ltb-suc}
use Rattle.cache_model.proofs.Scores.{first_or_next}
use Rattle.policy_model.specs.Asks.{Ask, number_of, next_request, ask_at, asks_of, object_numbered}
use Rattle.policy_laws.proofs.Standing.{next_in}
use Rattle.policy_laws.proofs.Best.{asks_from}

-- ---- the first element that passes
found : {X : Type 0} (p : X → Bool) (xs : List X) (i : ℕ) (d : X) → i < length xs → p (get_or xs i d) ≡ true → (position_or_len p xs < length xs) × (p (get_or xs (position_or_len p xs) d) ≡ true)
found p [] i d within passes = absurd (omega arith)
found {X} p (x ∷ xs) i d within passes = at (p x) refl i within passes (λ j low pass. found p xs j d low pass)
  where
    at : (t : Bool) → p x ≡ t → (j : ℕ) → j < length (x ∷ xs) → p (get_or (x ∷ xs) j d) ≡ true
        → ((k : ℕ) → k < length xs → p (get_or xs k d) ≡ true → (position_or_len p xs < length xs) × (p (get_or xs (position_or_len p xs) d) ≡ true))
        → (cond (not (p x)) (1 + position_or_len p xs) 0 < length (x ∷ xs)) × (p (get_or (x ∷ xs) (cond (not (p x)) (1 + position_or_len p xs) 0) d) ≡ true)
    at true e j low pass more =
        let place : cond (not (p x)) (1 + position_or_len p xs) 0 ≡ 0 = ap (λ b. cond (not b) (1 + position_or_len p xs) 0) e in
        (omega (arith, place), ap (λ n. p (get_or (x ∷ xs) n d)) place ∙ e)
    at false e zero low pass more = let n : p x ≡ true = pass in cc
    at false e (suc j) low pass more =
        let rest = more j (omega arith) pass in
        let one : 1 + position_or_len p xs ≡ suc (position_or_len p xs) = omega arith in
        let place : cond (not (p x)) (1 + position_or_len p xs) 0 ≡ suc (position_or_len p xs) = ap (λ b. cond (not b) (1 + position_or_len p xs) 0) e ∙ one in
        let low_rest : position_or_len p xs < length xs = rest.0 in
        (omega (arith, place), ap (λ n. p (get_or (x ∷ xs) n d)) place ∙ rest.1)

module _ (trace : List Object) where
  -- each request's object is among the objects: the first request of it is one of their first
  listed : (n t : ℕ) → t < n → t < length trace → Contains (objects_of trace) (request_at trace t)
  listed zero t low within = absurd (omega arith)
  listed (suc n) t low within =
      ⊎_elim
      (λ (first : IsFirst trace t).
      Contains-filter_range (request_at trace) (is_first trace) t 0 (length trace) (omega arith) (omega arith) (is_first-yes trace t (omega arith) first))
      (λ (earlier : (a : ℕ) × IsNext trace a t).
      let before : earlier.0 < t = earlier.1.before in
      let same : request_at trace earlier.0 ≡ request_at trace t = same_object-true (request_at trace earlier.0) (request_at trace t) earlier.1.same in
      subst (Contains (objects_of trace)) same (listed n earlier.0 (omega arith) (omega arith)))
      (first_or_next trace t within)

  -- the object of a request has its number
  pub number_of-object : (t : ℕ) → t < length trace → (number_of trace (request_at trace t) < length (objects_of trace)) × (object_numbered trace (number_of trace (request_at trace t)) ≡ request_at trace t)
  number_of-object t within =
      let x : Object = request_at trace t in
      let place : Contains (objects_of trace) x = listed (suc t) t (omega arith) within in
      let here : get_or (objects_of trace) place.0 no_object ≡ x = get_or_default (objects_of trace) place.0 no_object x place.1 ∙ place.2 in
      let at = found (same_object x) (objects_of trace) place.0 no_object place.1 (ap (same_object x) here ∙ same_object-refl x) in
      (at.0, sym (same_object-true x (object_numbered trace (number_of trace x)) at.1))

  -- two requests have one number exactly if they are of one object
  same_numbers : (t u : ℕ) → t < length trace → u < length trace
      → eqb (number_of trace (request_at trace t)) (number_of trace (request_at trace u)) ≡ same_object (request_at trace t) (request_at trace u)
  same_numbers t u within_t within_u = at (same_object (request_at trace t) (request_at trace u)) refl
    where
      at : (b : Bool) → same_object (request_at trace t) (request_at trace u) ≡ b → eqb (number_of trace (request_at trace t)) (number_of trace (request_at trace u)) ≡ b
      at true same = eq-eqb (number_of trace (request_at trace t)) (number_of trace (request_at trace u)) (ap (number_of trace) (same_object-true (request_at trace t) (request_at trace u) same))
      at false other =
          false_from_ne_true (eqb (number_of trace (request_at trace t)) (number_of trace (request_at trace u))) (λ numbers.
          let e : number_of trace (request_at trace t) ≡ number_of trace (request_at trace u) = eqb-true (number_of trace (request_at trace t)) (number_of trace (request_at trace u)) numbers in
          let x : request_at trace t ≡ request_at trace u = sym (number_of-object t within_t).1 ∙ ap (object_numbered trace) e ∙ (number_of-object u within_u).1 in
          let own : same_object (request_at trace t) (request_at trace t) ≡ true = same_object-refl (request_at trace t) in
          let same : same_object (request_at trace t) (request_at trace u) ≡ true = ap (same_object (request_at trace t)) (sym x) ∙ own in cc)

-- ---- the next request, by recursion
-- one step of a search
position-cons : {X : Type 0} (p : X → Bool) (x : X) (xs : List X) (b : ℕ) (o : Option ℕ) → option_map (λ k. b + 1 + k) (position p xs) ≡ o → option_map (λ k. b + k) (position p (x ∷ xs)) ≡ cond (p x) (Some b) o
position-cons {X} p x xs b o rest = at (p x) refl
  where
    whole : ℕ → Option ℕ
    whole n = option_map (λ k. b + k) (cond (nat_lt n (length (x ∷ xs))) (Some n) None)

    shifted : (t : Bool) (n : ℕ) → option_map (λ k. b + k) (cond t (Some (suc n)) None) ≡ option_map (λ k. b + 1 + k) (cond t (Some n) None)
    shifted true n = let e : b + suc n ≡ b + 1 + n = omega arith in ap Some e
    shifted false n = refl

    at : (t : Bool) → p x ≡ t → option_map (λ k. b + k) (position p (x ∷ xs)) ≡ cond t (Some b) o
    at true e =
        ap (λ c. option_map (λ k. b + k) (cond (nat_lt (cond (not c) (1 + position_or_len p xs) 0) (length (x ∷ xs))) (Some (cond (not c) (1 + position_or_len p xs) 0)) None)) e
        ∙ ap (λ c. option_map (λ k. b + k) (cond c (Some 0) None)) (lt-ltb 0 (length (x ∷ xs)) (omega arith))
        ∙ (let z : b + 0 ≡ b = omega arith in ap Some z)
    at false e =
        let one : 1 + position_or_len p xs ≡ suc (position_or_len p xs) = omega arith in
        ap (λ c. option_map (λ k. b + k) (cond (nat_lt (cond (not c) (1 + position_or_len p xs) 0) (length (x ∷ xs))) (Some (cond (not c) (1 + position_or_len p xs) 0)) None)) e
        ∙ ap (λ n. option_map (λ k. b + k) (cond (nat_lt n (length (x ∷ xs))) (Some n) None)) one
        ∙ ap (λ c. option_map (λ k. b + k) (cond c (Some (suc (position_or_len p xs))) None)) (ltb-suc (position_or_len p xs) (length xs))
        ∙ shifted (nat_lt (position_or_len p xs) (length xs)) (position_or_len p xs)
        ∙ rest

next_in-position : (num : Object → ℕ) (x : Object) (b : ℕ) (ys : List Object) → AllByRecursion (λ y. eqb (num x) (num y) ≡ same_object x y) ys
    → option_map (λ k. b + k) (position (same_object x) ys) ≡ next_in num b ys (num x)
next_in-position num x b [] alike = refl
next_in-position num x b (y ∷ ys) alike =
    position-cons (same_object x) y ys b (next_in num (b + 1) ys (num x)) (next_in-position num x (b + 1) ys alike.1)
    ∙ ap (λ t. cond t (Some b) (next_in num (b + 1) ys (num x))) (sym alike.0)

module _ (trace : List Object) where
  -- the requests from b on are told apart by their numbers
  alike_later : (t b n : ℕ) → t < length trace → b + n ≡ length trace → AllByRecursion (λ y. eqb (number_of trace (request_at trace t)) (number_of trace y) ≡ same_object (request_at trace t) y) (drop b trace)
  alike_later t b zero within end =
      subst (AllByRecursion (λ y. eqb (number_of trace (request_at trace t)) (number_of trace y) ≡ same_object (request_at trace t) y)) (sym (drop_all b trace (omega arith))) tt
  alike_later t b (suc n) within end =
      subst (AllByRecursion (λ y. eqb (number_of trace (request_at trace t)) (number_of trace y) ≡ same_object (request_at trace t) y)) (sym (drop_more trace b no_object (omega arith)))
      (same_numbers trace t b within (omega arith), alike_later t (b + 1) n within (omega arith))

  -- what the requests from t on ask
  asked : (t n : ℕ) → t + n ≡ length trace → map (ask_at trace) (range_with_len t n) ≡ asks_from (number_of trace) t (drop t trace)
  asked t zero end = ap (asks_from (number_of trace) t) (sym (drop_all t trace (omega arith)))
  asked t (suc n) end =
      let x : Object = request_at trace t in
      let within : t < length trace = omega arith in
      let next_is : next_request trace t ≡ next_in (number_of trace) (t + 1) (drop (t + 1) trace) (number_of trace x) =
      next_in-position (number_of trace) x (t + 1) (drop (t + 1) trace) (alike_later t (t + 1) n within (omega arith)) in
      let ask : Option ℕ → Ask = λ o. record { request = t; object = number_of trace x; size = x.size; next = o } in
      ap (λ o. ask o ∷ map (ask_at trace) (range_with_len (t + 1) n)) next_is
      ∙ ap (λ asks. ask (next_in (number_of trace) (t + 1) (drop (t + 1) trace) (number_of trace x)) ∷ asks) (asked (t + 1) n (omega arith))
      ∙ ap (asks_from (number_of trace) t) (sym (drop_more trace t no_object within))

  pub asks_of-from : asks_of trace ≡ asks_from (number_of trace) 0 trace
  asks_of-from = asked 0 (length trace) (omega arith)
