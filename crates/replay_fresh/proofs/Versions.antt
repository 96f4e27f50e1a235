-- The last object of each volume and id, request by request.
use Rattle.std.proofs.Common.{◌≡◌, ◌≢◌, ℕ, ◌+◌, ◌<◌, ◌∙◌, sym, refl, ap, subst, Bool, true, false, eqb, cond, List, [], ◌∷◌, ◌++◌, length, take, filter, position, None, Some, IfSome, unwrap_or, option_to_list}
use Rattle.std.proofs.lemmas.Bool.{and_from, eqb-true, eqb-false, eq-eqb, false_from_ne_true}
use Rattle.std.proofs.lemmas.List.{append-nil, take_more}
use Rattle.std.proofs.lemmas.List.Elements.{filter-append}
use Rattle.std.specs.declared.option.Option.{Option}
use Rattle.std.specs.List.{last_or}
use Rattle.std.specs.Map.{lookup}
use Rattle.cache_model.specs.declared.objects.Object.{Object}
use Rattle.cache_model.specs.Claim.{no_object, request_at, same_object}
use Rattle.cache_model.specs.Objects.{objects_of}
use Rattle.cache_model.proofs.Duality.{same_object-true}
use Rattle.policy_model.specs.Asks.{number_of, object_numbered}
use Rattle.policy_model.proofs.Comparisons.{eqb-sym}
use Rattle.policy_model.proofs.Numbers.{number_of-found}
use Rattle.freshness.specs.declared.id.Id.{Id}
use Rattle.freshness.specs.Seen.{id_of}
use Rattle.freshness.specs.Seen as seen
use Rattle.freshness.specs.Stale.{same_id}
use Rattle.freshness.proofs.Ids.{same_id-refl, same_id-sym}
use Rattle.replay_fresh.specs.Fresh.{last_of_id, of_other_size}
use Rattle.replay_fresh.specs.Latest.{AreLatest, IsVersion, Keeps, other_than}

last_or-more : {A : Type 0} (o : Option A) (xs : List A) (x : A) → last_or o (xs ++ x ∷ []) ≡ Some x
last_or-more o [] x = refl
last_or-more o (y ∷ xs) x = last_or-more (Some y) xs x

-- of one more request
last_of_id-more : (x z : Object) (requests : List Object) → last_of_id x (requests ++ z ∷ []) ≡ cond (same_id x z) (Some z) (last_of_id x requests)
last_of_id-more x z requests = ap (last_or None) (filter-append (same_id x) requests (z ∷ [])) ∙ at (same_id x z)
  where
    at : (b : Bool) → last_or None (filter (same_id x) requests ++ cond b (z ∷ []) []) ≡ cond b (Some z) (last_of_id x requests)
    at true = last_or-more None (filter (same_id x) requests) z
    at false = ap (last_or None) (append-nil (filter (same_id x) requests))

-- before the first request
pub latest-none : (trace : List Object) → AreLatest [] trace 0
latest-none trace x = tt

-- after one more, whose object has this number
pub latest-more : (entries more : List (Id × ℕ)) (trace : List Object) (t number : ℕ) → t < length trace
    → IsVersion trace (request_at trace t) (request_at trace t) number
    → AreLatest entries trace t
    → ((q : Id) → lookup (seen.same_id q) more ≡ cond (seen.same_id (id_of (request_at trace t)) q) (Some number) (lookup (seen.same_id q) entries))
    → AreLatest more trace (t + 1)
latest-more entries more trace t number within version latest updated x =
    let z : Object = request_at trace t in
    let last : last_of_id x (take (t + 1) trace) ≡ cond (same_id x z) (Some z) (last_of_id x (take t trace)) =
    ap (last_of_id x) (take_more trace t no_object within) ∙ last_of_id-more x z (take t trace) in
    let kept : lookup (seen.same_id (id_of x)) more ≡ cond (same_id x z) (Some number) (lookup (seen.same_id (id_of x)) entries) =
    updated (id_of x) ∙ ap (λ b. cond b (Some number) (lookup (seen.same_id (id_of x)) entries)) (same_id-sym z x) in
    subst (λ o. Keeps trace x o (lookup (seen.same_id (id_of x)) more)) (sym last)
    (subst (Keeps trace x (cond (same_id x z) (Some z) (last_of_id x (take t trace)))) (sym kept) (at (same_id x z) refl))
  where
    at : (b : Bool) → same_id x (request_at trace t) ≡ b
        → Keeps trace x (cond b (Some (request_at trace t)) (last_of_id x (take t trace))) (cond b (Some number) (lookup (seen.same_id (id_of x)) entries))
    at true same = record { same = same; found = version.found; object = version.object; known = version.known }
    at false same = latest x

-- the object of a request, under its number
pub own_version : (trace : List Object) (z : Object) (number : ℕ)
    → position (same_object z) (objects_of trace) ≡ Some number → object_numbered trace number ≡ z → number < length (objects_of trace) → IsVersion trace z z number
own_version trace z number found object known = record { same = same_id-refl z; found = found; object = object; known = known }

-- what is kept, unless it is this number, is another one
pub other-number : (number : ℕ) (kept : Option ℕ) → IfSome (other_than number kept) (λ k. k ≢ number)
other-number number None = tt
other-number number (Some k) = at (eqb k number) refl
  where
    at : (b : Bool) → eqb k number ≡ b → IfSome (cond b None (Some k)) (λ n. n ≢ number)
    at true e = tt
    at false e = eqb-false k number e

module _ (trace : List Object) (z : Object) (number : ℕ) (own : IsVersion trace z z number) where
  -- one number is of one size
  one_size : (y : Object) (k : ℕ) → IsVersion trace z y k → eqb k number ≡ eqb y.size z.size
  one_size y k version = at (eqb k number) refl
    where
      at : (b : Bool) → eqb k number ≡ b → b ≡ eqb y.size z.size
      at true e =
          let same : y ≡ z = sym version.object ∙ ap (object_numbered trace) (eqb-true k number e) ∙ own.object in
          sym (eq-eqb y.size z.size (ap (λ (x : Object). x.size) same))
      at false e =
          sym (false_from_ne_true (eqb y.size z.size) (λ sizes.
          let same : z ≡ y = same_object-true z y (and_from (same_id z y) (eqb z.size y.size) version.same (eqb-sym z.size y.size ∙ sizes)) in
          eqb-false k number e (ap (λ r. unwrap_or r 0) (sym version.found ∙ ap (λ x. position (same_object x) (objects_of trace)) (sym same) ∙ own.found))))

  -- the kept number of another object is that of another size
  pub other_than-size : (last : Option Object) (kept : Option ℕ) → Keeps trace z last kept → option_to_list (other_than number kept) ≡ of_other_size trace z last
  other_than-size None None keeps = refl
  other_than-size None (Some k) keeps = absurd keeps
  other_than-size (Some y) None keeps = absurd keeps
  other_than-size (Some y) (Some k) keeps =
      ap (λ b. option_to_list (cond b None (Some k))) (one_size y k keeps) ∙ at (eqb y.size z.size)
    where
      at : (b : Bool) → option_to_list (cond b None (Some k)) ≡ cond b [] (number_of trace y ∷ [])
      at true = refl
      at false = ap (λ n. n ∷ []) (sym (number_of-found trace y k keeps.found))

  -- it is known
  pub other_than-known : (last : Option Object) (kept : Option ℕ) → Keeps trace z last kept → IfSome (other_than number kept) (λ k. k < length (objects_of trace))
  other_than-known None None keeps = tt
  other_than-known None (Some k) keeps = absurd keeps
  other_than-known (Some y) None keeps = absurd keeps
  other_than-known (Some y) (Some k) keeps = at (eqb k number)
    where
      at : (b : Bool) → IfSome (cond b None (Some k)) (λ n. n < length (objects_of trace))
      at true = tt
      at false = keeps.known
