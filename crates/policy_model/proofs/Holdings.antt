-- The objects that members stand for, and how contents goes on with them.
use Rattle.std.proofs.Common.{◌≡◌, ◌≢◌, ℕ, ◌<◌, ◌⊎◌, inl, inr, ⊎_elim, ◌∙◌, sym, refl, ap, subst, Bool, true, false, ◌||◌, eqb, List, [], ◌∷◌, length, map, get_or, arith, Some, position, All, AllPairs, Contains, unwrap_or}
use Rattle.std.proofs.lemmas.Bool.{eqb-true, eqb-false, false_from_ne_true}
use Rattle.std.proofs.lemmas.List.{length-map, get_or-map}
use Rattle.std.proofs.lemmas.List.Elements.{All-head, All-tail, All-contains, Contains-get_or}
use Rattle.std.proofs.lemmas.List.Sums.{sum_by-cons}
use Rattle.cache_model.specs.declared.objects.Object.{Object}
use Rattle.cache_model.specs.Claim.{same_object, total_size, holds}
use Rattle.cache_model.specs.Objects.{objects_of}
use Rattle.cache_model.proofs.Duality.{same_object-true, same_object-refl}
use Rattle.policy_model.specs.States.{Member, member, has_member, members_size}
use Rattle.policy_model.specs.Asks.{object_numbered}
use Rattle.policy_model.specs.Runs.{objects_held}

-- ---- lists that are mapped
pub Contains-map : {A B : Type 0} (f : A → B) (xs : List A) (x : A) → Contains xs x → Contains (map f xs) (f x)
Contains-map f xs x (k, within, e) = (k, omega (arith, length-map xs f), get_or-map f xs k x (f x) within ∙ ap f e)

pub Contains-unmap : {A B : Type 0} (f : A → B) (xs : List A) (y : B) → Contains (map f xs) y → (x : A) × Contains xs x × (f x ≡ y)
Contains-unmap f [] y (k, within, e) = absurd (omega arith)
Contains-unmap {A} {B} f (x ∷ xs) y (k, within, e) =
    let low : k < length (x ∷ xs) = omega (arith, length-map xs f) in
    (get_or (x ∷ xs) k x, Contains-get_or (x ∷ xs) k x low, sym (get_or-map f (x ∷ xs) k x y low) ∙ e)

-- a member is an object of the trace, under its number and with its size
pub record IsNumbered (trace : List Object) (m : Member) : Type 0 where
  pub found : position (same_object (object_numbered trace m.object)) (objects_of trace) ≡ Some m.object
  pub size : (object_numbered trace m.object).size ≡ m.size

module _ (trace : List Object) where
  -- members that stand for one object have one number
  one_number : (m n : Member) → IsNumbered trace m → IsNumbered trace n → object_numbered trace m.object ≡ object_numbered trace n.object → m.object ≡ n.object
  one_number m n of_m of_n same = ap (λ r. unwrap_or r 0) (sym of_m.found ∙ ap (λ x. position (same_object x) (objects_of trace)) same ∙ of_n.found)

  pub total_size-held : (members : List Member) → All (IsNumbered trace) members → total_size (objects_held trace members) ≡ members_size members
  total_size-held [] each = refl
  total_size-held (m ∷ rest) each =
      omega (
        arith,
        (All-head (IsNumbered trace) m rest each).size,
        total_size-held rest (All-tail (IsNumbered trace) m rest each),
        sum_by-cons (λ (x : Object). x.size) (object_numbered trace m.object) (objects_held trace rest),
        sum_by-cons (λ (n : Member). n.size) m rest,
      )

  pub apart-held : (members : List Member) → All (IsNumbered trace) members → AllPairs (λ m n. m.object ≢ n.object) members → AllPairs (λ x y. x ≢ y) (objects_held trace members)
  apart-held [] each apart = λ i j d low high. absurd (omega arith)
  apart-held (m ∷ rest) each apart = λ i j d low high same.
      let within : j < length (m ∷ rest) = omega (arith, length-map rest (λ (n : Member). object_numbered trace n.object)) in
      let a : Member = get_or (m ∷ rest) i m in
      let b : Member = get_or (m ∷ rest) j m in
      let f : Member → Object = λ n. object_numbered trace n.object in
      let of_a : IsNumbered trace a = each i m (omega arith) in
      let of_b : IsNumbered trace b = each j m within in
      let at_i : get_or (objects_held trace (m ∷ rest)) i d ≡ object_numbered trace a.object = get_or-map f (m ∷ rest) i m d (omega arith) in
      let at_j : get_or (objects_held trace (m ∷ rest)) j d ≡ object_numbered trace b.object = get_or-map f (m ∷ rest) j m d within in
      apart i j m low within (one_number a b of_a of_b (sym at_i ∙ same ∙ at_j))

  -- the object x has the number k
  module _ (x : Object) (k : ℕ) (found : position (same_object x) (objects_of trace) ≡ Some k) (at_k : object_numbered trace k ≡ x) where
    same_number : (m : Member) → IsNumbered trace m → eqb m.object k ≡ same_object x (object_numbered trace m.object)
    same_number m of_m = at (eqb m.object k) refl
      where
        at : (b : Bool) → eqb m.object k ≡ b → b ≡ same_object x (object_numbered trace m.object)
        at true e =
            let here : object_numbered trace m.object ≡ x = ap (object_numbered trace) (eqb-true m.object k e) ∙ at_k in
            sym (ap (same_object x) here ∙ same_object-refl x)
        at false e =
            sym (false_from_ne_true (same_object x (object_numbered trace m.object)) (λ same.
            let here : x ≡ object_numbered trace m.object = same_object-true x (object_numbered trace m.object) same in
            eqb-false m.object k e (ap (λ r. unwrap_or r 0) (sym of_m.found ∙ ap (λ y. position (same_object y) (objects_of trace)) (sym here) ∙ found))))

    -- the members have the number exactly if the objects have the object
    pub has_member-held : (members : List Member) → All (IsNumbered trace) members → has_member members k ≡ holds (objects_held trace members) x
    has_member-held [] each = refl
    has_member-held (m ∷ rest) each =
        ap (λ b. b || has_member rest k) (same_number m (All-head (IsNumbered trace) m rest each))
        ∙ ap (λ b. same_object x (object_numbered trace m.object) || b) (has_member-held rest (All-tail (IsNumbered trace) m rest each))

    -- the size of a member is that of its object
    pub size-held : (members : List Member) → All (IsNumbered trace) members → All (λ m. m.object ≡ k → m.size ≡ x.size) members
    size-held members each = λ i d within same. sym (each i d within).size ∙ ap (λ (y : Object). y.size) (ap (object_numbered trace) same ∙ at_k)

    -- members that were there or are the object requested
    module _ (old new : List Member) (enters : (m : Member) → Contains new m → Contains old m ⊎ (m ≡ member k x.size)) (each : All (IsNumbered trace) old) where
      numbered_new : IsNumbered trace (member k x.size)
      numbered_new = record {
        found = ap (λ y. position (same_object y) (objects_of trace)) at_k ∙ found;
        size = ap (λ (y : Object). y.size) at_k;
      }

      pub numbered-more : All (IsNumbered trace) new
      numbered-more = λ i d within.
          ⊎_elim
          (λ (was : Contains old (get_or new i d)). All-contains (IsNumbered trace) old (get_or new i d) each was)
          (λ (entered : get_or new i d ≡ member k x.size). subst (IsNumbered trace) (sym entered) numbered_new)
          (enters (get_or new i d) (Contains-get_or new i d within))

      pub held-more : (y : Object) → Contains (objects_held trace new) y → Contains (objects_held trace old) y ⊎ (x ≡ y)
      held-more y c =
          let f : Member → Object = λ n. object_numbered trace n.object in
          let from = Contains-unmap f new y c in
          ⊎_elim
          (λ (was : Contains old from.0). inl (subst (Contains (objects_held trace old)) from.2 (Contains-map f old from.0 was)))
          (λ (entered : from.0 ≡ member k x.size). inr (sym at_k ∙ ap f (sym entered) ∙ from.2))
          (enters from.0 from.1)
