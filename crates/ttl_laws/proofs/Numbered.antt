-- Objects by their numbers, and lists that have a number for each of them.
use Rattle.std.proofs.Common.{◌≡◌, ◌≢◌, ℕ, ◌<◌, ◌≤◌, ◌∙◌, sym, ap, true, false, List, length, arith, ⊎_elim, get_or, position, replicate, set, Some}
use Rattle.std.proofs.lemmas.Bool.{cases_eq, cases_lt}
use Rattle.std.proofs.lemmas.List.{get_or-replicate, get_or-set_other, get_or-set_same, length-replicate, length-set}
use Rattle.std.proofs.lemmas.List.Quantifiers.{position-Some}
use Rattle.std.proofs.lemmas.Map.Keys.{apart_from_distinct}
use Rattle.cache_model.specs.declared.objects.Object.{Object}
use Rattle.cache_model.specs.Claim.{no_object, request_at, same_object}
use Rattle.cache_model.specs.Objects.{objects_of}
use Rattle.cache_model.proofs.Duality.{same_object-true}
use Rattle.ttl_laws.proofs.Objects.{objects-apart}

-- the object of this number
abbrev pub object_at : List Object → ℕ → Object
object_at trace k = get_or (objects_of trace) k no_object

-- at the number of each object stands what this says of it
pub record AreOf (trace : List Object) (of : Object → ℕ) (list : List ℕ) : Type 0 where
  pub known : length list ≡ length (objects_of trace)
  pub each : (k : ℕ) → k < length (objects_of trace) → get_or list k 0 ≡ of (object_at trace k)

-- nothing at first
pub of-none : (trace : List Object) (of : Object → ℕ) (objects : ℕ) → objects ≡ length (objects_of trace) → ((x : Object) → of x ≡ 0) → AreOf trace of (replicate objects 0)
of-none trace of objects all none = record {
  known = length-replicate objects 0 ∙ all;
  each = λ k low. get_or-replicate objects k 0 0 (omega (arith, low, all)) ∙ sym (none (object_at trace k));
}

module _ (trace : List Object) (t number : ℕ) (numbered : position (same_object (request_at trace t)) (objects_of trace) ≡ Some number) where
  abbrev x : Object
  x = request_at trace t

  found : (number < length (objects_of trace)) × (same_object x (object_at trace number) ≡ true)
      × ((k : ℕ) → k < number → same_object x (object_at trace k) ≡ false)
  found = position-Some (same_object x) (objects_of trace) number no_object numbered

  pub number-low : number < length (objects_of trace)
  number-low = found.0

  -- the object of the request stands at its number
  pub object_at-number : object_at trace number ≡ x
  object_at-number = sym (same_object-true x (object_at trace number) found.1)

  -- and at no other place
  pub object_at-other : (k : ℕ) → k < length (objects_of trace) → k ≢ number → same_object x (object_at trace k) ≡ false
  object_at-other k low apart =
      ⊎_elim
      (λ (before : k < number). found.2 k before)
      (λ (after : number ≤ k).
      let later : number < k = omega arith in
      ap (λ y. same_object y (object_at trace k)) (sym object_at-number)
      ∙ apart_from_distinct same_object (objects_of trace) number k no_object (objects-apart trace) later low)
      (cases_lt k number)

  module _ (of next : Object → ℕ) (list : List ℕ) (are : AreOf trace of list) (others : (y : Object) → same_object x y ≡ false → next y ≡ of y) where
    -- what is said of the object of the request
    pub of-own : get_or list number 0 ≡ of x
    of-own = are.each number number-low ∙ ap of object_at-number

    -- it is said anew of that object
    pub of-set : (now : ℕ) → next x ≡ now → AreOf trace next (set list number now)
    of-set now is = record {
      known = length-set list number now ∙ are.known;
      each = λ k low.
          ⊎_elim
          (λ (same : k ≡ number).
          ap (λ j. get_or (set list number now) j 0) same
          ∙ get_or-set_same list number now 0 (omega (arith, number-low, are.known))
          ∙ sym (ap next (ap (object_at trace) same ∙ object_at-number) ∙ is))
          (λ (other : k ≢ number).
          get_or-set_other list number k now 0 other ∙ are.each k low ∙ sym (others (object_at trace k) (object_at-other k low other)))
          (cases_eq k number);
    }

    -- or the same as before
    pub of-same : next x ≡ of x → AreOf trace next list
    of-same is = record {
      known = are.known;
      each = λ k low.
          ⊎_elim
          (λ (same : k ≡ number).
          let own : object_at trace k ≡ x = ap (object_at trace) same ∙ object_at-number in
          are.each k low ∙ ap of own ∙ sym (ap next own ∙ is))
          (λ (other : k ≢ number). are.each k low ∙ sym (others (object_at trace k) (object_at-other k low other)))
          (cases_eq k number);
    }
