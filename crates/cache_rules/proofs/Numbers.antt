-- What is stored at a request, and at the number of an object.
use Rattle.std.proofs.Common.{◌≡◌, ℕ, ◌<◌, ◌≤◌, ◌∙◌, sym, ap, Bool, cond, nat_lt, lt-ltb, List, length, get_or, arith, None, Some, position, slice_get}
use Rattle.std.specs.List.{position_or_len}
use Rattle.std.specs.Map.{keys_of}
use Rattle.std.specs.Option.{option_map}
use Rattle.std.proofs.lemmas.List.Sums.{position_or_len_is}
use Rattle.std.proofs.lemmas.List.Elements.{All-contains}
use Rattle.std.proofs.lemmas.Map.Entries.{length-keys_of}
use Rattle.std.proofs.lemmas.Option.{slice_get-get_or, slice_get-map, slice_get_within, get_or_from_slice_get}
use Rattle.cache_model.specs.declared.objects.Object.{Object}
use Rattle.cache_model.specs.Claim.{same_object, request_at, no_object}
use Rattle.cache_model.specs.Objects.{objects_of}
use Rattle.cache_model.proofs.Duality.{same_object-refl}
use Rattle.cache_model.proofs.Pairs.{same_object-sym}
use Rattle.cache_model.proofs.DifferentObjects.{length-objects_of}
use Rattle.cache_rules.specs.Stored.{object_at, IsSized, IsStored}
use Rattle.cache_rules.proofs.Pushed.{length-numbers, request_at-number}

module _ (trace : List Object) (entries : List (Object × ℕ)) (numbers previous following : List ℕ) (s : IsStored trace entries numbers previous following) where
  -- there are as many entries as objects
  pub length-entries : length entries ≡ length (objects_of trace)
  length-entries = sym (length-keys_of entries) ∙ ap length s.objects

  pub few_entries : length entries ≤ length trace
  few_entries = omega (arith, length-entries, length-objects_of trace)

  -- each object that is stored has a size in the range of sizes
  pub entry_sized : (number : ℕ) (x : Object) (t : ℕ) → slice_get entries number ≡ Some (x, t) → IsSized x
  entry_sized number x t at =
      let key : slice_get (keys_of entries) number ≡ Some x = slice_get-map (λ (e : Object × ℕ). e.0) entries number ∙ ap (option_map (λ e. e.0)) at in
      All-contains IsSized (keys_of entries) x s.sizes (number, slice_get_within (keys_of entries) number x key, get_or_from_slice_get (keys_of entries) number x x key)

  module _ (t : ℕ) (within : t < length trace) (number : ℕ) (stored : number ≡ get_or numbers t 0) where
    known : number < length (keys_of entries)
    known = omega (arith, s.known t (omega (arith, length-numbers trace entries numbers previous following s)))

    here : request_at trace t ≡ object_at (keys_of entries) number
    here = request_at-number trace entries numbers previous following s t within ∙ ap (object_at (keys_of entries)) (sym stored)

    -- the object of the request stands at the number
    pub number_object : slice_get (objects_of trace) number ≡ Some (request_at trace t)
    number_object = ap (λ ks. slice_get ks number) (sym s.objects) ∙ slice_get-get_or (keys_of entries) number no_object known ∙ ap Some (sym here)

    -- and at no smaller one
    pub number_position : position (same_object (request_at trace t)) (objects_of trace) ≡ Some number
    number_position =
        let p : Object → Bool = same_object (request_at trace t) in
        let first : position_or_len p (keys_of entries) ≡ number =
        position_or_len_is p (keys_of entries) number no_object (omega (arith, known))
        (λ k low. ap (λ y. same_object y (object_at (keys_of entries) k)) here ∙ same_object-sym (object_at (keys_of entries) number) (object_at (keys_of entries) k) ∙ s.apart k number low known)
        (λ low. ap (λ y. same_object y (object_at (keys_of entries) number)) here ∙ same_object-refl (object_at (keys_of entries) number)) in
        ap (position p) (sym s.objects)
        ∙ ap (λ n. cond (nat_lt n (length (keys_of entries))) (Some n) None) first
        ∙ ap (λ b. cond b (Some number) None) (lt-ltb number (length (keys_of entries)) known)
