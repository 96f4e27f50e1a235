-- What is stored after a request is appended, by what the map's insertion answers.
use Rattle.std.proofs.Common.{◌≡◌, ℕ, suc, ◌+◌, ◌<◌, ◌≤◌, ◌^◌, ◌∙◌, sym, refl, ap, subst, Bool, true, false, not, cond, List, [], ◌∷◌, ◌++◌, length, arith, set, None, Some}
use Rattle.std.specs.List.{position_or_len}
use Rattle.std.specs.Map.{keys_of, values_of, lookup}
use Rattle.std.proofs.lemmas.List.{length-map}
use Rattle.std.proofs.lemmas.Map.Entries.{length-keys_of}
use Rattle.indexmap.specs.IndexMap.{insert_entry}
use Rattle.cache_model.specs.declared.objects.Object.{Object}
use Rattle.cache_model.specs.Claim.{same_object, no_object}
use Rattle.cache_model.specs.Objects.{IsLatest}
use Rattle.cache_rules.specs.Stored.{no_request, object_at, trace_of, IsSized, IsStored}
use Rattle.cache_rules.proofs.Insertion.{Adds, Updates, Adds-from_lookup, Updates-from_lookup}
use Rattle.cache_rules.proofs.Numbers.{few_entries}
use Rattle.cache_rules.proofs.Pushed.{IsStored-new, IsStored-again, IsLatest-earlier}

pub position_or_len-le-length : {X : Type 0} (p : X → Bool) (xs : List X) → position_or_len p xs ≤ length xs
position_or_len-le-length p [] = omega arith
position_or_len-le-length p (x ∷ xs) = at (p x) (position_or_len-le-length p xs)
  where
    at : (t : Bool) → position_or_len p xs ≤ length xs → cond (not t) (1 + position_or_len p xs) 0 ≤ suc (length xs)
    at true rest = omega arith
    at false rest = omega arith

IsStored-same : (trace : List Object) (e f : List (Object × ℕ)) (n m p q g h : List ℕ) → IsStored trace e n p g → f ≡ e → m ≡ n → q ≡ p → h ≡ g → IsStored trace f m q h
IsStored-same trace e f n m p q g h s es ns ps gs =
    subst (λ v. IsStored trace f m q v) (sym gs)
    (subst (λ v. IsStored trace f m v g) (sym ps)
    (subst (λ v. IsStored trace f v p g) (sym ns)
    (subst (λ v. IsStored trace v n p g) (sym es) s)))

module _ (entries : List (Object × ℕ)) (numbers previous following : List ℕ)
    (s : IsStored (trace_of (keys_of entries) numbers) entries numbers previous following) where
  trace : List Object
  trace = trace_of (keys_of entries) numbers

  length-trace : length trace ≡ length numbers
  unfolding trace
  length-trace = length-map numbers (object_at (keys_of entries))

  -- the number of the request's object is in the range of numbers
  pub few_numbers : (x : Object) (number : ℕ) → number ≡ position_or_len (same_object x) (keys_of entries) → number ≤ 2 ^ 25
  unfolding trace
  few_numbers x number place =
      omega (
        arith,
        s.few,
        position_or_len-le-length (same_object x) (keys_of entries),
        length-keys_of entries,
        few_entries trace entries numbers previous following s,
      )

  module _ (x : Object) (sized : IsSized x) (room : length (trace_of (keys_of entries) numbers) < 2 ^ 25) (t : ℕ) (now : t ≡ length numbers)
      (number : ℕ) (place : number ≡ position_or_len (same_object x) (keys_of entries)) where
    now_trace : t ≡ length trace
    now_trace = now ∙ sym length-trace

    -- the map had no request of the object
    pub IsStored-added : lookup (same_object x) entries ≡ None
        → (after : List (Object × ℕ)) (ns ps fs : List ℕ) → after ≡ insert_entry same_object entries x t → ns ≡ numbers ++ number ∷ []
        → ps ≡ previous ++ no_request ∷ [] → fs ≡ following ++ no_request ∷ [] → IsStored (trace_of (keys_of entries) numbers ++ x ∷ []) after ns ps fs
    unfolding trace
    IsStored-added none after ns ps fs entered numbered before later =
        let adds : Adds same_object x t entries number = subst (Adds same_object x t entries) (sym place) (Adds-from_lookup same_object x t entries none) in
        IsStored-same (trace ++ x ∷ []) (entries ++ (x, length trace) ∷ []) after (numbers ++ length entries ∷ []) ns (previous ++ no_request ∷ []) ps (following ++ no_request ∷ []) fs
        (IsStored-new trace entries numbers previous following s x sized room (λ n low. adds.absent n no_object low))
        (entered ∙ adds.after ∙ ap (λ k. entries ++ (x, k) ∷ []) now_trace)
        (numbered ∙ ap (λ k. numbers ++ k ∷ []) adds.last)
        before later

    module _ (earlier : ℕ) (some : lookup (same_object x) entries ≡ Some earlier) where
      updates : Updates same_object x t entries number earlier
      updates = subst (λ n. Updates same_object x t entries n earlier) (sym place) (Updates-from_lookup same_object x t entries earlier some)

      -- the request that the map had is of the trace
      pub earlier_within : earlier < length following
      unfolding trace
      earlier_within =
          let latest : IsLatest trace x earlier = IsLatest-earlier trace entries numbers previous following s x sized room number earlier updates.within (updates.found no_object) (updates.had 0) in
          omega (arith, latest.within, s.following_length)

      pub IsStored-updated : (after : List (Object × ℕ)) (ns ps fs : List ℕ) → after ≡ insert_entry same_object entries x t → ns ≡ numbers ++ number ∷ []
          → ps ≡ previous ++ earlier ∷ [] → fs ≡ set (following ++ no_request ∷ []) earlier t → IsStored (trace_of (keys_of entries) numbers ++ x ∷ []) after ns ps fs
      unfolding trace
      IsStored-updated after ns ps fs entered numbered before later =
          IsStored-same (trace ++ x ∷ []) after after (numbers ++ number ∷ []) ns (previous ++ earlier ∷ []) ps (set (following ++ no_request ∷ []) earlier (length trace)) fs
          (IsStored-again trace entries numbers previous following s x sized room number earlier updates.within (updates.found no_object) (updates.had 0) after
          (ap keys_of entered ∙ updates.keys)
          (ap values_of entered ∙ updates.values ∙ ap (set (values_of entries) number) now_trace))
          refl numbered before
          (later ∙ ap (set (following ++ no_request ∷ []) earlier) now_trace)
