-- There is a first cause exactly if flags are not possible, or a stale request is flagged.
use Rattle.std.proofs.Common.{◌≡◌, ℕ, ◌<◌, ◌∙◌, refl, ap, Bool, true, false, ◌&&◌, ◌||◌, List, length, None, Some, find, sym, nat_lt, arith, ⊎_elim}
use Rattle.std.specs.Option.{option_or, option_map}
use Rattle.std.specs.declared.option.Option.{Option}
use Rattle.std.proofs.lemmas.Bool.{and_cases, and_left, and_right, or_parts, or_from, both_ways, cases_Bool, le-ltb, ltb-false}
use Rattle.cache_model.specs.declared.objects.Object.{Object}
use Rattle.cache_model.specs.Claim.{request_at}
use Rattle.cache_model.specs.Objects.{numbers_of, is_first}
use Rattle.judge_laws.specs.Flags.{is_flagged, flagged_load}
use Rattle.hit_judge.specs.declared.causes.Impossible.{Impossible}
use Rattle.hit_judge.specs.Causes.{CanHitFlagged, never_hits, first_at_request, first_at_step, load_cause, first_cause, request_cause}
use Rattle.hit_judge.specs.Possible.{IsPossibleFresh, is_stale}
use Rattle.hit_judge.proofs.Found.{find-range_none, none-find_range}

-- what is mapped to nothing is nothing
none-option_map : {X Y : Type 0} (f : X → Y) (o : Option X) → option_map f o ≡ None → o ≡ None
none-option_map f None none = refl
none-option_map f (Some x) none = cc

-- if of two nothing is chosen, both are nothing
none-option_or : {X : Type 0} (a b : Option X) → option_or a b ≡ None → (a ≡ None) × (b ≡ None)
none-option_or None b none = (refl, none)
none-option_or (Some x) b none = absurd (let no : Some x ≡ None = none in cc)

module _ (c : ℕ) (trace : List Object) (stale flags : List Bool) where
  -- if there is no cause at a request, contents can hit where a flag stands
  none-never_hits : first_at_request c trace stale flags ≡ None → (t : ℕ) → t < length trace → is_flagged flags t ≡ true → never_hits c trace stale t ≡ false
  none-never_hits none t within flagged =
      ⊎_elim
      (λ (no : is_flagged flags t ≡ false). absurd (both_ways (is_flagged flags t) no flagged))
      (λ (hits : never_hits c trace stale t ≡ false). hits)
      (and_cases (is_flagged flags t) (never_hits c trace stale t)
      (none-find_range test 0 (length trace) (none-option_map (request_cause c trace) (find test (numbers_of trace)) none) t (omega arith) (omega arith)))
    where
      test : ℕ → Bool
      test k = is_flagged flags k && never_hits c trace stale k

  -- and so it has an earlier request of its object, which is no larger than the capacity
  pub none-can_hit : first_at_request c trace stale flags ≡ None → CanHitFlagged c trace flags
  none-can_hit none t within flagged =
      let parts = or_parts (is_first trace t || nat_lt c (request_at trace t).size) (is_stale stale t) (none-never_hits none t within flagged) in
      let first_or_large = or_parts (is_first trace t) (nat_lt c (request_at trace t).size) parts.0 in
      (first_or_large.0, ltb-false c (request_at trace t).size first_or_large.1)

  -- without a cause, the flags are possible, and no stale request is flagged
  pub none-possible : first_cause c trace stale flags ≡ None → IsPossibleFresh c trace stale flags
  none-possible none = record {
    possible = record {
      asked_before = λ t within flagged. (none-can_hit parts.0 t within flagged).0;
      fits = λ t within flagged. (none-can_hit parts.0 t within flagged).1;
      within_capacity = λ t within.
          ltb-false c (flagged_load c trace flags t)
          (none-find_range over 0 (length trace) (none-option_map (load_cause c trace flags) (find over (numbers_of trace)) parts.1) t (omega arith) (omega arith));
    };
    fresh = λ t within flagged.
        (or_parts (is_first trace t || nat_lt c (request_at trace t).size) (is_stale stale t) (none-never_hits parts.0 t within flagged)).1;
  }
    where
      parts : (first_at_request c trace stale flags ≡ None) × (first_at_step c trace flags ≡ None)
      parts = none-option_or (first_at_request c trace stale flags) (first_at_step c trace flags) none

      over : ℕ → Bool
      over t = nat_lt c (flagged_load c trace flags t)

  -- flags that are possible, and of which none is at a stale request, have no cause
  possible-none : IsPossibleFresh c trace stale flags → first_cause c trace stale flags ≡ None
  possible-none fresh =
      ap (λ o. option_or (option_map (request_cause c trace) o) (first_at_step c trace flags)) (find-range_none (λ t. is_flagged flags t && never_hits c trace stale t) 0 (length trace) (λ t low high. clear t (omega arith)))
      ∙ ap (option_map (load_cause c trace flags))
      (find-range_none (λ t. nat_lt c (flagged_load c trace flags t)) 0 (length trace) (λ t low high. le-ltb c (flagged_load c trace flags t) (fresh.possible.within_capacity t (omega arith))))
    where
      clear : (t : ℕ) → t < length trace → (is_flagged flags t && never_hits c trace stale t) ≡ false
      clear t within =
          ⊎_elim
          (λ (yes : is_flagged flags t ≡ true).
          and_right (is_flagged flags t) (never_hits c trace stale t)
          (or_from (is_first trace t || nat_lt c (request_at trace t).size) (is_stale stale t)
          (or_from (is_first trace t) (nat_lt c (request_at trace t).size) (fresh.possible.asked_before t within yes) (le-ltb c (request_at trace t).size (fresh.possible.fits t within yes)))
          (fresh.fresh t within yes)))
          (λ (no : is_flagged flags t ≡ false). and_left (is_flagged flags t) (never_hits c trace stale t) no)
          (cases_Bool (is_flagged flags t))

  -- if there is a cause, they are not so
  pub some-impossible : (cause : Impossible) → first_cause c trace stale flags ≡ Some cause → IsPossibleFresh c trace stale flags → ⊥
  some-impossible cause found possible = let two : None ≡ Some cause = sym (possible-none possible) ∙ found in cc
