-- Flags are possible exactly if some allowed contents hit at each flagged request.
use Rattle.std.proofs.Common.{◌≡◌, ℕ, zero, suc, ◌+◌, ◌-◌, ◌<◌, ◌≤◌, ⊎_elim, ◌∙◌, sym, ap, subst, Bool, true, false, List, [], length, arith, Some, slice_get, Any, All, Contains, filter}
use Rattle.std.specs.Prelude.{IsTrue}
use Rattle.std.specs.List.{range_with_len}
use Rattle.std.proofs.lemmas.Bool.{cases_lt, both_ways, and_parts, not-true}
use Rattle.std.proofs.lemmas.List.Elements.{All-map, recursion_from_All}
use Rattle.std.proofs.lemmas.List.Folds.{Any-from_list_any}
use Rattle.std.proofs.lemmas.List.FromFn.{get_or-map-range_with_len}
use Rattle.std.proofs.lemmas.Option.{slice_get-get_or}
use Rattle.cache_model.specs.declared.objects.Object.{Object}
use Rattle.cache_model.specs.Claim.{same_object, total_size, holds, before_request, IsAllowed, request_at, no_object, is_kept, is_held, is_latest, held_before, contents_of}
use Rattle.cache_model.specs.Objects.{IsFirst, IsNext, is_first}
use Rattle.cache_model.proofs.Duality.{same_object-true, sum_by-subset}
use Rattle.cache_model.proofs.Pairs.{same_object-sym}
use Rattle.cache_model.proofs.Steps.{same_object-from, holds-from_Contains}
use Rattle.cache_model.proofs.Eligible.{list_any-range_true}
use Rattle.cache_model.proofs.Keeps.{All-filter_range, held-distinct}
use Rattle.cache_model.proofs.DifferentObjects.{is_first-yes, is_first-no}
use Rattle.cache_model.proofs.Scores.{first_or_next, holds-next, size-le-total_size, allowed-from_loads}
use Rattle.judge_laws.specs.Flags.{is_flagged, flagged_load, IsPossible, HitsFlagged}
use Rattle.judge_laws.specs.Laws.{PossibleIsAllowed, AllowedIsPossible}
use Rattle.judge_laws.proofs.Flagged.{flag_keeps, is_kept-next, kept_end, held-flagged}

-- ---- possible flags are allowed
-- the contents of these keeps hit at each flagged request
keeps_hit : (c : ℕ) (trace : List Object) (flags : List Bool) → IsPossible c trace flags → HitsFlagged trace (contents_of trace (flag_keeps c trace flags)) flags
keeps_hit c trace flags possible t within flagged =
    ⊎_elim
    (λ (first : IsFirst trace t). absurd (both_ways (is_first trace t) (possible.asked_before t within flagged) (is_first-yes trace t (omega arith) first)))
    (λ (found : (a : ℕ) × IsNext trace a t). again found.0 found.1)
    (first_or_next trace t within)
  where
    keeps : List Bool
    keeps = flag_keeps c trace flags

    again : (a : ℕ) → IsNext trace a t → IsTrue (holds (before_request (contents_of trace keeps) t) (request_at trace t))
    again a next =
        let same : request_at trace a ≡ request_at trace t = same_object-true (request_at trace a) (request_at trace t) next.same in
        let fits : (request_at trace a).size ≤ c = omega (arith, ap (λ (x : Object). x.size) same, possible.fits t within flagged) in
        ap (λ held. holds held (request_at trace t)) (get_or-map-range_with_len (held_before trace keeps) 0 (length trace + 1) t t [] (omega arith) (omega arith))
        ∙ holds-next trace t within keeps a next
        ∙ is_kept-next c trace flags a t next fits
        ∙ flagged

pub possible_is_allowed : PossibleIsAllowed
possible_is_allowed c trace flags possible =
    let keeps : List Bool = flag_keeps c trace flags in (
      contents_of trace keeps,
      allowed-from_loads trace c keeps (λ t within. omega (arith, held-flagged c trace flags t within, possible.within_capacity t within)),
      keeps_hit c trace flags possible,
    )

-- ---- what allowed contents hit is possible
Contains-from_holds : (xs : List Object) (x : Object) → holds xs x ≡ true → Contains xs x
Contains-from_holds xs x h = at (Any-from_list_any (same_object x) xs h)
  where
    at : Any (λ y. same_object x y ≡ true) xs → Contains xs x
    at (k, y, low, e, same) =
        let here : y ≡ x = sym (same_object-true x y same) in
        subst (Contains xs) here (k, low, e)

asked : (r x : Object) → Some r ≡ Some x → r ≡ x
asked r x e = cc

module _ (c : ℕ) (trace : List Object) (flags : List Bool) (contents : List (List Object)) (allowed : IsAllowed c trace contents) (hits : HitsFlagged trace contents flags) where
  -- an object that is held and was not asked for since request k was held before request k
  held_since : (x : Object) (k n : ℕ) → k + n ≤ length trace
      → ((j : ℕ) → k ≤ j → j < k + n → same_object x (request_at trace j) ≡ false)
      → Contains (before_request contents (k + n)) x → Contains (before_request contents k) x
  held_since x k zero within none m = let e : k + zero ≡ k = omega arith in subst (λ j. Contains (before_request contents j) x) e m
  held_since x k (suc n) within none m =
      let e : k + suc n ≡ (k + n) + 1 = omega arith in
      ⊎_elim
      (λ (was : Contains (before_request contents (k + n)) x). held_since x k n (omega arith) (λ j low high. none j low (omega arith)) was)
      (λ (is : slice_get trace (k + n) ≡ Some x).
      let here : request_at trace (k + n) ≡ x = asked (request_at trace (k + n)) x (sym (slice_get-get_or trace (k + n) no_object (omega arith)) ∙ is) in
      absurd (both_ways (same_object x (request_at trace (k + n))) (none (k + n) (omega arith) (omega arith)) (same_object-from x (request_at trace (k + n)) (sym here))))
      (allowed.only_requests_enter (k + n) (omega arith) x (subst (λ j. Contains (before_request contents j) x) e m))

  -- what is held fits
  held_fits : (t : ℕ) → t ≤ length trace → total_size (before_request contents t) ≤ c
  held_fits t within = allowed.within_capacity t [] (omega (arith, allowed.one_more_than_requests))

  -- a flagged request is not the first of its object
  hit_again : (t : ℕ) → t < length trace → is_flagged flags t ≡ true → is_first trace t ≡ false
  hit_again t within flagged =
      ⊎_elim
      (λ (first : IsFirst trace t).
      let there : Contains (before_request contents (0 + t)) (request_at trace t)
      = let e : t ≡ 0 + t = omega arith in subst (λ j. Contains (before_request contents j) (request_at trace t)) e (Contains-from_holds (before_request contents t) (request_at trace t) (hits t within flagged)) in
      let at_first : Contains (before_request contents 0) (request_at trace t) = held_since (request_at trace t) 0 t (omega arith) (λ j low high. first j (omega arith)) there in
      nothing (subst (λ xs. Contains xs (request_at trace t)) allowed.empty_at_first at_first))
      (λ (found : (a : ℕ) × IsNext trace a t). let next : IsNext trace found.0 t = found.1 in
      is_first-no trace t found.0 next.before (omega arith) (same_object-sym (request_at trace t) (request_at trace found.0) ∙ next.same))
      (first_or_next trace t within)
    where
      nothing : Contains [] (request_at trace t) → is_first trace t ≡ false
      nothing (k, low, e) = absurd (omega arith)

  -- the object of a flagged interval that covers step t is held after request t
  pub flagged_held : (t a : ℕ) → t < length trace → a < t + 1 → is_held trace (flag_keeps c trace flags) (t + 1) a ≡ true → holds (before_request contents (t + 1)) (request_at trace a) ≡ true
  flagged_held t a within low held =
      let parts : (is_kept (flag_keeps c trace flags) a ≡ true) × (is_latest trace (t + 1) a ≡ true) = and_parts _ _ held in
      over parts.1 (kept_end c trace flags a (omega arith) parts.0)
    where
      over : is_latest trace (t + 1) a ≡ true → ((b : ℕ) × IsNext trace a b × (is_flagged flags b ≡ true)) → holds (before_request contents (t + 1)) (request_at trace a) ≡ true
      over latest (b, next, flagged) =
          ⊎_elim
          (λ (covered : t < b).
          let x : Object = request_at trace a in
          let same : request_at trace b ≡ x = sym (same_object-true x (request_at trace b) next.same) in
          let last : b < length trace = next.within in
          let place : b ≡ (t + 1) + (b - (t + 1)) = omega arith in
          let there : Contains (before_request contents ((t + 1) + (b - (t + 1)))) x
          = subst (λ j. Contains (before_request contents j) x) place (subst (Contains (before_request contents b)) same (Contains-from_holds (before_request contents b) (request_at trace b) (hits b last flagged))) in
          holds-from_Contains (before_request contents (t + 1)) x
          (held_since x (t + 1) (b - (t + 1)) (omega arith) (λ j from until. next.others j (omega arith) (omega arith)) there))
          (λ (ended : b ≤ t).
          absurd (both_ways _ (not-true _ latest) (list_any-range_true (same_object (request_at trace a)) trace no_object (a + 1) (t + 1) b (omega (arith, next.before)) (omega arith) (omega arith) next.same)))
          (cases_lt t b)

  -- so the flagged intervals over step t fit together
  load_fits : (t : ℕ) → t < length trace → flagged_load c trace flags t ≤ c
  load_fits t within =
      let keeps : List Bool = flag_keeps c trace flags in
      let held : List Object = before_request contents (t + 1) in
      let P : Object → Type 0 = λ x. holds held x ≡ true in
      let inside : All P (held_before trace keeps (t + 1)) =
      All-map P (request_at trace) (filter (is_held trace keeps (t + 1)) (range_with_len 0 (t + 1)))
      (All-filter_range (λ a. P (request_at trace a)) (is_held trace keeps (t + 1)) 0 (t + 1) (λ a low high is. flagged_held t a within (omega arith) is)) in
      omega (
        arith,
        held-flagged c trace flags t within,
        sum_by-subset (λ (x : Object). x.size) (held_before trace keeps (t + 1)) held
            (held-distinct trace keeps (t + 1) 0 (t + 1) (omega arith) (omega arith))
            (recursion_from_All P (held_before trace keeps (t + 1)) inside),
        held_fits (t + 1) (omega arith),
      )

pub allowed_is_possible : AllowedIsPossible
allowed_is_possible c trace flags contents allowed hits = record {
  asked_before = λ t within flagged. let again : is_first trace t ≡ false = hit_again c trace flags contents allowed hits t within flagged in cc;
  fits = λ t within flagged.
      omega (
        arith,
        size-le-total_size (before_request contents t) (request_at trace t) (hits t within flagged),
        held_fits c trace flags contents allowed hits t (omega arith),
      );
  within_capacity = load_fits c trace flags contents allowed hits;
}
