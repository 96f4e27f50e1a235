-- Flags are possible with a ttl exactly if some allowed contents have each flagged object fresh.
use Rattle.std.proofs.Common.{◌≡◌, ℕ, zero, suc, ◌+◌, ◌-◌, ◌<◌, ◌∙◌, sym, ap, subst, Bool, true, nat_le, List, length, arith, ⊎_elim}
use Rattle.std.proofs.lemmas.Bool.{and_from, both_ways, le-leb}
use Rattle.cache_model.specs.declared.objects.Object.{Object}
use Rattle.cache_model.specs.Claim.{IsAllowed, before_request, holds, request_at, same_object}
use Rattle.cache_model.specs.Objects.{IsFirst, IsNext, is_first}
use Rattle.cache_model.proofs.DifferentObjects.{is_first-yes}
use Rattle.cache_model.proofs.Duality.{same_object-true}
use Rattle.cache_model.proofs.Pairs.{same_object-sym}
use Rattle.cache_model.proofs.Scores.{first_or_next, is_latest-own}
use Rattle.freshness.specs.Stale.{clock}
use Rattle.judge_laws.specs.Flags.{HitsFlagged, is_flagged}
use Rattle.judge_laws.proofs.Possible.{allowed_is_possible, flagged_held}
use Rattle.write_laws.specs.Claims.{HitsExactly}
use Rattle.write_laws.proofs.Kept.{kept-next}
use Rattle.write_laws.proofs.Written.{claimed_hits_write_just}
use Rattle.ttl_judge.specs.Ages.{HasFreshFlagged, IsPossibleWithTtl}
use Rattle.ttl_judge.specs.Laws.{FreshIsPossible, PossibleIsFresh}
use Rattle.ttl_judge.proofs.Writing.{could, same-later, same-own, written, written-could}

module _ (capacity : ℕ) (fills : List Bool) (trace : List Object) (times : List ℕ) (ttl : ℕ) (flags : List Bool)
    (possible : IsPossibleWithTtl capacity fills trace times ttl flags) (contents : List (List Object))
    (allowed : IsAllowed capacity trace contents) (exactly : HitsExactly trace contents flags) where
  hits : HitsFlagged trace contents flags
  hits t within flagged = exactly t within ∙ flagged

  -- what is flagged next is held after the request before
  held_after : (a b : ℕ) → IsNext trace a b → is_flagged flags b ≡ true → holds (before_request contents (a + 1)) (request_at trace a) ≡ true
  held_after a b next flagged =
      let within : a < length trace = omega (arith, next.before, next.within) in
      flagged_held capacity trace flags contents allowed hits a a within (omega arith)
      (and_from _ _ (kept-next capacity trace flags possible.possible a b next ∙ flagged) (is_latest-own trace a within))

  -- an object is as old as it may be before a request
  abbrev IsOldest : ℕ → Type 0
  IsOldest b = written fills trace times ttl flags contents b (request_at trace b) ≡ could fills trace times ttl flags contents b (request_at trace b)

  -- so it is fresh there, if the request is flagged
  fresh_there : (a : ℕ) → a < length trace → is_flagged flags a ≡ true → ((d : ℕ) → IsNext trace d a → IsOldest a)
      → (nat_le (clock times a) (written fills trace times ttl flags contents a (request_at trace a) + ttl) ≡ true) × IsOldest a
  fresh_there a within hit oldest =
      ⊎_elim
      (λ (first : IsFirst trace a). absurd (both_ways (is_first trace a) (possible.possible.asked_before a within hit) (is_first-yes trace a (omega arith) first)))
      (λ (found : (d : ℕ) × IsNext trace d a).
      let same : IsOldest a = oldest found.0 found.1 in (
        le-leb (clock times a) (written fills trace times ttl flags contents a (request_at trace a) + ttl) (omega (arith, same, possible.young a within hit)),
        same,
      ))
      (first_or_next trace a within)

  -- it is as old as it may be before its flagged requests
  old_enough : (m a b : ℕ) → a < m → IsNext trace a b → is_flagged flags b ≡ true → IsOldest b
  old_enough zero a b low next flagged = absurd (omega arith)
  old_enough (suc m) a b low next flagged =
      let x : Object = request_at trace b in
      let is : request_at trace a ≡ x = same_object-true (request_at trace a) x next.same in
      let within : a < length trace = omega (arith, next.before, next.within) in
      let own : written fills trace times ttl flags contents (suc a) x ≡ could fills trace times ttl flags contents (suc a) x
      = same-own fills trace times ttl flags contents a x next.same
      (subst (λ y. holds (before_request contents a) y ≡ is_flagged flags a) is (exactly a within))
      (subst (λ y. holds (before_request contents (a + 1)) y ≡ true) is (held_after a b next flagged))
      (λ hit counted. subst (λ y. (nat_le (clock times a) (written fills trace times ttl flags contents a y + ttl) ≡ true)
      × (written fills trace times ttl flags contents a y ≡ could fills trace times ttl flags contents a y)) is
      (fresh_there a within hit (λ d before. let first : d < a = before.before in old_enough m d a (omega arith) before hit))) in
      let later : suc a + (b - suc a) ≡ b = omega (arith, next.before) in
      subst (λ n. written fills trace times ttl flags contents n x ≡ could fills trace times ttl flags contents n x) later
      (same-later fills trace times ttl flags contents (suc a) (b - suc a) x
      (λ j from until. ap (same_object (request_at trace j)) (sym is) ∙ same_object-sym (request_at trace j) (request_at trace a) ∙ next.others j (omega arith) (omega (arith, next.before)))
      own)

  pub fresh : HasFreshFlagged fills trace times ttl contents flags
  fresh t within flagged =
      ⊎_elim
      (λ (first : IsFirst trace t). absurd (both_ways (is_first trace t) (possible.possible.asked_before t within flagged) (is_first-yes trace t (omega arith) first)))
      (λ (found : (a : ℕ) × IsNext trace a t).
      let same = old_enough (suc found.0) found.0 t (omega arith) found.1 flagged in
      (hits t within flagged, omega (arith, same, possible.young t within flagged)))
      (first_or_next trace t within)

pub possible_is_fresh : PossibleIsFresh
possible_is_fresh capacity fills trace times ttl flags possible =
    let made = claimed_hits_write_just capacity 0 fills trace flags possible.possible in
    (made.0, made.1, fresh capacity fills trace times ttl flags possible made.0 made.1 made.2)

pub fresh_is_possible : FreshIsPossible
fresh_is_possible capacity fills trace times ttl flags contents allowed has = record {
  possible = allowed_is_possible capacity trace flags contents allowed (λ t within flagged. (has t within flagged).0);
  young = λ t within flagged.
      let own = has t within flagged in
      omega (arith, own.1, written-could fills trace times ttl flags contents has t (omega arith) (request_at trace t));
}
