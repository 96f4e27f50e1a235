-- Of each object the clock at the last request that can write it, as it is kept.
use Rattle.std.proofs.Common.{◌≡◌, ℕ, suc, ◌+◌, ◌-◌, ◌<◌, ◌∙◌, sym, ap, Bool, true, false, ◌&&◌, cond, List, length, arith, get_or, max, position, set, Some}
use Rattle.cache_model.specs.declared.objects.Object.{Object}
use Rattle.cache_model.specs.Claim.{request_at, same_object}
use Rattle.cache_model.specs.Objects.{objects_of}
use Rattle.cache_model.proofs.Duality.{same_object-refl}
use Rattle.freshness.specs.Stale.{clock}
use Rattle.ttl_laws.proofs.Idle.{clock_before, clock-more}
use Rattle.ttl_laws.proofs.Numbered.{AreOf, of-own, of-same, of-set}
use Rattle.ttl_judge.specs.Ages.{age_at, can_write, last_write}

module _ (fills : List Bool) (trace : List Object) (times : List ℕ) (flags : List Bool) (t number : ℕ)
    (numbered : position (same_object (request_at trace t)) (objects_of trace) ≡ Some number) (clocks : List ℕ)
    (are : AreOf trace (last_write fills trace times flags t) clocks) where
  abbrev x : Object
  x = request_at trace t

  abbrev pub next : Object → ℕ
  next y = last_write fills trace times flags (t + 1) y

  of-next : (y : Object) → next y ≡ cond (same_object x y && can_write fills flags t) (clock times t) (last_write fills trace times flags t y)
  of-next y = let more : t + 1 ≡ suc t = omega arith in ap (λ n. last_write fills trace times flags n y) more

  others : (y : Object) → same_object x y ≡ false → next y ≡ last_write fills trace times flags t y
  others y other = of-next y ∙ ap (λ b. cond (b && can_write fills flags t) (clock times t) (last_write fills trace times flags t y)) other

  own : next x ≡ cond (can_write fills flags t) (clock times t) (last_write fills trace times flags t x)
  own = of-next x ∙ ap (λ b. cond (b && can_write fills flags t) (clock times t) (last_write fills trace times flags t x)) (same_object-refl x)

  -- what is kept at its number is that of the object
  clock-kept : get_or clocks number 0 ≡ last_write fills trace times flags t x
  clock-kept = of-own trace t number numbered (last_write fills trace times flags t) next clocks are others

  -- a request that can write notes its clock
  pub clocks-noted : (now : ℕ) → now ≡ clock times t → can_write fills flags t ≡ true → AreOf trace next (set clocks number now)
  clocks-noted now now_is can =
      of-set trace t number numbered (last_write fills trace times flags t) next clocks are others now
      (own ∙ ap (λ b. cond b (clock times t) (last_write fills trace times flags t x)) can ∙ sym now_is)

  -- and another one notes nothing
  pub clocks-same : can_write fills flags t ≡ false → AreOf trace next clocks
  clocks-same cannot =
      of-same trace t number numbered (last_write fills trace times flags t) next clocks are others
      (own ∙ ap (λ b. cond b (clock times t) (last_write fills trace times flags t x)) cannot)

  -- the age of the object is that which is counted by what is kept
  pub age-kept : (before now last age : ℕ) → t < length times → before ≡ clock_before times t → now ≡ max before (get_or times t 0)
      → last ≡ get_or clocks number 0 → age ≡ now - last → age ≡ age_at fills trace times flags t
  age-kept before now last age within before_is now_is last_is age_is =
      age_is
      ∙ ap (λ n. n - last) (clock-more times t before now within before_is now_is)
      ∙ ap (λ n. clock times t - n) (last_is ∙ clock-kept)
