-- When contents write what is flagged, and when they could.
use Rattle.std.proofs.Common.{◌≡◌, ℕ, zero, suc, ◌+◌, ◌<◌, ◌≤◌, ◌∙◌, sym, refl, ap, subst, Bool, true, false, not, ◌&&◌, ◌||◌, cond, nat_le, List, length, arith, ⊎_elim}
use Rattle.std.proofs.lemmas.Bool.{cases_Bool, le-leb}
use Rattle.cache_model.specs.declared.objects.Object.{Object}
use Rattle.cache_model.specs.Claim.{before_request, holds, only_fills, request_at, same_object}
use Rattle.cache_model.proofs.Duality.{same_object-true}
use Rattle.freshness.specs.Stale.{clock}
use Rattle.judge_laws.specs.Flags.{is_flagged}
use Rattle.ttl_laws.specs.Fresh.{hits_fresh, writes_anew, written_at}
use Rattle.ttl_laws.proofs.Idle.{clock-next, written-le}
use Rattle.ttl_judge.specs.Ages.{HasFreshFlagged, can_write, last_write}

-- what could be written is, unless a request that counts is a fresh hit
writes : (fill flag fresh : Bool) (now written could : ℕ) → (flag ≡ true → fill ≡ false → (fresh ≡ true) × (written ≡ could))
    → cond (not (flag && not fill && fresh)) now written ≡ cond (fill || not flag) now could
writes true true fresh now written could hit = refl
writes true false fresh now written could hit = refl
writes false false fresh now written could hit = refl
writes false true fresh now written could hit = let own = hit refl refl in ap (λ b. cond (not b) now written) own.0 ∙ own.1

module _ (fills : List Bool) (trace : List Object) (times : List ℕ) (ttl : ℕ) (flags : List Bool) (contents : List (List Object)) where
  abbrev pub written : ℕ → Object → ℕ
  written n x = written_at fills trace times ttl contents n x

  abbrev pub could : ℕ → Object → ℕ
  could n x = last_write fills trace times flags n x

  -- a request for another object changes neither
  written-other : (t : ℕ) (x : Object) → same_object (request_at trace t) x ≡ false → written (suc t) x ≡ written t x
  written-other t x other = ap (λ b. cond (b && writes_anew fills times ttl contents t x (written t x)) (clock times t) (written t x)) other

  could-other : (t : ℕ) (x : Object) → same_object (request_at trace t) x ≡ false → could (suc t) x ≡ could t x
  could-other t x other = ap (λ b. cond (b && can_write fills flags t) (clock times t) (could t x)) other

  could-own : (t : ℕ) (x : Object) → same_object (request_at trace t) x ≡ true → could (suc t) x ≡ cond (can_write fills flags t) (clock times t) (could t x)
  could-own t x same = ap (λ b. cond (b && can_write fills flags t) (clock times t) (could t x)) same

  written-own : (t : ℕ) (x : Object) → same_object (request_at trace t) x ≡ true → written (suc t) x ≡ cond (writes_anew fills times ttl contents t x (written t x)) (clock times t) (written t x)
  written-own t x same = ap (λ b. cond (b && writes_anew fills times ttl contents t x (written t x)) (clock times t) (written t x)) same

  -- nor do more of them
  pub same-later : (n k : ℕ) (x : Object) → ((j : ℕ) → n ≤ j → j < n + k → same_object (request_at trace j) x ≡ false)
      → written n x ≡ could n x → written (n + k) x ≡ could (n + k) x
  same-later n zero x others same = let none : n + 0 ≡ n = omega arith in subst (λ m. written m x ≡ could m x) (sym none) same
  same-later n (suc k) x others same =
      let before = same-later n k x (λ j low high. others j low (omega arith)) same in
      let other = others (n + k) (omega arith) (omega arith) in
      let more : n + suc k ≡ suc (n + k) = omega arith in
      subst (λ m. written m x ≡ could m x) (sym more) (written-other (n + k) x other ∙ before ∙ sym (could-other (n + k) x other))

  -- contents that have x before a request of it exactly if that is flagged, and after it, write it whenever they could, if it is fresh there
  pub same-own : (t : ℕ) (x : Object) → same_object (request_at trace t) x ≡ true
      → holds (before_request contents t) x ≡ is_flagged flags t
      → holds (before_request contents (t + 1)) x ≡ true
      → (is_flagged flags t ≡ true → only_fills fills t ≡ false → (nat_le (clock times t) (written t x + ttl) ≡ true) × (written t x ≡ could t x))
      → written (suc t) x ≡ could (suc t) x
  same-own t x same before after fresh =
      let now : ℕ = clock times t in
      let young : Bool = nat_le now (written t x + ttl) in
      written-own t x same
      ∙ ap (λ h. cond (h && not (hits_fresh fills times ttl contents t x (written t x))) now (written t x)) after
      ∙ ap (λ h. cond (not (h && not (only_fills fills t) && young)) now (written t x)) before
      ∙ writes (only_fills fills t) (is_flagged flags t) young now (written t x) (could t x) fresh
      ∙ sym (could-own t x same)

  -- what has each flagged object fresh writes it when it could at the latest
  pub written-could : HasFreshFlagged fills trace times ttl contents flags → (n : ℕ) → n ≤ length trace → (x : Object) → written n x ≤ could n x
  written-could fresh zero within x = omega arith
  written-could fresh (suc t) within x =
      ⊎_elim
      (λ (same : same_object (request_at trace t) x ≡ true).
      ⊎_elim
      (λ (can : can_write fills flags t ≡ true).
      let now : could (suc t) x ≡ clock times t = could-own t x same ∙ ap (λ b. cond b (clock times t) (could t x)) can in
      omega (arith, now, written-le fills trace times ttl contents (suc t) x, clock-next times t))
      (λ (cannot : can_write fills flags t ≡ false).
      let stays : could (suc t) x ≡ could t x = could-own t x same ∙ ap (λ b. cond b (clock times t) (could t x)) cannot in
      let none : written (suc t) x ≡ written t x = written-own t x same ∙ ap (λ b. cond b (clock times t) (written t x)) (hit t (omega arith) x same cannot) in
      omega (arith, stays, none, written-could fresh t (omega arith) x))
      (cases_Bool (can_write fills flags t)))
      (λ (other : same_object (request_at trace t) x ≡ false).
      omega (arith, written-other t x other, could-other t x other, written-could fresh t (omega arith) x))
      (cases_Bool (same_object (request_at trace t) x))
    where
      no_write : (fill flag after before young : Bool) → (fill || not flag) ≡ false → (flag ≡ true → (before ≡ true) × (young ≡ true))
          → (after && not (before && not fill && young)) ≡ false
      no_write true flag after before young cannot hit = cc
      no_write false false after before young cannot hit = cc
      no_write false true true before young cannot hit = let own = hit refl in rw (own.0, own.1) refl
      no_write false true false before young cannot hit = refl

      hit : (t : ℕ) → t < length trace → (x : Object) → same_object (request_at trace t) x ≡ true → can_write fills flags t ≡ false
          → writes_anew fills times ttl contents t x (written t x) ≡ false
      hit t low x same cannot =
          let is : request_at trace t ≡ x = same_object-true (request_at trace t) x same in
          no_write (only_fills fills t) (is_flagged flags t) (holds (before_request contents (t + 1)) x) (holds (before_request contents t) x)
          (nat_le (clock times t) (written t x + ttl)) cannot
          (λ flagged.
          let own = fresh t low flagged in (
            subst (λ y. holds (before_request contents t) y ≡ true) is own.0,
            subst (λ y. nat_le (clock times t) (written t y + ttl) ≡ true) is (le-leb (clock times t) (written t (request_at trace t) + ttl) own.1),
          ))
