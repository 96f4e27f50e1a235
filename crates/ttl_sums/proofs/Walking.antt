-- What a request and a step make of the entry of an object.
use Rattle.std.proofs.Common.{◌≡◌, ℕ, zero, suc, ◌+◌, ◌-◌, ◌*◌, ◌/◌, ◌<◌, ◌≤◌, ◌∙◌, sym, refl, ap, subst, true, false, cond, List, [], ◌∷◌, ◌++◌, length, arith, ⊎_elim, take, slice_index_or, sum}
use Rattle.std.proofs.lemmas.Bool.{cases_lt}
use Rattle.std.proofs.lemmas.List.{take_all}
use Rattle.std.proofs.Math.ListN.{get_or-eq_default}
use Rattle.std.proofs.lemmas.List.Sums.{sum_by_more}
use Rattle.cache_model.specs.declared.objects.Object.{Object}
use Rattle.cache_model.specs.Claim.{request_at, same_object}
use Rattle.cache_model.specs.Objects.{IsFirst}
use Rattle.cache_model.proofs.Duality.{same_object-refl}
use Rattle.cache_model.proofs.Pairs.{same_object-sym}
use Rattle.ttl_laws.specs.Runs.{Walk}
use Rattle.ttl_walk.specs.declared.asked.Asked.{Asked}
use Rattle.ttl_walk.specs.Kept.{StandsFor}
use Rattle.ttl_walk.specs.Requests.{prices_since, requests_of, walk_on, walk_over}
use Rattle.ttl_walk.proofs.Walking.{asked_at, over, over-other, over-own}
use Rattle.ttl_sums.specs.declared.entry.Entry.{Entry}
use Rattle.ttl_sums.specs.declared.request.Request.{Request}
use Rattle.ttl_sums.specs.Entries.{IsAsked, IsBegun, asked_of}
use Rattle.ttl_sums.specs.Walked.{IsEntryOf, IsNext, Priced}

-- the prices of one step more
pub sum-more : (prices : List ℕ) (n : ℕ) → sum (take (suc n) prices) ≡ sum (take n prices) + slice_index_or prices n 0
sum-more prices n =
    ⊎_elim
    (λ (low : n < length prices).
    let next : suc n ≡ n + 1 = omega arith in
    ap (λ k. sum (take k prices)) next ∙ sum_by_more (λ x. x) prices n 0 low)
    (λ (high : length prices ≤ n).
    omega (
      arith,
      ap sum (take_all (suc n) prices (omega arith)),
      ap sum (take_all n prices high),
      get_or-eq_default prices 0 high,
    ))
    (cases_lt n (length prices))

module _ (p : Priced) (n : ℕ) (x : Object) where
  -- the walk of x over the first m requests for it
  abbrev pub walked : ℕ → Walk
  walked m = over p.terms p.unit p.denominator p.trace p.times p.prices p.ttl x m

  abbrev pub since : ℕ → ℕ
  since m = prices_since p.trace p.prices m x

  -- what is not asked for pays later
  pub entry-other : (e : Entry) → same_object (request_at p.trace n) x ≡ false → IsEntryOf p n x e → IsEntryOf p (suc n) x e
  entry-other e other is = record {
    walk = λ fits. subst (StandsFor e.walk) (sym (over-other p.terms p.unit p.denominator p.trace p.times p.prices p.ttl x n other)) (is.walk fits);
    paid = λ fits.
        let more : since (suc n) ≡ since n + slice_index_or p.prices n 0 =
        ap (λ b. cond b 0 (since n) + slice_index_or p.prices n 0) other in
        omega (arith, more, is.paid fits, sum-more p.prices n);
    above = is.above;
  }

  -- before its first request nothing was walked, and no step paid
  fresh : (m : ℕ) → ((k : ℕ) → k < m → same_object (request_at p.trace k) x ≡ false)
      → (requests_of p.terms p.unit p.denominator p.trace p.times p.prices m x ≡ []) × (since m ≡ sum (take m p.prices))
  fresh zero others = (refl, refl)
  fresh (suc m) others =
      let before = fresh m (λ k low. others k (omega arith)) in
      let other : same_object (request_at p.trace m) x ≡ false = others m (omega arith) in
      let more : since (suc m) ≡ since m + slice_index_or p.prices m 0 =
      ap (λ b. cond b 0 (since m) + slice_index_or p.prices m 0) other in
      let requests : List Asked = requests_of p.terms p.unit p.denominator p.trace p.times p.prices m x in (
        ap (λ b. cond b (requests ++ asked_at p.terms p.unit p.denominator p.trace p.times p.prices p.ttl x m ∷ []) requests) other ∙ before.0,
        omega (arith, more, before.1, sum-more p.prices m),
      )

module _ (p : Priced) (n : ℕ) where
  abbrev asked_for : Object
  asked_for = request_at p.trace n

  -- the entry that has begun is that of a new object
  pub entry-begun : (e : Entry) → IsFirst p.trace n → IsBegun e → IsEntryOf p n asked_for e
  entry-begun e first is = record {
    walk = λ fits. subst (λ requests. StandsFor e.walk (walk_over p.ttl requests)) (sym none.0) is.walk;
    paid = λ fits. omega (arith, is.paid, none.1);
    above = λ above. is.top;
  }
    where
      none : (requests_of p.terms p.unit p.denominator p.trace p.times p.prices n asked_for ≡ []) × (since p n asked_for n ≡ sum (take n p.prices))
      none = fresh p n asked_for n (λ k low. same_object-sym (request_at p.trace k) asked_for ∙ first k low)

  -- the object of the request pays for the steps since its last one
  pub entry-own : (request : Request) (prices : ℕ) (old new : Entry) → IsNext p n request → prices ≡ sum (take n p.prices)
      → IsAsked p.ttl prices request old new → IsEntryOf p n asked_for old → IsEntryOf p (suc n) asked_for new
  entry-own request prices old new next priced asked is =
      let own : same_object asked_for asked_for ≡ true = same_object-refl asked_for in
      let none : since p n asked_for (suc n) ≡ slice_index_or p.prices n 0 =
      ap (λ b. cond b 0 (since p n asked_for n) + slice_index_or p.prices n 0) own ∙ omega arith in
      let left : prices - old.paid ≡ since p n asked_for n = omega (arith, is.paid next.fits, priced) in
      let pays : request.weight * (prices - old.paid) ≡ (asked_for.size / p.unit) * since p n asked_for n =
      ap (λ w. w * (prices - old.paid)) next.weight ∙ ap (λ s. (asked_for.size / p.unit) * s) left in
      let same : asked_of request (request.weight * (prices - old.paid)) ≡ asked_at p.terms p.unit p.denominator p.trace p.times p.prices p.ttl asked_for n =
      (λ i. record { clock = next.clock i; fills = next.fills i; gain = next.gain i; priced = pays i }) in
      record {
        walk = λ fits.
            subst (StandsFor new.walk)
            (ap (walk_on p.ttl (walked p n asked_for n)) same ∙ sym (over-own p.terms p.unit p.denominator p.trace p.times p.prices p.ttl asked_for n own))
            (asked.walk (walked p n asked_for n) (is.walk fits));
        paid = λ fits. omega (arith, asked.paid, none, priced, sum-more p.prices n);
        above = λ above. absurd (omega (arith, above, next.fits));
      }

  -- and one above the capacity pays nothing
  pub entry-above : (e : Entry) → p.terms.capacity < asked_for.size → IsEntryOf p n asked_for e → IsEntryOf p (suc n) asked_for e
  entry-above e above is = record {
    walk = λ fits. absurd (omega (arith, above, fits));
    paid = λ fits. absurd (omega (arith, above, fits));
    above = is.above;
  }
