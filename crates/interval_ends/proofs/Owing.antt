-- What each object owes before each request.
use Rattle.std.proofs.Common.{◌≡◌, ℕ, zero, suc, ◌+◌, ◌*◌, ◌<◌, ◌≤◌, ◌∙◌, sym, ap, cond, List, length, arith, ⊎_elim, get_or, sum, slice_range}
use Rattle.std.proofs.lemmas.Bool.{cases_eq}
use Rattle.cache_model.specs.declared.objects.Object.{Object}
use Rattle.cache_model.specs.Claim.{same_object, request_at}
use Rattle.cache_model.specs.Objects.{IsNext}
use Rattle.cache_model.proofs.Duality.{same_object-true, same_object-refl}
use Rattle.cache_model.proofs.Pairs.{same_object-sym}
use Rattle.interval_ends.proofs.Tables.{sum-more, sum-none}

module _ (trace : List Object) (prices : List ℕ) (w : Object → ℕ) (debt : ℕ → ℕ) where
  -- what x owes before request n: the debt after its latest request, and its weight times the prices of the steps since
  unfoldable pub owes : ℕ → Object → ℕ
  owes zero x = 0
  owes (suc n) x = cond (same_object (request_at trace n) x) (debt n) (owes n x) + w x * get_or prices n 0

  -- before the next request it is what the interval owes
  pub owes-next : (a b : ℕ) → length prices ≡ length trace → IsNext trace a b
      → owes b (request_at trace b) ≡ debt a + w (request_at trace a) * sum (slice_range prices a b)
  unfolding owes
  owes-next a b same n =
      let here : request_at trace a ≡ request_at trace b = same_object-true (request_at trace a) (request_at trace b) n.same in
      ap (owes b) (sym here) ∙ since b n.before (omega arith)
    where
      since : (k : ℕ) → a < k → k ≤ b → owes k (request_at trace a) ≡ debt a + w (request_at trace a) * sum (slice_range prices a k)
      since zero low high = absurd (omega arith)
      since (suc k) low high =
          let y : Object = request_at trace a in
          let more : w y * sum (slice_range prices a (suc k)) ≡ w y * (sum (slice_range prices a k) + get_or prices k 0)
          = ap (λ m. w y * m) (sum-more prices a k (omega arith) (omega (arith, n.within))) in
          ⊎_elim
          (λ (e : k ≡ a).
          let own : owes (suc k) y ≡ debt a + w y * get_or prices k 0
          = ap (λ j. cond (same_object (request_at trace j) y) (debt j) (owes j y) + w y * get_or prices k 0) e
          ∙ ap (λ s. cond s (debt a) (owes a y) + w y * get_or prices k 0) (same_object-refl y) in
          omega (arith, own, more, ap (λ j. w y * sum (slice_range prices a j)) e, ap (λ m. w y * m) (sum-none prices a)))
          (λ (ne : k ≡ a → ⊥).
          let other : owes (suc k) y ≡ owes k y + w y * get_or prices k 0
          = ap (λ s. cond s (debt k) (owes k y) + w y * get_or prices k 0)
          (same_object-sym (request_at trace k) y ∙ n.others k (omega arith) (omega arith)) in
          omega (arith, other, more, since k (omega arith) (omega arith)))
          (cases_eq k a)
