-- The walk over a trace is the walk over the object's own requests.
use Rattle.std.proofs.Common.{◌≡◌, ℕ, zero, suc, ◌+◌, ◌*◌, ◌/◌, ◌∙◌, sym, refl, ap, add_assoc, Bool, true, false, cond, List, [], ◌∷◌, ◌++◌, arith, fold, map, slice_index_or}
use Rattle.cache_model.specs.declared.objects.Object.{Object}
use Rattle.cache_model.specs.Claim.{Terms, counts, gain_of, only_fills, request_at, same_object}
use Rattle.freshness.specs.Stale.{clock}
use Rattle.ttl_laws.specs.Runs.{Start, with_price, Walk, nothing_walked, walk, with_request, with_step}
use Rattle.ttl_walk.specs.declared.asked.Asked.{Asked}
use Rattle.ttl_walk.specs.Kept.{Kept, StandsFor}
use Rattle.ttl_walk.specs.Requests.{walk_on, walk_over, prices_since, requests_of}

-- one price after another is their sum
map-with_price : (a b : ℕ) (starts : List Start) → map (with_price b) (map (with_price a) starts) ≡ map (with_price (a + b)) starts
map-with_price a b [] = refl
map-with_price a b (s ∷ starts) =
    ap (λ p. record s { priced = p } ∷ map (with_price b) (map (with_price a) starts)) (add_assoc s.priced a b)
    ∙ ap (λ rest. with_price (a + b) s ∷ rest) (map-with_price a b starts)

pub with_step-with_step : (a b : ℕ) (w : Walk) → with_step b (with_step a w) ≡ with_step (a + b) w
with_step-with_step a b w = ap (λ starts. record w { starts = starts }) (map-with_price a b w.starts)

-- one request more
pub walk_over-append : (ttl : ℕ) (requests : List Asked) (asked : Asked)
    → walk_over ttl (requests ++ asked ∷ []) ≡ walk_on ttl (walk_over ttl requests) asked
walk_over-append ttl requests asked = at nothing_walked requests
  where
    at : (w : Walk) (requests : List Asked) → fold (walk_on ttl) w (requests ++ asked ∷ []) ≡ walk_on ttl (fold (walk_on ttl) w requests) asked
    at w [] = refl
    at w (a ∷ requests) = at (walk_on ttl w a) requests

module _ (terms : Terms) (unit denominator : ℕ) (trace : List Object) (times prices : List ℕ) (ttl : ℕ) (x : Object) where
  abbrev pub weight : ℕ
  weight = x.size / unit

  abbrev pub over : ℕ → Walk
  over n = walk_over ttl (requests_of terms unit denominator trace times prices n x)

  -- request t, if it is for x
  abbrev pub asked_at : ℕ → Asked
  asked_at t = record {
    clock = clock times t;
    fills = only_fills terms.fills t;
    gain = cond (counts terms t) (denominator * gain_of terms.objective x) 0;
    priced = weight * prices_since trace prices t x;
  }

  abbrev pub is : ℕ → Type 0
  is n = walk terms unit denominator trace times prices ttl n x ≡ with_step (weight * prices_since trace prices n x) (over n)

  pub walks : (n : ℕ) → is n
  walks zero = refl
  walks (suc t) = at (same_object (request_at trace t) x) (slice_index_or prices t 0) (prices_since trace prices t x)
      (asked_at t)
      refl (walk terms unit denominator trace times prices ttl t x) (requests_of terms unit denominator trace times prices t x) (walks t)
    where
      at : (b : Bool) (price since : ℕ) (asked : Asked) → asked.priced ≡ weight * since → (w : Walk) (requests : List Asked)
          → w ≡ with_step (weight * since) (walk_over ttl requests)
          → with_step (weight * price) (cond b (with_request asked.fills asked.clock ttl asked.gain w) w)
          ≡ with_step (weight * (cond b 0 since + price)) (walk_over ttl (cond b (requests ++ asked ∷ []) requests))
      at true price since asked priced w requests so =
          let gone : with_request asked.fills asked.clock ttl asked.gain w ≡ walk_over ttl (requests ++ asked ∷ [])
          = ap (with_request asked.fills asked.clock ttl asked.gain) (so ∙ ap (λ p. with_step p (walk_over ttl requests)) (sym priced))
          ∙ sym (walk_over-append ttl requests asked) in
          let none : weight * price ≡ weight * (0 + price) = omega arith in
          ap (with_step (weight * price)) gone ∙ ap (λ p. with_step p (walk_over ttl (requests ++ asked ∷ []))) none
      at false price since asked priced w requests so =
          let sum : weight * since + weight * price ≡ weight * (since + price) = omega arith in
          ap (with_step (weight * price)) so ∙ with_step-with_step (weight * since) (weight * price) (walk_over ttl requests)
          ∙ ap (λ p. with_step p (walk_over ttl requests)) sum

  -- so what stands for the walk over its requests has its greatest worth
  pub stands-top : (n : ℕ) (k : Kept) → StandsFor k (over n) → k.top ≡ (walk terms unit denominator trace times prices ttl n x).top
  stands-top n k stands = stands.top ∙ sym (ap (λ (w : Walk). w.top) (walks n))

  -- a request for another object changes nothing, and one for it is walked
  pub over-other : (t : ℕ) → same_object (request_at trace t) x ≡ false → over (suc t) ≡ over t
  over-other t other =
      let before : List Asked = requests_of terms unit denominator trace times prices t x in
      ap (λ b. walk_over ttl (cond b (before ++ asked_at t ∷ []) before)) other

  pub over-own : (t : ℕ) → same_object (request_at trace t) x ≡ true → over (suc t) ≡ walk_on ttl (over t) (asked_at t)
  over-own t same =
      let before : List Asked = requests_of terms unit denominator trace times prices t x in
      ap (λ b. walk_over ttl (cond b (before ++ asked_at t ∷ []) before)) same ∙ walk_over-append ttl before (asked_at t)
