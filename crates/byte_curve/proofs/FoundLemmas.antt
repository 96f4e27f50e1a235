-- One more request of the pass: the hits found for each capacity, and their sums.
use Rattle.std.proofs.Common.{◌≡◌, ℕ, zero, suc, ◌+◌, ◌-◌, ◌^◌, ◌<◌, ◌≤◌, ◌∙◌, sym, refl, ap, subst, ⊎_elim, Bool, true, false, ◌&&◌, cond, ltb, leb, List, [], ◌∷◌, length, take, set, get_or, replicate, arith, sum_by}
use Rattle.std.proofs.lemmas.Bool.{cases_lt, and_left, and_right, le-ltb, lt-ltb, le-leb, lt-leb}
use Rattle.std.proofs.lemmas.List.{length-set, length-replicate, get_or-set_same, get_or-set_other}
use Rattle.std.proofs.lemmas.List.Sums.{sum_by-cons, sum_by-set, sum_by-take-le, sum_by_more, get_or-le-sum_by}
use Rattle.cache_model.specs.declared.objects.Object.{Object}
use Rattle.cache_model.specs.Claim.{counts_past, request_at}
use Rattle.cache_model.proofs.Pairs.{ltb-suc}
use Rattle.byte_curve.specs.declared.pass.Hits.{Hits}
use Rattle.byte_curve.specs.Counts.{AreFound, no_hits, plus, hits_to, bytes_to}
use Rattle.byte_curve.specs.Curves.{AreHits}
use Rattle.byte_curve.specs.Distances.{is_hit, is_counted_hit}
use Rattle.byte_curve.proofs.LruBytes.{sum-more}

-- one place has more
sum_take-raised : (f : Hits → ℕ) (found : List Hits) (d k extra : ℕ) (new : Hits) → d < length found → f new ≡ f (get_or found d no_hits) + extra
    → sum_by f (take k (set found d new)) ≡ sum_by f (take k found) + cond (ltb d k) extra 0
sum_take-raised f [] d k extra new within more = absurd (omega arith)
sum_take-raised f (c ∷ cs) d zero extra new within more = omega (arith, ap {B = ℕ} (λ b. cond b extra 0) (le-ltb d 0 (omega arith)))
sum_take-raised f (c ∷ cs) zero (suc k) extra new within more =
    omega (arith, sum_by-cons f new (take k cs), sum_by-cons f c (take k cs), ap {B = ℕ} (λ b. cond b extra 0) (lt-ltb 0 (suc k) (omega arith)))
sum_take-raised f (c ∷ cs) (suc d) (suc k) extra new within more =
    omega (
      arith,
      sum_by-cons f c (take k (set cs d new)),
      sum_by-cons f c (take k cs),
      sum_take-raised f cs d k extra new (omega arith) more,
      ap {B = ℕ} (λ b. cond b extra 0) (ltb-suc d k),
    )

sum_none : (f : Hits → ℕ) → f no_hits ≡ 0 → (n : ℕ) → sum_by f (replicate n no_hits) ≡ 0
sum_none f none zero = refl
sum_none f none (suc n) = omega (arith, none, sum_by-cons f no_hits (replicate n no_hits), sum_none f none n)

module _ (trace : List Object) (fills : List Bool) (warmup : ℕ) (capacities : List ℕ) where
  -- nothing is found before the first request
  pub found-start : (found : List Hits) (n : ℕ) → n ≡ length capacities → found ≡ replicate n no_hits → AreFound trace fills warmup capacities 0 found
  found-start found n all none =
      let hits : sum_by (λ (h : Hits). h.hits) found ≡ 0 = ap (sum_by (λ (h : Hits). h.hits)) none ∙ sum_none (λ h. h.hits) refl n in
      let bytes : sum_by (λ (h : Hits). h.bytes) found ≡ 0 = ap (sum_by (λ (h : Hits). h.bytes)) none ∙ sum_none (λ h. h.bytes) refl n in
      record {
        places = ap length none ∙ length-replicate n no_hits ∙ all;
        hits = λ k low. omega (arith, hits, sum_by-take-le (λ (h : Hits). h.hits) found (k + 1));
        bytes = λ k low. omega (arith, bytes, sum_by-take-le (λ (h : Hits). h.bytes) found (k + 1));
        few_hits = omega (arith, hits);
        few_bytes = omega (arith, bytes);
      }

  module _ (t : ℕ) where
    -- a request that is no hit at any of the capacities
    pub found-none : (found : List Hits) → ((k : ℕ) → k < length capacities → is_counted_hit (get_or capacities k 0) warmup trace fills t ≡ false)
        → AreFound trace fills warmup capacities t found → AreFound trace fills warmup capacities (t + 1) found
    found-none found none so_far = record {
      places = so_far.places;
      hits = λ k low.
          let hit : ℕ → ℕ = λ u. cond (is_counted_hit (get_or capacities k 0) warmup trace fills u) 1 0 in
          omega (arith, so_far.hits k low, sum-more hit t, ap {B = ℕ} (λ b. cond b 1 0) (none k low));
      bytes = λ k low.
          let size : ℕ → ℕ = λ u. cond (is_counted_hit (get_or capacities k 0) warmup trace fills u) (request_at trace u).size 0 in
          omega (arith, so_far.bytes k low, sum-more size t, ap {B = ℕ} (λ b. cond b (request_at trace t).size 0) (none k low));
      few_hits = omega (arith, so_far.few_hits);
      few_bytes = omega (arith, so_far.few_bytes);
    }

    -- a request that is a hit from one of them on
    pub found-some : (found : List Hits) (place size : ℕ) (new : Hits) → place < length capacities → size ≡ (request_at trace t).size → size ≤ 2 ^ 48
        → new ≡ plus (get_or found place no_hits) (record { hits = 1; bytes = size })
        → ((k : ℕ) → k < length capacities → is_counted_hit (get_or capacities k 0) warmup trace fills t ≡ ltb place (k + 1))
        → AreFound trace fills warmup capacities t found → AreFound trace fills warmup capacities (t + 1) (set found place new)
    found-some found place size new within own small more hits so_far =
        let long : length found ≡ length capacities = so_far.places in
        let one : new.hits ≡ (get_or found place no_hits).hits + 1 = ap (λ (h : Hits). h.hits) more in
        let sized : new.bytes ≡ (get_or found place no_hits).bytes + size = ap (λ (h : Hits). h.bytes) more in
        record {
          places = length-set found place new ∙ long;
          hits = λ k low.
              let hit : ℕ → ℕ = λ u. cond (is_counted_hit (get_or capacities k 0) warmup trace fills u) 1 0 in
              omega (
                arith,
                so_far.hits k low,
                sum-more hit t,
                ap {B = ℕ} (λ b. cond b 1 0) (hits k low),
                sum_take-raised (λ h. h.hits) found place (k + 1) 1 new (omega arith) one,
              );
          bytes = λ k low.
              let bytes : ℕ → ℕ = λ u. cond (is_counted_hit (get_or capacities k 0) warmup trace fills u) (request_at trace u).size 0 in
              omega (
                arith,
                so_far.bytes k low,
                sum-more bytes t,
                ap {B = ℕ} (λ b. cond b (request_at trace t).size 0) (hits k low),
                ap {B = ℕ} (λ s. cond (ltb place (k + 1)) s 0) own,
                sum_take-raised (λ h. h.bytes) found place (k + 1) size new (omega arith) sized,
              );
          few_hits = omega (arith, so_far.few_hits, one, sum_by-set (λ (h : Hits). h.hits) found place new no_hits (omega arith));
          few_bytes = omega (arith, so_far.few_bytes, sized, sum_by-set (λ (h : Hits). h.bytes) found place new no_hits (omega arith));
        }

    -- the sums fit
    pub found-fits : (found : List Hits) (place size : ℕ) → place < length capacities → t < 2 ^ 25 → size ≤ 2 ^ 48 → AreFound trace fills warmup capacities t found
        → ((get_or found place no_hits).hits + 1 < 2 ^ 64) × ((get_or found place no_hits).bytes + size < 2 ^ 128)
    found-fits found place size within few small so_far =
        let long : length found ≡ length capacities = so_far.places in (
          omega (arith, so_far.few_hits, get_or-le-sum_by (λ (h : Hits). h.hits) found place no_hits (omega arith)),
          omega (arith, so_far.few_bytes, get_or-le-sum_by (λ (h : Hits). h.bytes) found place no_hits (omega arith)),
        )

    -- which capacities a distance is within
    pub hits-from : (place distance : ℕ) → counts_past warmup fills t ≡ true
        → ((k : ℕ) → k < length capacities → is_hit (get_or capacities k 0) trace t ≡ leb distance (get_or capacities k 0))
        → ((k : ℕ) → k < place → get_or capacities k 0 < distance)
        → ((k : ℕ) → place ≤ k → k < length capacities → distance ≤ get_or capacities k 0)
        → (k : ℕ) → k < length capacities → is_counted_hit (get_or capacities k 0) warmup trace fills t ≡ ltb place (k + 1)
    hits-from place distance counts hit below above k low =
        ap (λ b. b && is_hit (get_or capacities k 0) trace t) counts
        ∙ hit k low
        ∙ ⊎_elim
        (λ (less : k < place). lt-leb distance (get_or capacities k 0) (below k less) ∙ sym (le-ltb place (k + 1) (omega arith)))
        (λ (more : place ≤ k). le-leb distance (get_or capacities k 0) (above k more low) ∙ sym (lt-ltb place (k + 1) (omega arith)))
        (cases_lt k place)

    pub hits-uncounted : counts_past warmup fills t ≡ false → (k : ℕ) → k < length capacities → is_counted_hit (get_or capacities k 0) warmup trace fills t ≡ false
    hits-uncounted none k low = and_left (counts_past warmup fills t) (is_hit (get_or capacities k 0) trace t) none

    pub hits-missed : ((k : ℕ) → k < length capacities → is_hit (get_or capacities k 0) trace t ≡ false) → (k : ℕ) → k < length capacities → is_counted_hit (get_or capacities k 0) warmup trace fills t ≡ false
    hits-missed none k low = and_right (counts_past warmup fills t) (is_hit (get_or capacities k 0) trace t) (none k low)

-- the hits found for each capacity become the sums of those up to it
pub record IsSummed (found sums : List Hits) (k : ℕ) : Type 0 where
  pub places : length sums ≡ length found
  pub hits : (j : ℕ) → j < k → j < length found → (get_or sums j no_hits).hits ≡ hits_to found j
  pub bytes : (j : ℕ) → j < k → j < length found → (get_or sums j no_hits).bytes ≡ bytes_to found j
  pub after : (j : ℕ) → k ≤ j → get_or sums j no_hits ≡ get_or found j no_hits

first-sum : (f : Hits → ℕ) (found : List Hits) (j : ℕ) → j < 1 → j < length found → f (get_or found j no_hits) ≡ sum_by f (take (j + 1) found)
first-sum f found j low within = let e : j ≡ 0 = omega arith in rw e (omega (arith, sum_by_more f found 0 no_hits (omega arith)))

pub summed-start : (found : List Hits) → IsSummed found found 1
summed-start found = record {
  places = refl;
  hits = λ j low within. first-sum (λ h. h.hits) found j low within;
  bytes = λ j low within. first-sum (λ h. h.bytes) found j low within;
  after = λ j low. refl;
}

next-sum : (f : Hits → ℕ) (found sums : List Hits) (k : ℕ) → 1 ≤ k → k < length found → get_or sums k no_hits ≡ get_or found k no_hits → f (get_or sums (k - 1) no_hits) ≡ sum_by f (take (k - 1 + 1) found)
    → f (get_or sums k no_hits) + f (get_or sums (k - 1) no_hits) ≡ sum_by f (take (k + 1) found)
next-sum f found sums k low within same before =
    let e : k - 1 + 1 ≡ k = omega arith in
    omega (arith, ap f same, before, ap (λ n. sum_by f (take n found)) e, sum_by_more f found k no_hits within)

module _ (found sums : List Hits) (k : ℕ) (low : 1 ≤ k) (within : k < length found) (so_far : IsSummed found sums k) where
  next-hits : (get_or sums k no_hits).hits + (get_or sums (k - 1) no_hits).hits ≡ hits_to found k
  next-hits = next-sum (λ h. h.hits) found sums k low within (so_far.after k (omega arith)) (so_far.hits (k - 1) (omega arith) (omega arith))

  next-bytes : (get_or sums k no_hits).bytes + (get_or sums (k - 1) no_hits).bytes ≡ bytes_to found k
  next-bytes = next-sum (λ h. h.bytes) found sums k low within (so_far.after k (omega arith)) (so_far.bytes (k - 1) (omega arith) (omega arith))

  pub summed-fits : sum_by (λ h. h.hits) found < 2 ^ 64 → sum_by (λ h. h.bytes) found < 2 ^ 128
      → ((get_or sums k no_hits).hits + (get_or sums (k - 1) no_hits).hits < 2 ^ 64) × ((get_or sums k no_hits).bytes + (get_or sums (k - 1) no_hits).bytes < 2 ^ 128)
  summed-fits hits bytes =
      (omega (arith, next-hits, sum_by-take-le (λ (h : Hits). h.hits) found (k + 1)), omega (arith, next-bytes, sum_by-take-le (λ (h : Hits). h.bytes) found (k + 1)))

  pub summed-next : (new : Hits) → new ≡ plus (get_or sums k no_hits) (get_or sums (k - 1) no_hits) → IsSummed found (set sums k new) (k + 1)
  summed-next new is = record {
    places = length-set sums k new ∙ so_far.places;
    hits = λ j less inside. at (λ h. h.hits) (hits_to found) (λ i early. so_far.hits i early) (ap (λ (h : Hits). h.hits) is ∙ next-hits) j less inside;
    bytes = λ j less inside. at (λ h. h.bytes) (bytes_to found) (λ i early. so_far.bytes i early) (ap (λ (h : Hits). h.bytes) is ∙ next-bytes) j less inside;
    after = λ j more. get_or-set_other sums k j new no_hits (omega arith) ∙ so_far.after j (omega arith);
  }
    where
      at : (f : Hits → ℕ) (total : ℕ → ℕ) → ((i : ℕ) → i < k → i < length found → f (get_or sums i no_hits) ≡ total i) → f new ≡ total k
          → (j : ℕ) → j < k + 1 → j < length found → f (get_or (set sums k new) j no_hits) ≡ total j
      at f total before here j less inside =
          ⊎_elim
          (λ (early : j < k). ap f (get_or-set_other sums k j new no_hits (omega arith)) ∙ before j early inside)
          (λ (late : k ≤ j). let e : k ≡ j = omega arith in
          subst (λ i. f (get_or (set sums k new) i no_hits) ≡ total i) e (ap f (get_or-set_same sums k new no_hits (omega (arith, so_far.places))) ∙ here))
          (cases_lt j k)

-- after the last request
module _ (trace : List Object) (fills : List Bool) (warmup : ℕ) (capacities : List ℕ) where
  -- the sums of what was found are the hits
  pub are-hits : (found hits : List Hits) → AreFound trace fills warmup capacities (length trace) found → length hits ≡ length found
      → ((k : ℕ) → k < length found → (get_or hits k no_hits).hits ≡ hits_to found k)
      → ((k : ℕ) → k < length found → (get_or hits k no_hits).bytes ≡ bytes_to found k)
      → AreHits trace fills warmup capacities hits
  are-hits found hits are long summed_hits summed_bytes = record {
    places = long ∙ are.places;
    hits = λ k low. summed_hits k (omega (arith, are.places)) ∙ are.hits k low;
    bytes = λ k low. summed_bytes k (omega (arith, are.places)) ∙ are.bytes k low;
  }
