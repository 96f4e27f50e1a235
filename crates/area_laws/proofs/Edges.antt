-- The bound of an edge in hits and in bytes, and as that of one price.
use Rattle.std.proofs.Common.{◌≡◌, ℕ, ◌+◌, ◌-◌, ◌*◌, ◌/◌, ◌<◌, ◌≤◌, ◌∙◌, sym, refl, ap, List, [], ◌∷◌, ◌++◌, length, arith, sum, sum_by, replicate, take, drop, slice_range, All}
use Rattle.std.proofs.Math.Nat.{mul-sub}
use Rattle.std.proofs.lemmas.List.{drop-append-le, take-append-le, drop-replicate, take-replicate, length-replicate}
use Rattle.std.proofs.lemmas.List.Elements.{All-head, All-tail, All-weaker}
use Rattle.std.proofs.lemmas.List.Folds.{sum_by-replicate}
use Rattle.std.proofs.lemmas.List.Sums.{sum_by-cons, sum_by-append}
use Rattle.cache_model.specs.declared.objects.Object.{Object}
use Rattle.cache_model.specs.declared.objects.Objective.{Objective}
use Rattle.cache_model.specs.declared.objects.Objective.TheVariants.{Object as Hits, Bytes}
use Rattle.cache_model.specs.declared.intervals.Interval.{Interval}
use Rattle.cache_model.specs.Claim.{Terms, gain_of, request_at}
use Rattle.cache_model.specs.Intervals.{eligible_intervals, surplus}
use Rattle.cache_model.specs.Laws.{IsEligible}
use Rattle.cache_model.specs.Objects.{IsNext}
use Rattle.cache_model.proofs.Duality.{same_object-true}
use Rattle.cache_model.proofs.Members.{All-eligible_intervals}
use Rattle.area_laws.specs.Areas.{length_of, area_of, area_surplus, cache_area}
use Rattle.area_laws.specs.Laws.{EdgeInHits, EdgeInBytes, EdgeIsOnePrice}

-- two sums whose terms agree at each member
sum_by-members : (f g : Interval → ℕ) (intervals : List Interval)
    → All (λ i. f i ≡ g i) intervals → sum_by f intervals ≡ sum_by g intervals
sum_by-members f g [] each = refl
sum_by-members f g (i ∷ intervals) each =
    omega (
      arith,
      sum_by-cons f i intervals,
      sum_by-cons g i intervals,
      All-head (λ i. f i ≡ g i) i intervals each,
      sum_by-members f g intervals (All-tail (λ i. f i ≡ g i) i intervals each),
    )

-- the same at each eligible interval
sum_by-eligible : (f g : Interval → ℕ) (terms : Terms) (trace : List Object)
    → ((i : Interval) → IsEligible terms trace i → f i ≡ g i)
    → sum_by f (eligible_intervals terms trace) ≡ sum_by g (eligible_intervals terms trace)
sum_by-eligible f g terms trace each =
    sum_by-members f g (eligible_intervals terms trace)
    (All-weaker (IsEligible terms trace) (λ i. f i ≡ g i) each
    (eligible_intervals terms trace) (All-eligible_intervals terms trace))

-- what an eligible interval gains
gain-eligible : (terms : Terms) (o : Objective) (trace : List Object) (i : Interval)
    → terms.objective ≡ o → IsEligible terms trace i → i.gain ≡ gain_of o (request_at trace i.end)
gain-eligible terms o trace i asked e =
    ap (λ (j : Interval). j.gain) e.numbers ∙ ap (λ p. gain_of p (request_at trace i.end)) asked

-- a hit gains one
pub edge_in_hits : EdgeInHits
edge_in_hits terms delay edge trace asked =
    ap (λ n. cache_area terms.capacity trace + n)
    (sum_by-eligible (area_surplus delay edge) (λ i. edge - area_of delay i) terms trace
    (λ i e. omega (arith, ap (λ n. edge * n) (gain-eligible terms Hits trace i asked e))))

-- or the bytes of the object
pub edge_in_bytes : EdgeInBytes
edge_in_bytes terms delay edge trace asked =
    ap (λ n. cache_area terms.capacity trace + n)
    (sum_by-eligible (area_surplus delay edge) (λ i. i.size * (edge - length_of delay i)) terms trace
    (λ i e.
    let next : IsNext trace i.start i.end = e.next in
    let same : request_at trace i.start ≡ request_at trace i.end =
    same_object-true (request_at trace i.start) (request_at trace i.end) next.same in
    let sized : i.size ≡ (request_at trace i.start).size = ap (λ (j : Interval). j.size) e.numbers in
    let gained : i.gain ≡ i.size =
    gain-eligible terms Bytes trace i asked e ∙ ap (λ (x : Object). x.size) (sym same) ∙ sym sized in
    omega (arith, ap (λ n. edge * n) gained, mul-sub i.size edge (length_of delay i))))

-- one price for each of n steps, and 0 for the last
abbrev prices : ℕ → ℕ → List ℕ
prices price n = replicate n price ++ 0 ∷ []

sum-prices : (price n : ℕ) → sum (prices price n) ≡ n * price
sum-prices price n =
    omega (
      arith,
      sum_by-append (λ (x : ℕ). x) (replicate n price) (0 ∷ []),
      sum_by-replicate (λ (x : ℕ). x) n price,
    )

-- the prices of steps before the last
sum-prices_range : (price n a b : ℕ) → a < b → b ≤ n → sum (slice_range (prices price n) a b) ≡ (b - a) * price
sum-prices_range price n a b order within =
    let long : length (replicate n price) ≡ n = length-replicate n price in
    let rest : drop a (prices price n) ≡ prices price (n - a) =
    drop-append-le a (replicate n price) (0 ∷ []) (omega arith) ∙ ap (λ xs. xs ++ 0 ∷ []) (drop-replicate a n price) in
    let short : length (replicate (n - a) price) ≡ n - a = length-replicate (n - a) price in
    let prefix : take (b - a) (prices price (n - a)) ≡ replicate (b - a) price =
    take-append-le (b - a) (replicate (n - a) price) (0 ∷ []) (omega arith)
    ∙ take-replicate (b - a) (n - a) price (omega arith) in
    ap (λ xs. sum (take (b - a) xs)) rest ∙ ap sum prefix ∙ sum_by-replicate (λ (x : ℕ). x) (b - a) price

-- what an interval pays at the price 1 is its area
paid-ones : (n : ℕ) (i : Interval) → i.start < i.end → i.end ≤ n
    → i.size / 1 * sum (slice_range (prices 1 n) i.start i.end) ≡ area_of 0 i
paid-ones n i order within =
    let paid : sum (slice_range (prices 1 n) i.start i.end) ≡ i.end - i.start - 0 =
    omega (arith, sum-prices_range 1 n i.start i.end order within) in
    let whole : i.size / 1 ≡ i.size = omega arith in
    ap (λ s. s * sum (slice_range (prices 1 n) i.start i.end)) whole ∙ ap (λ s. i.size * s) paid

pub edge_is_one_price : EdgeIsOnePrice
edge_is_one_price terms edge first later =
    let trace : List Object = first ∷ later in
    let n : ℕ = length later in
    let steps : length (first ∷ later) - 1 ≡ n = omega arith in
    let each : sum_by (area_surplus 0 edge) (eligible_intervals terms trace)
    ≡ sum_by (surplus 1 edge (prices 1 n)) (eligible_intervals terms trace) =
    sum_by-eligible (area_surplus 0 edge) (surplus 1 edge (prices 1 n)) terms trace
    (λ i e.
    let next : IsNext trace i.start i.end = e.next in
    let within : i.end < length (first ∷ later) = next.within in
    ap (λ s. edge * i.gain - s) (sym (paid-ones n i next.before (omega arith)))) in
    let total : sum (prices 1 n) ≡ n = omega (arith, sum-prices 1 n) in
    omega (arith, each, ap (λ s. terms.capacity * s) steps, ap (λ s. terms.capacity * s) total)
