-- Each run of an object is worth no more than the surpluses of its intervals: so a ttl bounds no worse than none.
use Rattle.std.proofs.Common.{◌≡◌, ℕ, zero, suc, ◌+◌, ◌*◌, ◌<◌, ◌≤◌, ◌⊎◌, inl, inr, ◌∙◌, sym, refl, ap, subst, Bool, true, false, cond, nat_le, List, [], length, arith, ⊎_elim, get_or, map, filter, sum, sum_by}
use Rattle.std.specs.List.{AllByRecursion}
use Rattle.std.proofs.lemmas.Bool.{leb-true}
use Rattle.std.proofs.lemmas.List.Sums.{sum_by-cons, sum_by-le-sum_by}
use Rattle.cache_model.specs.declared.objects.Object.{Object}
use Rattle.cache_model.specs.declared.intervals.Interval.{Interval}
use Rattle.cache_model.specs.Claim.{Terms, counts, gain_of, only_fills, request_at, same_object}
use Rattle.cache_model.specs.Objects.{IsFirst, IsNext, numbers_of, objects_of}
use Rattle.cache_model.specs.Intervals.{eligible_intervals, interval_of, surplus}
use Rattle.cache_model.proofs.Duality.{same_object-true}
use Rattle.cache_model.proofs.Pairs.{same_object-sym, weight_of}
use Rattle.cache_model.proofs.Scores.{first_or_next}
use Rattle.freshness.specs.Stale.{clock}
use Rattle.ttl_laws.specs.Runs.{Start, worth, with_gain, with_price, Walk, going_on, with_request, with_step, walk, greatest_worth}
use Rattle.ttl_laws.specs.Laws.{TtlBoundsNoWorse}
use Rattle.ttl_laws.proofs.Starts.{greatest-le}
use Rattle.ttl_laws.proofs.Objects.{all-filter, all-map, asked-only}
use Rattle.interval_ends.specs.Ends.{eligible_to}
use Rattle.interval_ends.proofs.Ends.{next_ends_alone, sums_by_ends}
use Rattle.interval_ends.proofs.Owing.{owes, owes-next}
use Rattle.ttl_laws.proofs.Within.{so_far, sum_by-so_far}

-- a start whose run is worth no more than the sum, even if the pending prices were paid back
abbrev IsBelow : ℕ → ℕ → Start → Type 0
IsBelow due sum s = s.before + s.earned + due ≤ sum + s.priced

module _ (due sum gain more : ℕ) (fills : Bool) (now ttl : ℕ) (w : Walk) (enough : (w.starts ≡ []) ⊎ (gain ≤ due + more))
    (low : w.top ≤ sum) (below : AllByRecursion (IsBelow due sum) w.starts) where
  abbrev after : Walk
  after = with_request fills now ttl gain w

  -- after a request nothing is pending, and the sum has its surplus
  pub request-below : AllByRecursion (IsBelow 0 (sum + more)) after.starts
  request-below = (omega (arith, low), at fills enough)
    where
      at : (f : Bool) → (w.starts ≡ []) ⊎ (gain ≤ due + more) → AllByRecursion (IsBelow 0 (sum + more)) (going_on f now ttl gain w.starts)
      at true can = tt
      at false (inl none) =
          subst (λ starts. AllByRecursion (IsBelow 0 (sum + more)) (map (with_gain gain) (filter (λ s. nat_le now (s.clock + ttl)) starts))) (sym none) tt
      at false (inr gained) =
          all-map (IsBelow due sum) (IsBelow 0 (sum + more)) (with_gain gain) (filter (λ s. nat_le now (s.clock + ttl)) w.starts)
          (λ s so. omega (arith, so, gained))
          (all-filter (IsBelow due sum) (λ s. nat_le now (s.clock + ttl)) w.starts below)

  pub request-low : after.top ≤ sum + more
  request-low =
      greatest-le 0 (sum + more) (map worth after.starts) (omega arith)
      (all-map (IsBelow 0 (sum + more)) (λ n. n ≤ sum + more) worth after.starts (λ s so. omega (arith, so)) request-below)

module _ (terms : Terms) (unit d : ℕ) (trace : List Object) (times prices : List ℕ) (ttl : ℕ)
    (same : length prices ≡ length trace) where
  abbrev walked : ℕ → Object → Walk
  walked t x = walk terms unit d trace times prices ttl t x

  -- the weight of an object times the prices of the steps since its latest request
  abbrev due : ℕ → Object → ℕ
  due t x = owes trace prices (weight_of unit) (λ t. 0) t x

  abbrev gain : ℕ → Object → ℕ
  gain t x = cond (counts terms t) (d * gain_of terms.objective x) 0

  -- the surpluses of the intervals that end at request t, and those of x
  abbrev surplus_at : ℕ → ℕ
  surplus_at t = sum_by (surplus unit d prices) (eligible_to terms trace t)

  abbrev surplus_of : Object → ℕ → ℕ
  surplus_of x t = cond (same_object (request_at trace t) x) (surplus_at t) 0

  -- an interval that ends at a request gains no more than its prices and its surplus
  gain-le : (a t : ℕ) → IsNext trace a t → (request_at trace t).size ≤ terms.capacity
      → gain t (request_at trace t) ≤ due t (request_at trace t) + surplus_at t
  gain-le a t next fits = at (counts terms t) refl
    where
      own : request_at trace a ≡ request_at trace t
      own = same_object-true (request_at trace a) (request_at trace t) next.same

      at : (b : Bool) → counts terms t ≡ b → cond b (d * gain_of terms.objective (request_at trace t)) 0 ≤ due t (request_at trace t) + surplus_at t
      at false e = omega arith
      at true e =
          let i : Interval = interval_of terms.objective trace a t in
          omega (
            arith,
            owes-next trace prices (weight_of unit) (λ t. 0) a t same next,
            ap (sum_by (surplus unit d prices)) (next_ends_alone terms trace a t next (omega (arith, fits, ap (λ (y : Object). y.size) own)) e),
            sum_by-cons (surplus unit d prices) i [],
          )

  -- no run has started before the first request
  none_started : (n : ℕ) (x : Object) → ((k : ℕ) → k < n → same_object (request_at trace k) x ≡ false) → (walked n x).starts ≡ []
  none_started zero x none = refl
  none_started (suc t) x none =
      let asked : Walk = with_request (only_fills terms.fills t) (clock times t) ttl (gain t x) (walked t x) in
      ap (λ b. (with_step (weight_of unit x * get_or prices t 0) (cond b asked (walked t x))).starts) (none t (omega arith))
      ∙ ap (map (with_price (weight_of unit x * get_or prices t 0))) (none_started t x (λ k low. none k (omega arith)))

  abbrev IsLow : ℕ → Object → Type 0
  IsLow n x = ((walked n x).top ≤ so_far (surplus_of x) n) × AllByRecursion (IsBelow (due n x) (so_far (surplus_of x) n)) (walked n x).starts

  step : (t : ℕ) (x : Object) → t < length trace → x.size ≤ terms.capacity → IsLow t x → IsLow (suc t) x
  unfolding owes
  step t x within fits low = at (same_object (request_at trace t) x) refl
    where
      asked : Walk
      asked = with_request (only_fills terms.fills t) (clock times t) ttl (gain t x) (walked t x)

      price : ℕ
      price = weight_of unit x * get_or prices t 0

      priced : (pending sum : ℕ) (starts : List Start) → AllByRecursion (IsBelow pending sum) starts
          → AllByRecursion (IsBelow (pending + price) sum) (map (with_price price) starts)
      priced pending sum starts =
          all-map (IsBelow pending sum) (IsBelow (pending + price) sum) (with_price price) starts (λ s so. omega (arith, so))

      enough : same_object (request_at trace t) x ≡ true → ((walked t x).starts ≡ []) ⊎ (gain t x ≤ due t x + surplus_at t)
      enough own =
          let here : request_at trace t ≡ x = same_object-true (request_at trace t) x own in
          ⊎_elim
          (λ (first : IsFirst trace t).
          inl (none_started t x (λ k early.
          same_object-sym (request_at trace k) x ∙ ap (λ y. same_object y (request_at trace k)) (sym here) ∙ first k early)))
          (λ (found : (a : ℕ) × IsNext trace a t).
          let gained : gain t (request_at trace t) ≤ due t (request_at trace t) + surplus_at t
          = gain-le found.0 t found.1 (omega (arith, fits, ap (λ (y : Object). y.size) here)) in
          inr (omega (arith, gained, ap (gain t) here, ap (due t) here)))
          (first_or_next trace t within)

      at : (b : Bool) → same_object (request_at trace t) x ≡ b
          → ((cond b asked (walked t x)).top ≤ so_far (surplus_of x) t + cond b (surplus_at t) 0)
          × AllByRecursion (IsBelow (cond b 0 (due t x) + weight_of unit x * get_or prices t 0) (so_far (surplus_of x) t + cond b (surplus_at t) 0))
          (map (with_price (weight_of unit x * get_or prices t 0)) (cond b asked (walked t x)).starts)
      at true e = (
        request-low (due t x) (so_far (surplus_of x) t) (gain t x) (surplus_at t) (only_fills terms.fills t) (clock times t) ttl (walked t x) (enough e) low.0 low.1,
        priced 0 (so_far (surplus_of x) t + surplus_at t) asked.starts
            (request-below (due t x) (so_far (surplus_of x) t) (gain t x) (surplus_at t) (only_fills terms.fills t) (clock times t) ttl (walked t x) (enough e) low.0 low.1),
      )
      at false e = (
        omega (arith, low.0),
        all-map (IsBelow (due t x) (so_far (surplus_of x) t))
            (IsBelow (due t x + weight_of unit x * get_or prices t 0) (so_far (surplus_of x) t + 0))
            (with_price (weight_of unit x * get_or prices t 0)) (walked t x).starts (λ s so. omega (arith, so)) low.1,
      )

  all_low : (n : ℕ) (x : Object) → n ≤ length trace → x.size ≤ terms.capacity → IsLow n x
  all_low zero x within fits = (omega arith, tt)
  all_low (suc t) x within fits = step t x (omega arith) fits (all_low t x (omega arith) fits)

  -- the greatest worth of an object is within the surpluses of its intervals
  worth-le : (x : Object) → greatest_worth terms unit d trace times prices ttl x ≤ so_far (surplus_of x) (length trace)
  worth-le x = at (nat_le x.size terms.capacity) refl
    where
      at : (b : Bool) → nat_le x.size terms.capacity ≡ b → cond b (walked (length trace) x).top 0 ≤ so_far (surplus_of x) (length trace)
      at true e = (all_low (length trace) x (omega arith) (leb-true x.size terms.capacity e)).0
      at false e = omega arith

  pub worths-le : sum_by (greatest_worth terms unit d trace times prices ttl) (objects_of trace)
      ≤ sum_by (surplus unit d prices) (eligible_intervals terms trace)
  worths-le =
      let n : ℕ = length trace in
      omega (
        arith,
        sum_by-le-sum_by (greatest_worth terms unit d trace times prices ttl) (λ x. so_far (surplus_of x) n) (objects_of trace) worth-le,
        sum_by-so_far surplus_of (objects_of trace) n,
        sum_by-le-sum_by (λ t. sum_by (λ x. surplus_of x t) (objects_of trace)) surplus_at (numbers_of trace)
            (λ t. asked-only trace (λ x. surplus_at t) t),
        sums_by_ends (surplus unit d prices) terms trace,
      )

pub ttl_bounds_no_worse : TtlBoundsNoWorse
ttl_bounds_no_worse terms unit d trace times prices ttl same =
    omega (arith, worths-le terms unit d trace times prices ttl same)
