-- A fractional schedule is worth at most the bound of any prices, over any two denominators.
use Rattle.std.proofs.Common.{◌≡◌, ℕ, ◌+◌, ◌-◌, ◌*◌, ◌/◌, ◌<◌, ◌≤◌, ◌∙◌, sym, refl, ap, Bool, cond, List, [], ◌∷◌, length, arith, ⊎_elim, sum, sum_by, zip, get_or, slice_range}
use Rattle.std.specs.List.{range_with_len, AllZip}
use Rattle.std.proofs.Math.Nat.{mul-le-mul_left, mul-le-mul_right, div-mul-le_self}
use Rattle.std.proofs.lemmas.Bool.{cases_lt}
use Rattle.std.proofs.lemmas.List.Sums.{sum_by-cons}
use Rattle.cache_model.specs.declared.intervals.Interval.{Interval}
use Rattle.cache_model.specs.Intervals.{surplus, bound_of}
use Rattle.cache_model.specs.Units.{weight}
use Rattle.cache_model.specs.Schedules.{covers, load_at, IsFractionalSchedule, flow_value}
use Rattle.cache_model.proofs.Sums.{sum_by-nothing, sum_by-agree}
use Rattle.cache_model.proofs.Ranges.{within, priced, range_sum, sum_by-add, sum_by-times, cond-mul, loads_paid}

-- what each flow pays for its room is what each step is paid for its load
abbrev pub paid_by_intervals : List Interval → List ℕ → List ℕ → ℕ
paid_by_intervals intervals flows prices = sum_by (λ (i, f). f * sum (slice_range prices i.start i.end)) (zip intervals flows)

pub paid_by_steps : (intervals : List Interval) (flows prices : List ℕ)
    → paid_by_intervals intervals flows prices ≡ sum_by (λ t. load_at intervals flows t * get_or prices t 0) (range_with_len 0 (length prices))
paid_by_steps [] flows prices = sym (sum_by-nothing (λ t. 0 * get_or prices t 0) (range_with_len 0 (length prices)) (λ t. omega arith))
paid_by_steps (i ∷ intervals) [] prices = sym (sum_by-nothing (λ t. 0 * get_or prices t 0) (range_with_len 0 (length prices)) (λ t. omega arith))
paid_by_steps (i ∷ intervals) (f ∷ flows) prices =
    let steps : List ℕ = range_with_len 0 (length prices) in
    let pay : Interval × ℕ → ℕ = λ (i, f). f * sum (slice_range prices i.start i.end) in
    let own : ℕ → ℕ = λ t. f * priced prices i.start i.end t in
    let rest : ℕ → ℕ = λ t. load_at intervals flows t * get_or prices t 0 in
    let mine : f * sum (slice_range prices i.start i.end) ≡ sum_by own steps =
    ap (λ n. f * n) (range_sum prices i.start i.end) ∙ sum_by-times f (priced prices i.start i.end) steps in
    omega (
      arith,
      sum_by-cons pay (i, f) (zip intervals flows),
      mine,
      paid_by_steps intervals flows prices,
      sum_by-add own rest steps,
      sum_by-agree (λ t. own t + rest t) (λ t. load_at (i ∷ intervals) (f ∷ flows) t * get_or prices t 0) steps (λ t. at t (within i.start i.end t) refl),
    )
  where
    at : (t : ℕ) (b : Bool) → within i.start i.end t ≡ b
        → f * priced prices i.start i.end t + load_at intervals flows t * get_or prices t 0 ≡ load_at (i ∷ intervals) (f ∷ flows) t * get_or prices t 0
    at t b e =
        let p : ℕ = get_or prices t 0 in
        let term : Interval × ℕ → ℕ = λ (j, g). cond (covers t j) g 0 in
        let load : load_at (i ∷ intervals) (f ∷ flows) t * p ≡ (cond b f 0 + load_at intervals flows t) * p =
        ap (λ n. n * p) (sum_by-cons term (i, f) (zip intervals flows) ∙ ap (λ s. cond s f 0 + load_at intervals flows t) e) in
        let own : f * priced prices i.start i.end t ≡ f * cond b p 0 = ap (λ s. f * cond s p 0) e in
        omega (arith, cond-mul b f p)

-- one interval, whose weight is f + r and whose surplus is s, over the two denominators
one_interval : (d e g r m f q s : ℕ) → m * (f + r) ≤ d * g → e * g ≤ s + (f + r) * q → e * (m * f) ≤ d * (s + f * q)
one_interval d e g r m f q s value over =
    let first : e * (m * (f + r)) ≤ e * (d * g) = mul-le-mul_left e value in
    let second : d * (e * g) ≤ d * (s + (f + r) * q) = mul-le-mul_left d over in
    ⊎_elim
    (λ (h : e * m < d * q). let h' : e * m ≤ d * q = omega arith in let third : (e * m) * f ≤ (d * q) * f = mul-le-mul_right f h' in omega arith)
    (λ (h : d * q ≤ e * m). let third : (d * q) * r ≤ (e * m) * r = mul-le-mul_right r h in omega arith)
    (cases_lt (e * m) (d * q))

each_interval : (unit d e : ℕ) (prices : List ℕ) (intervals : List Interval) (flows : List ℕ) → AllZip (λ i f. f ≤ weight unit i) intervals flows
    → e * flow_value intervals unit d flows ≤ d * (sum_by (surplus unit e prices) intervals + paid_by_intervals intervals flows prices)
each_interval unit d e prices [] flows small = omega arith
each_interval unit d e prices (i ∷ intervals) [] small = absurd small
each_interval unit d e prices (i ∷ intervals) (f ∷ flows) small =
    let w : ℕ = weight unit i in
    let q : ℕ = sum (slice_range prices i.start i.end) in
    let m : ℕ = d * i.gain / w in
    let s : ℕ = e * i.gain - w * q in
    let worth : Interval × ℕ → ℕ = λ (i, f). (d * i.gain / weight unit i) * f in
    let pay : Interval × ℕ → ℕ = λ (i, f). f * sum (slice_range prices i.start i.end) in
    let low : f ≤ w = small.0 in
    let same : f + (w - f) ≡ w = omega arith in
    let value : m * (f + (w - f)) ≤ d * i.gain = omega (arith, div-mul-le_self (d * i.gain) w, ap (λ n. m * n) same) in
    let over : e * i.gain ≤ s + (f + (w - f)) * q = omega (arith, ap (λ n. n * q) same) in
    let one : e * (m * f) ≤ d * (s + f * q) = one_interval d e i.gain (w - f) m f q s value over in
    omega (
      arith,
      one,
      each_interval unit d e prices intervals flows small.1,
      ap (λ n. e * n) (sum_by-cons worth (i, f) (zip intervals flows)),
      ap (λ n. d * n) (sum_by-cons pay (i, f) (zip intervals flows)),
      ap (λ n. d * n) (sum_by-cons (surplus unit e prices) i intervals),
    )

pub flow_value-le : (intervals : List Interval) (unit units d e : ℕ) (flows prices : List ℕ) → IsFractionalSchedule intervals unit units flows
    → e * flow_value intervals unit d flows ≤ d * bound_of intervals unit units e prices
flow_value-le intervals unit units d e flows prices schedule =
    let paid : paid_by_intervals intervals flows prices ≤ units * sum prices =
    omega (arith, paid_by_steps intervals flows prices, loads_paid units (load_at intervals flows) prices schedule.within_units) in
    omega (arith, each_interval unit d e prices intervals flows schedule.within_weights, mul-le-mul_left d paid)
