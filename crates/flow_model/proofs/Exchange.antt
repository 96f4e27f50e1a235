-- What flows pay for their room, arc by arc and step by step, and weak duality.
use Rattle.std.proofs.Common.{◌≡◌, ℕ, ◌+◌, ◌-◌, ◌*◌, ◌<◌, ◌≤◌, ◌∙◌, sym, refl, ap, Bool, cond, List, [], ◌∷◌, length, arith, ⊎_elim, sum, sum_by, zip, get_or}
use Rattle.std.specs.List.{range_with_len, AllZip}
use Rattle.std.proofs.Math.Nat.{mul-le-mul_left}
use Rattle.std.proofs.lemmas.Bool.{cases_lt}
use Rattle.std.proofs.lemmas.List.Sums.{sum_by-cons}
use Rattle.cache_model.proofs.Sums.{sum_by-nothing, sum_by-agree}
use Rattle.cache_model.proofs.Ranges.{within, priced, range_sum, sum_by-add, sum_by-times, cond-mul, loads_paid}
use Rattle.flow_model.specs.declared.arcs.OuterArc.{OuterArc}
use Rattle.flow_model.specs.Instances.{Instance, price_over, surplus, value_at, covers, load_at, IsSchedule, total_cost}

-- what the flow of each arc pays for its room
abbrev pub paid_by_arcs : List OuterArc → List ℕ → List ℕ → ℕ
paid_by_arcs arcs flows prices = sum_by (λ (arc, f). f * price_over prices arc) (zip arcs flows)

-- what each step is paid for its load
abbrev pub paid_by_steps : List OuterArc → List ℕ → List ℕ → ℕ
paid_by_steps arcs flows prices = sum_by (λ t. load_at arcs flows t * get_or prices t 0) (range_with_len 0 (length prices))

pub same_pay : (arcs : List OuterArc) (flows prices : List ℕ) → paid_by_arcs arcs flows prices ≡ paid_by_steps arcs flows prices
same_pay [] flows prices = sym (sum_by-nothing (λ t. 0 * get_or prices t 0) (range_with_len 0 (length prices)) (λ t. omega arith))
same_pay (i ∷ arcs) [] prices = sym (sum_by-nothing (λ t. 0 * get_or prices t 0) (range_with_len 0 (length prices)) (λ t. omega arith))
same_pay (i ∷ arcs) (f ∷ flows) prices =
    let steps : List ℕ = range_with_len 0 (length prices) in
    let pay : OuterArc × ℕ → ℕ = λ (arc, f). f * price_over prices arc in
    let own : ℕ → ℕ = λ t. f * priced prices i.start i.end t in
    let rest : ℕ → ℕ = λ t. load_at arcs flows t * get_or prices t 0 in
    let mine : f * price_over prices i ≡ sum_by own steps =
    ap (λ n. f * n) (range_sum prices i.start i.end) ∙ sum_by-times f (priced prices i.start i.end) steps in
    omega (
      arith,
      sum_by-cons pay (i, f) (zip arcs flows),
      mine,
      same_pay arcs flows prices,
      sum_by-add own rest steps,
      sum_by-agree (λ t. own t + rest t) (λ t. load_at (i ∷ arcs) (f ∷ flows) t * get_or prices t 0) steps (λ t. at t (within i.start i.end t) refl),
    )
  where
    at : (t : ℕ) (b : Bool) → within i.start i.end t ≡ b
        → f * priced prices i.start i.end t + load_at arcs flows t * get_or prices t 0 ≡ load_at (i ∷ arcs) (f ∷ flows) t * get_or prices t 0
    at t b e =
        let p : ℕ = get_or prices t 0 in
        let term : OuterArc × ℕ → ℕ = λ (j, g). cond (covers t j) g 0 in
        let load : load_at (i ∷ arcs) (f ∷ flows) t * p ≡ (cond b f 0 + load_at arcs flows t) * p =
        ap (λ n. n * p) (sum_by-cons term (i, f) (zip arcs flows) ∙ ap (λ s. cond s f 0 + load_at arcs flows t) e) in
        let own : f * priced prices i.start i.end t ≡ f * cond b p 0 = ap (λ s. f * cond s p 0) e in
        omega (arith, cond-mul b f p)

-- one arc, whose weight is f + r: its flow earns at most its surplus and its pay
one_arc : (c f w p : ℕ) → f ≤ w → c * f ≤ (w * c - w * p) + f * p
one_arc c f w p low =
    let r : ℕ = w - f in
    let same : f + r ≡ w = omega arith in
    ⊎_elim
    (λ (h : c < p). let h' : c ≤ p = omega arith in let k : f * c ≤ f * p = mul-le-mul_left f h' in omega arith)
    (λ (h : p ≤ c). let k : r * p ≤ r * c = mul-le-mul_left r h in omega (arith, ap (λ n. n * c) same, ap (λ n. n * p) same))
    (cases_lt c p)

each_arc : (prices : List ℕ) (arcs : List OuterArc) (flows : List ℕ) → AllZip (λ arc f. f ≤ arc.weight) arcs flows
    → total_cost arcs flows ≤ sum_by (surplus prices) arcs + paid_by_arcs arcs flows prices
each_arc prices [] flows small = omega arith
each_arc prices (i ∷ arcs) [] small = absurd small
each_arc prices (i ∷ arcs) (f ∷ flows) small =
    let earn : OuterArc × ℕ → ℕ = λ (arc, f). arc.cost * f in
    let pay : OuterArc × ℕ → ℕ = λ (arc, f). f * price_over prices arc in
    omega (
      arith,
      one_arc i.cost f i.weight (price_over prices i) small.0,
      each_arc prices arcs flows small.1,
      sum_by-cons earn (i, f) (zip arcs flows),
      sum_by-cons pay (i, f) (zip arcs flows),
      sum_by-cons (surplus prices) i arcs,
    )

pub below_prices : (instance : Instance) (flows prices : List ℕ) → IsSchedule instance flows → total_cost instance.arcs flows ≤ value_at instance prices
below_prices instance flows prices schedule =
    let paid : paid_by_arcs instance.arcs flows prices ≤ instance.units * sum prices =
    omega (arith, same_pay instance.arcs flows prices, loads_paid instance.units (load_at instance.arcs flows) prices schedule.within_units) in
    omega (arith, each_arc prices instance.arcs flows schedule.within_weights)
