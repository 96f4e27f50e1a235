-- If prices suit a schedule, its cost is their value; and potentials make prices that suit.
use Rattle.std.proofs.Common.{◌≡◌, ℕ, suc, zero, ◌+◌, ◌-◌, ◌*◌, ◌<◌, ◌≤◌, ◌∙◌, sym, refl, ap, false, cond, nat_lt, nat_le, List, [], ◌∷◌, length, arith, ⊎_elim, sum, sum_by, zip, take, get_or, slice_range, All}
use Rattle.std.specs.List.{range_with_len, AllZip}
use Rattle.std.proofs.Math.Nat.{mul-le-mul_left}
use Rattle.std.proofs.lemmas.Bool.{cases_lt}
use Rattle.std.proofs.lemmas.List.Sums.{sum_by-cons}
use Rattle.std.proofs.lemmas.Bool.{le-ltb, and_right}
use Rattle.cache_model.proofs.Sums.{sum_by-range}
use Rattle.cache_model.proofs.Pairs.{slice_range-suc}
use Rattle.flow_model.specs.declared.arcs.OuterArc.{OuterArc}
use Rattle.flow_model.specs.declared.edges.Edge.TheVariants.{InnerBack, Outer, OuterBack}
use Rattle.flow_model.specs.Instances.{Instance, IsArc, no_arc, arc_at, price_over, surplus, covers, load_at, IsSchedule, IsSolution, IsLeast, IsBest, total_cost}
use Rattle.flow_model.specs.Networks.{Flows, IsBalanced, IsPotential, ArePrices}
use Rattle.cache_model.proofs.Ranges.{take_drop_nil}
use Rattle.flow_model.proofs.Exchange.{paid_by_arcs, same_pay, below_prices}

-- the prices suit the flows: complementary slackness
pub record Suits (instance : Instance) (prices flows : List ℕ) : Type 0 where
  pub unfilled_are_dear : (i : ℕ) → i < length instance.arcs → get_or flows i 0 < (arc_at instance.arcs i).weight → (arc_at instance.arcs i).cost ≤ price_over prices (arc_at instance.arcs i)
  pub used_are_cheap : (i : ℕ) → i < length instance.arcs → 0 < get_or flows i 0 → price_over prices (arc_at instance.arcs i) ≤ (arc_at instance.arcs i).cost
  pub priced_are_full : (t : ℕ) → t < instance.steps → 0 < get_or prices t 0 → load_at instance.arcs flows t ≡ instance.units

-- one arc whose price suits its flow
one_arc : (c f w p : ℕ) → f ≤ w → (f < w → c ≤ p) → (0 < f → p ≤ c) → c * f ≡ (w * c - w * p) + f * p
one_arc c f w p low dear cheap =
    ⊎_elim
    (λ (h : f < w).
    let k : w * c ≤ w * p = mul-le-mul_left w (dear h) in
    ⊎_elim (λ (z : 0 < f). let e : c ≡ p = omega (arith, dear h, cheap z) in omega (arith, ap (λ n. n * f) e)) (λ (z : f ≤ 0). let e : f ≡ 0 = omega arith in omega (arith, ap (λ n. c * n) e, ap (λ n. n * p) e)) (cases_lt 0 f))
    (λ (h : w ≤ f).
    let e : f ≡ w = omega arith in
    ⊎_elim
    (λ (z : 0 < f). let k : w * p ≤ w * c = mul-le-mul_left w (cheap z) in omega (arith, ap (λ n. c * n) e, ap (λ n. n * p) e))
    (λ (z : f ≤ 0). let n : f ≡ 0 = omega arith in let o : w ≡ 0 = omega arith in omega (arith, ap (λ m. c * m) n, ap (λ m. m * p) n, ap (λ m. m * c) o, ap (λ m. m * p) o))
    (cases_lt 0 f))
    (cases_lt f w)

pub zip_at : (arcs : List OuterArc) (flows : List ℕ) → AllZip (λ arc flow. flow ≤ arc.weight) arcs flows
    → (length flows ≡ length arcs) × ((i : ℕ) → i < length arcs → get_or flows i 0 ≤ (arc_at arcs i).weight)
zip_at [] [] small = (refl, λ i h. absurd (omega arith))
zip_at [] (f ∷ flows) small = absurd small
zip_at (i ∷ arcs) [] small = absurd small
zip_at (i ∷ arcs) (f ∷ flows) small = (omega (arith, (zip_at arcs flows small.1).0), at (zip_at arcs flows small.1).1)
  where
    at : ((k : ℕ) → k < length arcs → get_or flows k 0 ≤ (arc_at arcs k).weight)
        → (k : ℕ) → k < length (i ∷ arcs) → get_or (f ∷ flows) k 0 ≤ (arc_at (i ∷ arcs) k).weight
    at rest zero h = small.0
    at rest (suc k) h = rest k (omega arith)

pub zip_from : (arcs : List OuterArc) (flows : List ℕ) → length flows ≡ length arcs → ((i : ℕ) → i < length arcs → get_or flows i 0 ≤ (arc_at arcs i).weight)
    → AllZip (λ arc flow. flow ≤ arc.weight) arcs flows
zip_from [] [] same small = tt
zip_from [] (f ∷ flows) same small = absurd (omega arith)
zip_from (i ∷ arcs) [] same small = absurd (omega arith)
zip_from (i ∷ arcs) (f ∷ flows) same small = (small 0 (omega arith), zip_from arcs flows (omega arith) (λ k h. small (suc k) (omega arith)))

-- an arc and its flow suit the prices
record SuitsArc (prices : List ℕ) (arc : OuterArc) (f : ℕ) : Type 0 where
  low : f ≤ arc.weight
  dear : f < arc.weight → arc.cost ≤ price_over prices arc
  cheap : 0 < f → price_over prices arc ≤ arc.cost

each_arc : (prices : List ℕ) (arcs : List OuterArc) (flows : List ℕ) → length arcs ≡ length flows
    → ((i : ℕ) → i < length arcs → SuitsArc prices (arc_at arcs i) (get_or flows i 0))
    → total_cost arcs flows ≡ sum_by (surplus prices) arcs + paid_by_arcs arcs flows prices
each_arc prices [] flows same suits = omega arith
each_arc prices (i ∷ arcs) [] same suits = absurd (omega arith)
each_arc prices (i ∷ arcs) (f ∷ flows) same suits =
    let earn : OuterArc × ℕ → ℕ = λ (arc, f). arc.cost * f in
    let pay : OuterArc × ℕ → ℕ = λ (arc, f). f * price_over prices arc in
    let own : SuitsArc prices i f = suits 0 (omega arith) in
    omega (
      arith,
      one_arc i.cost f i.weight (price_over prices i) own.low own.dear own.cheap,
      each_arc prices arcs flows (omega arith) (λ k h. suits (suc k) (omega arith)),
      sum_by-cons earn (i, f) (zip arcs flows),
      sum_by-cons pay (i, f) (zip arcs flows),
      sum_by-cons (surplus prices) i arcs,
    )

-- each step that has a price is full
full_steps : (units : ℕ) (load : ℕ → ℕ) (prices : List ℕ) → ((t : ℕ) → t < length prices → 0 < get_or prices t 0 → load t ≡ units)
    → sum_by (λ t. load t * get_or prices t 0) (range_with_len 0 (length prices)) ≡ units * sum prices
full_steps units load [] full = omega arith
full_steps units load (q ∷ prices) full =
    let first : load 0 * q ≡ units * q =
    ⊎_elim (λ (z : 0 < q). ap (λ n. n * q) (full 0 (omega arith) z)) (λ (z : q ≤ 0). let e : q ≡ 0 = omega arith in ap (λ n. load 0 * n) e ∙ omega (arith, ap (λ n. units * n) e)) (cases_lt 0 q) in
    omega (
      arith,
      first,
      sum_by-range (λ t. load t * get_or (q ∷ prices) t 0) (length prices),
      full_steps units (λ t. load (suc t)) prices (λ t h. full (suc t) (omega arith)),
      ap (λ n. units * n) (sum_by-cons (λ (n : ℕ). n) q prices),
    )

pub suited_is_equal : (instance : Instance) (prices flows : List ℕ) → length prices ≡ instance.steps → All (IsArc instance.steps) instance.arcs → IsSchedule instance flows → Suits instance prices flows
    → IsSolution instance prices flows
suited_is_equal instance prices flows same arcs schedule suits =
    let arcs_flows : length instance.arcs ≡ length flows = sym (zip_at instance.arcs flows schedule.within_weights).0 in
    let value : total_cost instance.arcs flows ≡ sum_by (surplus prices) instance.arcs + paid_by_arcs instance.arcs flows prices =
    each_arc prices instance.arcs flows arcs_flows (λ i h. record {
      low = (zip_at instance.arcs flows schedule.within_weights).1 i h;
      dear = suits.unfilled_are_dear i h;
      cheap = suits.used_are_cheap i h;
    }) in
    let paid : paid_by_arcs instance.arcs flows prices ≡ instance.units * sum prices =
    same_pay instance.arcs flows prices ∙ full_steps instance.units (load_at instance.arcs flows) prices (λ t h z. suits.priced_are_full t (omega arith) z) in
    record { each_step = same; schedule = schedule; equal_values = omega arith }

pub solution_is_best : (instance : Instance) (prices flows : List ℕ) → IsSolution instance prices flows → IsLeast instance prices × IsBest instance flows
solution_is_best instance prices flows solution = (
  λ others same. omega (arith, solution.equal_values, below_prices instance flows others solution.schedule),
  λ others schedule. omega (arith, solution.equal_values, below_prices instance others prices schedule),
)

-- the prices of a range sum to the fall of the potential over it
pub telescope : (prices : List ℕ) (potential : ℕ → ℕ) (a b : ℕ) → ((t : ℕ) → t < length prices → get_or prices t 0 + potential (suc t) ≡ potential t) → a ≤ b → b ≤ length prices
    → sum (slice_range prices a b) + potential b ≡ potential a
telescope [] potential a b falls order within =
    let e : b ≡ a = omega arith in
    ap (λ xs. sum xs + potential b) (take_drop_nil (b - a) a) ∙ omega (arith, ap potential e)
telescope (q ∷ prices) potential zero zero falls order within =
    let e : 0 - 0 ≡ 0 = omega arith in
    ap (λ k. sum (take k (q ∷ prices)) + potential 0) e ∙ omega arith
telescope (q ∷ prices) potential (suc a) zero falls order within = absurd (omega arith)
telescope (q ∷ prices) potential zero (suc b) falls order within =
    let e : suc b - 0 ≡ suc b = omega arith in
    let e' : b - 0 ≡ b = omega arith in
    let rest : sum (take (b - 0) prices) + potential (suc b) ≡ potential 1 = telescope prices (λ t. potential (suc t)) 0 b (λ t h. falls (suc t) (omega arith)) (omega arith) (omega arith) in
    ap (λ k. sum (take k (q ∷ prices)) + potential (suc b)) e
    ∙ omega (arith, falls 0 (omega arith), sum_by-cons (λ (n : ℕ). n) q (take b prices), rest, ap (λ k. sum (take k prices)) e')
telescope (q ∷ prices) potential (suc a) (suc b) falls order within =
    ap (λ xs. sum xs + potential (suc b)) (slice_range-suc q prices a b)
    ∙ telescope prices (λ t. potential (suc t)) a b (λ t h. falls (suc t) (omega arith)) (omega arith) (omega arith)

-- no arc is over a step past the last
past_steps : (steps t : ℕ) (arcs : List OuterArc) (flows : List ℕ) → steps ≤ t → ((i : ℕ) → i < length arcs → (arc_at arcs i).end ≤ steps) → load_at arcs flows t ≡ 0
past_steps steps t [] flows late within = refl
past_steps steps t (i ∷ arcs) [] late within = refl
past_steps steps t (i ∷ arcs) (f ∷ flows) late within =
    let ends : i.end ≤ t = omega (arith, within 0 (omega arith)) in
    let uncovered : covers t i ≡ false = and_right (nat_le i.start t) (nat_lt t i.end) (le-ltb t i.end ends) in
    let term : OuterArc × ℕ → ℕ = λ (j, g). cond (covers t j) g 0 in
    omega (arith, sum_by-cons term (i, f) (zip arcs flows), ap (λ s. cond s f 0) uncovered, past_steps steps t arcs flows late (λ k h. within (suc k) (omega arith)))

pub schedule_from_balance : (instance : Instance) (flows : Flows) → All (IsArc instance.steps) instance.arcs → IsBalanced instance flows instance.units → IsSchedule instance flows.outer
schedule_from_balance instance flows arcs balanced =
    record {
      within_weights = balanced.within_weights;
      within_units = λ t.
          ⊎_elim
          (λ (h : t < instance.steps). omega (arith, balanced.balance t h))
          (λ (h : instance.steps ≤ t). omega (arith, past_steps instance.steps t instance.arcs flows.outer h (λ i l. (arcs i no_arc l).within)))
          (cases_lt t instance.steps);
    }

pub potentials_suit : (instance : Instance) (flows : Flows) (potential : ℕ → ℕ) (prices : List ℕ) → All (IsArc instance.steps) instance.arcs → 0 < instance.units → length prices ≡ instance.steps
    → IsBalanced instance flows instance.units → IsPotential instance flows potential → ArePrices potential prices → Suits instance prices flows.outer
potentials_suit instance flows potential prices arcs some same balanced valid are =
    let falls : (t : ℕ) → t < length prices → get_or prices t 0 + potential (suc t) ≡ potential t = λ t h.
    let e : t + 1 ≡ suc t = omega arith in omega (arith, are t h, ap potential e) in
    let over : (i : ℕ) → i < length instance.arcs → price_over prices (arc_at instance.arcs i) + potential (arc_at instance.arcs i).end ≡ potential (arc_at instance.arcs i).start = λ i h.
    telescope prices potential (arc_at instance.arcs i).start (arc_at instance.arcs i).end falls (omega (arith, (arcs i no_arc h).order)) (omega (arith, (arcs i no_arc h).within)) in
    record {
      unfilled_are_dear = λ i h l. omega (arith, over i h, valid (Outer i) h (omega arith));
      used_are_cheap = λ i h l. omega (arith, over i h, valid (OuterBack i) h l);
      priced_are_full = λ t h l.
          ⊎_elim
          (λ (z : 0 < get_or flows.inner t 0). absurd (omega (arith, valid (InnerBack t) h z, are t (omega arith))))
          (λ (z : get_or flows.inner t 0 ≤ 0). omega (arith, balanced.balance t h))
          (cases_lt 0 (get_or flows.inner t 0));
    }

pub equal_values : (instance : Instance) (flows : Flows) (potential : ℕ → ℕ) (prices : List ℕ) → All (IsArc instance.steps) instance.arcs → 0 < instance.units → length prices ≡ instance.steps
    → IsBalanced instance flows instance.units → IsPotential instance flows potential → ArePrices potential prices → IsSolution instance prices flows.outer
equal_values instance flows potential prices arcs some same balanced valid are =
    suited_is_equal instance prices flows.outer same arcs (schedule_from_balance instance flows arcs balanced) (potentials_suit instance flows potential prices arcs some same balanced valid are)
