-- The windows before some number are solved.
use Rattle.std.proofs.Common.{◌≡◌, ◌∙◌, ℕ, ◌+◌, ◌-◌, ◌*◌, ◌<◌, ◌≤◌, ap, sym, refl, subst, min, true, false, cond, eqb, arith, List, [], ◌++◌, length, map, take, drop, get_or, inl, inr, ⊎_elim, ◌⊎◌}
use Rattle.std.proofs.lemmas.Bool.{cases_lt, cases_eq, cases_Bool, eq-eqb, ne_eqb}
use Rattle.std.proofs.lemmas.List.{drop-append-le, drop_all, get_or-map, length-append, length-drop, length-map, take-append-le, take_all}
use Rattle.std.proofs.Math.Nat.{mul-le-mul_left}
use Rattle.flow_model.specs.declared.arcs.OuterArc.{OuterArc}
use Rattle.flow_model.specs.Instances.{Instance, IsSolution, arc_at, no_arc}
use Rattle.flow_model.specs.Windows.{meets, window_instance}
use Rattle.window_bounds.specs.Solutions.{flow_in, lowered, prices_in}

-- the flow is still the weight, or that of a part in a window before window n
abbrev pub IsReached : Instance → ℕ → ℕ → (ℕ → List ℕ) → ℕ → ℕ → Type 0
IsReached whole width n window_flows i flow =
    (flow ≡ (arc_at whole.arcs i).weight) ⊎ ((k : ℕ) × (k < n) × (meets width k (arc_at whole.arcs i) ≡ true) × (flow ≡ flow_in whole width k (window_flows k) i))

-- the windows before window n are solved, and each flow is the least of its parts in them, or still the weight
pub record AreSolved (whole : Instance) (width n : ℕ) (prices flows : List ℕ) : Type 0 where
  pub window_flows : ℕ → List ℕ
  pub started : (k : ℕ) → k < n → width * k < whole.steps
  pub each_step : length prices ≡ min whole.steps (width * n)
  pub each_window : (k : ℕ) → k < n → IsSolution (window_instance whole width k) (prices_in width k prices) (window_flows k)
  pub each_arc : length flows ≡ length whole.arcs
  pub low : (i k : ℕ) → i < length whole.arcs → k < n → meets width k (arc_at whole.arcs i) ≡ true → get_or flows i 0 ≤ flow_in whole width k (window_flows k) i
  pub reached : (i : ℕ) → i < length whole.arcs → IsReached whole width n window_flows i (get_or flows i 0)

-- at first each flow is the weight
pub solved_none : (whole : Instance) (width n : ℕ) (prices flows : List ℕ) → n ≡ 0 → prices ≡ [] → flows ≡ map (λ arc. arc.weight) whole.arcs → AreSolved whole width n prices flows
solved_none whole width n prices flows first none weights =
    let start : width * n ≡ 0 = ap (λ k. width * k) first ∙ omega arith in
    record {
      window_flows = λ k. [];
      started = λ k below. absurd (omega arith);
      each_step = omega (arith, start, ap length none);
      each_window = λ k below. absurd (omega arith);
      each_arc = ap length weights ∙ length-map whole.arcs (λ (arc : OuterArc). arc.weight);
      low = λ i k within below met. absurd (omega arith);
      reached = λ i within. inl (ap (λ xs. get_or xs i 0) weights ∙ get_or-map (λ (arc : OuterArc). arc.weight) whole.arcs i no_arc 0 within);
    }

-- prices that are appended leave those before
prices_kept : (width k : ℕ) (prices more : List ℕ) → width * (k + 1) ≤ length prices → prices_in width k (prices ++ more) ≡ prices_in width k prices
prices_kept width k prices more within =
    let from : ℕ = width * k in
    let steps : ℕ = width * (k + 1) - width * k in
    ap (take steps) (drop-append-le from prices more (omega arith))
    ∙ take-append-le steps (drop from prices) more (omega (arith, length-drop from prices))

-- and are those of the next window
prices_next : (width n : ℕ) (prices more : List ℕ) → length prices ≡ width * n → length more ≤ width → prices_in width n (prices ++ more) ≡ more
prices_next width n prices more many short =
    let from : ℕ = width * n in
    let steps : ℕ = width * (n + 1) - width * n in
    ap (take steps) (drop-append-le from prices more (omega arith))
    ∙ ap (λ (xs : List ℕ). take steps (xs ++ more)) (drop_all from prices (omega arith))
    ∙ take_all steps more (omega arith)

module _ (whole : Instance) (width n : ℕ) (prices flows more parts new : List ℕ) (has_step : width * n < whole.steps) (solved : AreSolved whole width n prices flows)
    (solution : IsSolution (window_instance whole width n) more parts) (many : length new ≡ length flows) (lower : (i : ℕ) → i < length flows → get_or new i 0 ≡ lowered whole width n parts i (get_or flows i 0)) where
  abbrev next_flows : ℕ → List ℕ
  next_flows k = cond (eqb k n) parts (solved.window_flows k)

  before : (k : ℕ) → k < n → next_flows k ≡ solved.window_flows k
  before k below = ap (λ b. cond b parts (solved.window_flows k)) (ne_eqb k n (omega arith))

  here : next_flows n ≡ parts
  here = ap (λ b. cond b parts (solved.window_flows n)) (eq-eqb n n refl)

  full_windows : length prices ≡ width * n
  full_windows = omega (arith, solved.each_step)

  short : length more ≤ width
  short = omega (arith, solution.each_step)

  window : (k : ℕ) → k < n + 1 → IsSolution (window_instance whole width k) (prices_in width k (prices ++ more)) (next_flows k)
  window k below =
      ⊎_elim
      (λ (is : k ≡ n).
      subst (λ j. IsSolution (window_instance whole width j) (prices_in width j (prices ++ more)) (next_flows j)) (sym is)
      (subst (λ (ps : List ℕ). IsSolution (window_instance whole width n) ps (next_flows n)) (sym (prices_next width n prices more full_windows short))
      (subst (λ (fs : List ℕ). IsSolution (window_instance whole width n) more fs) (sym here) solution)))
      (λ (other : k ≡ n → ⊥).
      let earlier : k < n = omega arith in
      let fit : width * (k + 1) ≤ width * n = mul-le-mul_left width (omega arith) in
      subst (λ (ps : List ℕ). IsSolution (window_instance whole width k) ps (next_flows k)) (sym (prices_kept width k prices more (omega (arith, full_windows, fit))))
      (subst (λ (fs : List ℕ). IsSolution (window_instance whole width k) (prices_in width k prices) fs) (sym (before k earlier)) (solved.each_window k earlier)))
      (cases_eq k n)

  falls : (i : ℕ) → i < length whole.arcs → get_or new i 0 ≤ get_or flows i 0
  falls i within =
      let is = lower i (omega (arith, solved.each_arc)) in
      ⊎_elim
      (λ (met : meets width n (arc_at whole.arcs i) ≡ true). omega (arith, is, ap (λ b. cond b (min (get_or flows i 0) (flow_in whole width n parts i)) (get_or flows i 0)) met))
      (λ (apart : meets width n (arc_at whole.arcs i) ≡ false). omega (arith, is, ap (λ b. cond b (min (get_or flows i 0) (flow_in whole width n parts i)) (get_or flows i 0)) apart))
      (cases_Bool (meets width n (arc_at whole.arcs i)))

  still_low : (i k : ℕ) → i < length whole.arcs → k < n + 1 → meets width k (arc_at whole.arcs i) ≡ true → get_or new i 0 ≤ flow_in whole width k (next_flows k) i
  still_low i k within below met =
      ⊎_elim
      (λ (is : k ≡ n).
      let met_here : meets width n (arc_at whole.arcs i) ≡ true = subst (λ j. meets width j (arc_at whole.arcs i) ≡ true) is met in
      let same : flow_in whole width k (next_flows k) i ≡ flow_in whole width n parts i = ap (λ j. flow_in whole width j (next_flows j) i) is ∙ ap (λ (fs : List ℕ). flow_in whole width n fs i) here in
      omega (
        arith,
        same,
        lower i (omega (arith, solved.each_arc)),
        ap (λ b. cond b (min (get_or flows i 0) (flow_in whole width n parts i)) (get_or flows i 0)) met_here,
      ))
      (λ (other : k ≡ n → ⊥).
      let earlier : k < n = omega arith in
      let same : flow_in whole width k (next_flows k) i ≡ flow_in whole width k (solved.window_flows k) i = ap (λ (fs : List ℕ). flow_in whole width k fs i) (before k earlier) in
      omega (arith, same, falls i within, solved.low i k within earlier met))
      (cases_eq k n)

  kept_reached : (i flow : ℕ) → IsReached whole width n solved.window_flows i (get_or flows i 0) → flow ≡ get_or flows i 0 → IsReached whole width (n + 1) next_flows i flow
  kept_reached i flow old same =
      ⊎_elim
      (λ (full : get_or flows i 0 ≡ (arc_at whole.arcs i).weight). inl (same ∙ full))
      (λ (at : (k : ℕ) × (k < n) × (meets width k (arc_at whole.arcs i) ≡ true) × (get_or flows i 0 ≡ flow_in whole width k (solved.window_flows k) i)).
      inr (at.0, omega (arith, at.1), at.2, same ∙ at.3 ∙ ap (λ (fs : List ℕ). flow_in whole width at.0 fs i) (sym (before at.0 at.1))))
      old

  still_reached : (i : ℕ) → i < length whole.arcs → IsReached whole width (n + 1) next_flows i (get_or new i 0)
  still_reached i within =
      let is = lower i (omega (arith, solved.each_arc)) in
      let old = solved.reached i within in
      let part : ℕ = flow_in whole width n parts i in
      ⊎_elim
      (λ (met : meets width n (arc_at whole.arcs i) ≡ true).
      let least : get_or new i 0 ≡ min (get_or flows i 0) part = is ∙ ap (λ b. cond b (min (get_or flows i 0) part) (get_or flows i 0)) met in
      ⊎_elim
      (λ (above : get_or flows i 0 < part). kept_reached i (get_or new i 0) old (omega arith))
      (λ (below : part ≤ get_or flows i 0).
      let taken : get_or new i 0 ≡ part = omega arith in
      inr (n, omega arith, met, taken ∙ ap (λ (fs : List ℕ). flow_in whole width n fs i) (sym here)))
      (cases_lt (get_or flows i 0) part))
      (λ (apart : meets width n (arc_at whole.arcs i) ≡ false).
      kept_reached i (get_or new i 0) old (is ∙ ap (λ b. cond b (min (get_or flows i 0) part) (get_or flows i 0)) apart))
      (cases_Bool (meets width n (arc_at whole.arcs i)))

  -- with window n
  pub solved_more : AreSolved whole width (n + 1) (prices ++ more) new
  solved_more =
      record {
        window_flows = next_flows;
        started = λ k below.
            ⊎_elim (λ (is : k ≡ n). subst (λ j. width * j < whole.steps) (sym is) has_step) (λ (other : k ≡ n → ⊥). solved.started k (omega arith)) (cases_eq k n);
        each_step = omega (arith, length-append prices more, full_windows, solution.each_step);
        each_window = window;
        each_arc = many ∙ solved.each_arc;
        low = still_low;
        reached = still_reached;
      }
