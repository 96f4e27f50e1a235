-- What the solutions of all windows give the whole.
use Rattle.std.proofs.Common.{◌≡◌, ◌∙◌, ℕ, ◌+◌, ◌-◌, ◌*◌, ◌/◌, ◌<◌, ◌≤◌, ap, sym, refl, subst, true, arith, List, [], ◌∷◌, length, filter, take, drop, get_or, sum, sum_by, All, ⊎_elim}
use Rattle.std.proofs.lemmas.Bool.{cases_lt, lt-ltb, ltb-true}
use Rattle.std.proofs.lemmas.List.{get_or_past, length-map, take_all}
use Rattle.std.proofs.Math.Nat.{mul-le-mul_left}
use Rattle.flow_model.specs.declared.arcs.OuterArc.{OuterArc}
use Rattle.flow_model.specs.Instances.{Instance, IsInstance, IsLeast, IsSchedule, IsSolution, arc_at, no_arc, load_at, surplus, total_cost, value_at}
use Rattle.flow_model.specs.Windows.{meets, part_of, part_steps, window_instance}
use Rattle.flow_model.proofs.Equal.{solution_is_best, zip_at, zip_from}
use Rattle.flow_model.proofs.Windows.{windows_are_above}
use Rattle.window_bounds.specs.Solutions.{AreSolutions, IsLeastFlow, flow_in, prices_in, value_of_windows, window_count}
use Rattle.window_bounds.proofs.LastPrice.{last_window_price}
use Rattle.window_bounds.proofs.OneWindow.{count_first, flows_whole, meets_first, window_whole}
use Rattle.window_bounds.proofs.Paid.{paid_all}
use Rattle.window_bounds.proofs.Places.{flow_in-le}
use Rattle.window_bounds.proofs.Rounds.{AreSolved}
use Rattle.window_bounds.proofs.Schedules.{load-le, load_past}

-- a window is counted exactly if it has a step
pub starts_within : (whole : Instance) (width k : ℕ) → 0 < width → k < window_count whole width → width * k < whole.steps
starts_within whole width k some counted =
    ⊎_elim
    (λ (low : k < whole.steps / width).
    let next : width * (k + 1) ≤ width * (whole.steps / width) = mul-le-mul_left width (omega arith) in omega (arith, next))
    (λ (last : whole.steps / width ≤ k).
    let is : k ≡ whole.steps / width = omega arith in
    omega (arith, ap (λ j. width * j) is))
    (cases_lt k (whole.steps / width))

pub counted : (whole : Instance) (width k : ℕ) → 0 < width → width * k < whole.steps → k < window_count whole width
counted whole width k some starts =
    ⊎_elim
    (λ (low : k < whole.steps / width). omega arith)
    (λ (last : whole.steps / width ≤ k).
    let from : width * (whole.steps / width) ≤ width * k = mul-le-mul_left width last in
    ⊎_elim
    (λ (past : whole.steps / width < k).
    let next : width * (whole.steps / width + 1) ≤ width * k = mul-le-mul_left width (omega arith) in absurd (omega (arith, next)))
    (λ (same : k ≤ whole.steps / width). omega (arith, from))
    (cases_lt (whole.steps / width) k))
    (cases_lt k (whole.steps / width))

-- the windows have all steps
pub count_enough : (whole : Instance) (width : ℕ) → 0 < width → whole.steps ≤ width * window_count whole width
count_enough whole width some =
    ⊎_elim
    (λ (past : width * window_count whole width < whole.steps). absurd (omega (arith, counted whole width (window_count whole width) some past)))
    (λ (enough : whole.steps ≤ width * window_count whole width). enough)
    (cases_lt (width * window_count whole width) whole.steps)

module _ (whole : Instance) (width : ℕ) (prices flows : List ℕ) (fits : IsInstance whole) (some : 0 < width) where
  -- a window that an arc meets has a step
  met_starts : (i k : ℕ) → i < length whole.arcs → meets width k (arc_at whole.arcs i) ≡ true → width * k < whole.steps
  met_starts i k within met = omega (arith, ltb-true 0 (part_steps width k (arc_at whole.arcs i)) met, (fits.arcs_fit i no_arc within).within)

  -- the window where an arc starts is met
  start_met : (i : ℕ) → i < length whole.arcs → meets width ((arc_at whole.arcs i).start / width) (arc_at whole.arcs i) ≡ true
  start_met i within =
      let arc : OuterArc = arc_at whole.arcs i in
      lt-ltb 0 (part_steps width (arc.start / width) arc) (omega (arith, (fits.arcs_fit i no_arc within).order))

  -- once no window is left, all are solved
  pub solutions_of : (n : ℕ) → whole.steps ≤ width * n → AreSolved whole width n prices flows → AreSolutions whole width prices flows
  solutions_of n past solved =
      record {
        window_flows = solved.window_flows;
        each_step = omega (arith, solved.each_step);
        each_window = λ k low. solved.each_window k (before k (starts_within whole width k some low));
        each_arc = solved.each_arc;
        least_flows = least;
      }
    where
      before : (k : ℕ) → width * k < whole.steps → k < n
      before k starts =
          ⊎_elim (λ (low : k < n). low) (λ (high : n ≤ k). let from : width * n ≤ width * k = mul-le-mul_left width high in absurd (omega (arith, from))) (cases_lt k n)

      least : (i : ℕ) → i < length whole.arcs → IsLeastFlow whole width solved.window_flows i (get_or flows i 0)
      least i within =
          let low : (k : ℕ) → meets width k (arc_at whole.arcs i) ≡ true → get_or flows i 0 ≤ flow_in whole width k (solved.window_flows k) i = λ k met.
          solved.low i k within (before k (met_starts i k within met)) met in
          ⊎_elim
          (λ (full : get_or flows i 0 ≡ (arc_at whole.arcs i).weight).
          let k : ℕ = (arc_at whole.arcs i).start / width in
          let met : meets width k (arc_at whole.arcs i) ≡ true = start_met i within in
          let small : flow_in whole width k (solved.window_flows k) i ≤ (arc_at whole.arcs i).weight =
          flow_in-le whole width k (solved.window_flows k) i (solved.each_window k (before k (met_starts i k within met))).schedule within met in
          record { low = low; window = k; met = met; reached = omega (arith, full, small, low k met) })
          (λ (at : (k : ℕ) × (k < n) × (meets width k (arc_at whole.arcs i) ≡ true) × (get_or flows i 0 ≡ flow_in whole width k (solved.window_flows k) i)).
          record { low = low; window = at.0; met = at.2; reached = at.3 })
          (solved.reached i within)

  module _ (are : AreSolutions whole width prices flows) where
    solved_at : (k : ℕ) → width * k < whole.steps → IsSolution (window_instance whole width k) (prices_in width k prices) (are.window_flows k)
    solved_at k starts = are.each_window k (counted whole width k some starts)

    -- the flows are a schedule
    pub schedule_of : IsSchedule whole flows
    schedule_of =
        record {
          within_weights = zip_from whole.arcs flows are.each_arc (λ i within.
              let least = are.least_flows i within in
              omega (
                arith,
                least.reached,
                flow_in-le whole width least.window (are.window_flows least.window) i (solved_at least.window (met_starts i least.window within least.met)).schedule within least.met,
              ));
          within_units = λ t.
              ⊎_elim
              (λ (there : t < whole.steps).
              let k : ℕ = t / width in
              let from : width * k ≤ t = omega arith in
              let until : t < width * (k + 1) = omega arith in
              let one = solved_at k (omega arith) in
              let many : length (are.window_flows k) ≡ length (filter (meets width k) whole.arcs) =
              (zip_at (window_instance whole width k).arcs (are.window_flows k) one.schedule.within_weights).0 ∙ length-map (filter (meets width k) whole.arcs) (part_of width k) in
              let small : load_at whole.arcs flows t ≤ load_at (window_instance whole width k).arcs (are.window_flows k) (t - width * k) =
              load-le width k t whole.arcs flows (are.window_flows k) from until many (λ i within met. (are.least_flows i within).low k met) in
              omega (arith, small, one.schedule.within_units (t - width * k)))
              (λ (past : whole.steps ≤ t). omega (arith, load_past whole.steps t whole.arcs flows past fits.arcs_fit))
              (cases_lt t whole.steps);
        }

    -- the windows are worth no less than the whole
    pub above_of : value_at whole prices ≤ value_of_windows whole width prices
    above_of = windows_are_above whole width (window_count whole width) prices some (count_enough whole width some) are.each_step fits.arcs_fit

    least_at : (k : ℕ) → k < window_count whole width → IsLeast (window_instance whole width k) (prices_in width k prices)
    least_at k low = (solution_is_best (window_instance whole width k) (prices_in width k prices) (are.window_flows k) (are.each_window k low)).0

    -- the units are paid at most what the arcs cost
    pub paid_of : whole.units * sum prices ≤ sum_by (λ arc. arc.weight * arc.cost) whole.arcs
    paid_of =
        omega (
          arith,
          paid_all whole width (window_count whole width) prices some fits.arcs_fit least_at,
          ap (λ (ps : List ℕ). whole.units * sum ps) (take_all (width * window_count whole width) prices (omega (arith, are.each_step, count_enough whole width some))),
        )

    -- a last step that no arc covers has no price
    pub last_of : All (λ arc. arc.end < whole.steps) whole.arcs → get_or prices (whole.steps - 1) 0 ≡ 0
    last_of free =
        ⊎_elim
        (λ (steps : 0 < whole.steps).
        let k : ℕ = (whole.steps - 1) / width in
        let starts : width * k < whole.steps = omega arith in
        last_window_price whole width k prices (least_at k (counted whole width k some starts)) fits.some_units are.each_step starts (omega arith) free)
        (λ (none : whole.steps ≤ 0). get_or_past prices (whole.steps - 1) 0 (omega (arith, are.each_step)))
        (cases_lt 0 whole.steps)

    -- with no step there is nothing
    nothing : whole.steps ≡ 0 → IsSolution whole prices flows
    nothing none =
        record {
          each_step = are.each_step;
          schedule = schedule_of;
          equal_values = omega (
            arith,
            ap (λ (ps : List ℕ). whole.units * sum ps) no_prices,
            ap (λ (xs : List OuterArc). sum_by (surplus prices) xs) no_arcs,
            ap (λ (xs : List OuterArc). total_cost xs flows) no_arcs,
          );
        }
      where
        empty : {X : Type 0} (xs : List X) → length xs ≡ 0 → xs ≡ []
        empty [] none = refl
        empty (x ∷ xs) none = absurd (omega arith)

        no_prices : prices ≡ []
        no_prices = empty prices (are.each_step ∙ none)

        no_arcs : whole.arcs ≡ []
        no_arcs = empty whole.arcs (
            ⊎_elim
            (λ (one : 0 < length whole.arcs). let arc = fits.arcs_fit 0 no_arc one in absurd (omega (arith, arc.order, arc.within)))
            (λ (few : length whole.arcs ≤ 0). omega arith)
            (cases_lt 0 (length whole.arcs))
            )

    -- one window is the whole
    pub one_window_of : whole.steps ≤ width → IsSolution whole prices flows
    one_window_of wide =
        ⊎_elim
        (λ (steps : 0 < whole.steps).
        let start : width * 0 ≡ 0 = omega arith in
        let one = solved_at 0 (omega arith) in
        let is : window_instance whole width 0 ≡ whole = window_whole whole width wide fits in
        let all : prices_in width 0 prices ≡ prices = ap (λ n. take (width * (0 + 1) - n) (drop n prices)) start ∙ take_all (width * (0 + 1) - 0) prices (omega (arith, are.each_step)) in
        let many : length (are.window_flows 0) ≡ length whole.arcs =
        (zip_at (window_instance whole width 0).arcs (are.window_flows 0) one.schedule.within_weights).0 ∙ ap (λ (i : Instance). length i.arcs) is in
        let same : flows ≡ are.window_flows 0 = flows_whole width whole.steps whole.arcs flows (are.window_flows 0) wide fits.arcs_fit are.each_arc many (λ i within. only i within) in
        subst (λ (fs : List ℕ). IsSolution whole prices fs) (sym same)
        (subst (λ (ps : List ℕ). IsSolution whole ps (are.window_flows 0)) all
        (subst (λ (i : Instance). IsSolution i (prices_in width 0 prices) (are.window_flows 0)) is one)))
        (λ (none : whole.steps ≤ 0). nothing (omega arith))
        (cases_lt 0 whole.steps)
      where
        only : (i : ℕ) → i < length whole.arcs → get_or flows i 0 ≡ flow_in whole width 0 (are.window_flows 0) i
        only i within =
            let least = are.least_flows i within in
            let starts : width * least.window < whole.steps = met_starts i least.window within least.met in
            let first : least.window ≡ 0 =
            ⊎_elim (λ (later : 0 < least.window). let past : width * 1 ≤ width * least.window = mul-le-mul_left width (omega arith) in absurd (omega (arith, past)))
            (λ (is : least.window ≤ 0). omega arith) (cases_lt 0 least.window) in
            least.reached ∙ ap (λ k. flow_in whole width k (are.window_flows k) i) first

-- a solution of the whole is that of the one window
pub whole_solutions : (whole : Instance) (width : ℕ) (prices flows : List ℕ) → IsInstance whole → 0 < width → whole.steps ≤ width → IsSolution whole prices flows → AreSolutions whole width prices flows
whole_solutions whole width prices flows fits some wide solution =
    record {
      window_flows = λ k. flows;
      each_step = solution.each_step;
      each_window = λ k low. subst (λ j. IsSolution (window_instance whole width j) (prices_in width j prices) flows) (sym (first k (starts_within whole width k some low))) one;
      each_arc = (zip_at whole.arcs flows solution.schedule.within_weights).0;
      least_flows = λ i within. record {
        low = λ k met. omega (arith, ap (λ j. flow_in whole width j flows i) (first k (met_starts whole width prices flows fits some i k within met)), own i within);
        window = 0;
        met = meets_first width whole.steps (arc_at whole.arcs i) wide (fits.arcs_fit i no_arc within);
        reached = own i within;
      };
    }
  where
    first : (k : ℕ) → width * k < whole.steps → k ≡ 0
    first k starts =
        ⊎_elim (λ (later : 0 < k). let past : width * 1 ≤ width * k = mul-le-mul_left width (omega arith) in absurd (omega (arith, past))) (λ (is : k ≤ 0). omega arith) (cases_lt 0 k)

    own : (i : ℕ) → i < length whole.arcs → get_or flows i 0 ≡ flow_in whole width 0 flows i
    own i within = ap (λ n. get_or flows n 0) (sym (count_first width whole.steps whole.arcs i wide fits.arcs_fit (omega arith)))

    one : IsSolution (window_instance whole width 0) (prices_in width 0 prices) flows
    one =
        let start : width * 0 ≡ 0 = omega arith in
        let all : prices_in width 0 prices ≡ prices = ap (λ n. take (width * (0 + 1) - n) (drop n prices)) start ∙ take_all (width * (0 + 1) - 0) prices (omega (arith, solution.each_step)) in
        subst (λ (ps : List ℕ). IsSolution (window_instance whole width 0) ps flows) (sym all) (subst (λ (i : Instance). IsSolution i prices flows) (sym (window_whole whole width wide fits)) solution)
