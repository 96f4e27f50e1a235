-- The instance of a window: its numbers are in their ranges.
use Rattle.std.proofs.Common.{◌≡◌, ◌∙◌, ℕ, ◌+◌, ◌-◌, ◌*◌, ◌<◌, ◌≤◌, ap, sym, subst, min, Bool, cond, arith, List, length, map, filter, take, get_or, ⊎_elim}
use Rattle.std.proofs.lemmas.Bool.{cases_eq, ltb-true, eq-eqb, ne_eqb}
use Rattle.std.proofs.lemmas.List.{take_all, length-map}
use Rattle.std.proofs.lemmas.List.Elements.{All-map, All-filter, filter_passes}
use Rattle.std.proofs.lemmas.List.Sums.{length-filter, count_by-le-length}
use Rattle.std.specs.List.{range_with_len, sum_by}
use Rattle.flow_model.specs.declared.arcs.OuterArc.{OuterArc}
use Rattle.flow_model.specs.Instances.{Instance, IsArc, IsInstance}
use Rattle.flow_model.specs.Windows.{last_window, meets, part_cost, part_of, part_share, part_steps, window_instance}
use Rattle.flow_windows.proofs.PartCosts.{shares, together-le}

-- a part costs no more than the arc
part_cost-le : (width k : ℕ) (arc : OuterArc) → arc.start < arc.end → part_cost width k arc ≤ arc.cost
part_cost-le width k arc order =
    ⊎_elim
    (λ (is : k ≡ last_window width arc).
    omega (arith, ap (λ t. cond t (arc.cost - sum_by (shares width arc) (range_with_len 0 k)) (part_share width k arc)) (eq-eqb k (last_window width arc) is)))
    (λ (other : k ≡ last_window width arc → ⊥).
    omega (
      arith,
      ap (λ t. cond t (arc.cost - sum_by (shares width arc) (range_with_len 0 k)) (part_share width k arc)) (ne_eqb k (last_window width arc) other),
      together-le arc.cost (arc.end - arc.start) (part_steps width k arc) 0 0 (omega arith) (omega arith),
    ))
    (cases_eq k (last_window width arc))

-- the part of an arc that meets the window is an arc over the steps of the window
pub part_fits : (steps width k : ℕ) (arc : OuterArc) → IsArc steps arc → 0 < part_steps width k arc → IsArc (min steps (width * (k + 1)) - width * k) (part_of width k arc)
part_fits steps width k arc fits met =
    record {
      order = omega (arith, met);
      within = omega (arith, met, fits.within);
      some_weight = fits.some_weight;
      small_weight = fits.small_weight;
      small_cost = omega (arith, part_cost-le width k arc fits.order, fits.small_cost);
    }

-- so the window is in its ranges
pub window_is_instance : (whole : Instance) (width k : ℕ) → IsInstance whole → IsInstance (window_instance whole width k)
window_is_instance whole width k fits =
    let Meets : OuterArc → Bool = meets width k in
    let Fits : OuterArc → Type 0 = IsArc whole.steps in
    let met : List OuterArc = filter Meets whole.arcs in
    record {
      few_steps = omega (arith, fits.few_steps);
      some_units = fits.some_units;
      few_units = fits.few_units;
      few_arcs = omega (arith, length-map met (part_of width k), length-filter Meets whole.arcs, count_by-le-length Meets whole.arcs, fits.few_arcs);
      arcs_fit = All-map (IsArc (min whole.steps (width * (k + 1)) - width * k)) (part_of width k) met
          (λ i d lt. part_fits whole.steps width k (get_or met i d) (All-filter Meets Fits whole.arcs fits.arcs_fit i d lt) (ltb-true 0 (part_steps width k (get_or met i d)) (filter_passes Meets whole.arcs i d lt)));
    }

-- what has these numbers is the window
pub is_window : (whole : Instance) (width k steps units : ℕ) (parts : List OuterArc) → IsInstance whole
    → steps ≡ min whole.steps (width * (k + 1)) - width * k → units ≡ whole.units → parts ≡ map (part_of width k) (filter (meets width k) whole.arcs)
    → IsInstance (record { steps = steps; units = units; arcs = parts })
is_window whole width k steps units parts fits steps_are units_are parts_are =
    let window : Instance = window_instance whole width k in
    subst (λ s. IsInstance (record { steps = s; units = units; arcs = parts })) (sym steps_are)
    (subst (λ u. IsInstance (record { steps = window.steps; units = u; arcs = parts })) (sym units_are)
    (subst (λ (a : List OuterArc). IsInstance (record { steps = window.steps; units = whole.units; arcs = a })) (sym parts_are) (window_is_instance whole width k fits)))

pub window_made : (whole : Instance) (width k steps units : ℕ) (parts : List OuterArc)
    → steps ≡ min whole.steps (width * (k + 1)) - width * k → units ≡ whole.units → parts ≡ map (part_of width k) (filter (meets width k) whole.arcs)
    → record { steps = steps; units = units; arcs = parts } ≡ window_instance whole width k
window_made whole width k steps units parts steps_are units_are parts_are =
    let made : ℕ → ℕ → List OuterArc → Instance = λ s u a. record { steps = s; units = u; arcs = a } in
    ap (λ s. made s units parts) steps_are
    ∙ ap (λ u. made (min whole.steps (width * (k + 1)) - width * k) u parts) units_are
    ∙ ap (made (min whole.steps (width * (k + 1)) - width * k) whole.units) parts_are

-- once all arcs are done
pub parts_all : (arcs whole : List OuterArc) (width k i : ℕ) (parts : List OuterArc) → length arcs ≤ i → arcs ≡ whole → parts ≡ map (part_of width k) (filter (meets width k) (take i arcs))
    → parts ≡ map (part_of width k) (filter (meets width k) whole)
parts_all arcs whole width k i parts past same made =
    let chosen : List OuterArc → List OuterArc = λ xs. map (part_of width k) (filter (meets width k) xs) in
    made ∙ ap chosen (take_all i arcs past) ∙ ap chosen same
