-- One window at least as wide as the steps is the whole instance.
use Rattle.std.proofs.Common.{◌≡◌, ◌∙◌, ℕ, zero, suc, ◌+◌, ◌-◌, ◌*◌, ◌<◌, ◌≤◌, ap, refl, min, max, Bool, true, cond, arith, List, [], ◌∷◌, length, map, filter, take, get_or, count_by, sum_by, All, ⊎_elim}
use Rattle.std.specs.List.{range_with_len}
use Rattle.std.proofs.lemmas.Bool.{cases_lt, lt-ltb, eq-eqb}
use Rattle.std.proofs.lemmas.List.Elements.{All-head, All-tail}
use Rattle.std.proofs.lemmas.List.Sums.{sum_by-cons}
use Rattle.std.proofs.Math.Nat.{mul-le-mul_left}
use Rattle.flow_model.specs.declared.arcs.OuterArc.{OuterArc}
use Rattle.flow_model.specs.Instances.{Instance, IsArc, IsInstance}
use Rattle.flow_model.specs.Windows.{last_window, meets, part_cost, part_of, part_share, part_steps, window_instance}

-- the arc is whole in window 0
part_whole : (width steps : ℕ) (arc : OuterArc) → steps ≤ width → IsArc steps arc → part_of width 0 arc ≡ arc
part_whole width steps arc wide fits =
    let made : ℕ → ℕ → ℕ → OuterArc = λ s e c. record { start = s; end = e; weight = arc.weight; cost = c } in
    let start : max arc.start (width * 0) - width * 0 ≡ arc.start = omega arith in
    let end : min arc.end (width * (0 + 1)) - width * 0 ≡ arc.end = omega (arith, fits.within) in
    let some : 0 < width = omega (arith, fits.order, fits.within) in
    let last : 0 ≡ last_window width arc =
    ⊎_elim
    (λ (later : 0 < last_window width arc).
    let past : width * 1 ≤ width * last_window width arc = mul-le-mul_left width (omega arith) in absurd (omega (arith, past, fits.order, fits.within)))
    (λ (first : last_window width arc ≤ 0). omega arith)
    (cases_lt 0 (last_window width arc)) in
    let left : arc.cost - sum_by (λ j. part_share width j arc) (range_with_len 0 0) ≡ arc.cost = omega arith in
    let cost : part_cost width 0 arc ≡ arc.cost =
    ap (λ b. cond b (arc.cost - sum_by (λ j. part_share width j arc) (range_with_len 0 0)) (part_share width 0 arc)) (eq-eqb 0 (last_window width arc) last) ∙ left in
    ap (λ s. made s (min arc.end (width * (0 + 1)) - width * 0) (part_cost width 0 arc)) start ∙ ap (λ e. made arc.start e (part_cost width 0 arc)) end ∙ ap (made arc.start arc.end) cost

pub meets_first : (width steps : ℕ) (arc : OuterArc) → steps ≤ width → IsArc steps arc → meets width 0 arc ≡ true
meets_first width steps arc wide fits = lt-ltb 0 (part_steps width 0 arc) (omega (arith, fits.order, fits.within))

parts_whole : (width steps : ℕ) (arcs : List OuterArc) → steps ≤ width → All (IsArc steps) arcs → map (part_of width 0) (filter (meets width 0) arcs) ≡ arcs
parts_whole width steps [] wide fit = refl
parts_whole width steps (arc ∷ arcs) wide fit =
    let first = All-head (IsArc steps) arc arcs fit in
    let later = parts_whole width steps arcs wide (All-tail (IsArc steps) arc arcs fit) in
    ap (λ b. map (part_of width 0) (cond b (arc ∷ filter (meets width 0) arcs) (filter (meets width 0) arcs))) (meets_first width steps arc wide first)
    ∙ ap (λ a. a ∷ map (part_of width 0) (filter (meets width 0) arcs)) (part_whole width steps arc wide first)
    ∙ ap (λ rest. arc ∷ rest) later

pub window_whole : (whole : Instance) (width : ℕ) → whole.steps ≤ width → IsInstance whole → window_instance whole width 0 ≡ whole
window_whole whole width wide fits =
    let made : ℕ → List OuterArc → Instance = λ s a. record { steps = s; units = whole.units; arcs = a } in
    let steps : min whole.steps (width * (0 + 1)) - width * 0 ≡ whole.steps = omega arith in
    ap (λ s. made s (map (part_of width 0) (filter (meets width 0) whole.arcs))) steps ∙ ap (made whole.steps) (parts_whole width whole.steps whole.arcs wide fits.arcs_fit)

-- all arcs meet it, so each part stands where its arc does
pub count_first : (width steps : ℕ) (arcs : List OuterArc) (i : ℕ) → steps ≤ width → All (IsArc steps) arcs → i ≤ length arcs → count_by (meets width 0) (take i arcs) ≡ i
count_first width steps arcs zero wide fit within = refl
count_first width steps [] (suc i) wide fit within = absurd (omega arith)
count_first width steps (arc ∷ arcs) (suc i) wide fit within =
    let one : cond {A = ℕ} (meets width 0 arc) 1 0 ≡ 1 = ap (λ (b : Bool). cond {A = ℕ} b 1 0) (meets_first width steps arc wide (All-head (IsArc steps) arc arcs fit)) in
    omega (
      arith,
      one,
      sum_by-cons (λ (a : OuterArc). cond (meets width 0 a) 1 0) arc (take i arcs),
      count_first width steps arcs i wide (All-tail (IsArc steps) arc arcs fit) (omega arith),
    )

-- flows that are those of the parts in window 0, each at its place, are the same
pub flows_whole : (width steps : ℕ) (arcs : List OuterArc) (flows parts : List ℕ) → steps ≤ width → All (IsArc steps) arcs → length flows ≡ length arcs → length parts ≡ length arcs
    → ((i : ℕ) → i < length arcs → get_or flows i 0 ≡ get_or parts (count_by (meets width 0) (take i arcs)) 0) → flows ≡ parts
flows_whole width steps [] [] [] wide fit many as_many same = refl
flows_whole width steps [] [] (p ∷ parts) wide fit many as_many same = absurd (omega arith)
flows_whole width steps [] (f ∷ flows) parts wide fit many as_many same = absurd (omega arith)
flows_whole width steps (arc ∷ arcs) [] parts wide fit many as_many same = absurd (omega arith)
flows_whole width steps (arc ∷ arcs) (f ∷ flows) [] wide fit many as_many same = absurd (omega arith)
flows_whole width steps (arc ∷ arcs) (f ∷ flows) (p ∷ parts) wide fit many as_many same =
    let met : meets width 0 arc ≡ true = meets_first width steps arc wide (All-head (IsArc steps) arc arcs fit) in
    let one : cond {A = ℕ} (meets width 0 arc) 1 0 ≡ 1 = ap (λ (b : Bool). cond {A = ℕ} b 1 0) met in
    let count : (i : ℕ) → count_by (meets width 0) (arc ∷ take i arcs) ≡ suc (count_by (meets width 0) (take i arcs)) = λ i. omega (arith, one, sum_by-cons (λ (a : OuterArc). cond (meets width 0 a) 1 0) arc (take i arcs)) in
    ap (λ x. x ∷ flows) (same 0 (omega arith))
    ∙ ap (λ xs. p ∷ xs)
    (flows_whole width steps arcs flows parts wide (All-tail (IsArc steps) arc arcs fit) (omega arith) (omega arith)
    (λ i within. same (suc i) (omega arith) ∙ ap (λ n. get_or (p ∷ parts) n 0) (count i)))
