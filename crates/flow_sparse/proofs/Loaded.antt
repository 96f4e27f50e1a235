-- Loads from what starts and ends at nodes.
use Rattle.std.proofs.Common.{◌≡◌, ◌≢◌, ℕ, suc, zero, ◌+◌, ◌-◌, ◌^◌, ◌<◌, ◌≤◌, ◌∙◌, refl, sym, ap, Bool, cond, List, [], ◌∷◌, length, take, set, arith, ⊎_elim, zip, get_or, get_or-set_same, length-set, sum}
use Rattle.std.proofs.lemmas.Bool.{cases_lt, cases_eq, eq-eqb, ne_eqb}
use Rattle.std.proofs.lemmas.List.{take-set-le}
use Rattle.std.proofs.lemmas.List.Sums.{sum_by-cons}
use Rattle.flow_model.specs.declared.arcs.OuterArc.{OuterArc}
use Rattle.flow_model.specs.Instances.{arc_at, covers, load_at}
use Rattle.flow_uniform.specs.Cuts.{flow_where, ends_at}
use Rattle.flow_uniform.proofs.Parts.{flow_where-le}
use Rattle.flow_model.proofs.Lists.{set_at}
use Rattle.flow_uniform.proofs.Covering.{covers-spans, covers-before, covers-past}
use Rattle.flow_sparse.specs.States.{first_sum}
use Rattle.flow_sparse.specs.Loads.{starts_at}
use Rattle.flow_sparse.proofs.Sums.{first_sum-next}

-- one arc at a step and the next
one_next : (arc : OuterArc) (f t : ℕ) → arc.start < arc.end
    → cond (covers (t + 1) arc) f 0 + cond (ends_at (t + 1) arc) f 0 ≡ cond (covers t arc) f 0 + cond (starts_at (t + 1) arc) f 0
one_next arc f t order =
    let at : Bool → ℕ = λ b. cond b f 0 in
    ⊎_elim
    (λ (h : t < arc.start).
    ⊎_elim
    (λ (e : arc.start ≡ t + 1).
    omega (arith, ap at (covers-before arc t h), ap at (covers-spans arc (t + 1) (record { started = omega arith; open_still = omega arith })), ap at (ne_eqb arc.end (t + 1) (λ s. omega arith)), ap at (eq-eqb arc.start (t + 1) e)))
    (λ (n : arc.start ≢ t + 1).
    omega (arith, ap at (covers-before arc t h), ap at (covers-before arc (t + 1) (omega arith)), ap at (ne_eqb arc.end (t + 1) (λ s. omega arith)), ap at (ne_eqb arc.start (t + 1) n)))
    (cases_eq arc.start (t + 1)))
    (λ (h : arc.start ≤ t).
    let none = ne_eqb arc.start (t + 1) (λ s. omega arith) in
    ⊎_elim
    (λ (k : t + 1 < arc.end).
    omega (
      arith,
      ap at (covers-spans arc t (record { started = h; open_still = omega arith })),
      ap at (covers-spans arc (t + 1) (record { started = omega arith; open_still = k })),
      ap at (ne_eqb arc.end (t + 1) (λ s. omega arith)),
      ap at none,
    ))
    (λ (k : arc.end ≤ t + 1).
    ⊎_elim
    (λ (m : t < arc.end). omega (arith, ap at (covers-spans arc t (record { started = h; open_still = m })), ap at (covers-past arc (t + 1) k), ap at (eq-eqb arc.end (t + 1) (omega arith)), ap at none))
    (λ (m : arc.end ≤ t). omega (arith, ap at (covers-past arc t m), ap at (covers-past arc (t + 1) k), ap at (ne_eqb arc.end (t + 1) (λ s. omega arith)), ap at none))
    (cases_lt t arc.end))
    (cases_lt (t + 1) arc.end))
    (cases_lt t arc.start)

one_first : (arc : OuterArc) (f : ℕ) → arc.start < arc.end → cond (covers 0 arc) f 0 + cond (ends_at 0 arc) f 0 ≡ cond (starts_at 0 arc) f 0
one_first arc f order =
    let at : Bool → ℕ = λ b. cond b f 0 in
    ⊎_elim
    (λ (h : 0 < arc.start). omega (arith, ap at (covers-before arc 0 h), ap at (ne_eqb arc.end 0 (λ s. omega arith)), ap at (ne_eqb arc.start 0 (λ s. omega arith))))
    (λ (h : arc.start ≤ 0). omega (arith, ap at (covers-spans arc 0 (record { started = h; open_still = omega arith })), ap at (ne_eqb arc.end 0 (λ s. omega arith)), ap at (eq-eqb arc.start 0 (omega arith))))
    (cases_lt 0 arc.start)

pub loads_next : (arcs : List OuterArc) (flows : List ℕ) (t : ℕ) → ((i : ℕ) → i < length arcs → (arc_at arcs i).start < (arc_at arcs i).end)
    → load_at arcs flows (t + 1) + flow_where (ends_at (t + 1)) arcs flows ≡ load_at arcs flows t + flow_where (starts_at (t + 1)) arcs flows
loads_next [] flows t order = refl
loads_next (a ∷ arcs) [] t order = refl
loads_next (a ∷ arcs) (f ∷ flows) t order =
    let here : OuterArc × ℕ → ℕ = λ (arc, flow). cond (covers t arc) flow 0 in
    let next : OuterArc × ℕ → ℕ = λ (arc, flow). cond (covers (t + 1) arc) flow 0 in
    let leave : OuterArc × ℕ → ℕ = λ (arc, flow). cond (ends_at (t + 1) arc) flow 0 in
    let enter : OuterArc × ℕ → ℕ = λ (arc, flow). cond (starts_at (t + 1) arc) flow 0 in
    omega (
      arith,
      sum_by-cons here (a, f) (zip arcs flows),
      sum_by-cons next (a, f) (zip arcs flows),
      sum_by-cons leave (a, f) (zip arcs flows),
      sum_by-cons enter (a, f) (zip arcs flows),
      one_next a f t (order 0 (omega arith)),
      loads_next arcs flows t (λ i h. order (suc i) (omega arith)),
    )

pub loads_first : (arcs : List OuterArc) (flows : List ℕ) → ((i : ℕ) → i < length arcs → (arc_at arcs i).start < (arc_at arcs i).end)
    → load_at arcs flows 0 + flow_where (ends_at 0) arcs flows ≡ flow_where (starts_at 0) arcs flows
loads_first [] flows order = refl
loads_first (a ∷ arcs) [] order = refl
loads_first (a ∷ arcs) (f ∷ flows) order =
    let here : OuterArc × ℕ → ℕ = λ (arc, flow). cond (covers 0 arc) flow 0 in
    let leave : OuterArc × ℕ → ℕ = λ (arc, flow). cond (ends_at 0 arc) flow 0 in
    let enter : OuterArc × ℕ → ℕ = λ (arc, flow). cond (starts_at 0 arc) flow 0 in
    omega (
      arith,
      sum_by-cons here (a, f) (zip arcs flows),
      sum_by-cons leave (a, f) (zip arcs flows),
      sum_by-cons enter (a, f) (zip arcs flows),
      one_first a f (order 0 (omega arith)),
      loads_first arcs flows (λ i h. order (suc i) (omega arith)),
    )

-- the flow of one arc more
pub flow_where-more : (test : OuterArc → Bool) (arcs : List OuterArc) (flows : List ℕ) (i : ℕ) → i < length arcs → i < length flows
    → flow_where test arcs (take (i + 1) flows) ≡ flow_where test arcs (take i flows) + cond (test (arc_at arcs i)) (get_or flows i 0) 0
flow_where-more test [] flows i within inside = absurd (omega arith)
flow_where-more test (a ∷ arcs) [] i within inside = absurd (omega arith)
flow_where-more test (a ∷ arcs) (f ∷ flows) zero within inside =
    let term : OuterArc × ℕ → ℕ = λ (arc, flow). cond (test arc) flow 0 in
    omega (arith, sum_by-cons term (a, f) (zip arcs (take 0 flows)), none arcs)
  where
    none : (rest : List OuterArc) → flow_where test rest (take 0 flows) ≡ 0
    none [] = refl
    none (b ∷ rest) = refl
flow_where-more test (a ∷ arcs) (f ∷ flows) (suc i) within inside =
    let term : OuterArc × ℕ → ℕ = λ (arc, flow). cond (test arc) flow 0 in
    let e : suc i + 1 ≡ suc (i + 1) = omega arith in
    ap (λ k. flow_where test (a ∷ arcs) (take k (f ∷ flows))) e
    ∙ omega (
      arith,
      sum_by-cons term (a, f) (zip arcs (take (i + 1) flows)),
      sum_by-cons term (a, f) (zip arcs (take i flows)),
      flow_where-more test arcs flows i (omega arith) (omega arith),
    )

-- no flow was added yet
pub flow_where-nothing : (test : OuterArc → Bool) (arcs : List OuterArc) (flows : List ℕ) → flow_where test arcs (take 0 flows) ≡ 0
flow_where-nothing test [] flows = refl
flow_where-nothing test (a ∷ arcs) flows = refl

-- the sum through the one that is set
pub first_sum-put : (xs : List ℕ) (k x : ℕ) → k < length xs → first_sum (set xs k x) (k + 1) ≡ first_sum xs k + x
first_sum-put xs k x within = omega (arith, first_sum-next (set xs k x) k, get_or-set_same xs k x 0 within, ap sum (take-set-le k xs k x (omega arith)))

pub first_sum-before : (xs : List ℕ) (k n x : ℕ) → n ≤ k → first_sum (set xs k x) n ≡ first_sum xs n
first_sum-before xs k n x h = ap sum (take-set-le n xs k x h)

-- the load of the next step
pub sum_next : (arcs : List OuterArc) (flows : List ℕ) (t load start end : ℕ) → ((i : ℕ) → i < length arcs → (arc_at arcs i).start < (arc_at arcs i).end)
    → (t ≡ 0 → load ≡ 0) → ((s : ℕ) → s + 1 ≡ t → load ≡ load_at arcs flows s) → start ≡ flow_where (starts_at t) arcs flows → end ≡ flow_where (ends_at t) arcs flows
    → load_at arcs flows t + end ≡ load + start
sum_next arcs flows zero load start end order none last starts ends = omega (arith, loads_first arcs flows order, none refl, starts, ends)
sum_next arcs flows (suc t) load start end order none last starts ends =
    let e : t + 1 ≡ suc t = omega arith in
    omega (
      arith,
      loads_next arcs flows t order,
      last t e,
      starts,
      ends,
      ap (λ k. load_at arcs flows k) e,
      ap (λ k. flow_where (starts_at k) arcs flows) e,
      ap (λ k. flow_where (ends_at k) arcs flows) e,
    )

pub take_small : (flows : List ℕ) (i j : ℕ) → get_or (take i flows) j 0 ≤ get_or flows j 0
take_small flows zero j = omega arith
take_small [] (suc i) j = omega arith
take_small (f ∷ flows) (suc i) zero = omega arith
take_small (f ∷ flows) (suc i) (suc j) = take_small flows i j

-- the first `i` flows sum to little
pub few_flow : (test : OuterArc → Bool) (arcs : List OuterArc) (flows : List ℕ) (i : ℕ) → length flows ≡ length arcs → ((j : ℕ) → j < length flows → get_or flows j 0 ≤ 2 ^ 48) → length arcs ≤ 2 ^ 26
    → flow_where test arcs (take i flows) ≤ 2 ^ 74
few_flow test arcs flows i same small few =
    omega (arith, flow_where-le test arcs (take i flows) (2 ^ 48) (λ j h. omega (arith, take_small flows i j, small j (omega (arith, same, h)))), few)

pub few_flow_all : (test : OuterArc → Bool) (arcs : List OuterArc) (flows : List ℕ) → length flows ≡ length arcs → ((j : ℕ) → j < length flows → get_or flows j 0 ≤ 2 ^ 48) → length arcs ≤ 2 ^ 26
    → flow_where test arcs flows ≤ 2 ^ 74
few_flow_all test arcs flows same small few = omega (arith, flow_where-le test arcs flows (2 ^ 48) (λ j h. small j (omega (arith, same, h))), few)

-- the flow of one arc was added at its start, and taken at its end
pub changed : (arcs : List OuterArc) (flows xs : List ℕ) (i start end bound : ℕ) → i < length arcs → i < length flows → end < length xs → start < end → (arc_at arcs i).start ≡ start → (arc_at arcs i).end ≡ end
    → get_or flows i 0 ≤ get_or xs end 0
    → ((t : ℕ) → t ≤ bound → get_or xs t 0 + flow_where (ends_at t) arcs (take i flows) ≡ 2 ^ 100 + flow_where (starts_at t) arcs (take i flows))
    → (t : ℕ) → t ≤ bound
    → get_or (set (set xs start (get_or xs start 0 + get_or flows i 0)) end (get_or (set xs start (get_or xs start 0 + get_or flows i 0)) end 0 - get_or flows i 0)) t 0 + flow_where (ends_at t) arcs (take (i + 1) flows)
    ≡ 2 ^ 100 + flow_where (starts_at t) arcs (take (i + 1) flows)
changed arcs flows xs i start end bound within inside room order starts ends enough before t h =
    let f : ℕ = get_or flows i 0 in
    let risen : List ℕ = set xs start (get_or xs start 0 + f) in
    let at_start = set_at xs start t (get_or xs start 0 + f) (omega (arith, room, order)) in
    let kept = (set_at xs start end (get_or xs start 0 + f) (omega (arith, room, order))).1 (λ same. omega (arith, same, order)) in
    let at_end = set_at risen end t (get_or risen end 0 - f) (omega (arith, room, length-set xs start (get_or xs start 0 + f))) in
    let more_ends = flow_where-more (ends_at t) arcs flows i within inside in
    let more_starts = flow_where-more (starts_at t) arcs flows i within inside in
    ⊎_elim
    (λ (e : t ≡ end).
    let here = eq-eqb (arc_at arcs i).end t (ends ∙ sym e) in
    let other = ne_eqb (arc_at arcs i).start t (λ same. omega (arith, same, starts, e, order)) in
    omega (arith, at_end.0 e, kept, enough, before t h, ap (λ k. get_or xs k 0) e, more_ends, more_starts, ap (λ b. cond b f 0) here, ap (λ b. cond b f 0) other))
    (λ (n : t ≢ end).
    let other = ne_eqb (arc_at arcs i).end t (λ same. n (sym same ∙ ends)) in
    ⊎_elim
    (λ (e : t ≡ start).
    let here = eq-eqb (arc_at arcs i).start t (starts ∙ sym e) in
    omega (arith, at_end.1 n, at_start.0 e, before t h, ap (λ k. get_or xs k 0) e, more_ends, more_starts, ap (λ b. cond b f 0) other, ap (λ b. cond b f 0) here))
    (λ (m : t ≢ start).
    let none = ne_eqb (arc_at arcs i).start t (λ same. m (sym same ∙ starts)) in
    omega (arith, at_end.1 n, at_start.1 m, before t h, more_ends, more_starts, ap (λ b. cond b f 0) other, ap (λ b. cond b f 0) none))
    (cases_eq t start))
    (cases_eq t end)
