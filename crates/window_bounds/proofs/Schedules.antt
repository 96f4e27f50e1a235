-- Flows that are at most those of their parts fit where the parts do.
use Rattle.std.proofs.Common.{◌≡◌, ◌∙◌, ℕ, suc, ◌+◌, ◌-◌, ◌*◌, ◌<◌, ◌≤◌, ap, sym, refl, Bool, true, false, cond, nat_le, nat_lt, arith, List, [], ◌∷◌, length, map, filter, take, get_or, count_by, zip, All, ⊎_elim}
use Rattle.std.proofs.lemmas.Bool.{cases_Bool, false≢true, leb-true, ltb-true, le-leb, lt-ltb, le-ltb, and_parts, and_from, and_right}
use Rattle.std.proofs.lemmas.List.Elements.{All-head, All-tail}
use Rattle.std.proofs.lemmas.List.Sums.{sum_by-cons}
use Rattle.flow_model.specs.declared.arcs.OuterArc.{OuterArc}
use Rattle.flow_model.specs.Instances.{IsArc, arc_at, covers, load_at}
use Rattle.flow_model.specs.Windows.{meets, part_of, part_steps}

-- the flow of one arc over step t
abbrev pub over : ℕ → OuterArc → ℕ → ℕ
over t arc flow = cond (covers t arc) flow 0

load-cons : (arc : OuterArc) (arcs : List OuterArc) (flow : ℕ) (flows : List ℕ) (t : ℕ) → load_at (arc ∷ arcs) (flow ∷ flows) t ≡ over t arc flow + load_at arcs flows t
load-cons arc arcs flow flows t = sum_by-cons (λ (p : OuterArc × ℕ). over t p.0 p.1) (arc, flow) (zip arcs flows)

-- an arc that covers a step of the window meets it, and its part covers the step
covers_part : (width k t : ℕ) (arc : OuterArc) → width * k ≤ t → t < width * (k + 1) → covers t arc ≡ true → (meets width k arc ≡ true) × (covers (t - width * k) (part_of width k arc) ≡ true)
covers_part width k t arc low high there =
    let both = and_parts (nat_le arc.start t) (nat_lt t arc.end) there in
    let from : arc.start ≤ t = leb-true arc.start t both.0 in
    let until : t < arc.end = ltb-true t arc.end both.1 in
    let part : OuterArc = part_of width k arc in (
      lt-ltb 0 (part_steps width k arc) (omega arith),
      and_from (nat_le part.start (t - width * k)) (nat_lt (t - width * k) part.end) (le-leb part.start (t - width * k) (omega arith)) (lt-ltb (t - width * k) part.end (omega arith)),
    )

-- so what the arc has over the step is at most what its part has
over-le : (width k t : ℕ) (arc : OuterArc) (flow part : ℕ) → width * k ≤ t → t < width * (k + 1) → flow ≤ part → over t arc flow ≤ over (t - width * k) (part_of width k arc) part
over-le width k t arc flow part low high small =
    ⊎_elim
    (λ (there : covers t arc ≡ true).
    omega (
      arith,
      ap (λ b. cond b flow 0) there,
      ap (λ b. cond b part 0) (covers_part width k t arc low high there).1,
    ))
    (λ (not_there : covers t arc ≡ false). omega (arith, ap (λ b. cond b flow 0) not_there))
    (cases_Bool (covers t arc))

-- and an arc that does not meet the window has nothing
over-none : (width k t : ℕ) (arc : OuterArc) (flow : ℕ) → width * k ≤ t → t < width * (k + 1) → meets width k arc ≡ false → over t arc flow ≡ 0
over-none width k t arc flow low high apart =
    ⊎_elim
    (λ (there : covers t arc ≡ true). absurd (false≢true (sym apart ∙ (covers_part width k t arc low high there).0)))
    (λ (not_there : covers t arc ≡ false). ap (λ b. cond b flow 0) not_there)
    (cases_Bool (covers t arc))

-- the flows of arcs are at most those of their parts in the window
abbrev pub AreBelowParts : ℕ → ℕ → List OuterArc → List ℕ → List ℕ → Type 0
AreBelowParts width k arcs flows parts = (i : ℕ) → i < length arcs → meets width k (arc_at arcs i) ≡ true → get_or flows i 0 ≤ get_or parts (count_by (meets width k) (take i arcs)) 0

-- with one more arc in prefix
below-tail : (width k : ℕ) (arc : OuterArc) (arcs : List OuterArc) (flow : ℕ) (flows parts rest : List ℕ)
    → ((place : ℕ) → get_or parts (cond (meets width k arc) 1 0 + place) 0 ≡ get_or rest place 0)
    → AreBelowParts width k (arc ∷ arcs) (flow ∷ flows) parts → AreBelowParts width k arcs flows rest
below-tail width k arc arcs flow flows parts rest moved below i within met =
    let count : count_by (meets width k) (arc ∷ take i arcs) ≡ cond (meets width k arc) 1 0 + count_by (meets width k) (take i arcs) = sum_by-cons (λ (a : OuterArc). cond (meets width k a) 1 0) arc (take i arcs) in
    omega (arith, below (suc i) (omega arith) met, ap (λ n. get_or parts n 0) count, moved (count_by (meets width k) (take i arcs)))

pub load-le : (width k t : ℕ) (arcs : List OuterArc) (flows parts : List ℕ) → width * k ≤ t → t < width * (k + 1) → length parts ≡ length (filter (meets width k) arcs) → AreBelowParts width k arcs flows parts
    → load_at arcs flows t ≤ load_at (map (part_of width k) (filter (meets width k) arcs)) parts (t - width * k)
load-le width k t [] flows parts low high many below = omega arith
load-le width k t (arc ∷ arcs) [] parts low high many below = omega arith
load-le width k t (arc ∷ arcs) (flow ∷ flows) parts low high many below =
    at (meets width k arc) refl parts many below (λ rest as_many later. load-le width k t arcs flows rest low high as_many later)
  where
    Later : Type 0
    Later = (rest : List ℕ) → length rest ≡ length (filter (meets width k) arcs) → AreBelowParts width k arcs flows rest → load_at arcs flows t ≤ load_at (map (part_of width k) (filter (meets width k) arcs)) rest (t - width * k)

    at : (b : Bool) → meets width k arc ≡ b → (fs : List ℕ) → length fs ≡ length (cond b (arc ∷ filter (meets width k) arcs) (filter (meets width k) arcs)) → AreBelowParts width k (arc ∷ arcs) (flow ∷ flows) fs → Later
        → load_at (arc ∷ arcs) (flow ∷ flows) t ≤ load_at (map (part_of width k) (cond b (arc ∷ filter (meets width k) arcs) (filter (meets width k) arcs))) fs (t - width * k)
    at true met [] as_many below later = absurd (omega arith)
    at true met (f ∷ fs) as_many below later =
        let one : cond (meets width k arc) 1 0 ≡ 1 = ap (λ (b : Bool). cond b 1 0) met in
        let rest : AreBelowParts width k arcs flows fs = below-tail width k arc arcs flow flows (f ∷ fs) fs (λ place. ap (λ n. get_or (f ∷ fs) (n + place) 0) one ∙ ap (λ n. get_or (f ∷ fs) n 0) (next place)) below in
        omega (
          arith,
          load-cons arc arcs flow flows t,
          load-cons (part_of width k arc) (map (part_of width k) (filter (meets width k) arcs)) f fs (t - width * k),
          over-le width k t arc flow f low high (below 0 (omega arith) met),
          later fs (omega arith) rest,
        )
      where
        next : (place : ℕ) → 1 + place ≡ suc place
        next place = omega arith
    at false apart fs as_many below later =
        let none : cond (meets width k arc) 1 0 ≡ 0 = ap (λ (b : Bool). cond b 1 0) apart in
        let rest : AreBelowParts width k arcs flows fs = below-tail width k arc arcs flow flows fs fs (λ place. ap (λ n. get_or fs (n + place) 0) none ∙ ap (λ n. get_or fs n 0) (same place)) below in
        omega (arith, load-cons arc arcs flow flows t, over-none width k t arc flow low high apart, later fs as_many rest)
      where
        same : (place : ℕ) → 0 + place ≡ place
        same place = omega arith

-- past the last step there is no load
pub load_past : (steps t : ℕ) (arcs : List OuterArc) (flows : List ℕ) → steps ≤ t → All (IsArc steps) arcs → load_at arcs flows t ≡ 0
load_past steps t [] flows past fit = refl
load_past steps t (arc ∷ arcs) [] past fit = refl
load_past steps t (arc ∷ arcs) (flow ∷ flows) past fit =
    let first = All-head (IsArc steps) arc arcs fit in
    let apart : covers t arc ≡ false = and_right (nat_le arc.start t) (nat_lt t arc.end) (le-ltb t arc.end (omega (arith, first.within))) in
    omega (arith, load-cons arc arcs flow flows t, ap (λ b. cond b flow 0) apart, load_past steps t arcs flows past (All-tail (IsArc steps) arc arcs fit))
