-- Where the part of an arc stands among the parts of its window.
use Rattle.std.proofs.Common.{◌≡◌, ◌∙◌, ℕ, suc, ◌+◌, ◌<◌, ◌≤◌, ap, sym, Bool, true, cond, arith, List, ◌∷◌, ◌++◌, length, map, filter, take, drop, get_or, count_by, drop-cons}
use Rattle.std.proofs.lemmas.List.{get_or-append-add, get_or-map, length-append, length-map, take-append-drop}
use Rattle.std.proofs.lemmas.List.Elements.{filter-append}
use Rattle.std.proofs.lemmas.List.Sums.{length-filter}
use Rattle.flow_model.specs.declared.arcs.OuterArc.{OuterArc}
use Rattle.flow_model.specs.Instances.{Instance, IsSchedule, arc_at, no_arc}
use Rattle.flow_model.specs.Windows.{meets, part_of, window_instance}
use Rattle.flow_model.proofs.Equal.{zip_at}
use Rattle.flow_windows.specs.Cuts.{numbers_where}
use Rattle.flow_windows.proofs.Numbering.{arcs_of_numbers}
use Rattle.window_bounds.specs.Solutions.{flow_in}

-- what passes stands behind those before it that pass
pub record HasPlace {X : Type 0} (p : X → Bool) (xs : List X) (i : ℕ) (d : X) : Type 0 where
  pub within : count_by p (take i xs) < length (filter p xs)
  pub found : get_or (filter p xs) (count_by p (take i xs)) d ≡ get_or xs i d

pub place_of : {X : Type 0} (p : X → Bool) (xs : List X) (i : ℕ) (d : X) → i < length xs → p (get_or xs i d) ≡ true → HasPlace p xs i d
place_of {X} p xs i d low passes =
    let x : X = get_or xs i d in
    let before : List X = filter p (take i xs) in
    let after : List X = filter p (drop (suc i) xs) in
    let split : filter p xs ≡ before ++ (x ∷ after) =
    ap (filter p) (sym (take-append-drop i xs))
    ∙ filter-append p (take i xs) (drop i xs)
    ∙ ap (λ (ys : List X). before ++ filter p ys) (drop-cons xs i d low)
    ∙ ap (λ (b : Bool). before ++ cond b (x ∷ after) after) passes in
    let count : length before ≡ count_by p (take i xs) = length-filter p (take i xs) in
    let at_end : length before + 0 ≡ count_by p (take i xs) = omega arith in
    record {
      within = omega (arith, ap length split, length-append before (x ∷ after));
      found = ap (λ (ys : List X). get_or ys (count_by p (take i xs)) d) split ∙ ap (λ n. get_or (before ++ (x ∷ after)) n d) (sym at_end) ∙ get_or-append-add before (x ∷ after) 0 d;
    }

-- the flow of a part is at most the weight of its arc
pub flow_in-le : (whole : Instance) (width k : ℕ) (flows : List ℕ) (i : ℕ) → IsSchedule (window_instance whole width k) flows → i < length whole.arcs → meets width k (arc_at whole.arcs i) ≡ true
    → flow_in whole width k flows i ≤ (arc_at whole.arcs i).weight
flow_in-le whole width k flows i schedule low met =
    let parts : List OuterArc = filter (meets width k) whole.arcs in
    let place : ℕ = count_by (meets width k) (take i whole.arcs) in
    let has = place_of (meets width k) whole.arcs i no_arc low met in
    let small = zip_at (map (part_of width k) parts) flows schedule.within_weights in
    let arc : arc_at (map (part_of width k) parts) place ≡ part_of width k (arc_at parts place) = get_or-map (part_of width k) parts place no_arc no_arc has.within in
    let weight : (arc_at (map (part_of width k) parts) place).weight ≡ (arc_at whole.arcs i).weight = ap (λ (a : OuterArc). a.weight) arc ∙ ap (λ (a : OuterArc). a.weight) has.found in
    omega (arith, small.1 place (omega (arith, has.within, length-map parts (part_of width k))), weight)

-- a window has as many flows as arcs that meet it
pub as_many_parts : (whole : Instance) (width k : ℕ) (flows : List ℕ) → IsSchedule (window_instance whole width k) flows → length flows ≡ length (numbers_where (meets width k) whole.arcs)
as_many_parts whole width k flows schedule =
    let parts : List OuterArc = filter (meets width k) whole.arcs in
    let numbers : List ℕ = numbers_where (meets width k) whole.arcs in
    (zip_at (map (part_of width k) parts) flows schedule.within_weights).0
    ∙ length-map parts (part_of width k)
    ∙ ap length (sym (arcs_of_numbers (meets width k) whole.arcs))
    ∙ length-map numbers (arc_at whole.arcs)
