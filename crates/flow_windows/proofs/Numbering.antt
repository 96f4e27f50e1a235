-- Arcs by their numbers.
use Rattle.std.proofs.Common.{◌≡◌, ◌∙◌, ℕ, ◌+◌, ◌-◌, ◌<◌, ◌≤◌, ◌&&◌, ap, sym, refl, subst, Bool, true, false, cond, nat_lt, arith, List, [], ◌∷◌, length, map, filter, take, get_or, All}
use Rattle.std.specs.List.{range_with_len}
use Rattle.std.proofs.lemmas.Bool.{lt-ltb, le-ltb, ltb-true, and_left}
use Rattle.std.proofs.lemmas.List.{take_all}
use Rattle.std.proofs.lemmas.List.FromFn.{fill_by_all}
use Rattle.std.proofs.lemmas.Simd.{map-map}
use Rattle.cache_model.proofs.Eligible.{filter-range_none}
use Rattle.cache_model.proofs.Keeps.{All-filter_range}
use Rattle.flow_model.specs.declared.arcs.OuterArc.{OuterArc}
use Rattle.flow_model.specs.Instances.{arc_at, no_arc}
use Rattle.flow_model.specs.Windows.{meets, part_of, part_steps}
use Rattle.flow_windows.specs.Cuts.{met_before, numbers_where}

-- a filter of what a function makes
filter-map : {X Y : Type 0} (test : Y → Bool) (f : X → Y) (xs : List X) → filter test (map f xs) ≡ map f (filter (λ x. test (f x)) xs)
filter-map test f [] = refl
filter-map {X} {Y} test f (x ∷ xs) = at (test (f x)) (filter-map test f xs)
  where
    at : (t : Bool) → filter test (map f xs) ≡ map f (filter (λ (y : X). test (f y)) xs)
        → cond t (f x ∷ filter test (map f xs)) (filter test (map f xs)) ≡ map f (cond t (x ∷ filter (λ (y : X). test (f y)) xs) (filter (λ (y : X). test (f y)) xs))
    at true later = ap (λ ys. f x ∷ ys) later
    at false later = later

-- the arcs of the numbers of those that pass are those that pass
pub arcs_of_numbers : (test : OuterArc → Bool) (arcs : List OuterArc) → map (arc_at arcs) (numbers_where test arcs) ≡ filter test arcs
arcs_of_numbers test arcs =
    let all : arcs ≡ map (arc_at arcs) (range_with_len 0 (length arcs)) = fill_by_all (arc_at arcs) arcs (length arcs) no_arc refl (λ k within. refl) in
    sym (filter-map test (arc_at arcs) (range_with_len 0 (length arcs))) ∙ sym (ap (filter test) all)

-- the number is that of an arc that passes
pub record IsNumber (test : OuterArc → Bool) (arcs : List OuterArc) (number : ℕ) : Type 0 where
  pub within : number < length arcs
  pub passes : test (arc_at arcs number) ≡ true

pub are_numbers : (test : OuterArc → Bool) (arcs : List OuterArc) → All (IsNumber test arcs) (numbers_where test arcs)
are_numbers test arcs =
    All-filter_range (IsNumber test arcs) (λ i. test (arc_at arcs i)) 0 (length arcs) (λ k low high passes. record { within = omega arith; passes = passes })

-- no window is before the first
pub none_before_first : (width k : ℕ) (arcs : List OuterArc) → k ≡ 0 → numbers_where (met_before width k) arcs ≡ []
none_before_first width k arcs first =
    filter-range_none (λ i. met_before width k (arc_at arcs i)) 0 (length arcs) (λ i low high. and_left (nat_lt 0 k) (meets width (k - 1) (arc_at arcs i)) (le-ltb 0 k (omega arith)))

-- the arcs that met the window before window k + 1 are those that meet window k
pub met_before-next : (width k : ℕ) (arcs : List OuterArc) → numbers_where (met_before width (k + 1)) arcs ≡ numbers_where (meets width k) arcs
met_before-next width k arcs =
    let some : nat_lt 0 (k + 1) ≡ true = lt-ltb 0 (k + 1) (omega arith) in
    let back : (k + 1) - 1 ≡ k = omega arith in
    ap (λ t. numbers_where (λ arc. t && meets width ((k + 1) - 1) arc) arcs) some ∙ ap (λ j. numbers_where (meets width j) arcs) back

-- the parts of all numbers are those of the arcs that meet the window
pub parts_of_numbers : (width k i : ℕ) (arcs : List OuterArc) (numbers : List ℕ) (parts : List OuterArc) → numbers ≡ numbers_where (meets width k) arcs → length numbers ≤ i
    → parts ≡ map (λ n. part_of width k (arc_at arcs n)) (take i numbers) → parts ≡ map (part_of width k) (filter (meets width k) arcs)
parts_of_numbers width k i arcs numbers parts are past made =
    made
    ∙ ap (λ ns. map (λ n. part_of width k (arc_at arcs n)) ns) (take_all i numbers past ∙ are)
    ∙ sym (map-map (part_of width k) (arc_at arcs) (numbers_where (meets width k) arcs))
    ∙ ap (map (part_of width k)) (arcs_of_numbers (meets width k) arcs)

-- an arc that meets the window, of that number
pub record IsMet (width k : ℕ) (arcs : List OuterArc) (number : ℕ) : Type 0 where
  pub within : number < length arcs
  pub steps : 0 < part_steps width k (arc_at arcs number)
  pub order : (arc_at arcs number).start < (arc_at arcs number).end

pub met_at : (width k : ℕ) (arcs : List OuterArc) (numbers : List ℕ) (i : ℕ) → numbers ≡ numbers_where (meets width k) arcs → i < length numbers → IsMet width k arcs (get_or numbers i 0)
met_at width k arcs numbers i are within =
    let number : ℕ = get_or numbers i 0 in
    let is : IsNumber (meets width k) arcs number = subst (λ ns. All (IsNumber (meets width k) arcs) ns) (sym are) (are_numbers (meets width k) arcs) i 0 within in
    let steps : 0 < part_steps width k (arc_at arcs number) = ltb-true 0 (part_steps width k (arc_at arcs number)) is.passes in
    record { within = is.within; steps = steps; order = omega (arith, steps) }
