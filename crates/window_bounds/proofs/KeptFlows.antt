-- From a solution over the arcs that are kept, one of the window: the passing arcs before them are full, and those after them empty.
use Rattle.std.proofs.Common.{◌≡◌, ◌≢◌, ◌∙◌, ℕ, suc, ◌+◌, ◌-◌, ◌*◌, ◌/◌, ◌<◌, ◌≤◌, ap, sym, refl, subst, min, Bool, true, false, cond, eqb, nat_le, nat_lt, arith, List, [], ◌∷◌, ◌++◌, length, map, filter, get_or, sum, sum_by, count_by, zip, take, slice_range, ⊎_elim}
use Rattle.std.specs.List.{range_with_len, AllZip}
use Rattle.std.proofs.lemmas.Bool.{cases_Bool, cases_lt, ne_eqb, leb-true, ltb-true, lt-ltb, le-ltb, and_parts}
use Rattle.std.proofs.lemmas.List.{get_or-map, get_or_default, length-map, same_lists, take-map, take_all}
use Rattle.std.proofs.lemmas.List.FromFn.{fill_by_all, get_or-range_with_len, length-range_with_len}
use Rattle.std.proofs.lemmas.List.Sums.{sum_by-cons}
use Rattle.std.proofs.lemmas.Simd.{map-map}
use Rattle.std.proofs.Math.Nat.{mul-le-mul_left}
use Rattle.cache_model.proofs.Sums.{sum_by-map}
use Rattle.flow_model.specs.declared.arcs.OuterArc.{OuterArc}
use Rattle.flow_model.specs.Instances.{Instance, IsArc, IsSolution, arc_at, covers, load_at, no_arc, price_over, surplus, total_cost, value_at}
use Rattle.flow_model.specs.Windows.{last_window, meets, part_of, part_share, part_steps, window_instance}
use Rattle.flow_model.proofs.Equal.{zip_at, zip_from}
use Rattle.flow_windows.specs.Cuts.{Cut, numbers_of, numbers_where}
use Rattle.flow_windows.proofs.Numbering.{arcs_of_numbers}
use Rattle.window_arcs.specs.declared.arcs.KeptRanks.{KeptRanks}
use Rattle.window_arcs.specs.Current.{AreEmptied, AreInRange, AreLowered, Current, empty_numbers, full_numbers, kept_instance}
use Rattle.window_arcs.specs.Passing.{passes, passes_at, whole_share}
use Rattle.window_bounds.specs.Solutions.{IsFitting, IsNextSolution, flow_in, lowered}
use Rattle.window_bounds.proofs.Places.{place_of}
use Rattle.window_arcs.proofs.CurrentLemmas.{length-slice_range-le, slice_range-at}
use Rattle.window_arcs.proofs.Members.{beside, beside_at, beside_none, outside, passes_in, place_in, place_of_member, sum_by-agree_in, sum_by-le_in, times, times_at, times_failing, times_once, times_passes, times_there}

-- lists of pairs
pub sum_zip_maps : {X Y : Type 0} (g : X × Y → ℕ) (a : ℕ → X) (b : ℕ → Y) (xs : List ℕ) → sum_by g (zip (map a xs) (map b xs)) ≡ sum_by (λ i. g (a i, b i)) xs
sum_zip_maps g a b [] = refl
sum_zip_maps g a b (x ∷ xs) =
    sum_by-cons g (a x, b x) (zip (map a xs) (map b xs))
    ∙ ap (λ n. g (a x, b x) + n) (sum_zip_maps g a b xs)
    ∙ sym (sum_by-cons (λ i. g (a i, b i)) x xs)

-- all pass
filter_all : {X : Type 0} (p : X → Bool) (f : ℕ → X) (xs : List ℕ) → ((j : ℕ) → j < length xs → p (f (get_or xs j 0)) ≡ true) → filter p (map f xs) ≡ map f xs
filter_all p f [] all = refl
filter_all {X} p f (x ∷ xs) all =
    ap (λ (b : Bool). cond b (f x ∷ filter p (map f xs)) (filter p (map f xs))) (all 0 (omega arith))
    ∙ ap (λ (ys : List X). f x ∷ ys) (filter_all p f xs (λ j within. all (suc j) (omega arith)))

-- what earns its cost: surplus and price together
paid : (a w c : ℕ → ℕ) (s : ℕ) (xs : List ℕ) → ((j : ℕ) → j < length xs → a (get_or xs j 0) + w (get_or xs j 0) * s ≡ c (get_or xs j 0)) → sum_by a xs + sum_by w xs * s ≡ sum_by c xs
paid a w c s [] each = omega arith
paid a w c s (x ∷ xs) each =
    let rest : sum_by a xs + sum_by w xs * s ≡ sum_by c xs = paid a w c s xs (λ j within. each (suc j) (omega arith)) in
    let first : a x + w x * s ≡ c x = each 0 (omega arith) in
    let both : (w x + sum_by w xs) * s ≡ w x * s + sum_by w xs * s = grind arith in
    omega (arith, sum_by-cons a x xs, sum_by-cons w x xs, sum_by-cons c x xs, ap (λ n. n * s) (sum_by-cons w x xs), rest, first, both)

-- its part covers all steps of the window, and costs the share of a whole window
pub record IsWholePart (width : ℕ) (arc part : OuterArc) : Type 0 where
  pub start : part.start ≡ 0
  pub end : part.end ≡ width
  pub weight : part.weight ≡ arc.weight
  pub cost : part.cost ≡ whole_share width arc

pub record IsPassing (width k : ℕ) (arc : OuterArc) : Type 0 where
  pub from : arc.start ≤ width * k
  pub until : width * (k + 1) < arc.end

pub passing_is : (width k : ℕ) (arc : OuterArc) → passes width k arc ≡ true → IsPassing width k arc
passing_is width k arc passing =
    let both = and_parts (nat_le arc.start (width * k)) (nat_lt (width * (k + 1)) arc.end) passing in
    record { from = leb-true arc.start (width * k) both.0; until = ltb-true (width * (k + 1)) arc.end both.1 }

-- a later window is the last that it meets
later_last : (width k : ℕ) (arc : OuterArc) → 0 < width → width * (k + 1) < arc.end → k ≢ last_window width arc
later_last width k arc some until = λ here.
    let within : arc.end - 1 < width * (last_window width arc + 1) = omega arith in
    let same : width * (last_window width arc + 1) ≡ width * (k + 1) = ap (λ j. width * (j + 1)) (sym here) in
    omega (arith, within, same, until)

pub whole_part : (width k : ℕ) (arc : OuterArc) → 0 < width → IsPassing width k arc → IsWholePart width arc (part_of width k arc)
whole_part width k arc some passing =
    let from : arc.start ≤ width * k = passing.from in
    let until : width * (k + 1) < arc.end = passing.until in
    let next : width * (k + 1) ≡ width * k + width = omega arith in
    let steps : part_steps width k arc ≡ width = omega arith in
    record {
      start = omega arith;
      end = omega arith;
      weight = refl;
      cost = ap (λ (b : Bool). cond b (arc.cost - sum_by (λ j. part_share width j arc) (range_with_len 0 k)) (part_share width k arc)) (ne_eqb k (last_window width arc) (later_last width k arc some until))
          ∙ ap (λ s. arc.cost * s / (arc.end - arc.start)) steps;
    }

-- among flows by number, that of the part of an arc is that of its number
flow_in_map : (cut : Cut) (width k : ℕ) (flow : ℕ → ℕ) (i : ℕ) → i < length cut.whole.arcs → meets width k (arc_at cut.whole.arcs i) ≡ true
    → flow_in cut.whole width k (map flow (numbers_where (meets width k) cut.whole.arcs)) i ≡ flow i
flow_in_map cut width k flow i within meeting =
    let arcs : List OuterArc = cut.whole.arcs in
    let range : List ℕ = range_with_len 0 (length arcs) in
    let test : ℕ → Bool = λ j. meets width k (arc_at arcs j) in
    let there : get_or range i 0 ≡ i = get_or-range_with_len 0 (length arcs) i 0 within ∙ omega arith in
    let has = place_of test range i 0 (omega (arith, length-range_with_len 0 (length arcs))) (ap test there ∙ meeting) in
    let all : arcs ≡ map (arc_at arcs) range = fill_by_all (arc_at arcs) arcs (length arcs) no_arc refl (λ j low. refl) in
    let count : count_by (meets width k) (take i arcs) ≡ count_by test (take i range) =
    ap (λ (some : List OuterArc). count_by (meets width k) (take i some)) all
    ∙ ap (count_by (meets width k)) (take-map (arc_at arcs) i range)
    ∙ sum_by-map (λ (a : OuterArc). cond (meets width k a) 1 0) (arc_at arcs) (take i range) in
    let numbers : List ℕ = numbers_where (meets width k) arcs in
    ap (λ n. get_or (map flow numbers) n 0) count
    ∙ get_or-map flow numbers (count_by test (take i range)) 0 0 has.within
    ∙ ap flow (has.found ∙ there)

-- all arcs of the window
module _ (c : Current) (ranks : KeptRanks) (kept prices flows : List ℕ) (fitting : IsFitting c ranks kept prices flows) where
  abbrev width : ℕ
  width = c.cut.width

  abbrev k : ℕ
  k = c.cut.number

  abbrev arcs : List OuterArc
  arcs = c.cut.whole.arcs

  abbrev numbers : List ℕ
  numbers = numbers_of c.cut

  abbrev full : List ℕ
  full = full_numbers c ranks

  abbrev empty : List ℕ
  empty = empty_numbers c ranks

  abbrev arc : ℕ → OuterArc
  arc i = arc_at arcs i

  abbrev part : ℕ → OuterArc
  part i = part_of width k (arc i)

  -- the flow of an arc in the window
  abbrev flow : ℕ → ℕ
  flow i = cond (nat_lt 0 (times i full)) (arc i).weight (beside kept flows i)

  split_times : (i : ℕ) → times i numbers ≡ times i kept + times i full + times i empty
  split_times i = fitting.kept_solution.kept_are (λ j. cond (eqb j i) 1 0)

  once : (i : ℕ) → times i numbers ≤ 1
  once i = times_once (λ j. meets width k (arc j)) i (length arcs)

  kept_once : (i : ℕ) → times i kept ≤ 1
  kept_once i = omega (arith, once i, split_times i)

  met : (i : ℕ) → 0 < times i numbers → (i < length arcs) × (meets width k (arc i) ≡ true)
  met i some = times_passes (λ j. meets width k (arc j)) i (length arcs) some

  in_kept : (j : ℕ) → j < length kept → 0 < times (get_or kept j 0) kept
  in_kept j within = times_at (get_or kept j 0) kept j within refl

  in_full : (j : ℕ) → j < length full → 0 < times (get_or full j 0) full
  in_full j within = times_at (get_or full j 0) full j within refl

  in_empty : (j : ℕ) → j < length empty → 0 < times (get_or empty j 0) empty
  in_empty j within = times_at (get_or empty j 0) empty j within refl

  kept_met : (j : ℕ) → j < length kept → (get_or kept j 0 < length arcs) × (meets width k (arc (get_or kept j 0)) ≡ true)
  kept_met j within = met (get_or kept j 0) (omega (arith, in_kept j within, split_times (get_or kept j 0)))

  -- the flow of one that is full
  flow_full : (i : ℕ) → 0 < times i full → flow i ≡ (arc i).weight
  flow_full i some = ap (λ (b : Bool). cond b (arc i).weight (beside kept flows i)) (lt-ltb 0 (times i full) some)

  flow_beside : (i : ℕ) → times i full ≡ 0 → flow i ≡ beside kept flows i
  flow_beside i none = ap (λ (b : Bool). cond b (arc i).weight (beside kept flows i)) (le-ltb 0 (times i full) (omega arith))

  -- of one that is empty
  flow_empty : (i : ℕ) → 0 < times i empty → flow i ≡ 0
  flow_empty i some = flow_beside i (omega (arith, once i, split_times i)) ∙ beside_none kept flows i (omega (arith, once i, split_times i))

  small : AllZip (λ arc flow. flow ≤ arc.weight) (kept_instance c.cut kept ranks.full).arcs flows
  small = fitting.kept_solution.solution.schedule.within_weights

  -- the kept arcs alone
  kept_arcs : (kept_instance c.cut kept ranks.full).arcs ≡ map part kept
  kept_arcs =
      ap (map (part_of width k)) (filter_all (meets width k) arc kept (λ j within. (kept_met j within).1))
      ∙ map-map (part_of width k) arc kept

  pub many : length flows ≡ length kept
  many = (zip_at (kept_instance c.cut kept ranks.full).arcs flows small).0 ∙ ap length kept_arcs ∙ length-map kept part

  -- of one that is kept
  flow_kept : (j : ℕ) → j < length kept → flow (get_or kept j 0) ≡ get_or flows j 0
  flow_kept j within =
      let i : ℕ = get_or kept j 0 in
      flow_beside i (omega (arith, in_kept j within, once i, split_times i)) ∙ beside_at kept flows j many kept_once within

  kept_flows : flows ≡ map flow kept
  kept_flows =
      same_lists flows (map flow kept) (many ∙ sym (length-map kept flow)) (λ j d within.
      let low : j < length kept = omega (arith, many) in
      search_get j d low within)
    where
      search_get : (j d : ℕ) → j < length kept → j < length flows → get_or flows j d ≡ get_or (map flow kept) j d
      search_get j d low within = get_or_default flows j d 0 within ∙ sym (flow_kept j low) ∙ sym (get_or-map flow kept j 0 d low)

  module _ (range : AreInRange c) where
    -- a full arc passes, and earns no less than the prices
    full_passes : (j : ℕ) → j < length full → (get_or full j 0 < length arcs) × IsPassing width k (arc (get_or full j 0)) × (sum prices ≤ whole_share width (arc (get_or full j 0)))
    full_passes j within =
        let i : ℕ = get_or full j 0 in
        let at = place_in (passes_at c.cut) (slice_range c.order 0 ranks.first) j within in
        let low : ranks.first ≤ length c.order = omega (arith, fitting.kept_solution.ranks_are.sorted, fitting.kept_solution.ranks_are.within) in
        let short : at.0 < ranks.first - 0 = omega (arith, at.1, length-slice_range-le c.order 0 ranks.first low) in
        let zero : 0 + at.0 ≡ at.0 = omega arith in
        let is : get_or c.order at.0 0 ≡ i = ap (λ r. get_or c.order r 0) (sym zero) ∙ sym (slice_range-at c.order 0 ranks.first at.0 short) ∙ at.2 in (
          (met i (omega (arith, in_full j within, split_times i))).0,
          passing_is width k (arc i) (passes_in (passes_at c.cut) (slice_range c.order 0 ranks.first) j within),
          subst (λ m. sum prices ≤ whole_share width (arc m)) is (fitting.fit.full at.0 (omega (arith, short))),
        )

    -- an empty one earns no more
    empty_passes : (j : ℕ) → j < length empty → (get_or empty j 0 < length arcs) × IsPassing width k (arc (get_or empty j 0)) × (whole_share width (arc (get_or empty j 0)) ≤ sum prices)
    empty_passes j within =
        let i : ℕ = get_or empty j 0 in
        let at = place_in (passes_at c.cut) (slice_range c.order ranks.end (length c.order)) j within in
        let short : at.0 < length c.order - ranks.end = omega (arith, at.1, length-slice_range-le c.order ranks.end (length c.order) (omega arith)) in
        let is : get_or c.order (ranks.end + at.0) 0 ≡ i = sym (slice_range-at c.order ranks.end (length c.order) at.0 short) ∙ at.2 in (
          (met i (omega (arith, in_empty j within, split_times i))).0,
          passing_is width k (arc i) (passes_in (passes_at c.cut) (slice_range c.order ranks.end (length c.order)) j within),
          subst (λ m. whole_share width (arc m) ≤ sum prices) is (fitting.fit.empty (ranks.end + at.0) (omega arith) (omega (arith, short))),
        )

    arc_fits : (i : ℕ) → i < length arcs → IsArc c.cut.whole.steps (arc i)
    arc_fits i within = range.whole.arcs_fit i no_arc within

    -- the price over a passing arc is that of all steps
    whole_price : (i : ℕ) → i < length arcs → IsPassing width k (arc i) → price_over prices (part i) ≡ sum prices
    whole_price i within passing =
        let is : IsWholePart width (arc i) (part i) = whole_part width k (arc i) range.some_width passing in
        let long : length prices ≡ min c.cut.whole.steps (width * (k + 1)) - width * k = fitting.kept_solution.solution.each_step in
        let all : length prices ≤ width = omega (arith, long) in
        let zero : width - 0 ≡ width = omega arith in
        ap (λ s. sum (slice_range prices s (part i).end)) is.start
        ∙ ap (λ e. sum (slice_range prices 0 e)) is.end
        ∙ ap (λ n. sum (take n prices)) zero
        ∙ ap sum (take_all width prices all)

    -- a full arc pays the prices
    full_pays : (j : ℕ) → j < length full
        → surplus prices (part (get_or full j 0)) + (arc (get_or full j 0)).weight * sum prices ≡ (part (get_or full j 0)).cost * flow (get_or full j 0)
    full_pays j within =
        let i : ℕ = get_or full j 0 in
        let there = full_passes j within in
        let is : IsWholePart width (arc i) (part i) = whole_part width k (arc i) range.some_width there.1 in
        let price : price_over prices (part i) ≡ sum prices = whole_price i there.0 there.1 in
        let enough : sum prices ≤ (part i).cost = omega (arith, there.2, is.cost) in
        let less : (arc i).weight * sum prices ≤ (arc i).weight * (part i).cost = mul-le-mul_left (arc i).weight enough in
        omega (
          arith,
          less,
          ap (λ p. (arc i).weight * (part i).cost - (arc i).weight * p) price,
          ap (λ f. (part i).cost * f) (flow_full i (in_full j within)),
        )

    -- an empty one has no surplus and earns nothing
    empty_pays : (j : ℕ) → j < length empty → (surplus prices (part (get_or empty j 0)) ≡ 0) × ((part (get_or empty j 0)).cost * flow (get_or empty j 0) ≡ 0)
    empty_pays j within =
        let i : ℕ = get_or empty j 0 in
        let there = empty_passes j within in
        let is : IsWholePart width (arc i) (part i) = whole_part width k (arc i) range.some_width there.1 in
        let price : price_over prices (part i) ≡ sum prices = whole_price i there.0 there.1 in
        let enough : (part i).cost ≤ sum prices = omega (arith, there.2, is.cost) in
        let more : (arc i).weight * (part i).cost ≤ (arc i).weight * sum prices = mul-le-mul_left (arc i).weight enough in (
          omega (arith, more, ap (λ p. (arc i).weight * (part i).cost - (arc i).weight * p) price),
          ap (λ f. (part i).cost * f) (flow_empty i (in_empty j within)) ∙ omega arith,
        )

    nothing : (f : ℕ → ℕ) (xs : List ℕ) → ((j : ℕ) → j < length xs → f (get_or xs j 0) ≡ 0) → sum_by f xs ≡ 0
    nothing f xs none = sum_by-agree_in f (λ i. 0) xs none ∙ zeros xs
      where
        zeros : (ys : List ℕ) → sum_by (λ i. 0) ys ≡ 0
        zeros [] = refl
        zeros (y ∷ ys) = omega (arith, sum_by-cons (λ (i : ℕ). 0) y ys, zeros ys)

    -- the instances
    abbrev window : Instance
    window = window_instance c.cut.whole width k

    abbrev small_window : Instance
    small_window = kept_instance c.cut kept ranks.full

    window_arcs : window.arcs ≡ map part numbers
    window_arcs = ap (map (part_of width k)) (sym (arcs_of_numbers (meets width k) arcs)) ∙ map-map (part_of width k) arc numbers

    abbrev window_flows : List ℕ
    window_flows = map flow numbers

    window_surplus : sum_by (surplus prices) window.arcs ≡ sum_by (λ i. surplus prices (part i)) kept + sum_by (λ i. surplus prices (part i)) full + sum_by (λ i. surplus prices (part i)) empty
    window_surplus = ap (sum_by (surplus prices)) window_arcs ∙ sum_by-map (surplus prices) part numbers ∙ fitting.kept_solution.kept_are (λ i. surplus prices (part i))

    window_cost : total_cost window.arcs window_flows ≡ sum_by (λ i. (part i).cost * flow i) kept + sum_by (λ i. (part i).cost * flow i) full + sum_by (λ i. (part i).cost * flow i) empty
    window_cost =
        ap (λ (some : List OuterArc). total_cost some window_flows) window_arcs
        ∙ sum_zip_maps (λ (p : OuterArc × ℕ). p.0.cost * p.1) part flow numbers
        ∙ fitting.kept_solution.kept_are (λ i. (part i).cost * flow i)

    small_surplus : sum_by (surplus prices) small_window.arcs ≡ sum_by (λ i. surplus prices (part i)) kept
    small_surplus = ap (sum_by (surplus prices)) kept_arcs ∙ sum_by-map (surplus prices) part kept

    small_cost : total_cost small_window.arcs flows ≡ sum_by (λ i. (part i).cost * flow i) kept
    small_cost =
        ap (λ (some : List OuterArc). total_cost some flows) kept_arcs
        ∙ ap (λ (fs : List ℕ). total_cost (map part kept) fs) kept_flows
        ∙ sum_zip_maps (λ (p : OuterArc × ℕ). p.0.cost * p.1) part flow kept

    full_paid : sum_by (λ i. surplus prices (part i)) full + sum_by (λ i. (arc i).weight) full * sum prices ≡ sum_by (λ i. (part i).cost * flow i) full
    full_paid = paid (λ i. surplus prices (part i)) (λ i. (arc i).weight) (λ i. (part i).cost * flow i) (sum prices) full full_pays

    values : value_at window prices ≡ total_cost window.arcs window_flows
    values =
        let units : ℕ = c.cut.whole.units in
        let less : ℕ = ranks.full in
        let left : less < units = fitting.kept_solution.ranks_are.room in
        let weights : less ≡ sum_by (λ i. (arc i).weight) full = fitting.kept_solution.ranks_are.full in
        let both : (units - less) * sum prices + less * sum prices ≡ units * sum prices = together units less (sum prices) (omega arith) in
        omega (
          arith,
          window_surplus,
          window_cost,
          small_surplus,
          small_cost,
          fitting.kept_solution.solution.equal_values,
          full_paid,
          ap (λ m. m * sum prices) weights,
          both,
          nothing (λ i. surplus prices (part i)) empty (λ j within. (empty_pays j within).0),
          nothing (λ i. (part i).cost * flow i) empty (λ j within. (empty_pays j within).1),
        )
      where
        together : (u f s : ℕ) → f ≤ u → (u - f) * s + f * s ≡ u * s
        together u f s low = let e : (u - f) + f ≡ u = omega arith in let d : ((u - f) + f) * s ≡ (u - f) * s + f * s = grind arith in sym d ∙ ap (λ n. n * s) e

    -- the schedule
    abbrev over : ℕ → ℕ → ℕ
    over t i = cond (covers t (part i)) (flow i) 0

    over_le : (t i : ℕ) → over t i ≤ flow i
    over_le t i = at (covers t (part i))
      where
        at : (b : Bool) → cond b (flow i) 0 ≤ flow i
        at true = omega arith
        at false = omega arith

    window_load : (t : ℕ) → load_at window.arcs window_flows t ≡ sum_by (over t) kept + sum_by (over t) full + sum_by (over t) empty
    window_load t =
        ap (λ (some : List OuterArc). load_at some window_flows t) window_arcs
        ∙ sum_zip_maps (λ (p : OuterArc × ℕ). cond (covers t p.0) p.1 0) part flow numbers
        ∙ fitting.kept_solution.kept_are (over t)

    small_load : (t : ℕ) → load_at small_window.arcs flows t ≡ sum_by (over t) kept
    small_load t =
        ap (λ (some : List OuterArc). load_at some flows t) kept_arcs
        ∙ ap (λ (fs : List ℕ). load_at (map part kept) fs t) kept_flows
        ∙ sum_zip_maps (λ (p : OuterArc × ℕ). cond (covers t p.0) p.1 0) part flow kept

    within_units : (t : ℕ) → load_at window.arcs window_flows t ≤ window.units
    within_units t =
        omega (
          arith,
          window_load t,
          small_load t,
          fitting.kept_solution.solution.schedule.within_units t,
          fitting.kept_solution.ranks_are.room,
          fitting.kept_solution.ranks_are.full,
          sum_by-le_in (over t) (λ i. (arc i).weight) full (λ j within. omega (arith, over_le t (get_or full j 0), flow_full (get_or full j 0) (in_full j within))),
          nothing (over t) empty (λ j within. omega (arith, over_le t (get_or empty j 0), flow_empty (get_or empty j 0) (in_empty j within))),
        )

    flow_small : (i : ℕ) → 0 < times i numbers → flow i ≤ (arc i).weight
    flow_small i some =
        ⊎_elim
        (λ (is_full : 0 < times i full). omega (arith, flow_full i is_full))
        (λ (other : times i full ≤ 0).
        ⊎_elim
        (λ (is_empty : 0 < times i empty). omega (arith, flow_empty i is_empty))
        (λ (no : times i empty ≤ 0).
        let at = place_of_member i kept (omega (arith, some, split_times i)) in
        let low : get_or flows at.0 0 ≤ (arc_at small_window.arcs at.0).weight = (zip_at small_window.arcs flows small).1 at.0 (omega (arith, at.1, ap length kept_arcs, length-map kept part)) in
        let is : arc_at small_window.arcs at.0 ≡ part (get_or kept at.0 0) = ap (λ (some : List OuterArc). arc_at some at.0) kept_arcs ∙ get_or-map part kept at.0 0 no_arc at.1 in
        omega (
          arith,
          low,
          ap (λ (a : OuterArc). a.weight) is,
          flow_kept at.0 at.1,
          ap flow at.2,
          ap (λ m. (arc m).weight) at.2,
        ))
        (cases_lt 0 (times i empty)))
        (cases_lt 0 (times i full))

    in_numbers : (j : ℕ) → j < length numbers → 0 < times (get_or numbers j 0) numbers
    in_numbers j within = times_at (get_or numbers j 0) numbers j within refl

    within_weights : AllZip (λ arc flow. flow ≤ arc.weight) window.arcs window_flows
    within_weights =
        subst (λ (some : List OuterArc). AllZip (λ arc flow. flow ≤ arc.weight) some window_flows) (sym window_arcs)
        (zip_from (map part numbers) window_flows (length-map numbers flow ∙ sym (length-map numbers part)) (λ j low.
        let within : j < length numbers = omega (arith, low, length-map numbers part) in
        omega (
          arith,
          flow_small (get_or numbers j 0) (in_numbers j within),
          get_or-map flow numbers j 0 0 within,
          ap (λ (a : OuterArc). a.weight) (get_or-map part numbers j 0 no_arc within),
        )))

    -- the window's solution
    window_solution : IsSolution window prices window_flows
    window_solution = record {
      each_step = fitting.kept_solution.solution.each_step;
      schedule = record { within_weights = within_weights; within_units = within_units };
      equal_values = values;
    }

    -- the flows so far
    module _ (mid new : List ℕ) (lower : AreLowered kept flows c.flows mid) (emptied : AreEmptied empty mid new) where
      -- one that meets the window falls to its flow there
      falls : (i : ℕ) → i < length arcs → meets width k (arc i) ≡ true → get_or new i 0 ≡ min (get_or c.flows i 0) (flow i)
      falls i within meeting =
          let here : times i numbers ≡ 1 = times_there (λ j. meets width k (arc j)) i (length arcs) within meeting in
          ⊎_elim
          (λ (is_full : 0 < times i full).
          omega (
            arith,
            emptied.others i (outside i empty (omega (arith, here, split_times i))),
            lower.others i (outside i kept (omega (arith, here, split_times i))),
            flow_full i is_full,
            range.within_weights i within,
          ))
          (λ (other : times i full ≤ 0).
          ⊎_elim
          (λ (is_empty : 0 < times i empty).
          let at = place_of_member i empty is_empty in
          omega (arith, flow_empty i is_empty, subst (λ m. get_or new m 0 ≡ 0) at.2 (emptied.emptied at.0 at.1)))
          (λ (no : times i empty ≤ 0).
          let at = place_of_member i kept (omega (arith, here, split_times i)) in
          omega (
            arith,
            emptied.others i (outside i empty (omega (arith, no))),
            subst (λ m. get_or mid m 0 ≡ min (get_or c.flows m 0) (get_or flows at.0 0)) at.2 (lower.fallen at.0 at.1),
            flow_kept at.0 at.1,
            ap flow at.2,
          ))
          (cases_lt 0 (times i empty)))
          (cases_lt 0 (times i full))

      -- another stays
      stays : (i : ℕ) → meets width k (arc i) ≡ false → get_or new i 0 ≡ get_or c.flows i 0
      stays i apart =
          let none : times i numbers ≡ 0 = times_failing (λ j. meets width k (arc j)) i (length arcs) apart in
          emptied.others i (outside i empty (omega (arith, none, split_times i))) ∙ lower.others i (outside i kept (omega (arith, none, split_times i)))

      are_lowered : (i : ℕ) → i < length c.flows → get_or new i 0 ≡ lowered c.cut.whole width k window_flows i (get_or c.flows i 0)
      are_lowered i low =
          let within : i < length arcs = omega (arith, range.each_arc) in
          ⊎_elim
          (λ (meeting : meets width k (arc i) ≡ true).
          falls i within meeting
          ∙ ap (min (get_or c.flows i 0)) (sym (flow_in_map c.cut width k flow i within meeting))
          ∙ sym (ap (λ (b : Bool). cond b (min (get_or c.flows i 0) (flow_in c.cut.whole width k window_flows i)) (get_or c.flows i 0)) meeting))
          (λ (apart : meets width k (arc i) ≡ false).
          stays i apart ∙ sym (ap (λ (b : Bool). cond b (min (get_or c.flows i 0) (flow_in c.cut.whole width k window_flows i)) (get_or c.flows i 0)) apart))
          (cases_Bool (meets width k (arc i)))

      -- one more window is solved
      pub next_solution : (old_prices new_prices : List ℕ) → new_prices ≡ old_prices ++ prices → IsNextSolution c.cut old_prices c.flows new_prices new
      next_solution old_prices new_prices extended =
          record {
            found = prices;
            parts = window_flows;
            solution = window_solution;
            extended = extended;
            fallen = are_lowered;
          }
