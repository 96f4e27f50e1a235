-- The parts of an instance that is cut into windows.
use Rattle.std.proofs.Common.{◌≡◌, ℕ, suc, zero, ◌+◌, ◌-◌, ◌*◌, ◌/◌, ◌<◌, ◌≤◌, ◌∙◌, sym, refl, ap, min, max, Bool, true, false, cond, List, [], ◌∷◌, length, filter, take, drop, arith, ⊎_elim, sum, sum_by, slice_range, All}
use Rattle.std.specs.List.{range_with_len}
use Rattle.std.proofs.Math.Nat.{mul-le-mul_left}
use Rattle.std.proofs.lemmas.Bool.{cases_lt, cases_eq, lt-ltb, le-ltb, eq-eqb, ne_eqb}
use Rattle.std.proofs.lemmas.List.{take-take, take_all}
use Rattle.std.proofs.lemmas.List.Sums.{sum_by-cons}
use Rattle.cache_model.proofs.Sums.{sum_by-map, sum_by-filter, sum_by-agree}
use Rattle.flow_model.specs.declared.arcs.OuterArc.{OuterArc}
use Rattle.flow_model.specs.Instances.{Instance, IsArc, no_arc, arc_at, price_over, surplus, value_at}
use Rattle.flow_model.specs.Windows.{part_steps, meets, part_share, last_window, part_cost, part_of, window_instance}
use Rattle.cache_model.proofs.Ranges.{sum_by-add, sum_by-times}
use Rattle.flow_model.proofs.Sums.{sum-slice_range}

-- what differences sum to
differences : (w : ℕ) (f g : ℕ → ℕ) (xs : List ℕ) → w * sum_by f xs - w * sum_by g xs ≤ sum_by (λ t. w * f t - w * g t) xs
differences w f g [] = omega arith
differences w f g (x ∷ xs) =
    omega (arith, differences w f g xs, ap (λ n. w * n) (sum_by-cons f x xs), ap (λ n. w * n) (sum_by-cons g x xs), sum_by-cons (λ t. w * f t - w * g t) x xs)

range_last : (f : ℕ → ℕ) (a n : ℕ) → sum_by f (range_with_len a (suc n)) ≡ sum_by f (range_with_len a n) + f (a + n)
range_last f a zero = let e : a + 0 ≡ a = omega arith in omega (arith, sum_by-cons f a [], ap f e)
range_last f a (suc n) =
    let e : (a + 1) + n ≡ a + suc n = omega arith in
    omega (arith, sum_by-cons f a (range_with_len (a + 1) (suc n)), sum_by-cons f a (range_with_len (a + 1) n), range_last f (a + 1) n, ap f e)

-- the sum of a part of a part
pub sum_inner : (xs : List ℕ) (a b s e : ℕ) → a ≤ s → s ≤ e → e ≤ b → sum (slice_range (slice_range xs a b) (s - a) (e - a)) + sum (take s xs) ≡ sum (take e xs)
sum_inner xs a b s e low order high =
    let ys : List ℕ = slice_range xs a b in
    let start : (k : ℕ) → k ≤ b - a → sum (take k ys) + sum (take a xs) ≡ sum (take (a + k) xs) = λ k h.
    let same : (a + k) - a ≡ k = omega arith in
    omega (arith, ap sum (take-take k (b - a) (drop a xs) h), ap (λ n. sum (take n (drop a xs))) same, sum-slice_range xs a (a + k) (omega arith)) in
    let at_s : a + (s - a) ≡ s = omega arith in
    let at_e : a + (e - a) ≡ e = omega arith in
    omega (
      arith,
      sum-slice_range ys (s - a) (e - a) (omega arith),
      start (s - a) (omega arith),
      start (e - a) (omega arith),
      ap (λ n. sum (take n xs)) at_s,
      ap (λ n. sum (take n xs)) at_e,
    )

module _ (width : ℕ) (some : 0 < width) (prices : List ℕ) where
  abbrev slice : ℕ → List ℕ
  slice k = slice_range prices (width * k) (width * (k + 1))

  abbrev met_price : OuterArc → ℕ → ℕ
  met_price arc k = cond (meets width k arc) (price_over (slice k) (part_of width k arc)) 0

  abbrev met_cost : OuterArc → ℕ → ℕ
  met_cost arc k = cond (meets width k arc) (part_cost width k arc) 0

  -- where the arc has come to by the window's start
  abbrev come : OuterArc → ℕ → ℕ
  come arc k = min arc.end (max arc.start (width * k))

  one_price : (arc : OuterArc) (k : ℕ) → arc.start ≤ arc.end → met_price arc k + sum (take (come arc k) prices) ≡ sum (take (come arc (k + 1)) prices)
  one_price arc k order =
      let a : ℕ = width * k in
      let b : ℕ = width * (k + 1) in
      let next : b ≡ a + width = omega arith in
      ⊎_elim
      (λ (h : 0 < part_steps width k arc).
      let from : come arc k ≡ max arc.start a = omega arith in
      let to : come arc (k + 1) ≡ min arc.end b = omega arith in
      omega (
        arith,
        ap (λ t. cond t (price_over (slice k) (part_of width k arc)) 0) (lt-ltb 0 (part_steps width k arc) h),
        sum_inner prices a b (max arc.start a) (min arc.end b) (omega arith) (omega arith) (omega arith),
        ap (λ n. sum (take n prices)) from,
        ap (λ n. sum (take n prices)) to,
      ))
      (λ (h : part_steps width k arc ≤ 0).
      let stays : come arc k ≡ come arc (k + 1) = omega arith in
      omega (arith, ap (λ t. cond t (price_over (slice k) (part_of width k arc)) 0) (le-ltb 0 (part_steps width k arc) h), ap (λ n. sum (take n prices)) stays))
      (cases_lt 0 (part_steps width k arc))

  all_prices : (arc : OuterArc) (m a : ℕ) → arc.start ≤ arc.end → sum_by (met_price arc) (range_with_len a m) + sum (take (come arc a) prices) ≡ sum (take (come arc (a + m)) prices)
  all_prices arc zero a order = let e : a + 0 ≡ a = omega arith in ap (λ n. 0 + sum (take (come arc n) prices)) (sym e) ∙ omega arith
  all_prices arc (suc m) a order =
      let e : (a + 1) + m ≡ a + suc m = omega arith in
      omega (
        arith,
        sum_by-cons (met_price arc) a (range_with_len (a + 1) m),
        one_price arc a order,
        all_prices arc m (a + 1) order,
        ap (λ n. sum (take (come arc n) prices)) e,
      )

  -- the parts cost at least what the arc does
  all_costs : (arc : OuterArc) (m a : ℕ) → arc.start < arc.end → a ≤ last_window width arc → last_window width arc < a + m
      → arc.cost ≤ sum_by (met_cost arc) (range_with_len a m) + sum_by (λ j. part_share width j arc) (range_with_len 0 a)
  all_costs arc zero a order low high = absurd (omega arith)
  all_costs arc (suc m) a order low high =
      let shares : ℕ → ℕ = λ j. part_share width j arc in
      ⊎_elim
      (λ (is : a ≡ last_window width arc).
      let product : width * a ≡ width * ((arc.end - 1) / width) = ap (λ n. width * n) is in
      let some_steps : 0 < part_steps width a arc = omega (arith, product) in
      let cost : part_cost width a arc ≡ arc.cost - sum_by shares (range_with_len 0 a) = ap (λ t. cond t (arc.cost - sum_by shares (range_with_len 0 a)) (part_share width a arc)) (eq-eqb a (last_window width arc) is) in
      omega (
        arith,
        sum_by-cons (met_cost arc) a (range_with_len (a + 1) m),
        ap (λ t. cond t (part_cost width a arc) 0) (lt-ltb 0 (part_steps width a arc) some_steps),
        cost,
      ))
      (λ (other : a ≡ last_window width arc → ⊥).
      let rest = all_costs arc m (a + 1) order (omega arith) (omega arith) in
      let e : a + 1 ≡ suc a = omega arith in
      let o : 0 + a ≡ a = omega arith in
      let cost : part_cost width a arc ≡ part_share width a arc = ap (λ t. cond t (arc.cost - sum_by shares (range_with_len 0 a)) (part_share width a arc)) (ne_eqb a (last_window width arc) other) in
      let own : part_share width a arc ≤ met_cost arc a =
      ⊎_elim
      (λ (h : 0 < part_steps width a arc). omega (arith, cost, ap (λ t. cond t (part_cost width a arc) 0) (lt-ltb 0 (part_steps width a arc) h)))
      (λ (h : part_steps width a arc ≤ 0).
      let none : part_steps width a arc ≡ 0 = omega arith in
      let product : arc.cost * part_steps width a arc ≡ 0 = ap (λ n. arc.cost * n) none ∙ omega arith in
      let nothing : part_share width a arc ≡ 0 / (arc.end - arc.start) = ap (λ n. n / (arc.end - arc.start)) product in
      let long : 0 < arc.end - arc.start = omega arith in
      omega (arith, nothing))
      (cases_lt 0 (part_steps width a arc)) in
      omega (
        arith,
        sum_by-cons (met_cost arc) a (range_with_len (a + 1) m),
        rest,
        ap (λ n. sum_by shares (range_with_len 0 n)) e,
        range_last shares 0 a,
        ap shares o,
        own,
      ))
      (cases_eq a (last_window width arc))

  -- what the arc's part in the window adds
  abbrev met_surplus : OuterArc → ℕ → ℕ
  met_surplus arc k = cond (meets width k arc) (surplus (slice k) (part_of width k arc)) 0

  one_arc : (arc : OuterArc) (windows : ℕ) → arc.start < arc.end → arc.end ≤ width * windows → surplus prices arc ≤ sum_by (met_surplus arc) (range_with_len 0 windows)
  one_arc arc windows order within =
      let ks : List ℕ = range_with_len 0 windows in
      let first : come arc 0 ≡ arc.start = omega arith in
      let zero_add : 0 + windows ≡ windows = omega arith in
      let last : come arc windows ≡ arc.end = omega arith in
      let inside : last_window width arc < windows =
      ⊎_elim (λ (h : last_window width arc < windows). h) (λ (h : windows ≤ last_window width arc). absurd (omega (arith, mul-le-mul_left width h))) (cases_lt (last_window width arc) windows) in
      let paid : sum_by (met_price arc) ks ≡ price_over prices arc = omega (
        arith,
        all_prices arc windows 0 (omega arith),
        ap (λ n. sum (take n prices)) first,
        ap (λ n. sum (take (come arc n) prices)) zero_add,
        ap (λ n. sum (take n prices)) last,
        sum-slice_range prices arc.start arc.end (omega arith),
      ) in
      let earned : arc.cost ≤ sum_by (met_cost arc) ks = omega (arith, all_costs arc windows 0 order (omega arith) (omega arith)) in
      let more : arc.weight * arc.cost ≤ arc.weight * sum_by (met_cost arc) ks = mul-le-mul_left arc.weight earned in
      omega (
        arith,
        more,
        ap (λ n. arc.weight * n) paid,
        differences arc.weight (met_cost arc) (met_price arc) ks,
        sum_by-agree (λ k. arc.weight * met_cost arc k - arc.weight * met_price arc k) (met_surplus arc) ks (λ k. at k (meets width k arc)),
      )
    where
      at : (k : ℕ) (b : Bool) → arc.weight * cond b (part_cost width k arc) 0 - arc.weight * cond b (price_over (slice k) (part_of width k arc)) 0 ≡ cond b (surplus (slice k) (part_of width k arc)) 0
      at k true = refl
      at k false = omega arith

  all_arcs : (arcs : List OuterArc) (windows : ℕ) → ((i : ℕ) → i < length arcs → (arc_at arcs i).start < (arc_at arcs i).end) → ((i : ℕ) → i < length arcs → (arc_at arcs i).end ≤ width * windows)
      → sum_by (surplus prices) arcs ≤ sum_by (λ k. sum_by (λ arc. met_surplus arc k) arcs) (range_with_len 0 windows)
  all_arcs [] windows order within = omega arith
  all_arcs (i ∷ arcs) windows order within =
      let ks : List ℕ = range_with_len 0 windows in
      omega (
        arith,
        sum_by-cons (surplus prices) i arcs,
        one_arc i windows (order 0 (omega arith)) (within 0 (omega arith)),
        all_arcs arcs windows (λ k h. order (suc k) (omega arith)) (λ k h. within (suc k) (omega arith)),
        sum_by-add (met_surplus i) (λ k. sum_by (λ arc. met_surplus arc k) arcs) ks,
        sum_by-agree (λ k. met_surplus i k + sum_by (λ arc. met_surplus arc k) arcs) (λ k. sum_by (λ arc. met_surplus arc k) (i ∷ arcs)) ks (λ k. sym (sum_by-cons (λ arc. met_surplus arc k) i arcs)),
      )

  all_slices : (m a : ℕ) → sum_by (λ k. sum (slice k)) (range_with_len a m) + sum (take (width * a) prices) ≡ sum (take (width * (a + m)) prices)
  all_slices zero a = let e : a + 0 ≡ a = omega arith in ap (λ n. 0 + sum (take (width * n) prices)) (sym e) ∙ omega arith
  all_slices (suc m) a =
      let e : (a + 1) + m ≡ a + suc m = omega arith in
      omega (
        arith,
        sum_by-cons (λ k. sum (slice k)) a (range_with_len (a + 1) m),
        sum-slice_range prices (width * a) (width * (a + 1)) (omega arith),
        all_slices m (a + 1),
        ap (λ n. sum (take (width * n) prices)) e,
      )

pub windows_are_above : (whole : Instance) (width windows : ℕ) (prices : List ℕ) → 0 < width → whole.steps ≤ width * windows → length prices ≡ whole.steps → All (IsArc whole.steps) whole.arcs
    → value_at whole prices ≤ sum_by (λ k. value_at (window_instance whole width k) (slice_range prices (width * k) (width * (k + 1)))) (range_with_len 0 windows)
windows_are_above whole width windows prices some enough same arcs =
    let ks : List ℕ = range_with_len 0 windows in
    let price : ℕ → ℕ = λ k. sum (slice width some prices k) in
    let extra : ℕ → ℕ = λ k. sum_by (λ arc. met_surplus width some prices arc k) whole.arcs in
    let zero_add : 0 + windows ≡ windows = omega arith in
    let none : width * 0 ≡ 0 = omega arith in
    let all : sum_by price ks ≡ sum prices = omega (
      arith,
      all_slices width some prices windows 0,
      ap (λ n. sum (take n prices)) none,
      ap (λ n. sum (take (width * n) prices)) zero_add,
      ap sum (take_all (width * windows) prices (omega arith)),
    ) in
    omega (
      arith,
      all_arcs width some prices whole.arcs windows (λ i h. (arcs i no_arc h).order) (λ i h. omega (arith, (arcs i no_arc h).within)),
      ap (λ n. whole.units * n) all,
      sum_by-times whole.units price ks,
      sum_by-add (λ k. whole.units * price k) extra ks,
      sum_by-agree (λ k. whole.units * price k + extra k) (λ k. value_at (window_instance whole width k) (slice_range prices (width * k) (width * (k + 1)))) ks (λ k. each k),
    )
  where
    each : (k : ℕ) → whole.units * sum (slice width some prices k) + sum_by (λ arc. met_surplus width some prices arc k) whole.arcs ≡ value_at (window_instance whole width k) (slice_range prices (width * k) (width * (k + 1)))
    each k =
        let chosen : OuterArc → Bool = meets width k in
        omega (
          arith,
          sum_by-map (surplus (slice width some prices k)) (part_of width k) (filter chosen whole.arcs),
          sum_by-filter (λ arc. surplus (slice width some prices k) (part_of width k arc)) chosen whole.arcs,
        )
