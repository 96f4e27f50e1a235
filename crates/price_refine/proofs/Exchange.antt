-- The bound of prices that differ in a block alone is the value of the block's instance, with a rest that is the same for all.
use Rattle.std.proofs.Common.{◌≡◌, ◌∙◌, ℕ, ◌+◌, ◌-◌, ◌*◌, ◌<◌, ◌≤◌, ap, sym, refl, arith, true, false, cond, min, max, List, [], ◌∷◌, length, filter, flat_map, sum, sum_by, slice_range, All, ⊎_elim}
use Rattle.std.proofs.lemmas.Bool.{and_parts, and_cases, cases_Bool, cases_lt, ltb-true, ltb-false}
use Rattle.std.proofs.lemmas.List.{take_all}
use Rattle.std.proofs.lemmas.List.Concat.{flat_map-cons}
use Rattle.std.proofs.lemmas.List.Elements.{All-head, All-tail}
use Rattle.std.proofs.lemmas.List.Sums.{sum_by-append, sum_by-cons}
use Rattle.std.specs.Prelude.{nat_lt}
use Rattle.cache_model.specs.declared.intervals.Interval.{Interval}
use Rattle.cache_model.specs.Intervals.{bound_of, surplus as surplus_of}
use Rattle.cache_model.specs.Units.{weight}
use Rattle.flow_model.specs.declared.arcs.OuterArc.{OuterArc}
use Rattle.flow_model.specs.Instances.{surplus, price_over, value_at}
use Rattle.flow_model.proofs.Sums.{sum-slice_range}
use Rattle.flow_model.proofs.Windows.{sum_inner}
use Rattle.price_refine.specs.declared.block.Block.{Block}
use Rattle.price_refine.specs.Blocks.{AgreeOutside}
use Rattle.price_refine.specs.Parts.{arcs_of, block_instance, cut_arc, meets, price_outside, worth_above}
use Rattle.price_refine.proofs.Slices.{same_after, same_before, sum_cut, sum_none}
use Rattle.price_refine.proofs.TwoArcs.{arcs_earn}

-- an interval covers a step and has a weight
pub record IsSized (unit : ℕ) (i : Interval) : Type 0 where
  pub order : i.start < i.end
  pub weight : 0 < weight unit i

-- up to the block, and from its end on
front : (prices : List ℕ) (s a : ℕ) → sum (slice_range prices s (max s a)) ≡ sum (slice_range prices s a)
front prices s a =
    ⊎_elim
    (λ (inside : a < s).
    let e : max s a ≡ s = omega arith in
    ap (λ n. sum (slice_range prices s n)) e ∙ sum_none prices s s (omega arith) ∙ sym (sum_none prices s a (omega arith)))
    (λ (outside : s ≤ a). let e : max s a ≡ a = omega arith in ap (λ n. sum (slice_range prices s n)) e)
    (cases_lt a s)

back : (prices : List ℕ) (e b : ℕ) → sum (slice_range prices (min e b) e) ≡ sum (slice_range prices b e)
back prices e b =
    ⊎_elim
    (λ (inside : e < b).
    let is : min e b ≡ e = omega arith in
    ap (λ n. sum (slice_range prices n e)) is ∙ sum_none prices e e (omega arith) ∙ sym (sum_none prices b e (omega arith)))
    (λ (outside : b ≤ e). let is : min e b ≡ b = omega arith in ap (λ n. sum (slice_range prices n e)) is)
    (cases_lt e b)

-- the block's steps of the prices
abbrev pub prices_of : Block → List ℕ → List ℕ
prices_of block prices = slice_range prices block.first block.end

-- the price of an interval that meets the block is that outside and that inside
price_split : (block : Block) (i : Interval) (prices : List ℕ) → block.first < block.end → i.start < i.end → i.start < block.end → block.first < i.end
    → sum (slice_range prices i.start i.end) ≡ price_outside block prices i + price_over (prices_of block prices) (cut_arc block i 0 0)
price_split block i prices some order starts ends =
    let a : ℕ = block.first in
    let b : ℕ = block.end in
    let s : ℕ = max i.start a in
    let e : ℕ = min i.end b in
    omega (
      arith,
      sum_cut prices i.start s i.end (omega arith) (omega arith),
      sum_cut prices s e i.end (omega arith) (omega arith),
      front prices i.start a,
      back prices i.end b,
      sum_inner prices a b s e (omega arith) (omega arith) (omega arith),
      sum-slice_range prices s e (omega arith),
    )

module _ (block : Block) (some : block.first < block.end) (base : List ℕ) where
  -- what the arcs of these intervals earn in the block
  abbrev earned : List ℕ → List Interval → ℕ
  earned prices items = sum_by (surplus (prices_of block prices)) (flat_map (arcs_of block base) (filter (meets block) items))

  abbrev Agrees : List ℕ → Type 0
  Agrees prices = AgreeOutside block.first block.end base prices

  same_outside : (i : Interval) (prices : List ℕ) → Agrees prices → price_outside block prices i ≡ price_outside block base i
  same_outside i prices agree =
      omega (arith, ap sum (same_before block.first block.end i.start block.first base prices agree (omega arith)), ap sum (same_after block.first block.end block.end i.end base prices agree (omega arith)))

  -- the surplus of an interval that meets the block is what its arcs earn
  surplus_met : (i : Interval) (prices : List ℕ) → Agrees prices → IsSized block.unit i → meets block i ≡ true
      → surplus_of block.unit block.denominator prices i ≡ sum_by (surplus (prices_of block prices)) (arcs_of block base i)
  surplus_met i prices agree sized met =
      let parts = and_parts (nat_lt i.start block.end) (nat_lt block.first i.end) met in
      let w : ℕ = weight block.unit i in
      let o : ℕ = price_outside block base i in
      let x : ℕ = price_over (prices_of block prices) (cut_arc block i 0 0) in
      let split : sum (slice_range prices i.start i.end) ≡ o + x = omega (
        arith,
        price_split block i prices some sized.order (ltb-true i.start block.end parts.0) (ltb-true block.first i.end parts.1),
        same_outside i prices agree,
      ) in
      omega (arith, arcs_earn block i w (worth_above block o i) (prices_of block prices) sized.weight, ap (λ n. w * n) split)

  -- that of one that does not is the same at all such prices
  surplus_unmet : (i : Interval) (prices : List ℕ) → Agrees prices → IsSized block.unit i → meets block i ≡ false
      → surplus_of block.unit block.denominator prices i ≡ surplus_of block.unit block.denominator base i
  surplus_unmet i prices agree sized unmet =
      let w : ℕ = weight block.unit i in
      let total : List ℕ → ℕ = λ ps. block.denominator * i.gain - w * sum ps in
      ⊎_elim
      (λ late. ap total (same_after block.first block.end i.start i.end base prices agree (ltb-false i.start block.end late)))
      (λ early. ap total (same_before block.first block.end i.start i.end base prices agree (ltb-false block.first i.end early)))
      (and_cases (nat_lt i.start block.end) (nat_lt block.first i.end) unmet)

  earned_met : (i : Interval) (items : List Interval) (prices : List ℕ) → meets block i ≡ true
      → earned prices (i ∷ items) ≡ sum_by (surplus (prices_of block prices)) (arcs_of block base i) + earned prices items
  earned_met i items prices met =
      let rest : List Interval = filter (meets block) items in
      let earn : List OuterArc → ℕ = sum_by (surplus (prices_of block prices)) in
      ap (λ t. earn (flat_map (arcs_of block base) (cond t (i ∷ rest) rest))) met
      ∙ ap earn (flat_map-cons (arcs_of block base) i rest)
      ∙ sum_by-append (surplus (prices_of block prices)) (arcs_of block base i) (flat_map (arcs_of block base) rest)

  earned_unmet : (i : Interval) (items : List Interval) (prices : List ℕ) → meets block i ≡ false → earned prices (i ∷ items) ≡ earned prices items
  earned_unmet i items prices unmet =
      let rest : List Interval = filter (meets block) items in
      ap (λ t. sum_by (surplus (prices_of block prices)) (flat_map (arcs_of block base) (cond t (i ∷ rest) rest))) unmet

  exchange_earned : (items : List Interval) (prices others : List ℕ) → Agrees prices → Agrees others → All (IsSized block.unit) items
      → sum_by (surplus_of block.unit block.denominator prices) items + earned others items ≡ sum_by (surplus_of block.unit block.denominator others) items + earned prices items
  exchange_earned [] prices others agree agree_too sized = refl
  exchange_earned (i ∷ items) prices others agree agree_too sized =
      let first = All-head (IsSized block.unit) i items sized in
      let rest = exchange_earned items prices others agree agree_too (All-tail (IsSized block.unit) i items sized) in
      let these = sum_by-cons (surplus_of block.unit block.denominator prices) i items in
      let those = sum_by-cons (surplus_of block.unit block.denominator others) i items in
      ⊎_elim
      (λ met. omega (arith, these, those, rest, earned_met i items prices met, earned_met i items others met, surplus_met i prices agree first met, surplus_met i others agree_too first met))
      (λ unmet. omega (arith, these, those, rest, earned_unmet i items prices unmet, earned_unmet i items others unmet, surplus_unmet i prices agree first unmet, surplus_unmet i others agree_too first unmet))
      (cases_Bool (meets block i))

  -- the sum of prices is that before the block, that in it and that behind it
  pub sum_split : (prices : List ℕ) → Agrees prices → block.end ≤ length base
      → sum prices ≡ sum (slice_range base 0 block.first) + sum (prices_of block prices) + sum (slice_range base block.end (length base))
  sum_split prices agree within =
      let n : ℕ = length base in
      omega (
        arith,
        sum-slice_range prices 0 n (omega arith),
        ap sum (take_all n prices (omega (arith, agree.steps))),
        sum_cut prices 0 block.first n (omega arith) (omega arith),
        sum_cut prices block.first block.end n (omega arith) (omega arith),
        ap sum (same_before block.first block.end 0 block.first base prices agree (omega arith)),
        ap sum (same_after block.first block.end block.end n base prices agree (omega arith)),
      )

  pub exchange : (items : List Interval) (prices others : List ℕ) → Agrees prices → Agrees others → block.end ≤ length base → All (IsSized block.unit) items
      → bound_of items block.unit block.units block.denominator prices + value_at (block_instance block base items) (prices_of block others)
      ≡ bound_of items block.unit block.units block.denominator others + value_at (block_instance block base items) (prices_of block prices)
  exchange items prices others agree agree_too within sized =
      omega (
        arith,
        exchange_earned items prices others agree agree_too sized,
        ap (λ n. block.units * n) (sum_split prices agree within),
        ap (λ n. block.units * n) (sum_split others agree_too within),
      )
