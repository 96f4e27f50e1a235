-- The numbers of a block's instance are in their ranges.
use Rattle.std.proofs.Common.{◌≡◌, ℕ, ◌+◌, ◌-◌, ◌*◌, ◌/◌, ◌%◌, ◌^◌, ◌<◌, ◌≤◌, sym, subst, arith, Bool, true, false, cond, List, [], ◌∷◌, length, filter, flat_map, get_or, sum, sum_by, All, ⊎_elim}
use Rattle.std.proofs.Math.Nat.{mul-div-le}
use Rattle.std.proofs.lemmas.Bool.{and_parts, cases_Bool, eqb-false, ltb-true}
use Rattle.std.proofs.lemmas.List.Concat.{length-flat_map}
use Rattle.std.proofs.lemmas.List.Elements.{All-append, All-cons, All-filter, All-head, All-nil, All-tail, All-weaker, filter_passes}
use Rattle.std.proofs.lemmas.List.Sums.{count_by-le-length, length-filter, sum_by-le}
use Rattle.std.proofs.lemmas.Nat.{div-add-mod', mod_below, mul-le}
use Rattle.std.specs.Prelude.{nat_eq, nat_lt}
use Rattle.cache_model.specs.declared.intervals.Interval.{Interval}
use Rattle.cache_model.specs.Units.{weight}
use Rattle.interval_maker.specs.Timelines.{IsInterval}
use Rattle.flow_model.specs.declared.arcs.OuterArc.{OuterArc}
use Rattle.flow_model.specs.Instances.{Instance, IsArc, IsInstance}
use Rattle.price_refine.proofs.ArcValues.{worths-le}
use Rattle.price_refine.specs.declared.block.Block.{Block}
use Rattle.price_refine.specs.Parts.{AreCounted, IsBlock, arcs_of, arcs_of_worth, block_instance, cut_arc, meets, price_outside, upper_arcs, worth_above}

-- an arc over these steps, whose weight earns a small worth
pub record IsFitting (steps : ℕ) (arc : OuterArc) : Type 0 where
  pub is_arc : IsArc steps arc
  pub worth : arc.weight * arc.cost ≤ 2 ^ 96

-- an interval over the steps that meets the block
pub record IsMet (steps : ℕ) (block : Block) (i : Interval) : Type 0 where
  pub interval : IsInterval steps i
  pub weight : 1 ≤ weight block.unit i
  pub starts : i.start < block.end
  pub ends : block.first < i.end

pub div-small : (n k : ℕ) → 0 < k → n / k ≤ n
div-small n k some = omega (arith, mul-div-le n k, mul-le 1 (n / k) k (n / k) some (omega arith))

-- either list has it
All-cond : {X : Type 0} (P : X → Type 0) (b : Bool) (xs ys : List X) → (b ≡ true → All P xs) → (b ≡ false → All P ys) → All P (cond b xs ys)
All-cond P b xs ys first second =
    ⊎_elim
    (λ is. subst (λ t. All P (cond t xs ys)) (sym is) (first is))
    (λ isnt. subst (λ t. All P (cond t xs ys)) (sym isnt) (second isnt))
    (cases_Bool b)

-- what is cut from such an interval
cut_fits : (block : Block) (i : Interval) (w cost : ℕ) → block.first < block.end → i.start < i.end → i.start < block.end → block.first < i.end
    → 0 < w → w ≤ 2 ^ 48 → cost ≤ 2 ^ 97 → w * cost ≤ 2 ^ 96 → IsFitting (block.end - block.first) (cut_arc block i w cost)
cut_fits block i w cost order starts met ends some small low earns = record {
  is_arc = record { order = omega arith; within = omega arith; some_weight = some; small_weight = small; small_cost = low };
  worth = earns;
}

-- both arcs of an interval fit
arcs_fit : (block : Block) (i : Interval) (w worth : ℕ) → block.first < block.end → i.start < i.end → i.start < block.end → block.first < i.end
    → 0 < w → w ≤ 2 ^ 48 → worth ≤ 2 ^ 96 → All (IsFitting (block.end - block.first)) (arcs_of_worth block i w worth)
arcs_fit block i w worth order starts met ends some small low =
    let Fits : OuterArc → Type 0 = IsFitting (block.end - block.first) in
    let r : ℕ = worth % w in
    let g : ℕ = worth / w in
    let below : r < w = mod_below worth w some in
    let whole : g * w + r ≡ worth = div-add-mod' worth w in
    let cost : g ≤ worth = div-small worth w some in
    let lower : (w - r) * g ≤ w * g = mul-le (w - r) g w g (omega arith) (omega arith) in
    let upper : r * g ≤ w * g = mul-le r g w g (omega arith) (omega arith) in
    All-cond Fits (nat_eq worth 0) [] (cut_arc block i (w - r) g ∷ upper_arcs block i w worth)
    (λ none. All-nil Fits)
    (λ worthy. All-cons Fits (cut_arc block i (w - r) g) (upper_arcs block i w worth)
    (cut_fits block i (w - r) g order starts met ends (omega arith) (omega arith) (omega arith) (omega arith))
    (All-cond Fits (nat_eq r 0) [] (cut_arc block i r (g + 1) ∷ [])
    (λ none. All-nil Fits)
    (λ rest. All-cons Fits (cut_arc block i r (g + 1)) []
    (cut_fits block i r (g + 1) order starts met ends (let e : r ≡ 0 → ⊥ = eqb-false r 0 rest in omega (arith, e)) (omega arith) (omega arith) (omega arith))
    (All-nil Fits))))

-- what an interval earns is small
pub worth-small : (block : Block) (i : Interval) (outside : ℕ) → block.denominator ≤ 2 ^ 48 → i.gain ≤ 2 ^ 48 → worth_above block outside i ≤ 2 ^ 96
worth-small block i outside denominator gain = omega (arith, mul-le block.denominator i.gain (2 ^ 48) (2 ^ 48) denominator gain)

met_fits : (steps : ℕ) (block : Block) (prices : List ℕ) (i : Interval) → IsBlock steps block → IsMet steps block i → All (IsFitting (block.end - block.first)) (arcs_of block prices i)
met_fits steps block prices i is met =
    arcs_fit block i (weight block.unit i) (worth_above block (price_outside block prices i) i) is.order met.interval.order met.starts met.ends met.weight
    (omega (arith, div-small i.size block.unit is.some_unit, met.interval.size)) (worth-small block i (price_outside block prices i) is.denominator met.interval.gain.1)

-- at most two arcs
few_of : (block : Block) (i : Interval) (w worth : ℕ) → length (arcs_of_worth block i w worth) ≤ 2
few_of block i w worth = first (nat_eq worth 0) (nat_eq (worth % w) 0)
  where
    first : (b c : Bool) → length (cond b [] (cut_arc block i (w - worth % w) (worth / w) ∷ cond c [] (cut_arc block i (worth % w) (worth / w + 1) ∷ []))) ≤ 2
    first true c = omega arith
    first false true = omega arith
    first false false = omega arith

All-flat_map : {X Y : Type 0} (P : Y → Type 0) (Q : X → Type 0) (f : X → List Y) (xs : List X) → ((x : X) → Q x → All P (f x)) → All Q xs → All P (flat_map f xs)
All-flat_map P Q f [] each all = All-nil P
All-flat_map P Q f (x ∷ xs) each all = All-append P (f x) (flat_map f xs) (each x (All-head Q x xs all)) (All-flat_map P Q f xs each (All-tail Q x xs all))

-- the intervals that meet the block
all_met : (steps : ℕ) (block : Block) (items : List Interval) → AreCounted steps block.unit items → All (IsMet steps block) (filter (meets block) items)
all_met steps block items counted = λ k d within.
    let i : Interval = get_or (filter (meets block) items) k d in
    let passes : meets block i ≡ true = filter_passes (meets block) items k d within in
    let parts = and_parts (nat_lt i.start block.end) (nat_lt block.first i.end) passes in
    record {
      interval = All-filter (meets block) (IsInterval steps) items counted.intervals k d within;
      weight = All-filter (meets block) (λ j. 1 ≤ weight block.unit j) items counted.weights k d within;
      starts = ltb-true i.start block.end parts.0;
      ends = ltb-true block.first i.end parts.1;
    }

all_fit : (steps : ℕ) (block : Block) (prices : List ℕ) (items : List Interval) → IsBlock steps block → AreCounted steps block.unit items
    → All (IsFitting (block.end - block.first)) (flat_map (arcs_of block prices) (filter (meets block) items))
all_fit steps block prices items is counted =
    All-flat_map (IsFitting (block.end - block.first)) (IsMet steps block) (arcs_of block prices) (filter (meets block) items) (λ i met. met_fits steps block prices i is met)
    (all_met steps block items counted)

pub is_instance : (steps : ℕ) (block : Block) (prices : List ℕ) (items : List Interval) → IsBlock steps block → AreCounted steps block.unit items → IsInstance (block_instance block prices items)
is_instance steps block prices items is counted =
    let met : List Interval = filter (meets block) items in
    let arcs : List OuterArc = flat_map (arcs_of block prices) met in
    record {
      few_steps = omega (arith, is.few_steps, is.within);
      some_units = is.some_units;
      few_units = is.few_units;
      few_arcs = omega (
        arith,
        length-flat_map (arcs_of block prices) met,
        sum_by-le (λ i. length (arcs_of block prices i)) 2 met (λ k d within. few_of block (get_or met k d) (weight block.unit (get_or met k d)) (worth_above block (price_outside block prices (get_or met k d)) (get_or met k d))),
        length-filter (meets block) items,
        count_by-le-length (meets block) items,
        counted.few,
      );
      arcs_fit = All-weaker (IsFitting (block.end - block.first)) (IsArc (block.end - block.first)) (λ arc h. h.is_arc) arcs (all_fit steps block prices items is counted);
    }

pub worths : (steps : ℕ) (block : Block) (prices : List ℕ) (items : List Interval) → IsBlock steps block → AreCounted steps block.unit items
    → All (λ arc. arc.weight * arc.cost ≤ 2 ^ 96) (block_instance block prices items).arcs
worths steps block prices items is counted =
    All-weaker (IsFitting (block.end - block.first)) (λ arc. arc.weight * arc.cost ≤ 2 ^ 96) (λ arc h. h.worth) (flat_map (arcs_of block prices) (filter (meets block) items)) (all_fit steps block prices items is counted)

-- so the units pay little for prices that cost no more than the arcs are worth
pub found-paid : (steps : ℕ) (block : Block) (prices : List ℕ) (items : List Interval) (instance : Instance) (found : List ℕ) → instance ≡ block_instance block prices items → IsBlock steps block → AreCounted steps block.unit items
    → instance.units * sum found ≤ sum_by (λ arc. arc.weight * arc.cost) instance.arcs → instance.units * sum found ≤ 2 ^ 122
found-paid steps block prices items instance found made is counted paid =
    omega (
      arith,
      paid,
      worths-le instance.arcs (subst (λ (i : Instance). length i.arcs ≤ 2 ^ 26) (sym made) (is_instance steps block prices items is counted).few_arcs)
          (subst (λ (i : Instance). All (λ arc. arc.weight * arc.cost ≤ 2 ^ 96) i.arcs) (sym made) (worths steps block prices items is counted)),
    )
