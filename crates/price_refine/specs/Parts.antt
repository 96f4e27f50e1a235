-- The intervals cut to a block, as arcs of the flow.
use Rattle.std.specs.Prelude.{◌≡◌, ℕ, ◌+◌, ◌-◌, ◌*◌, ◌/◌, ◌%◌, ◌^◌, ◌<◌, ◌≤◌, ◌==◌, Bool, true, false, ◌&&◌, nat_lt, min, max, if◌then◌else◌, List, [], ◌∷◌, filter, flat_map, length, slice_index, slice_range, sum, take, All}
use Rattle.cache_model.specs.declared.intervals.Interval.{Interval}
use Rattle.cache_model.specs.Units.{weight}
use Rattle.flow_model.specs.declared.arcs.OuterArc.{OuterArc}
use Rattle.flow_model.specs.Instances.{Instance}
use Rattle.cache_model.specs.Intervals.{bound_of}
use Rattle.interval_maker.specs.Timelines.{IsInterval}
use Rattle.price_refine.specs.declared.block.Block.{Block}
use Rattle.price_refine.specs.Blocks.{AgreeOutside}

-- the interval covers a step of the block
abbrev pub meets : Block → Interval → Bool
meets block i = nat_lt i.start block.end && nat_lt block.first i.end

-- the prices of the steps that the interval covers outside of the block, summed
abbrev pub price_outside : Block → List ℕ → Interval → ℕ
price_outside block prices i = sum (slice_range prices i.start block.first) + sum (slice_range prices block.end i.end)

-- what the interval earns over the denominator above that price of its weight, and 0 if it earns less
abbrev pub worth_above : Block → ℕ → Interval → ℕ
worth_above block outside i = block.denominator * i.gain - weight block.unit i * outside

-- an arc over the steps of the block that the interval covers, counted from the first of the block
abbrev pub cut_arc : Block → Interval → ℕ → ℕ → OuterArc
cut_arc block i weight cost =
    record { start = max i.start block.first - block.first; end = min i.end block.end - block.first; weight = weight; cost = cost }

-- the arc of that part of the weight which earns one more, if the worth is no multiple of the weight
abbrev pub upper_arcs : Block → Interval → ℕ → ℕ → List OuterArc
upper_arcs block i w worth = if worth % w == 0 then [] else cut_arc block i (worth % w) (worth / w + 1) ∷ []

-- the arcs of an interval of some worth: together their weights are its weight, and their costs at their weights its worth
abbrev pub arcs_of_worth : Block → Interval → ℕ → ℕ → List OuterArc
arcs_of_worth block i w worth =
    if worth == 0 then [] else cut_arc block i (w - worth % w) (worth / w) ∷ upper_arcs block i w worth

-- the arcs of an interval at the prices outside
abbrev pub arcs_of : Block → List ℕ → Interval → List OuterArc
arcs_of block prices i = arcs_of_worth block i (weight block.unit i) (worth_above block (price_outside block prices i) i)

-- the instance of a block: its steps, the units, and the arcs of the intervals that meet it
abbrev pub block_instance : Block → List ℕ → List Interval → Instance
block_instance block prices intervals =
    record { steps = block.end - block.first; units = block.units; arcs = flat_map (arcs_of block prices) (filter (meets block) intervals) }

-- through the place the sums are those of all prices before each step, and behind the end their differences are those of the prices between
pub record AreSumsBeside (place end : ℕ) (prices sums : List ℕ) : Type 0 where
  pub one_more : length sums ≡ length prices + 1
  pub before : (t : ℕ) → t ≤ place → t < length prices → slice_index sums t ≡ sum (take t prices)
  pub behind : (s t : ℕ) → end < s → s ≤ t → t < length prices → slice_index sums t ≡ slice_index sums s + sum (slice_range prices s t)

-- the difference of the sums at two places, and nothing if they are not in order
pub record AreBetween (sums : List ℕ) (from to difference : ℕ) : Type 0 where
  pub in_order : from < to → difference + slice_index sums from ≡ slice_index sums to
  pub not_in_order : to ≤ from → difference ≡ 0

-- the numbers of the block are in their ranges, and it has a step but not the last one
pub record IsBlock (steps : ℕ) (block : Block) : Type 0 where
  pub few_steps : steps ≤ 2 ^ 25
  pub some_unit : 1 ≤ block.unit
  pub some_units : 1 ≤ block.units
  pub few_units : block.units ≤ 2 ^ 56
  pub denominator : block.denominator ≤ 2 ^ 48
  pub order : block.first < block.end
  pub within : block.end < steps

-- few intervals over the steps, each with a weight
pub record AreCounted (steps unit : ℕ) (items : List Interval) : Type 0 where
  pub few : length items ≤ 2 ^ 25
  pub intervals : All (IsInterval steps) items
  pub weights : All (λ i. 1 ≤ weight unit i) items

-- the bound of the prices, in what the block is counted in
abbrev pub bound_in : Block → List Interval → List ℕ → ℕ
bound_in block items prices = bound_of items block.unit block.units block.denominator prices

-- no other prices of the block's steps give a smaller bound
abbrev pub IsSettled : List Interval → Block → List ℕ → Type 0
IsSettled intervals block prices =
    (others : List ℕ) → AgreeOutside block.first block.end prices others
    → bound_in block intervals prices ≤ bound_in block intervals others

-- only prices of the block change: they become those that were found, if these are better
pub record IsChoice (block : Block) (old found : List ℕ) (is_better : Bool) (new : List ℕ) : Type 0 where
  pub agree : AgreeOutside block.first block.end old new
  pub taken : is_better ≡ true → slice_range new block.first block.end ≡ found
  pub stays : is_better ≡ false → new ≡ old

-- only prices of the block change, after which it is settled; the bound is smaller by the fall, and the prices stay if it does not fall
pub record IsSettling (intervals : List Interval) (block : Block) (old new : List ℕ) (fall : ℕ) : Type 0 where
  pub agree : AgreeOutside block.first block.end old new
  pub settled : IsSettled intervals block new
  pub falls : bound_in block intervals new + fall ≡ bound_in block intervals old
  pub stays : fall ≡ 0 → new ≡ old
