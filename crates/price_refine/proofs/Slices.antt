-- Prices that agree outside of a block, and the sums of their slices.
use Rattle.std.proofs.Common.{◌≡◌, ◌∙◌, ℕ, ◌+◌, ◌-◌, ◌<◌, ◌≤◌, ap, sym, arith, List, length, get_or, take, drop, sum, slice_range, length-take, length-drop}
use Rattle.std.proofs.lemmas.List.{ext_get_or, get_or-take, get_or-drop}
use Rattle.flow_model.proofs.Sums.{sum-slice_range}
use Rattle.price_refine.specs.Blocks.{AgreeOutside}

-- the slices of some steps at which the prices are the same
pub same_slice : (xs ys : List ℕ) (a b : ℕ) → length ys ≡ length xs → ((t : ℕ) → a ≤ t → t < b → get_or ys t 0 ≡ get_or xs t 0) → slice_range ys a b ≡ slice_range xs a b
same_slice xs ys a b long same =
    ext_get_or 0 (take (b - a) (drop a ys)) (take (b - a) (drop a xs))
    (omega (arith, length-take (b - a) (drop a ys), length-take (b - a) (drop a xs), length-drop a ys, length-drop a xs))
    (λ k within.
    let low : k < b - a = omega (arith, length-take (b - a) (drop a ys)) in
    get_or-take (b - a) (drop a ys) k 0 low ∙ get_or-drop a ys k 0 ∙ same (a + k) (omega arith) (omega arith)
    ∙ sym (get_or-drop a xs k 0) ∙ sym (get_or-take (b - a) (drop a xs) k 0 low))

-- the prices before the block, and those behind it
pub same_before : (first end a b : ℕ) (prices others : List ℕ) → AgreeOutside first end prices others → b ≤ first → slice_range others a b ≡ slice_range prices a b
same_before first end a b prices others agree low = same_slice prices others a b agree.steps (λ t from to. agree.before t (omega arith))

pub same_after : (first end a b : ℕ) (prices others : List ℕ) → AgreeOutside first end prices others → end ≤ a → slice_range others a b ≡ slice_range prices a b
same_after first end a b prices others agree high = same_slice prices others a b agree.steps (λ t from to. agree.after t (omega arith))

-- a slice cut in two
pub sum_cut : (xs : List ℕ) (a b c : ℕ) → a ≤ b → b ≤ c → sum (slice_range xs a c) ≡ sum (slice_range xs a b) + sum (slice_range xs b c)
sum_cut xs a b c first second = omega (arith, sum-slice_range xs a b first, sum-slice_range xs b c second, sum-slice_range xs a c (omega arith))

-- a slice that ends no later than it starts
pub sum_none : (xs : List ℕ) (a b : ℕ) → b ≤ a → sum (slice_range xs a b) ≡ 0
sum_none xs a b none = let e : b - a ≡ 0 = omega arith in ap (λ k. sum (take k (drop a xs))) e
