-- The surplus falls with the price, ever more slowly, and not at all at the greatest price.
use Rattle.std.proofs.Common.{◌≡◌, ℕ, ◌+◌, ◌-◌, ◌*◌, ◌^◌, ◌<◌, ◌≤◌, ⊎_elim, refl, arith, List, [], ◌∷◌, All}
use Rattle.std.proofs.lemmas.Bool.{cases_lt}
use Rattle.std.proofs.lemmas.Nat.{mul-le}
use Rattle.std.proofs.lemmas.List.Elements.{All-head, All-tail, All-weaker}
use Rattle.std.proofs.lemmas.List.Sums.{sum_by-cons, sum_by-le-sum_by}
use Rattle.cache_model.specs.declared.intervals.Interval.{Interval}
use Rattle.interval_maker.specs.Timelines.{IsInterval}
use Rattle.constant_price.specs.Surpluses.{charge, surplus_at, fall_at, surplus_of, fall_of}

-- what is left of g after c for each of q steps falls ever more slowly
falls_less : (g c q : ℕ) → (g - c * (q + 1)) - (g - c * (q + 1 + 1)) ≤ (g - c * q) - (g - c * (q + 1))
falls_less g c q = omega arith

-- what is left at the next price is what is left here without the fall
left_later : (g c q : ℕ) → (g - c * (q + 1)) + ((g - c * q) - (g - c * (q + 1))) ≡ g - c * q
left_later g c q = omega arith

pub fall_at-later : (unit d q : ℕ) (i : Interval) → fall_at unit d (q + 1) i ≤ fall_at unit d q i
fall_at-later unit d q i = falls_less (d * i.gain) (charge unit i) q

pub fall_of-later : (unit d q : ℕ) (items : List Interval) → fall_of unit d (q + 1) items ≤ fall_of unit d q items
fall_of-later unit d q items = sum_by-le-sum_by (fall_at unit d (q + 1)) (fall_at unit d q) items (fall_at-later unit d q)

-- the surplus at the next price is that at this one without the fall
pub surplus_of-later : (unit d q : ℕ) (items : List Interval) → surplus_of unit d (q + 1) items + fall_of unit d q items ≡ surplus_of unit d q items
surplus_of-later unit d q [] = refl
surplus_of-later unit d q (i ∷ items) =
    omega (arith, sum_by-cons (surplus_at unit d (q + 1)) i items, sum_by-cons (fall_at unit d q) i items, sum_by-cons (surplus_at unit d q) i items, left_later (d * i.gain) (charge unit i) q, surplus_of-later unit d q items)

-- from a price at which c passes g nothing falls any more
none_falls : (g c top : ℕ) → g ≤ top → (g - c * top) - (g - c * (top + 1)) ≡ 0
none_falls g c top within =
    ⊎_elim
    (λ (none : c < 1). let e : c ≡ 0 = omega arith in rw e (omega arith))
    (λ (some : 1 ≤ c). let most : 1 * top ≤ c * top = mul-le 1 top c top some (omega arith) in omega (arith, most))
    (cases_lt c 1)

-- no fall is left at a price that no gain over the denominator passes
pub fall_of-at_top : (unit d top : ℕ) (items : List Interval) → All (λ i. d * i.gain ≤ top) items → fall_of unit d top items ≡ 0
fall_of-at_top unit d top [] within = refl
fall_of-at_top unit d top (i ∷ items) within =
    let Within : Interval → Type 0 = λ j. d * j.gain ≤ top in
    omega (arith, sum_by-cons (fall_at unit d top) i items, none_falls (d * i.gain) (charge unit i) top (All-head Within i items within), fall_of-at_top unit d top items (All-tail Within i items within))

-- the gain of an interval over the denominator is at most the greatest price
pub gain_within : (steps d : ℕ) (i : Interval) → d ≤ 2 ^ 48 → IsInterval steps i → d * i.gain ≤ 2 ^ 96
gain_within steps d i small h = mul-le d i.gain (2 ^ 48) (2 ^ 48) small h.gain.1

-- no fall is left there
pub fall_of-top : (steps unit d : ℕ) (items : List Interval) → d ≤ 2 ^ 48 → All (IsInterval steps) items → fall_of unit d (2 ^ 96) items ≡ 0
fall_of-top steps unit d items small each = fall_of-at_top unit d (2 ^ 96) items (All-weaker (IsInterval steps) (λ i. d * i.gain ≤ 2 ^ 96) (λ i h. gain_within steps d i small h) items each)
