-- A budget of bytes to write: fees, debts and the bound within it. The price of writing is that of one unit.
use Rattle.std.specs.Prelude.{ℕ, zero, suc, ◌+◌, ◌-◌, ◌*◌, ◌/◌, min, nat_le, if◌then◌else◌, List, [], ◌∷◌, ◌++◌, length, slice_index_or, slice_range, sum, sum_by}
use Rattle.cache_model.specs.declared.objects.Object.{Object}
use Rattle.cache_model.specs.declared.intervals.Interval.{Interval}
use Rattle.cache_model.specs.Claim.{Terms, request_at}
use Rattle.cache_model.specs.Objects.{numbers_of}
use Rattle.cache_model.specs.Intervals.{eligible_intervals}
use Rattle.cache_model.specs.Units.{weight}
use Rattle.interval_ends.specs.Ends.{eligible_to}

-- the fee of request t: from the warm-up on the price of writing times the weight of its object, and 0 before
abbrev pub fee_of : Terms → ℕ → List Object → ℕ → ℕ → ℕ
fee_of terms unit trace write_price t = if nat_le terms.warmup t then write_price * ((request_at trace t).size / unit) else 0

-- what an interval owes at its end: the debt after its start, and its weight times the prices of the steps covered
abbrev pub owed : ℕ → List ℕ → List ℕ → Interval → ℕ
owed unit prices debts i = slice_index_or debts i.start 0 + weight unit i * sum (slice_range prices i.start i.end)

-- the debt after a request: its fee, and if an interval ends there, at most what that owes beyond what it earns
abbrev pub debt_after : ℕ → ℕ → List ℕ → List ℕ → ℕ → List Interval → ℕ
debt_after unit denominator prices debts fee [] = fee
debt_after unit denominator prices debts fee (i ∷ others) = min fee (owed unit prices debts i - denominator * i.gain)

-- the debts after each of the first n requests
abbrev pub debts : Terms → ℕ → ℕ → List Object → List ℕ → ℕ → ℕ → List ℕ
debts terms unit denominator trace prices write_price zero = []
debts terms unit denominator trace prices write_price (suc n) =
    let earlier = debts terms unit denominator trace prices write_price n in
    let fee = fee_of terms unit trace write_price n in
    earlier ++ debt_after unit denominator prices earlier fee (eligible_to terms trace n) ∷ []

-- the gain times the denominator, less what the interval owes, and 0 if that is negative
abbrev pub surplus_within : ℕ → ℕ → List ℕ → List ℕ → Interval → ℕ
surplus_within unit denominator prices debts i = denominator * i.gain - owed unit prices debts i

-- the surpluses of all eligible intervals, summed
abbrev pub surpluses_within : Terms → ℕ → ℕ → List Object → List ℕ → ℕ → ℕ
surpluses_within terms unit denominator trace prices write_price =
    let owing = debts terms unit denominator trace prices write_price (length trace) in
    sum_by (surplus_within unit denominator prices owing) (eligible_intervals terms trace)

-- the numerator of the bound within a budget: the units of the capacity and of the budget at their prices, and the surpluses
abbrev pub bound_within : Terms → ℕ → ℕ → List Object → List ℕ → ℕ → ℕ → ℕ
bound_within terms unit denominator trace prices write_price budget =
    (terms.capacity / unit) * sum prices + (budget / unit) * write_price
    + surpluses_within terms unit denominator trace prices write_price

-- all bytes that are asked for, from the warm-up on
abbrev pub asked_bytes : ℕ → List Object → ℕ
asked_bytes warmup trace = sum_by (λ t. if nat_le warmup t then (request_at trace t).size else 0) (numbers_of trace)
