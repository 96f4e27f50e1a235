-- What is proved of budgets; each law is the contract of a function.
use Rattle.std.specs.Prelude.{◌≡◌, ℕ, ◌+◌, ◌-◌, ◌*◌, ◌/◌, ◌<◌, ◌≤◌, Bool, List, length, sum}
use Rattle.std.specs.Int.{div_ceil}
use Rattle.cache_model.specs.declared.objects.Object.{Object}
use Rattle.cache_model.specs.declared.certificates.Header.{Header}
use Rattle.cache_model.specs.declared.certificates.Record.{Record}
use Rattle.cache_model.specs.Certificates.{IsValid}
use Rattle.cache_model.specs.Claim.{Terms, IsAllowed, score, terms_of}
use Rattle.cache_model.specs.Intervals.{eligible_intervals, bound_of}
use Rattle.cache_model.specs.Written.{written_bytes}
use Rattle.budget_laws.specs.Budgets.{bound_within, surpluses_within, asked_bytes}

-- over the denominator, no allowed contents that write at most the budget score more than the bound within it
abbrev pub NoPolicyScoresMoreWithin : Type 0
NoPolicyScoresMoreWithin =
    (terms : Terms) (unit denominator : ℕ) (trace : List Object) (prices : List ℕ)
    (write_price budget : ℕ) (contents : List (List Object))
    → IsAllowed terms.capacity trace contents
    → length prices ≡ length trace
    → written_bytes terms.warmup terms.fills trace contents ≤ budget
    → denominator * score terms trace contents ≤ bound_within terms unit denominator trace prices write_price budget

-- nor do any allowed contents score more than the bound within what they write: so the same prices bound every budget
abbrev pub EveryBudget : Type 0
EveryBudget =
    (terms : Terms) (unit denominator : ℕ) (trace : List Object) (prices : List ℕ)
    (write_price : ℕ) (contents : List (List Object))
    → IsAllowed terms.capacity trace contents
    → length prices ≡ length trace
    → denominator * score terms trace contents
    ≤ (terms.capacity / unit) * sum prices
    + (written_bytes terms.warmup terms.fills trace contents / unit) * write_price
    + surpluses_within terms unit denominator trace prices write_price

-- so contents of a claimed score write at least the units that pay for what it is beyond the prices and the surpluses
abbrev pub WritesForAScore : Type 0
WritesForAScore =
    (terms : Terms) (unit denominator : ℕ) (trace : List Object) (prices : List ℕ)
    (write_price claimed : ℕ) (contents : List (List Object))
    → 0 < write_price
    → IsAllowed terms.capacity trace contents
    → length prices ≡ length trace
    → claimed ≤ score terms trace contents
    → div_ceil
    (denominator * claimed - (terms.capacity / unit) * sum prices - surpluses_within terms unit denominator trace prices write_price)
    write_price
    ≤ written_bytes terms.warmup terms.fills trace contents / unit

-- at the same prices the bound within a greater budget is no less
abbrev pub BudgetsRise : Type 0
BudgetsRise =
    (terms : Terms) (unit denominator : ℕ) (trace : List Object) (prices : List ℕ) (write_price budget more : ℕ)
    → budget ≤ more
    → bound_within terms unit denominator trace prices write_price budget
    ≤ bound_within terms unit denominator trace prices write_price more

-- if writing has no price, the bound is that of the prices; and a budget of all bytes that are asked for is none
abbrev pub NoBudget : Type 0
NoBudget =
    (terms : Terms) (unit denominator : ℕ) (trace : List Object) (prices : List ℕ) (budget : ℕ) (contents : List (List Object))
    → (bound_within terms unit denominator trace prices 0 budget
    ≡ bound_of (eligible_intervals terms trace) unit (terms.capacity / unit) denominator prices)
    × (written_bytes terms.warmup terms.fills trace contents ≤ asked_bytes terms.warmup trace)

-- a valid certificate bounds every budget
abbrev pub PlainBoundsBudgets : Type 0
PlainBoundsBudgets =
    (trace : List Object) (fills : List Bool) (h : Header) (records : List Record) (budget : ℕ) (contents : List (List Object))
    → IsValid trace fills h records
    → IsAllowed h.capacity trace contents
    → written_bytes h.warmup fills trace contents ≤ budget
    → h.denominator * score (terms_of h fills) trace contents ≤ h.upper
