-- What holds of prices that are settled for blocks; each law is the contract of a function.
use Rattle.std.specs.Prelude.{◌≡◌, ℕ, ◌+◌, ◌-◌, ◌/◌, ◌≤◌, Bool, List, length, slice_index_or}
use Rattle.cache_model.specs.declared.objects.Object.{Object}
use Rattle.cache_model.specs.declared.certificates.Header.{Header}
use Rattle.cache_model.specs.declared.certificates.Record.{Record}
use Rattle.cache_model.specs.Claim.{Terms}
use Rattle.cache_model.specs.Intervals.{bound_of, eligible_intervals}
use Rattle.cache_model.specs.Certificates.{IsValid, eligible_of, prices_of, units_of}
use Rattle.price_refine.specs.Blocks.{AreSettled}

-- prices that are settled for blocks of which the first has every step but the last, and whose last price is 0, are the least of all over their denominator
abbrev pub SettledWholeIsLeast : Type 0
SettledWholeIsLeast =
    (terms : Terms) (trace : List Object) (unit units denominator width : ℕ) (prices others : List ℕ)
    → AreSettled (eligible_intervals terms trace) unit units denominator width prices
    → length trace ≤ width / 2 + 1 → length prices ≡ length trace
    → slice_index_or prices (length trace - 1) 0 ≡ 0
    → length others ≡ length trace
    → bound_of (eligible_intervals terms trace) unit units denominator prices ≤ bound_of (eligible_intervals terms trace) unit units denominator others

-- a valid certificate whose prices are settled for such blocks has the least bound of all prices over its denominator
abbrev pub RefinedWholeIsLeast : Type 0
RefinedWholeIsLeast =
    (trace : List Object) (fills : List Bool) (h : Header) (records : List Record) (width : ℕ) (others : List ℕ)
    → IsValid trace fills h records
    → AreSettled (eligible_of trace fills h) h.unit (units_of h) h.denominator width (prices_of records)
    → length trace ≤ width / 2 + 1
    → length others ≡ length trace
    → h.upper ≤ bound_of (eligible_of trace fills h) h.unit (units_of h) h.denominator others
